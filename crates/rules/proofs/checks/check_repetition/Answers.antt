-- Rests on the laws of one repetition.
use mathlib.Core.Path.{◌≡◌, sym, ap, ◌∙◌}
use Rattle.rules.specs.Rules.{form_check, placed, repetition_check}
use Rattle.rules.proofs.RuleLaws.{passing_placed, repetition_other, repetition_present}
use Rattle.rules.proofs.checks.check_repetition.Goals.{After-has_form}
use Rattle.rules.proofs.checks.check_repetition.Goals as goal

pub returns-then-not-is_present : goal.returns-then-not-is_present
returns-then-not-is_present c =
    let a = c.args in
    sym (repetition_other a.delimiters.bytes a.component a.kind a.number a.repetition.now c.judged_part-part.result.now c.judged_part-part.ensures (sym c.is_present.ensures ∙ c.if-not-is_present.true))

-- the part is present: the form decides
present : (c : After-has_form)
    → let a = c.args in
    repetition_check a.delimiters.bytes a.component a.kind a.number a.repetition.now ≡ placed a.number (form_check a.kind c.judged_part-part.result.now)
present c =
    let a = c.args in
    repetition_present a.delimiters.bytes a.component a.kind a.number a.repetition.now c.judged_part-part.result.now c.judged_part-part.ensures
    (sym c.is_present.ensures ∙ c.if-not-is_present.false)

pub returns-then-has_form : goal.returns-then-has_form
returns-then-has_form c =
    let a = c.args in
    sym (present (goal.at.returns-then-has_form c).After-has_form ∙ passing_placed a.number (form_check a.kind c.judged_part-part.result.now) (sym c.has_form.ensures ∙ c.if-has_form.true))

pub returns : goal.returns
returns c = c.placed.ensures ∙ ap (placed _) c.check_form.ensures ∙ sym (present (goal.at.returns c).After-has_form)
