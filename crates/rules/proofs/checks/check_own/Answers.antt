-- Rests on what the callees ensure, on the laws of checks in order and of one repetition.
use mathlib.Core.Path.{◌≡◌, sym, ap, ◌∙◌}
use Rattle.alphabet.specs.Answers.{Check, passes}
use Rattle.std.proofs.lemmas.Result.{err_from_is_err_and}
use Rattle.alphabet.proofs.CheckLaws.{stops, goes_on}
use Rattle.element.specs.States.{state_of, is_present}
use Rattle.element.specs.declared.states.State.{State}
use Rattle.rules.specs.Rules.{form_check, judged_part, placed, sent_check, own_check}
use Rattle.rules.proofs.RuleLaws.{passing_placed, repetition_other, repetition_present}
use Rattle.rules.proofs.checks.check_own.Goals.{After-check_sent, After-has_form}
use Rattle.rules.proofs.checks.check_own.Goals as goal

-- 31 or 34, then 36
sent : (c : After-check_sent)
    → c.check_sent.result
    ≡ sent_check c.args.row
    (state_of c.args.delimiters.bytes (judged_part c.args.delimiters.bytes c.args.row.component c.args.first.now))
    c.args.many
sent c =
    let a = c.args in
    c.check_sent.ensures
    ∙ ap (λ (s : State). sent_check a.row s a.many) (c.state_of-state.ensures ∙ ap (state_of a.delimiters.bytes) c.judged_part-part.ensures)

pub returns-in_err-check_sent : goal.returns-in_err-check_sent
unfolding own_check
returns-in_err-check_sent c =
    let p = err_from_is_err_and c.from_residual.result c.from_residual.ensures.1 in
    rw (p.1, p.2) (sym c.in_err-check_sent.was ∙ stops _ (sent (goal.at.returns-in_err-check_sent c).After-check_sent) c.in_err-check_sent.was)

pub returns-then-not-is_present : goal.returns-then-not-is_present
unfolding own_check
returns-then-not-is_present c =
    let a = c.args in
    goes_on (sent (goal.at.returns-then-not-is_present c).After-check_sent) c.in_ok-check_sent.was
    (sym (repetition_other a.delimiters.bytes a.row.component a.row.kind 1 a.first.now c.judged_part-part.result.now c.judged_part-part.ensures
    (sym (c.is_present.ensures ∙ ap is_present c.state_of-state.ensures) ∙ c.if-not-is_present.true)))

-- the part is present: the form decides
present : (c : After-has_form)
    → let a = c.args in
    (x : Check) → x ≡ placed 1 (form_check a.row.kind c.judged_part-part.result.now)
    → x ≡ own_check a.delimiters.bytes a.row a.first.now a.many
unfolding own_check
present c x e =
    let a = c.args in
    goes_on (sent (goal.at.After-has_form c).After-check_sent) c.in_ok-check_sent.was
    (e
    ∙ sym (repetition_present a.delimiters.bytes a.row.component a.row.kind 1 a.first.now c.judged_part-part.result.now c.judged_part-part.ensures
    (sym (c.is_present.ensures ∙ ap is_present c.state_of-state.ensures) ∙ c.if-not-is_present.false)))

pub returns-then-has_form : goal.returns-then-has_form
returns-then-has_form c =
    present (goal.at.returns-then-has_form c).After-has_form passes (sym (passing_placed 1 (form_check c.args.row.kind c.judged_part-part.result.now) (sym c.has_form.ensures ∙ c.if-has_form.true)))

pub returns : goal.returns
returns c = present (goal.at.returns c).After-has_form _ (c.placed.ensures ∙ ap (placed 1) c.check_form.ensures)
