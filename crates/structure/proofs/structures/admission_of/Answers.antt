-- Rests on the laws of the choice: each return is one of the structures that are listed for ADT, or none.
use mathlib.Core.Path.{sym, ◌∙◌}
use Rattle.structure.proofs.ChoiceLaws.{is_merge, is_admission, is_transfer, is_cancel, is_unlisted}
use Rattle.structure.proofs.structures.admission_of.Goals as goal

pub returns-then-same : goal.returns-then-same
returns-then-same c = sym (is_merge c.args.event.now (sym c.same.ensures ∙ c.if-same.true))

pub returns-then-same-2 : goal.returns-then-same-2
returns-then-same-2 c = sym (is_admission c.args.event.now (sym c.same-2.ensures ∙ c.if-same-2.true))

pub returns-then-same-3 : goal.returns-then-same-3
returns-then-same-3 c = sym (is_transfer c.args.event.now (sym c.same-3.ensures ∙ c.if-same-3.true))

pub returns-then-same-4 : goal.returns-then-same-4
returns-then-same-4 c = sym (is_cancel c.args.event.now (sym c.same-4.ensures ∙ c.if-same-4.true))

pub returns : goal.returns
returns c =
    sym (is_unlisted c.args.event.now (sym c.same.ensures ∙ c.if-same.false) (sym c.same-2.ensures ∙ c.if-same-2.false)
    (sym c.same-3.ensures ∙ c.if-same-3.false) (sym c.same-4.ensures ∙ c.if-same-4.false))
