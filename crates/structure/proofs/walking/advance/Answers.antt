-- Rests on the laws of one turn, for a walk that is stuck and for one on its way.
use mathlib.Core.Path.{sym, ◌∙◌}
use mathlib.Core.List.{◌∷◌}
use Rattle.std.proofs.lemmas.Result.{err_from_is_err_and}
use Rattle.structure.proofs.SegmentWalk.{stuck_comes_to, passes_over, gets_stuck, goes_on}
use Rattle.structure.proofs.walking.advance.Goals as goal

pub returns-in_err-next : goal.returns-in_err-next
returns-in_err-next c = λ later.
    let r = c.args.rows in
    let p = err_from_is_err_and c.from_residual.result c.from_residual.ensures.1 in
    rw (p.1, p.2) (sym (stuck_comes_to r.names.now r.follow.now r.last c.in_err-next.was c.args.number (c.args.name ∷ later)))

pub returns-then-is_passed_over : goal.returns-then-is_passed_over
returns-then-is_passed_over c = λ later.
    let r = c.args.rows in
    passes_over r.names.now r.follow.now r.last c.in_ok-next.was c.args.number c.args.name later (sym c.is_passed_over.ensures ∙ c.if-is_passed_over.true)

pub returns-then-stepped : goal.returns-then-stepped
returns-then-stepped c = λ later.
    let r = c.args.rows in
    gets_stuck r.names.now r.follow.now r.last c.in_ok-next.was c.args.number c.args.name later (sym c.is_passed_over.ensures ∙ c.if-is_passed_over.false)
    c.step-stepped.ensures c.if-stepped.true

pub returns : goal.returns
returns c = λ later.
    let r = c.args.rows in
    goes_on r.names.now r.follow.now r.last c.in_ok-next.was c.args.number c.args.name later (sym c.is_passed_over.ensures ∙ c.if-is_passed_over.false)
    c.step-stepped.ensures c.if-stepped.false
