-- Rests on the laws of a walk at the end of the names.
use mathlib.Core.Path.{sym}
use mathlib.Core.List.{[]}
use Rattle.std.proofs.lemmas.Result.{err_from_is_err_and}
use Rattle.structure.proofs.SegmentWalk.{stuck_comes_to, comes_to_end, ends_early}
use Rattle.structure.proofs.walking.finish.Goals as goal

pub returns-in_err-next : goal.returns-in_err-next
returns-in_err-next c = λ names follow last.
    let p = err_from_is_err_and c.from_residual.result c.from_residual.ensures.1 in
    rw (p.1, p.2) (sym (stuck_comes_to names follow last c.in_err-next.was c.args.number []))

pub returns-then-next : goal.returns-then-next
returns-then-next c = λ names follow last. sym (comes_to_end names follow last c.in_ok-next.was c.args.number c.if-next.true)

pub returns : goal.returns
returns c = λ names follow last. sym (ends_early names follow last c.in_ok-next.was c.args.number c.if-next.false)
