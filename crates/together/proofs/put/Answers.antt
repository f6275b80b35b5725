-- Rests on what was measured: it is what is written, or there is no room.
use Prim.Native.Nat.{◌≤◌}
use mathlib.Core.Path.{sym, ◌∙◌}
use lib.ListN.{length}
use native.Mathlib.Omega.{arith}
use Rattle.escaping.proofs.OutcomeLaws.{takes_is, short_is}
use Rattle.together.specs.Together.{least}
use Rattle.together.proofs.PieceLaws.{bytes, least_both, least_above, fitted_takes, fitted_short}
use Rattle.together.proofs.put.Goals.{In_ok-size}
use Rattle.together.proofs.put.Goals as goal

-- where the measure gives a length, all pieces go into the smaller of the two
room : (c : In_ok-size) → length (bytes c.args.pieces.now) ≤ c.min-room.result
room c = (takes_is c.min-room.result _ c.in_ok-size.size (sym c.in_ok-size.was ∙ c.measure.ensures)).1

pub returns-in_err-size-clause-buffer_after : goal.returns-in_err-size-clause-buffer_after
returns-in_err-size-clause-buffer_after c =
    let a = c.args in
    let m = c.min-room.ensures in
    let h = short_is c.min-room.result _ (sym c.in_err-size.was ∙ c.measure.ensures) in
    let l = least_both (length a.buffer.now) a.most in
    sym (fitted_short (least (length a.buffer.now) a.most) (bytes a.pieces.now) a.buffer.now (omega arith))

pub copy-requires : goal.copy-requires
copy-requires c = omega (arith, room (goal.at.copy-requires c).In_ok-size, c.min-room.ensures)

pub returns-clause-buffer_after : goal.returns-clause-buffer_after
returns-clause-buffer_after c =
    let a = c.args in
    let m = c.min-room.ensures in
    let h = room (goal.at.returns-clause-buffer_after c).In_ok-size in
    let l = least_above (length a.buffer.now) a.most _ (omega arith) (omega arith) in
    c.copy.ensures ∙ sym (fitted_takes (least (length a.buffer.now) a.most) (bytes a.pieces.now) a.buffer.now l)
