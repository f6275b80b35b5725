-- Rests on the laws of pieces: what was counted and the length of those that are left, at each turn.
use mathlib.Core.Path.{sym, ap, ◌∙◌}
use lib.ListN.{length}
use native.Mathlib.Omega.{arith}
use native.Mathlib.Nat.{zero-add}
use Rattle.escaping.specs.Outcomes.{room_for}
use Rattle.escaping.proofs.OutcomeLaws.{room_takes, room_short}
use Rattle.together.proofs.PieceLaws.{count_next, pieces_end}
use Rattle.together.proofs.measure.Goals as goal

pub loop-piece-init : goal.loop-piece-init
loop-piece-init c = (omega arith, sym (zero-add _))

pub returns-then-room-n : goal.returns-then-room-n
returns-then-room-n c =
    let a = c.args in
    let n = count_next a.pieces.now c.loop-piece.piece-index (omega arith) in
    room_short a.room _ (omega arith)

pub loop-piece-preserved : goal.loop-piece-preserved
loop-piece-preserved c =
    let a = c.args in
    let n = count_next a.pieces.now c.loop-piece.piece-index (omega arith) in
    omega arith

pub returns : goal.returns
returns c =
    let a = c.args in
    let n = ap length (pieces_end a.pieces.now c.loop-piece.piece-index (omega arith)) in
    room_takes a.room c.loop-piece.n (omega arith) ∙ ap (room_for a.room) (omega arith)
