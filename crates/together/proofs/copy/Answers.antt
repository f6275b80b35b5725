-- Rests on the laws of a buffer that is filled from its front: the pieces that are left, at each turn.
use mathlib.Core.Path.{◌∙◌}
use lib.ListN.{get_or}
use native.Mathlib.Omega.{arith}
use Rattle.alphabet.proofs.FillingLaws.{fill_start, fill_more, fill_room, fill_length, fill_end, put_fits}
use Rattle.together.proofs.PieceLaws.{none, pieces_next, pieces_end, count_next}
use Rattle.together.proofs.copy.Goals as goal

pub loop-piece-init : goal.loop-piece-init
loop-piece-init c = fill_start _ _

pub loop-piece-preserved : goal.loop-piece-preserved
loop-piece-preserved c =
    let a = c.args in
    let ps = a.pieces.now in
    let i = c.loop-piece.piece-index in
    let f = c.loop-piece.invariant in
    let p = c.put-place in
    let n = count_next ps i (omega arith) in
    let w = put_fits c.loop-piece.buffer (get_or ps i none).now c.loop-piece.place (omega (arith, fill_room f, fill_length f c.requires)) in
    fill_more _ _ _ _ f (pieces_next ps i (omega arith)) (p.ensures.buffer_after ∙ w.1) (p.ensures.value ∙ w.0)

pub returns : goal.returns
returns c =
    fill_end c.loop-piece.invariant (pieces_end c.args.pieces.now c.loop-piece.piece-index (omega arith))
