-- Rests on the rest of the piece: each turn leaves less of it.
use Rattle.std.proofs.Common.{length}
use Rattle.framing.proofs.tally.Tally.tell_piece.Given as goal

abbrev pub decreases-loop-rest : goal.decreases-loop-rest
decreases-loop-rest l = length l.rest
