-- `frame_answers::runs::put_piece` meets its contract: each call is done with a byte at least, and leaves room for the end of the answer.
use mathlib.Core.Path.{◌≡◌}
use lib.ListN.{length}
use Rattle.answering.specs.Answers.{Fits}
use Rattle.frame_answers.specs.Rooms.{ending}
use Rattle.frame_answers.proofs.runs.put_piece.Given as goal

abbrev pub invariant-loop-rest : goal.invariant-loop-rest
invariant-loop-rest l = (length l.buffer ≡ length l.initial.buffer) × Fits l.answer ending

abbrev pub decreases-loop-rest : goal.decreases-loop-rest
decreases-loop-rest l = length l.rest
