-- `frame_questions::pieces::put_pieces` meets its contract: the words come to an end, and each leaves room for the end of the answer.
use mathlib.Core.Path.{◌≡◌}
use lib.ListN.{length}
use Rattle.answering.specs.Answers.{Fits}
use Rattle.frame_answers.specs.Rooms.{ending}
use Rattle.frame_questions.proofs.pieces.put_pieces.Given as goal

abbrev pub invariant-loop-word : goal.invariant-loop-word
invariant-loop-word l =
    (goal.iterator-loop-word).can_next l.word-iterator × (goal.iterator-loop-word).is_finite l.word-iterator
    × (length l.buffer ≡ length l.initial.buffer) × Fits l.answer ending
