-- `conversation::Conversation::take` ends: behind each line less of the piece is left.
use lib.ListN.{length}
use Rattle.conversation.proofs.Conversation.take.Given as goal

abbrev pub invariant-loop-rest : goal.invariant-loop-rest
invariant-loop-rest l = Unit {0}

abbrev pub decreases-loop-rest : goal.decreases-loop-rest
decreases-loop-rest l = length l.rest
