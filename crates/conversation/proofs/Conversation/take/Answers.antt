-- `conversation::Conversation::take` is safe: a line's end stands within the rest of the piece.
use native.Mathlib.Omega.{arith}
use lib.Dec.{eqb}
use Rattle.alphabet.proofs.ListLaws.{first_le}
use Rattle.conversation.proofs.Conversation.take.Goals as goal

pub split_at-requires : goal.split_at-requires
split_at-requires c = let u = first_le (eqb 10) c.loop-rest.rest.now in omega (arith, c.find.ensures)
