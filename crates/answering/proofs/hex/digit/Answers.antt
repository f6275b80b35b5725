-- `answering::hex::digit` meets its contract: the test says which case of `hex_digit` holds.
use borrow.Author.Tests.{lt-ltb, le-ltb}
use Rattle.answering.proofs.hex.digit.Goals as goal

pub returns-then-number-lt10 : goal.returns-then-number-lt10
returns-then-number-lt10 c = simp (lt-ltb _ _ c.if-number-lt10.true)

pub returns-else-number-lt10 : goal.returns-else-number-lt10
returns-else-number-lt10 c = simp (le-ltb _ _ c.if-number-lt10.false)
