-- Rests on the test, which says which case of `hex_digit` holds.
use borrow.Author.Tests.{lt-ltb, le-ltb}
use Rattle.alphabet.proofs.bytes.hex_digit.Goals as goal

pub returns-then-low-lt10 : goal.returns-then-low-lt10
returns-then-low-lt10 c = simp (lt-ltb _ _ c.if-low-lt10.true)

pub returns-else-low-lt10 : goal.returns-else-low-lt10
returns-else-low-lt10 c = simp (le-ltb _ _ c.if-low-lt10.false)
