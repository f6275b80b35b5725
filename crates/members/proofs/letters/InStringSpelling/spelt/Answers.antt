-- Rests on which of the two forms the test chooses.
use Rattle.members.specs.LetterLaws.{chosen_first, by_code}
use Rattle.members.proofs.letters.InStringSpelling.spelt.Goals as goal

pub returns-then-byte : goal.returns-then-byte
returns-then-byte c = chosen_first _ _ _ c.if-byte.true

pub returns : goal.returns
returns c = by_code c.args.byte _ _ c.if-byte.false c.hex_digit-high.ensures c.hex_digit-low.ensures
