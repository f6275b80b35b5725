-- Which bytes may not stand plainly, by document 01, 'Text': "Escaping writes the five delimiters by letter, every byte
-- that isn't allowed and CR as its own `\Xhh\` with capital digits, the rest plainly." `ds` are the five delimiters.
use Rattle.std.specs.Prelude.{ℕ, List, Bool, not, ◌||◌}
use Rattle.alphabet.specs.Lists.{among}
use Rattle.alphabet.specs.Bytes.{printable}

-- whether a byte is none of "the rest", which are written "plainly"
unfoldable pub special : List ℕ → ℕ → Bool
special ds b = not (printable b) || among ds b
