-- Bytes that stand one behind another on a line: `clear` and `firm` also say what plain lines are (`Ruled` of the crate
-- `laws`), and the other two serve private functions alone.
use Rattle.std.specs.Prelude.{ℕ, List, [], ◌∷◌, Bool, true, not, ◌&&◌, ◌||◌, eqb}
use Rattle.formatting.specs.Sheet.{of_word}

-- no LF and no CR
unfoldable pub clear : List ℕ → Bool
clear [] = true
clear (b ∷ r) = not (eqb b 10 || eqb b 13) && clear r

-- the last byte, where there is one, is no blank
unfoldable pub firm : List ℕ → Bool
firm [] = true
firm (b ∷ []) = not (eqb b 32)
firm (b ∷ c ∷ r) = firm (c ∷ r)

-- bytes of a word and nothing else
unfoldable pub inked : List ℕ → Bool
inked [] = true
inked (b ∷ r) = of_word b && inked r

-- no blank
unfoldable pub blankless : List ℕ → Bool
blankless [] = true
blankless (b ∷ r) = not (eqb b 32) && blankless r
