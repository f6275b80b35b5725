-- The number that a word of a question says. Assumes nothing.
use Rattle.std.specs.Prelude.{ℕ, ◌^◌, cond, ◌&&◌, List, [], ◌∷◌, ltb, Option, Some, None}
use Rattle.alphabet.specs.Digits.{all_digits, counted}

-- the number, where the digits are digits and 64 bits hold it; n is what the digits before them say
unfoldable pub held : ℕ → List ℕ → Option ℕ
held n l = cond (all_digits l && ltb (counted n l) (2 ^ 64)) (Some (counted n l)) None

-- an empty word says no number
unfoldable pub number : List ℕ → Option ℕ
number [] = None
number (d ∷ r) = held 0 (d ∷ r)
