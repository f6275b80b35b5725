-- For private contracts alone: values of one letter, and values of two letters as one number.
use Rattle.std.specs.Prelude.{ℕ, ◌+◌, ◌*◌, ◌≡◌, List, [], ◌∷◌, true, leb, ltb, eqb}
use Rattle.alphabet.specs.Lists.{same}

-- each letter as a value
abbrev pub singles : List ℕ → List (List ℕ)
singles [] = []
singles (x ∷ r) = (x ∷ []) ∷ singles r

-- n is the number of the bytes: they are two letters exactly where it is the number of these
abbrev pub CodeOf : ℕ → List ℕ → Type 0
CodeOf n bytes = (x y : ℕ) → leb 1 x ≡ true → ltb y 256 ≡ true → eqb n (x * 256 + y) ≡ same bytes (x ∷ y ∷ [])
