-- Where a byte first stands in a list of bytes, and whether two lists are the same.
use Rattle.std.specs.Prelude.{ℕ, zero, suc, ◌<◌, ◌≤◌, ◌≡◌, List, [], ◌∷◌, Bool, true, false, cond, ◌&&◌, ◌||◌, length, ltb, eqb}

-- the place of the first byte that passes the test, or the length where none does
unfoldable pub first : (ℕ → Bool) → List ℕ → ℕ
first test [] = zero
first test (x ∷ r) = cond (test x) zero (suc (first test r))

-- the place of the first b, or the length where there is none
abbrev pub find : ℕ → List ℕ → ℕ
find b = first (eqb b)

-- whether a byte is one of five
abbrev pub among : List ℕ → ℕ → Bool
among five b = ltb (find b five) 5

-- whether a byte is one of two
abbrev pub either : ℕ → ℕ → ℕ → Bool
either one other b = eqb one b || eqb other b

-- whether two lists are the same, byte for byte
unfoldable pub same : List ℕ → List ℕ → Bool
same [] [] = true
same [] (y ∷ ys) = false
same (x ∷ xs) [] = false
same (x ∷ xs) (y ∷ ys) = eqb x y && same xs ys

-- ---- for functions that take a test from the caller

-- what it answers for a byte is whether the byte passes
abbrev pub Tells : (ℕ → Bool → Type 0) → (ℕ → Bool) → Type 0
Tells answers passes = (b : ℕ) (r : Bool) → b < 256 → answers b r → r ≡ passes b

-- where it says so of n bytes, none of them is sought
abbrev pub Clears : (List ℕ → Bool → Type 0) → ℕ → (ℕ → Bool) → Type 0
Clears answers n sought = (block : List ℕ) → length block ≡ n → answers block true → n ≤ first sought block
