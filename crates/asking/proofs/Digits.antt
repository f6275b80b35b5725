-- Laws of words that say a number: the digit at a place, and those behind it. Assumes nothing.
use Prim.Native.Nat.{ℕ, ◌+◌, ◌-◌, ◌*◌, ◌^◌, ◌≤◌, ◌<◌}
use mathlib.Core.Path.{◌≡◌, refl, sym}
use mathlib.Core.Logic.{inl, inr}
use mathlib.Core.Bool.{Bool, true, false, cond, ◌&&◌}
use mathlib.Core.List.{List, [], ◌∷◌}
use native.Mathlib.Omega.{arith}
use lib.ListN.{length, get_or, drop, drop_of_length-le}
use borrow.Author.Tests.{le-leb, lt-leb, lt-ltb, le-ltb}
use Rattle.std.specs.Prelude.{Some, None}
use lib.Dec.{eqb}
use Rattle.std.specs.Char.{IsNotAsciiDigit}
use Rattle.std.proofs.lemmas.Bool.{eqb-true}
use Rattle.alphabet.proofs.BoolLaws.{false_true}
use Rattle.alphabet.specs.Digits.{all_digits, counted}
use Rattle.alphabet.proofs.DigitLaws.{counted_least}
use Rattle.asking.specs.Decimals.{held, number}
use Rattle.alphabet.proofs.ListLaws.{drop_next}

pub number_none : (l : List ℕ) → eqb (length l) 0 ≡ true → number l ≡ None
unfolding number
number_none [] h = refl
number_none (d ∷ r) h = absurd (let z = eqb-true (length (d ∷ r)) 0 h in omega arith)

pub number_some : (l : List ℕ) → eqb (length l) 0 ≡ false → number l ≡ held 0 l
unfolding number
number_some [] h = false_true (sym h)
number_some (d ∷ r) h = refl

refused : (n : ℕ) (l : List ℕ) → all_digits l ≡ false → held n l ≡ None
unfolding held
refused n l e = rw e

large : (n : ℕ) (l : List ℕ) → 2 ^ 64 ≤ counted n l → held n l ≡ None
unfolding held
large n l h = rw (le-ltb (counted n l) (2 ^ 64) h) (by (all_digits l))
  where
    by : (t : Bool) → cond (t && false) (Some (counted n l)) None ≡ None
    by true = refl
    by false = refl

module _ (n : ℕ) (l : List ℕ) (i : ℕ) where
  pub held_end : length l ≤ i → n < 2 ^ 64 → held n (drop i l) ≡ Some n
  unfolding held all_digits counted
  held_end h k = rw (drop_of_length-le l h) (rw (lt-ltb n (2 ^ 64) k))

  module _ (h : i < length l) where
    pub held_other : IsNotAsciiDigit (get_or l i 0) → held n (drop i l) ≡ None
    unfolding all_digits
    held_other (inl k) = refused n (drop i l) (rw (drop_next l i) (rw (lt-leb 48 (get_or l i 0) k)))
    held_other (inr k) = refused n (drop i l) (rw (drop_next l i) (rw (le-leb 48 (get_or l i 0) (omega arith), lt-leb (get_or l i 0) 57 k)))

    pub held_large : 2 ^ 64 ≤ n * 10 + (get_or l i 0 - 48) → held n (drop i l) ≡ None
    unfolding counted
    held_large k = large n (drop i l) (rw (drop_next l i) (omega (arith, counted_least (n * 10 + (get_or l i 0 - 48)) (drop (i + 1) l))))

    pub held_next : 48 ≤ get_or l i 0 → get_or l i 0 ≤ 57 → held n (drop i l) ≡ held (n * 10 + (get_or l i 0 - 48)) (drop (i + 1) l)
    unfolding held all_digits counted
    held_next a b = rw (drop_next l i) (rw (le-leb 48 (get_or l i 0) a, le-leb (get_or l i 0) 57 b))
