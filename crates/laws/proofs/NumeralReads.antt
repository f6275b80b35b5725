-- A numeral reads back as its number, by alphabet's reader of digits, and has no digit too many. Assumes nothing.
use mathlib.Core.Path.{◌≡◌, refl, ◌∙◌}
use mathlib.Core.List.{List, [], ◌∷◌, ◌++◌}
use mathlib.Core.Bool.{Bool, true, false, cond, ◌&&◌}
use Prim.Native.Nat.{ℕ, zero, suc, ◌+◌, ◌-◌, ◌*◌, ◌/◌, ◌%◌, ◌^◌, ◌≤◌, ◌<◌}
use native.Mathlib.Nat.{pow-succ'}
use native.Mathlib.Omega.{arith}
use lib.Dec.{ltb}
use lib.ListN.{get_or}
use borrow.Author.Tests.{ltb-true, ltb-false, le-leb}
use Rattle.alphabet.specs.Bytes.{digit, ascii}
use Rattle.alphabet.specs.Digits.{all_digits, counted, decimal}
use Rattle.alphabet.proofs.DigitLaws.{counted_append, digits_append}
use Rattle.error_segment.specs.Numerals.{digits_of, numeral}
use Rattle.error_segment.proofs.NumeralLaws.{power_above}

digits_digits : (most n : ℕ) → all_digits (digits_of most n) ≡ true
unfolding digits_of all_digits
digits_digits zero n = refl
digits_digits (suc most) n =
    let d : digit (48 + n % 10) ≡ true = rw (le-leb 48 (48 + n % 10) (omega arith)) (rw (le-leb (48 + n % 10) 57 (omega arith))) in
    digits_append (cond (ltb n 10) [] (digits_of most (n / 10))) ((48 + n % 10) ∷ []) ∙ at (ltb n 10) d (digits_digits most (n / 10))
  where
    at : (t : Bool) → digit (48 + n % 10) ≡ true → all_digits (digits_of most (n / 10)) ≡ true
        → (all_digits (cond t [] (digits_of most (n / 10))) && (digit (48 + n % 10) && true)) ≡ true
    at true d e = rw d
    at false d e = rw e (rw d)

digits_say : (most n : ℕ) → n < 10 ^ most → decimal (digits_of most n) ≡ n
unfolding digits_of counted
digits_say zero n h = omega arith
digits_say (suc most) n h =
    let e = pow-succ' 10 most in
    counted_append 0 (cond (ltb n 10) [] (digits_of most (n / 10))) ((48 + n % 10) ∷ []) ∙ at (ltb n 10) refl (digits_say most (n / 10) (omega arith))
  where
    at : (t : Bool) → ltb n 10 ≡ t → decimal (digits_of most (n / 10)) ≡ n / 10 → counted 0 (cond t [] (digits_of most (n / 10))) * 10 + (48 + n % 10 - 48) ≡ n
    at true q e = let l = ltb-true n 10 q in omega arith
    at false q e = omega arith

-- the first digit of a number that is not 0 is not 0
digits_first : (most n : ℕ) → n < 10 ^ most → 1 ≤ n → 49 ≤ get_or (digits_of most n) 0 0
unfolding digits_of
digits_first zero n h l = absurd (omega arith)
digits_first (suc most) n h l =
    let e = pow-succ' 10 most in
    at (ltb n 10) refl (digits_first most (n / 10) (omega arith))
  where
    before : (s : List ℕ) (d : ℕ) → 49 ≤ get_or s 0 0 → 49 ≤ get_or (s ++ (d ∷ [])) 0 0
    before [] d q = absurd (omega arith)
    before (b ∷ s) d q = q

    at : (t : Bool) → ltb n 10 ≡ t → (1 ≤ n / 10 → 49 ≤ get_or (digits_of most (n / 10)) 0 0) → 49 ≤ get_or (cond t [] (digits_of most (n / 10)) ++ ((48 + n % 10) ∷ [])) 0 0
    at true q i = let k = ltb-true n 10 q in omega arith
    at false q i = let k = ltb-false n 10 q in before (digits_of most (n / 10)) (48 + n % 10) (i (omega arith))

-- digits, whose number it is; and no 0 stands before them, but for 0 itself
pub numeral_reads : (n : ℕ) → (all_digits (numeral n) ≡ true) × (decimal (numeral n) ≡ n) × (1 ≤ n → 49 ≤ get_or (numeral n) 0 0)
numeral_reads n =
    let h = power_above n in
    let e = pow-succ' 10 n in
    (digits_digits (suc n) n, digits_say (suc n) n (omega arith), digits_first (suc n) n (omega arith))

pub numeral_zero : numeral 0 ≡ ascii "0"
unfolding digits_of
numeral_zero = refl
