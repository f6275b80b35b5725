-- Laws of numerals, as they are written from the last digit on. Assumes nothing.
use mathlib.Core.Path.{◌≡◌, refl, sym, ap, ◌∙◌}
use mathlib.Core.List.{List, [], ◌∷◌, ◌++◌}
use mathlib.Core.Bool.{Bool, true, false}
use Prim.Native.Nat.{ℕ, zero, suc, ◌+◌, ◌/◌, ◌%◌, ◌^◌, ◌≤◌, ◌<◌}
use native.Mathlib.Nat.{pow-succ'}
use native.Mathlib.Numerals.{add-one}
use native.Mathlib.Omega.{arith}
use lib.Dec.{ltb}
use lib.ListN.{length, take, drop, set}
use lib.Seq.{set_split, drop_at, length-take-le}
use borrow.Author.Tests.{lt-ltb, le-ltb, ltb-true, ltb-false}
use Rattle.error_segment.specs.Numerals.{digits_of, numeral}

-- ---- one digit

module _ (most n : ℕ) where
  pub digits_last : n < 10 → digits_of (most + 1) n ≡ (48 + n % 10) ∷ []
  unfolding digits_of
  digits_last h = rw (add-one most) (rw (lt-ltb n 10 h))

  pub digits_more : 10 ≤ n → digits_of (most + 1) n ≡ digits_of most (n / 10) ++ ((48 + n % 10) ∷ [])
  unfolding digits_of
  digits_more h = rw (add-one most) (rw (le-ltb n 10 h))

-- ---- from the last digit on

-- as long as there are tens, there is room before
pub tens_room : (k n : ℕ) → n < 10 ^ (k + 1) → 10 ≤ n → (1 ≤ k) × (n / 10 < 10 ^ k)
tens_room zero n h l = absurd (omega arith)
tens_room (suc k) n h l =
    let e = ap (λ (x : ℕ). 10 ^ x) (add-one (suc k)) ∙ pow-succ' 10 (suc k) in
    (omega arith, omega arith)

-- where there is room for all digits, more room adds none
enough : (a b n : ℕ) → n < 10 ^ (a + 1) → n < 10 ^ (b + 1) → digits_of (a + 1) n ≡ digits_of (b + 1) n
enough zero b n h k = digits_last 0 n (omega arith) ∙ sym (digits_last b n (omega arith))
enough (suc a) zero n h k = digits_last (suc a) n (omega arith) ∙ sym (digits_last 0 n (omega arith))
enough (suc a) (suc b) n h k =
    let x = ap (λ (i : ℕ). 10 ^ i) (add-one (suc a)) ∙ pow-succ' 10 (suc a) in
    let y = ap (λ (i : ℕ). 10 ^ i) (add-one (suc b)) ∙ pow-succ' 10 (suc b) in
    let u = ap (λ (i : ℕ). 10 ^ i) (add-one a) in
    let w = ap (λ (i : ℕ). 10 ^ i) (add-one b) in
    at (ltb n 10) refl (enough a b (n / 10) (omega arith) (omega arith))
  where
    at : (t : Bool) → ltb n 10 ≡ t → digits_of (a + 1) (n / 10) ≡ digits_of (b + 1) (n / 10) → digits_of (suc a + 1) n ≡ digits_of (suc b + 1) n
    at true e q = digits_last (suc a) n (ltb-true n 10 e) ∙ sym (digits_last (suc b) n (ltb-true n 10 e))
    at false e q =
        digits_more (suc a) n (ltb-false n 10 e)
        ∙ ap (λ (l : List ℕ). l ++ ((48 + n % 10) ∷ [])) (ap (λ (i : ℕ). digits_of i (n / 10)) (sym (add-one a)) ∙ q ∙ ap (λ (i : ℕ). digits_of i (n / 10)) (add-one b))
        ∙ sym (digits_more (suc b) n (ltb-false n 10 e))

-- what stands from a digit on, once it is set
pub drop_set : (l : List ℕ) (i v : ℕ) → i < length l → drop i (set l i v) ≡ v ∷ drop (i + 1) l
drop_set l i v h =
    ap (drop i) (set_split l i v h) ∙ drop_at (take i l) (v ∷ drop (suc i) l) i (length-take-le i l (omega arith)) ∙ ap (λ (k : ℕ). v ∷ drop k l) (sym (add-one i))

-- ---- the room for all digits

-- every number has fewer digits than ones
pub power_above : (n : ℕ) → n < 10 ^ n
power_above zero = omega arith
power_above (suc n) = let h = power_above n in let e = pow-succ' 10 n in omega arith

-- with the twenty digits that a number of 64 bits takes at most
pub numeral_twenty : (n : ℕ) → n < 10 ^ 20 → numeral n ≡ digits_of 20 n
numeral_twenty n h =
    let p = power_above n in
    let e = ap (λ (i : ℕ). 10 ^ i) (add-one n) ∙ pow-succ' 10 n in
    ap (λ (i : ℕ). digits_of i n) (sym (add-one n)) ∙ enough n 19 n (omega arith) h
