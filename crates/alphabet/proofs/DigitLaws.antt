-- Laws of digits and of the number that they say, for every width: what a loop over them cites, how large the number is, and that digits of one width
-- and their number determine each other. Assumes nothing.
use mathlib.Core.Path.{◌≡◌, refl, sym, ap, ◌∙◌}
use mathlib.Core.List.{List, [], ◌∷◌, ◌++◌}
use mathlib.Core.Bool.{Bool, true, false, ◌&&◌}
use Prim.Native.Nat.{ℕ, zero, suc, ◌+◌, ◌-◌, ◌*◌, ◌^◌, ◌≤◌, ◌<◌}
use native.Mathlib.Nat.{pow-zero, pow-succ', mul-one, mul_assoc, mul-le-mul_right, lt_of_lt_of_le}
use native.Mathlib.Omega.{arith}
use lib.ListN.{length, get_or, take, drop, drop_of_length-le}
use Rattle.alphabet.specs.Bytes.{digit}
use Rattle.alphabet.specs.Digits.{all_digits, counted}
use Rattle.alphabet.proofs.BoolLaws.{and_both, from_to_lem}
use Rattle.alphabet.proofs.ListLaws.{drop_next}

-- ---- along the bytes

module _ (l : List ℕ) (i : ℕ) where
  pub digits_end : length l ≤ i → all_digits (drop i l) ≡ true
  unfolding all_digits
  digits_end h = rw (drop_of_length-le l h)

  module _ (h : i < length l) where
    pub digits_next : digit (get_or l i 0) ≡ true → all_digits (drop i l) ≡ all_digits (drop (i + 1) l)
    unfolding all_digits
    digits_next e = rw (drop_next l i) (rw e)

    pub digits_not : digit (get_or l i 0) ≡ false → all_digits (drop i l) ≡ false
    unfolding all_digits
    digits_not e = rw (drop_next l i) (rw e)

    pub digits_here : all_digits (drop i l) ≡ true → (48 ≤ get_or l i 0) × (get_or l i 0 ≤ 57) × (all_digits (drop (i + 1) l) ≡ true)
    unfolding all_digits
    digits_here e =
        let b = and_both (digit (get_or l i 0)) (all_digits (drop (i + 1) l)) (ap all_digits (sym (drop_next l i h)) ∙ e) in
        let d = from_to_lem 48 57 (get_or l i 0) b.0 in
        (d.0, d.1, b.1)

    pub counted_next : (n : ℕ) → counted n (drop i l) ≡ counted (n * 10 + (get_or l i 0 - 48)) (drop (i + 1) l)
    unfolding counted
    counted_next n = rw (drop_next l i)

  pub counted_end : (n : ℕ) → length l ≤ i → counted n (drop i l) ≡ n
  unfolding counted
  counted_end n h = rw (drop_of_length-le l h)

-- ---- in parts

pub counted_append : (n : ℕ) (a b : List ℕ) → counted n (a ++ b) ≡ counted (counted n a) b
unfolding counted
counted_append n [] b = refl
counted_append n (d ∷ a) b = counted_append (n * 10 + (d - 48)) a b

pub digits_append : (a b : List ℕ) → all_digits (a ++ b) ≡ (all_digits a && all_digits b)
unfolding all_digits
digits_append [] b = refl
digits_append (d ∷ a) b = rw (digits_append a b) (and_assoc (digit d) (all_digits a) (all_digits b))
  where
    and_assoc : (x y z : Bool) → (x && (y && z)) ≡ ((x && y) && z)
    and_assoc true y z = refl
    and_assoc false y z = refl

pub digits_take : (n : ℕ) (l : List ℕ) → all_digits l ≡ true → all_digits (take n l) ≡ true
unfolding all_digits
digits_take zero l e = refl
digits_take (suc n) [] e = refl
digits_take (suc n) (d ∷ r) e =
    let b = and_both (digit d) (all_digits r) e in
    rw b.0 (digits_take n r b.1)

pub digits_drop : (n : ℕ) (l : List ℕ) → all_digits l ≡ true → all_digits (drop n l) ≡ true
unfolding all_digits
digits_drop zero l e = e
digits_drop (suc n) [] e = refl
digits_drop (suc n) (d ∷ r) e = digits_drop n r (and_both (digit d) (all_digits r) e).1

-- ---- how large

-- more digits make no smaller number
pub counted_least : (n : ℕ) (l : List ℕ) → n ≤ counted n l
unfolding counted
counted_least n [] = omega arith
counted_least n (d ∷ r) = let h = counted_least (n * 10 + (d - 48)) r in omega arith

-- k digits say less than 10 ^ k
pub counted_below : (n : ℕ) (l : List ℕ) → all_digits l ≡ true → counted n l < (n + 1) * 10 ^ length l
unfolding counted all_digits
counted_below n [] e = rw (pow-zero, mul-one) (omega arith)
counted_below n (d ∷ r) e =
    let b = and_both (digit d) (all_digits r) e in
    let t = from_to_lem 48 57 d b.0 in
    let t1 = t.1 in
    let h : n * 10 + (d - 48) + 1 ≤ (n + 1) * 10 = omega arith in
    lt_of_lt_of_le (counted_below (n * 10 + (d - 48)) r b.1)
    (rw (pow-succ' 10 (length r), ← mul_assoc (n + 1) 10 (10 ^ length r)) (mul-le-mul_right (10 ^ length r) h))

-- ---- digits of one width and their number determine each other

pub digits_same : (n n' : ℕ) (l l' : List ℕ) → all_digits l ≡ true → all_digits l' ≡ true → length l ≡ length l' → counted n l ≡ counted n' l' → (n ≡ n') × (l ≡ l')
unfolding counted all_digits
digits_same n n' [] [] e e' h q = (q, refl)
digits_same n n' [] (d' ∷ r') e e' h q = absurd (omega arith)
digits_same n n' (d ∷ r) [] e e' h q = absurd (omega arith)
digits_same n n' (d ∷ r) (d' ∷ r') e e' h q =
    let b = and_both (digit d) (all_digits r) e in
    let b' = and_both (digit d') (all_digits r') e' in
    let i = digits_same (n * 10 + (d - 48)) (n' * 10 + (d' - 48)) r r' b.1 b'.1 (omega arith) q in
    let i0 = i.0 in
    let i1 = i.1 in
    let t = from_to_lem 48 57 d b.0 in
    let t0 = t.0 in
    let t1 = t.1 in
    let u = from_to_lem 48 57 d' b'.0 in
    let u0 = u.0 in
    let u1 = u.1 in
    let m : n ≡ n' = omega arith in
    let k : d ≡ d' = omega arith in
    (m, cc)
