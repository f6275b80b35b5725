-- Laws of lists and of `first`, for any test: what a loop that searches cites, and where what it finds stands. Assumes nothing.
use mathlib.Core.Path.{◌≡◌, refl, sym, ap, subst, ◌∙◌}
use mathlib.Core.List.{List, [], ◌∷◌}
use mathlib.Core.Bool.{Bool, true, false, cond, not, ◌&&◌}
use Prim.Native.Nat.{ℕ, zero, suc, ◌+◌, ◌-◌, ◌≤◌, ◌<◌}
use native.Mathlib.Numerals.{add-one}
use native.Mathlib.Decide.{dec_lt}
use native.Mathlib.Omega.{arith}
use lib.Dec.{eqb, leb}
use Rattle.alphabet.proofs.BoolLaws.{and_both, false_true, neither_or}
use lib.ListN.{length, get_or, take, drop, drop_of_length-le, length-drop}
use lib.Seq.{drop-cons, take_all, take-nil, take-take, drop-drop, get_or-take, get_or-drop}
use native.Mathlib.Nat.{sub-zero, zero-sub}
use borrow.Author.Tests.{eqb-true, eq-eqb, leb-true, le-leb, lt-leb}
use Rattle.std.proofs.Common.{Option, Some, None, nat_eq}
use Rattle.std.specs.List.{AllWithin, HoldsAt}
use Rattle.std.specs.Option.{MatchOption, unwrap_or}
use lib.Pointwise.{pointwise}
use Rattle.alphabet.specs.Lists.{first, find, either, same}

-- what stands from i on, by its first element
pub drop_next : (l : List ℕ) (i : ℕ) → i < length l → drop i l ≡ get_or l i 0 ∷ drop (i + 1) l
drop_next l i h = rw (add-one, drop-cons l i 0)

-- the part from i on of a slice, as the code lends it, is what stands from i on
pub rest_of : (l : List ℕ) (i : ℕ) → take (length l - i) (drop i l) ≡ drop i l
rest_of l i = take_all (length l - i) (drop i l) (rw (length-drop i l) (omega arith))

-- a piece of a piece is a piece of the whole
drop_take : (n a : ℕ) (l : List ℕ) → drop a (take n l) ≡ take (n - a) (drop a l)
drop_take n zero l = ap (λ (i : ℕ). take i l) (sym (sub-zero n))
drop_take zero (suc a) l = ap (λ (i : ℕ). take i (drop (suc a) l)) (sym (zero-sub (suc a)))
drop_take (suc n) (suc a) [] = sym (take-nil (suc n - suc a))
drop_take (suc n) (suc a) (x ∷ l) = let e : n - a ≡ suc n - suc a = omega arith in drop_take n a l ∙ ap (λ (i : ℕ). take i (drop a l)) e

pub piece_of_piece : (l : List ℕ) (s n a k : ℕ) → a + k ≤ n → take k (drop a (take n (drop s l))) ≡ take k (drop (s + a) l)
piece_of_piece l s n a k h =
    ap (take k) (drop_take n a (drop s l)) ∙ take-take k (n - a) (drop a (drop s l)) (omega arith) ∙ ap (take k) (drop-drop a s l)

module _ (test : ℕ → Bool) where
  pub first_here : (l : List ℕ) (i : ℕ) → i < length l → test (get_or l i 0) ≡ true → first test (drop i l) ≡ 0
  unfolding first
  first_here l i h e = rw (drop_next l i) (rw e)

  pub first_past : (l : List ℕ) (i : ℕ) → i < length l → test (get_or l i 0) ≡ false → first test (drop i l) ≡ suc (first test (drop (i + 1) l))
  unfolding first
  first_past l i h e = rw (drop_next l i) (rw e)

  pub first_end : (l : List ℕ) (i : ℕ) → length l ≤ i → first test (drop i l) ≡ 0
  unfolding first
  first_end l i h = rw (drop_of_length-le l h)

  pub first_le : (l : List ℕ) → first test l ≤ length l
  unfolding first
  first_le [] = omega arith
  first_le (x ∷ r) = at (test x) (first_le r)
    where
      at : (t : Bool) → first test r ≤ length r → cond t 0 (suc (first test r)) ≤ suc (length r)
      at true h = omega arith
      at false h = omega arith

  -- what stands there passes
  pub first_passes : (l : List ℕ) → first test l < length l → test (get_or l (first test l) 0) ≡ true
  unfolding first
  first_passes [] h = absurd (omega arith)
  first_passes (x ∷ r) h = at (test x) refl (first_passes r) h
    where
      at : (t : Bool) → test x ≡ t → (first test r < length r → test (get_or r (first test r) 0) ≡ true) → cond t 0 (suc (first test r)) < suc (length r)
          → test (get_or (x ∷ r) (cond t 0 (suc (first test r))) 0) ≡ true
      at true e ih h = e
      at false e ih h = ih (omega arith)

  -- what stands before it does not
  pub first_before : (l : List ℕ) (i : ℕ) → i < first test l → test (get_or l i 0) ≡ false
  unfolding first
  first_before [] i h = absurd (omega arith)
  first_before (x ∷ r) i h = at (test x) refl (λ j. first_before r j) i h
    where
      at : (t : Bool) → test x ≡ t → ((j : ℕ) → j < first test r → test (get_or r j 0) ≡ false) → (i : ℕ) → i < cond t 0 (suc (first test r)) → test (get_or (x ∷ r) i 0) ≡ false
      at true e ih i h = absurd (omega arith)
      at false e ih zero h = e
      at false e ih (suc i) h = ih i (omega arith)

  -- and where none passes it is the length
  pub first_none : (l : List ℕ) → ((i : ℕ) → i < length l → test (get_or l i 0) ≡ false) → first test l ≡ length l
  unfolding first
  first_none [] h = refl
  first_none (x ∷ r) h = rw (h 0 (omega arith)) (ap suc (first_none r (λ i k. h (suc i) (omega arith))))

  -- a passing element stands at or behind the first one
  pub first_least : (l : List ℕ) (i : ℕ) → i < length l → test (get_or l i 0) ≡ true → first test l ≤ i
  unfolding first
  first_least [] i h e = absurd (omega arith)
  first_least (x ∷ r) zero h e = rw e (omega arith)
  first_least (x ∷ r) (suc i) h e = at (test x) (first_least r i (omega arith) e)
    where
      at : (t : Bool) → first test r ≤ i → cond t 0 (suc (first test r)) ≤ suc i
      at true ih = omega arith
      at false ih = omega arith

  -- the beginning is always reached
  pub first_begin : (l : List ℕ) → true ≡ leb 0 (first test l)
  first_begin l = sym (le-leb 0 (first test l) (omega arith))

  -- one element more is passed over exactly where it does not pass
  pub first_step : (l : List ℕ) (i : ℕ) → i < length l → leb (i + 1) (first test l) ≡ (leb i (first test l) && not (test (get_or l i 0)))
  first_step l i h = at (dec_lt i (first test l)) (dec_lt (first test l) i)
    where
      at : Dec (i < first test l) → Dec (first test l < i) → leb (i + 1) (first test l) ≡ (leb i (first test l) && not (test (get_or l i 0)))
      at (yes k) x = rw (le-leb (i + 1) (first test l) (omega arith), le-leb i (first test l) (omega arith), first_before l i k)
      at (no k) (yes j) = rw (lt-leb (i + 1) (first test l) (omega arith), lt-leb i (first test l) j)
      at (no k) (no j) =
          let e : first test l ≡ i = omega arith in
          let p = subst (λ (n : ℕ). test (get_or l n 0) ≡ true) e (first_passes l (omega arith)) in
          rw (lt-leb (i + 1) (first test l) (omega arith), le-leb i (first test l) (omega arith), p)

  -- a place that was reached, where the element passes, is the first
  pub first_reached : (l : List ℕ) (i : ℕ) → i < length l → i ≤ first test l → test (get_or l i 0) ≡ true → first test l ≡ i
  first_reached l i h k e = let z = first_least l i h e in omega arith

  -- and where it does not pass, the next place is reached
  pub first_next : (l : List ℕ) (i : ℕ) → i < length l → i ≤ first test l → test (get_or l i 0) ≡ false → i + 1 ≤ first test l
  first_next l i h k e = leb-true (i + 1) (first test l) (first_step l i h ∙ rw (le-leb i (first test l) k, e))

  -- a place before which none passes is reached
  pub first_reaches : (l : List ℕ) (i : ℕ) → i ≤ length l → ((j : ℕ) → j < i → test (get_or l j 0) ≡ false) → i ≤ first test l
  first_reaches l i h w = at (dec_lt (first test l) i)
    where
      at : Dec (first test l < i) → i ≤ first test l
      at (no c) = omega arith
      at (yes c) = absurd (false_true (sym (w (first test l) c) ∙ first_passes l (omega arith)))

  -- what the library's `position` answers of bytes, and the length where it answers none
  pub first_position : (l : List ℕ) → ((i : ℕ) → get_or l i 0 < 256) → (r : Option ℕ)
      → MatchOption r (AllWithin (λ x. x < 256 → test x ≡ false) l 0 (length l))
      (λ i. (i < length l) × HoldsAt (λ x. x < 256 → test x ≡ true) l i × AllWithin (λ x. x < 256 → test x ≡ false) l 0 i) → unwrap_or r (length l) ≡ first test l
  first_position l s None w = sym (first_none l (λ i h. w i 0 (omega arith) h (s i)))
  first_position l s (Some i) w =
      sym (first_reached l i w.0 (first_reaches l i (let h = w.0 in omega arith) (λ j h. w.2 j 0 (omega arith) h (s j))) (w.1 0 (s i)))

  -- a block without an element that passes is passed over whole
  pub first_block : (l : List ℕ) (i n : ℕ) → i + n ≤ length l → i ≤ first test l → n ≤ first test (take n (drop i l)) → i + n ≤ first test l
  first_block l i n h k w = at (dec_lt (first test l) (i + n))
    where
      at : Dec (first test l < i + n) → i + n ≤ first test l
      at (no c) = omega arith
      at (yes c) =
          let j = first test l - i in
          let e : i + j ≡ first test l = omega arith in
          let p = first_passes l (omega arith) in
          let q = first_before (take n (drop i l)) j (omega arith) in
          absurd (false_true (sym q ∙ ap test (get_or-take n (drop i l) j 0 (omega arith) ∙ get_or-drop i l j 0 ∙ ap (λ (x : ℕ). get_or l x 0) e) ∙ p))

-- where neither of two bytes stands before n, the first of both does not
pub first_either : (a b : ℕ) (l : List ℕ) (n : ℕ) → n ≤ find a l → n ≤ find b l → n ≤ first (either a b) l
first_either a b l n h k = at (dec_lt (first (either a b) l) n)
  where
    at : Dec (first (either a b) l < n) → n ≤ first (either a b) l
    at (no c) = omega arith
    at (yes c) =
        let j = first (either a b) l in
        let m = first_le (eqb a) l in
        let p = first_passes (either a b) l (omega arith) in
        let q = neither_or (first_before (eqb a) l j (omega arith)) (first_before (eqb b) l j (omega arith)) in
        absurd (false_true (sym q ∙ p))

-- the byte that was looked for stands where it was found
pub find_is : (b : ℕ) (l : List ℕ) → find b l < length l → get_or l (find b l) 0 ≡ b
find_is b l h = sym (eqb-true b _ (first_passes (eqb b) l h))

-- an element is found at its own place or before
pub find_own : (l : List ℕ) (i : ℕ) → i < length l → find (get_or l i 0) l ≤ i
find_own l i h = first_least (eqb (get_or l i 0)) l i h (eq-eqb (get_or l i 0) (get_or l i 0) refl)

-- ---- two lists that are the same

-- as the library's `==` of slices says it
pub same_pointwise : (k l : List ℕ) → pointwise nat_eq k l ≡ same k l
unfolding same
same_pointwise [] [] = refl
same_pointwise [] (y ∷ l) = refl
same_pointwise (x ∷ k) [] = refl
same_pointwise (x ∷ k) (y ∷ l) = ap (λ (t : Bool). eqb x y && t) (same_pointwise k l)

pub same_own : (l : List ℕ) → same l l ≡ true
unfolding same
same_own [] = refl
same_own (x ∷ l) = rw (eq-eqb x x refl, same_own l)

pub same_is : (k l : List ℕ) → same k l ≡ true → k ≡ l
unfolding same
same_is [] [] e = refl
same_is [] (y ∷ l) e = absurd (false_true e)
same_is (x ∷ k) [] e = absurd (false_true e)
same_is (x ∷ k) (y ∷ l) e =
    let p = and_both (eqb x y) (same k l) e in
    let h : x ≡ y = eqb-true x y p.0 in
    let t = same_is k l p.1 in
    cc

pub same_unlike : (k l : List ℕ) → (length k ≡ length l → ⊥) → same k l ≡ false
unfolding same
same_unlike [] [] h = absurd (h refl)
same_unlike [] (y ∷ l) h = refl
same_unlike (x ∷ k) [] h = refl
same_unlike (x ∷ k) (y ∷ l) h = at (eqb x y) (same_unlike k l (λ e. h (ap suc e)))
  where
    at : (t : Bool) → same k l ≡ false → (t && same k l) ≡ false
    at true e = e
    at false e = refl
