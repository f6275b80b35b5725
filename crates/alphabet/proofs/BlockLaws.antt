-- A search by blocks, for any test: one that looks at every byte of a block, the blocks of a slice, and one that goes on from a place. `first_block` of
-- ListLaws says which blocks are passed over. Assumes nothing.
use mathlib.Core.Path.{◌≡◌, refl, sym, ap, ◌∙◌}
use mathlib.Core.List.{List, [], ◌∷◌}
use mathlib.Core.Bool.{Bool, true, false, cond, ◌&&◌}
use Prim.Native.Nat.{ℕ, zero, suc, ◌+◌, ◌-◌, ◌*◌, ◌/◌, ◌≤◌, ◌<◌}
use native.Mathlib.Decide.{dec_lt}
use native.Mathlib.Numerals.{add-one}
use native.Mathlib.Omega.{arith}
use lib.Dec.{leb, ltb}
use lib.ListN.{length, get_or, take, drop, length-drop}
use lib.Seq.{drop-drop, length-take-le}
use borrow.Author.Tests.{le-leb, lt-leb, lt-ltb, le-ltb, leb-true}
use Rattle.std.specs.Simd.{first_chunks}
use Rattle.std.proofs.Math.Nat.{suc-mul, zero-mul, div-mul-le_self}
use Rattle.alphabet.specs.Lists.{first}
use Rattle.alphabet.proofs.ListLaws.{first_passes, first_before, first_le, first_block, rest_of}

-- ---- a search that looks at every byte of a block

-- the length of a block from i on, as the code lends it
pub block_size : (s : List ℕ) (i : ℕ) → i + 32 ≤ length s → length (take (i + 32 - i) (drop i s)) ≡ 32
block_size s i h =
    let d = length-drop i s in
    let k = length-take-le (i + 32 - i) (drop i s) (omega arith) in
    omega arith

-- the blocks of a slice, each by its place
pub chunk_at : (n k : ℕ) (l : List ℕ) (i : ℕ) (d : List ℕ) → i < k → get_or (first_chunks n k l) i d ≡ take n (drop (i * n) l)
chunk_at n zero l i d h = absurd (omega arith)
chunk_at n (suc k) l zero d h = ap (λ (j : ℕ). take n (drop j l)) (sym (zero-mul n))
chunk_at n (suc k) l (suc i) d h =
    let e : n + i * n ≡ suc i * n = let m = suc-mul i n in omega arith in
    chunk_at n k (drop n l) i d (omega arith) ∙ ap (take n) (drop-drop (i * n) n l ∙ ap (λ (j : ℕ). drop j l) e)

-- so many blocks more are within the slice
pub chunk_within : (n i : ℕ) (l : List ℕ) → i < length l / n → i * n + n ≤ length l
chunk_within n i l h =
    let m = suc-mul i n in
    let k = mul_mono n (suc i) (length l / n) h in
    let d = div-mul-le_self (length l) n in
    omega arith
  where
    mul_mono : (n i j : ℕ) → i ≤ j → i * n ≤ j * n
    mul_mono n zero j h = omega arith
    mul_mono n (suc i) zero h = absurd (omega arith)
    mul_mono n (suc i) (suc j) h =
        let a = suc-mul i n in
        let b = suc-mul j n in
        let c = mul_mono n i j (omega arith) in
        omega arith

-- a block is of its length, and where it is clear it is passed over whole
pub chunk_size : (n i p : ℕ) (l : List ℕ) → p ≡ i * n → i < length l / n → length (take n (drop p l)) ≡ n
chunk_size n i p l at h =
    let w = chunk_within n i l h in
    let d = length-drop p l in
    length-take-le n (drop p l) (omega arith)

pub chunk_clear : (sought : ℕ → Bool) (n i p : ℕ) (l : List ℕ) → p ≡ i * n → i < length l / n → p ≤ first sought l → n ≤ first sought (take n (drop p l)) → p + n ≤ first sought l
chunk_clear sought n i p l at h k m = let w = chunk_within n i l h in first_block sought l p n (omega arith) k m

pub chunk_next : (n i p : ℕ) → p ≡ i * n → p + n ≡ (i + 1) * n
chunk_next n i p at = ap (λ (j : ℕ). j + n) at ∙ sym (suc-mul i n) ∙ ap (λ (j : ℕ). j * n) (sym (add-one i))

-- the first place below i, or the length where there is none
abbrev pub least_of : (ℕ → Bool) → List ℕ → ℕ → ℕ
least_of test l i = cond (leb i (first test l)) (length l) (first test l)

module _ (test : ℕ → Bool) (l : List ℕ) where
  pub least_begin : length l ≡ least_of test l 0
  least_begin = rw (le-leb 0 (first test l) (omega arith))

  pub least_most : (i : ℕ) → least_of test l i ≤ length l
  least_most i = at (leb i (first test l)) (first_le test l)
    where
      at : (t : Bool) → first test l ≤ length l → cond t (length l) (first test l) ≤ length l
      at true h = omega arith
      at false h = h

  pub least_step : (i : ℕ) → i < length l → cond (test (get_or l i 0) && ltb i (least_of test l i)) i (least_of test l i) ≡ least_of test l (i + 1)
  least_step i h = at (dec_lt i (first test l)) (dec_lt (first test l) i)
    where
      at : Dec (i < first test l) → Dec (first test l < i) → cond (test (get_or l i 0) && ltb i (least_of test l i)) i (least_of test l i) ≡ least_of test l (i + 1)
      at (yes k) x = rw (first_before test l i k, le-leb i (first test l) (omega arith), le-leb (i + 1) (first test l) (omega arith))
      at (no k) (yes j) = rw (lt-leb i (first test l) j, lt-leb (i + 1) (first test l) (omega arith), le-ltb i (first test l) (omega arith)) (none (test (get_or l i 0)))
        where
          none : (t : Bool) → cond (t && false) i (first test l) ≡ first test l
          none true = refl
          none false = refl
      at (no k) (no j) =
          let e : first test l ≡ i = omega arith in
          let p : test (get_or l i 0) ≡ true = ap (λ (n : ℕ). test (get_or l n 0)) (sym e) ∙ first_passes test l (omega arith) in
          rw (p, le-leb i (first test l) (omega arith), lt-leb (i + 1) (first test l) (omega arith), lt-ltb i (length l) h) (sym e)

  pub least_end : (i : ℕ) → length l ≤ i → least_of test l i ≡ first test l
  least_end i h = at (leb i (first test l)) refl
    where
      at : (t : Bool) → leb i (first test l) ≡ t → cond t (length l) (first test l) ≡ first test l
      at true e = let k = leb-true i (first test l) e in let m = first_le test l in omega arith
      at false e = refl

-- ---- a search that goes on from a place, and one that ends inside a block

module _ (test : ℕ → Bool) where
  pub first_from : (l : List ℕ) (i : ℕ) → i ≤ first test l → first test l ≡ i + first test (drop i l)
  unfolding first
  first_from l zero h = omega arith
  first_from [] (suc i) h = absurd (omega arith)
  first_from (x ∷ r) (suc i) h = at (test x) (first_from r i) h
    where
      at : (t : Bool) → (i ≤ first test r → first test r ≡ i + first test (drop i r)) → suc i ≤ cond t 0 (suc (first test r))
          → cond t 0 (suc (first test r)) ≡ suc i + first test (drop i r)
      at true ih h = absurd (omega arith)
      at false ih h = let e = ih (omega arith) in omega arith

  pub first_inside : (l : List ℕ) (k : ℕ) → first test (take k l) < length (take k l) → first test l ≡ first test (take k l)
  unfolding first
  first_inside l zero h = absurd (omega arith)
  first_inside [] (suc k) h = refl
  first_inside (x ∷ r) (suc k) h = at (test x) (first_inside r k) h
    where
      at : (t : Bool) → (first test (take k r) < length (take k r) → first test r ≡ first test (take k r))
          → cond t 0 (suc (first test (take k r))) < suc (length (take k r)) → cond t 0 (suc (first test r)) ≡ cond t 0 (suc (first test (take k r)))
      at true ih h = refl
      at false ih h = ap suc (ih (omega arith))

  -- the search from a place on, in the part of a slice that the code lends
  pub first_onward : (l : List ℕ) (i n : ℕ) → i ≤ first test l → n ≡ first test (take (length l - i) (drop i l)) → i + n ≡ first test l
  first_onward l i n h e = ap (λ (k : ℕ). i + k) (e ∙ ap (first test) (rest_of l i)) ∙ sym (first_from l i h)

-- such a place is within the slice
pub onward_within : (l : List ℕ) (i n : ℕ) → i ≤ length l → n ≤ length (take (length l - i) (drop i l)) → i + n ≤ length l
onward_within l i n h k =
    let e = ap length (rest_of l i) in
    let d = length-drop i l in
    omega arith

-- a test of a whole slice that says that no byte passes
pub whole_clear : (test : ℕ → Bool) (l : List ℕ) (n : ℕ) → length l ≡ n → true ≡ leb (length l) (first test l) → n ≤ first test l
whole_clear test l n e h = let k = leb-true (length l) (first test l) (sym h) in omega arith
