-- Laws of marks: what the lowest of them says, and what is left behind it. Assumes nothing.
use mathlib.Core.Path.{◌≡◌, refl, sym, ap, ap₂, ◌∙◌}
use mathlib.Core.List.{List, [], ◌∷◌}
use mathlib.Core.Bool.{Bool, true, false, cond}
use Prim.Native.Nat.{ℕ, zero, suc, ◌+◌, ◌-◌, ◌*◌, ◌/◌, ◌%◌, ◌^◌, ◌≤◌, ◌<◌, min}
use native.Mathlib.Nat.{zero-add, suc-add}
use native.Mathlib.Omega.{arith}
use lib.Seq.{get_or-set_same, get_or-set_other}
use lib.Count.{count_trailing_zeros, under}
use lib.Bits.{bit_and, and_step, and_self}
use lib.ListN.{length, get_or, drop, set, drop_of_length-le}
use lib.Dec.{eqb}
use Rattle.alphabet.specs.Lists.{first}
use Rattle.alphabet.proofs.ListLaws.{drop_next}
use borrow.Author.Tests.{eqb-true, eqb-false}
use Rattle.leaves.specs.Walks.{marked, marked_from, Weighs, Light, sum_of}

positive : (n : ℕ) → (n ≡ 0 → ⊥) → 0 < n
positive zero h = absurd (h refl)
positive (suc n) h = omega arith

-- twice a number, and one more
twice_even : (x : ℕ) → 2 * x % 2 ≡ 0
twice_even x = omega arith

twice_half : (x : ℕ) → 2 * x / 2 ≡ x
twice_half x = omega arith

-- what is left of a number and one less, both halved
clear_odd : (x : ℕ) → bit_and (1 + 2 * x) (1 + 2 * x - 1) ≡ 2 * x
clear_odd x =
    let a : (1 + 2 * x) / 2 ≡ x = omega arith in
    let b : (1 + 2 * x - 1) / 2 ≡ x = omega arith in
    let c : (1 + 2 * x) % 2 ≡ 1 = omega arith in
    let d : (1 + 2 * x - 1) % 2 ≡ 0 = omega arith in
    let z : x * 2 + 0 ≡ 2 * x = omega arith in
    and_step (1 + 2 * x) (1 + 2 * x - 1)
    ∙ ap₂ (λ (i j : ℕ). bit_and i j * 2 + min ((1 + 2 * x) % 2) ((1 + 2 * x - 1) % 2)) a b
    ∙ ap₂ (λ (i j : ℕ). bit_and x x * 2 + min i j) c d ∙ ap (λ (i : ℕ). i * 2 + 0) (and_self x) ∙ z

clear_even : (x : ℕ) → 0 < x → bit_and (2 * x) (2 * x - 1) ≡ 2 * bit_and x (x - 1)
clear_even x h =
    let a : 2 * x / 2 ≡ x = omega arith in
    let b : (2 * x - 1) / 2 ≡ x - 1 = omega arith in
    let c : 2 * x % 2 ≡ 0 = omega arith in
    let d : (2 * x - 1) % 2 ≡ 1 = omega arith in
    let y = bit_and x (x - 1) in
    let z : y * 2 + 0 ≡ 2 * y = omega arith in
    and_step (2 * x) (2 * x - 1)
    ∙ ap₂ (λ (i j : ℕ). bit_and i j * 2 + min (2 * x % 2) ((2 * x - 1) % 2)) a b
    ∙ ap₂ (λ (i j : ℕ). bit_and x (x - 1) * 2 + min i j) c d ∙ z

module _ (test : ℕ → Bool) where
  -- one byte more in front
  pub marked_next : (l : List ℕ) (i : ℕ) → i < length l → marked test (drop i l) ≡ cond (test (get_or l i 0)) 1 0 + 2 * marked test (drop (i + 1) l)
  unfolding marked
  marked_next l i h = rw (drop_next l i h)

  pub marked_nothing : marked test [] ≡ 0
  unfolding marked
  marked_nothing = refl

  -- no mark, no byte that passes
  pub marked_none : (l : List ℕ) → marked test l ≡ 0 → first test l ≡ length l
  unfolding marked first
  marked_none [] e = refl
  marked_none (b ∷ l) e = at (test b) (marked_none l) e
    where
      at : (t : Bool) → (marked test l ≡ 0 → first test l ≡ length l) → cond t 1 0 + 2 * marked test l ≡ 0 → cond t 0 (suc (first test l)) ≡ suc (length l)
      at true ih e = absurd (omega arith)
      at false ih e = ap suc (ih (omega arith))

  pub marked_some : (l : List ℕ) → (marked test l ≡ 0 → ⊥) → first test l < length l
  unfolding marked first
  marked_some [] n = absurd (n refl)
  marked_some (b ∷ l) n = at (test b) (marked_some l) n
    where
      at : (t : Bool) → ((marked test l ≡ 0 → ⊥) → first test l < length l) → (cond t 1 0 + 2 * marked test l ≡ 0 → ⊥) → cond t 0 (suc (first test l)) < suc (length l)
      at true ih n = omega arith
      at false ih n = let h = ih (λ e. n (omega arith)) in omega arith

  marked_some_if : (l : List ℕ) → first test l < length l → 0 < marked test l
  marked_some_if l h = positive (marked test l) (λ e. let q = marked_none l e in omega arith)

  odd : (x : ℕ) → (1 + 2 * x) % 2 ≡ 1
  odd x = omega arith

  even : (x : ℕ) → (0 + 2 * x) % 2 ≡ 0
  even x = omega arith

  half : (t : Bool) (x : ℕ) → (cond t 1 0 + 2 * x) / 2 ≡ x
  half true x = omega arith
  half false x = omega arith

  -- the lowest mark is the first byte that passes
  pub marked_first : (k : ℕ) (l : List ℕ) → first test l < length l → length l ≤ k → count_trailing_zeros k (marked test l) ≡ first test l
  unfolding marked first count_trailing_zeros
  marked_first k [] h n = absurd (omega arith)
  marked_first zero (b ∷ l) h n = absurd (omega arith)
  marked_first (suc k) (b ∷ l) h n = at (test b) (marked_first k l) h
    where
      at : (t : Bool) → (first test l < length l → length l ≤ k → count_trailing_zeros k (marked test l) ≡ first test l) → cond t 0 (suc (first test l)) < suc (length l)
          → under ((cond t 1 0 + 2 * marked test l) % 2) (count_trailing_zeros k ((cond t 1 0 + 2 * marked test l) / 2)) ≡ cond t 0 (suc (first test l))
      at true ih h = ap (λ (x : ℕ). under x (count_trailing_zeros k ((1 + 2 * marked test l) / 2))) (odd (marked test l))
      at false ih h =
          ap₂ (λ (x y : ℕ). under x (count_trailing_zeros k y)) (even (marked test l)) (half false (marked test l)) ∙ ap suc (ih (omega arith) (omega arith))

  -- without those of the first k bytes: none is left, or the lowest is the first byte that passes behind them
  pub from_none : (k : ℕ) (l : List ℕ) → marked_from test k l ≡ 0 → first test (drop k l) ≡ length (drop k l)
  unfolding marked_from first
  from_none zero l e = marked_none l e
  from_none (suc k) [] e = refl
  from_none (suc k) (b ∷ l) e = from_none k l (omega arith)

  pub from_some : (k : ℕ) (l : List ℕ) → (marked_from test k l ≡ 0 → ⊥) → first test (drop k l) < length (drop k l)
  unfolding marked_from
  from_some zero l n = marked_some l n
  from_some (suc k) [] n = absurd (n refl)
  from_some (suc k) (b ∷ l) n = from_some k l (λ e. n (ap (λ (x : ℕ). 2 * x) e))

  from_some_if : (k : ℕ) (l : List ℕ) → first test (drop k l) < length (drop k l) → 0 < marked_from test k l
  from_some_if k l h = positive (marked_from test k l) (λ e. let q = from_none k l e in omega arith)

  pub from_first : (w k : ℕ) (l : List ℕ) → first test (drop k l) < length (drop k l) → length l ≤ w → count_trailing_zeros w (marked_from test k l) ≡ k + first test (drop k l)
  unfolding marked_from count_trailing_zeros
  from_first w zero l h n = marked_first w l h n ∙ sym (zero-add (first test l))
  from_first w (suc k) [] h n = absurd (omega arith)
  from_first zero (suc k) (b ∷ l) h n = absurd (omega arith)
  from_first (suc w) (suc k) (b ∷ l) h n =
      ap₂ (λ (x y : ℕ). under x (count_trailing_zeros w y)) (twice_even (marked_from test k l)) (twice_half (marked_from test k l))
      ∙ ap suc (from_first w k l h (omega arith)) ∙ sym (suc-add k (first test (drop k l)))

  -- one less has the lowest mark gone, and lower ones in its place
  pub marked_clear : (l : List ℕ) → first test l < length l → bit_and (marked test l) (marked test l - 1) ≡ marked_from test (suc (first test l)) l
  unfolding marked marked_from first
  marked_clear [] h = absurd (omega arith)
  marked_clear (b ∷ l) h = at (test b) (marked_some_if l) (marked_clear l) h
    where
      at : (t : Bool) → (first test l < length l → 0 < marked test l)
          → (first test l < length l → bit_and (marked test l) (marked test l - 1) ≡ marked_from test (suc (first test l)) l) → cond t 0 (suc (first test l)) < suc (length l)
          → bit_and (cond t 1 0 + 2 * marked test l) (cond t 1 0 + 2 * marked test l - 1) ≡ marked_from test (suc (cond t 0 (suc (first test l)))) (b ∷ l)
      at true some ih h = clear_odd (marked test l)
      at false some ih h =
          let z : 0 + 2 * marked test l ≡ 2 * marked test l = omega arith in
          ap (λ (x : ℕ). bit_and x (x - 1)) z ∙ clear_even (marked test l) (some (omega arith)) ∙ ap (λ (x : ℕ). 2 * x) (ih (omega arith))

  pub from_clear : (k : ℕ) (l : List ℕ) → first test (drop k l) < length (drop k l)
      → bit_and (marked_from test k l) (marked_from test k l - 1) ≡ marked_from test (k + first test (drop k l) + 1) l
  unfolding marked_from
  from_clear zero l h =
      let e : suc (first test l) ≡ 0 + first test l + 1 = omega arith in
      marked_clear l h ∙ ap (λ (i : ℕ). marked_from test i l) e
  from_clear (suc k) [] h = absurd (omega arith)
  from_clear (suc k) (b ∷ l) h =
      let e : suc (k + first test (drop k l) + 1) ≡ suc k + first test (drop k l) + 1 = omega arith in
      clear_even (marked_from test k l) (from_some_if k l h) ∙ ap (λ (x : ℕ). 2 * x) (from_clear k l h)
      ∙ ap (λ (i : ℕ). marked_from test i (b ∷ l)) e

-- ---- the marks of a block by weights

-- one weight more
pub weighs_next : (test : ℕ → Bool) (l ws : List ℕ) (i v : ℕ) → i < length ws → Weighs test l i ws → v ≡ cond (test (get_or l i 0)) (2 ^ (i % 8)) 0 → Weighs test l (i + 1) (set ws i v)
weighs_next test l ws i v h w e j k = at (eqb j i) refl
  where
    at : (t : Bool) → eqb j i ≡ t → get_or (set ws i v) j 0 ≡ cond (test (get_or l j 0)) (2 ^ (j % 8)) 0
    at true q =
        let z = eqb-true j i q in
        ap (λ (x : ℕ). get_or (set ws i v) x 0) z ∙ get_or-set_same ws i v 0 h ∙ e ∙ ap (λ (x : ℕ). cond (test (get_or l x 0)) (2 ^ (x % 8)) 0) (sym z)
    at false q =
        let n = eqb-false j i q in
        get_or-set_other ws i j v 0 n ∙ w j (omega (arith, n))

-- a weight is a bit, so many times
weight_bit : (t : Bool) (n : ℕ) → cond t n 0 ≡ n * cond t 1 0
weight_bit true n = omega arith
weight_bit false n = omega arith

bit_most : (t : Bool) → cond t 1 0 ≤ 1
bit_most true = omega arith
bit_most false = omega arith

module _ (test : ℕ → Bool) (l ws : List ℕ) (n : ℕ) (w : Weighs test l n ws) (whole : n ≡ length l) where
  -- the weight of byte k of eight
  weight : (at k p : ℕ) → at % 8 ≡ 0 → k < 8 → at + k < n → 2 ^ k ≡ p → get_or ws (at + k) 0 ≡ p * cond (test (get_or l (at + k) 0)) 1 0
  weight at k p z h i q =
      let r : (at + k) % 8 ≡ k = omega arith in
      w (at + k) i ∙ ap (λ (x : ℕ). cond (test (get_or l (at + k) 0)) (2 ^ x) 0) r ∙ ap (λ (x : ℕ). cond (test (get_or l (at + k) 0)) x 0) q ∙ weight_bit (test (get_or l (at + k) 0)) p

  first_weight : (at : ℕ) → at % 8 ≡ 0 → at < n → get_or ws at 0 ≡ 1 * cond (test (get_or l at 0)) 1 0
  first_weight at z i =
      let e : at + 0 ≡ at = omega arith in
      let q = weight at 0 1 z (omega arith) (omega arith) refl in
      ap (λ (x : ℕ). get_or ws x 0) (sym e) ∙ q ∙ ap (λ (x : ℕ). 1 * cond (test (get_or l x 0)) 1 0) e

  module _ (at : ℕ) (z : at % 8 ≡ 0) (i : at + 8 ≤ n) where
    pub light : length ws ≡ n → Light ws at
    light e =
        let b0 = bit_most (test (get_or l at 0)) in
        let b1 = bit_most (test (get_or l (at + 1) 0)) in
        let b2 = bit_most (test (get_or l (at + 2) 0)) in
        let b3 = bit_most (test (get_or l (at + 3) 0)) in
        let b4 = bit_most (test (get_or l (at + 4) 0)) in
        let b5 = bit_most (test (get_or l (at + 5) 0)) in
        let b6 = bit_most (test (get_or l (at + 6) 0)) in
        let b7 = bit_most (test (get_or l (at + 7) 0)) in
        let w0 = first_weight at z (omega arith) in
        let w1 = weight at 1 2 z (omega arith) (omega arith) refl in
        let w2 = weight at 2 4 z (omega arith) (omega arith) refl in
        let w3 = weight at 3 8 z (omega arith) (omega arith) refl in
        let w4 = weight at 4 16 z (omega arith) (omega arith) refl in
        let w5 = weight at 5 32 z (omega arith) (omega arith) refl in
        let w6 = weight at 6 64 z (omega arith) (omega arith) refl in
        let w7 = weight at 7 128 z (omega arith) (omega arith) refl in
        (omega arith, omega arith, omega arith, omega arith, omega arith, omega arith, omega arith, omega arith, omega arith)

    -- eight bytes and what is behind them
    pub eight_marked : marked test (drop at l) ≡ sum_of ws at + 256 * marked test (drop (at + 8) l)
    eight_marked =
        let w0 = first_weight at z (omega arith) in
        let w1 = weight at 1 2 z (omega arith) (omega arith) refl in
        let w2 = weight at 2 4 z (omega arith) (omega arith) refl in
        let w3 = weight at 3 8 z (omega arith) (omega arith) refl in
        let w4 = weight at 4 16 z (omega arith) (omega arith) refl in
        let w5 = weight at 5 32 z (omega arith) (omega arith) refl in
        let w6 = weight at 6 64 z (omega arith) (omega arith) refl in
        let w7 = weight at 7 128 z (omega arith) (omega arith) refl in
        let m0 = marked_next test l at (omega arith) in
        let m1 = next 1 2 refl (omega arith) in
        let m2 = next 2 3 refl (omega arith) in
        let m3 = next 3 4 refl (omega arith) in
        let m4 = next 4 5 refl (omega arith) in
        let m5 = next 5 6 refl (omega arith) in
        let m6 = next 6 7 refl (omega arith) in
        let m7 = next 7 8 refl (omega arith) in
        omega arith
      where
        next : (k k' : ℕ) → k + 1 ≡ k' → at + k < length l → marked test (drop (at + k) l) ≡ cond (test (get_or l (at + k) 0)) 1 0 + 2 * marked test (drop (at + k') l)
        next k k' e h = let q : at + k + 1 ≡ at + k' = omega arith in marked_next test l (at + k) h ∙ ap (λ (x : ℕ). cond (test (get_or l (at + k) 0)) 1 0 + 2 * marked test (drop x l)) q

-- the six sums of a block are its marks
pub block_marked : (test : ℕ → Bool) (l ws : List ℕ) → Weighs test l 48 ws → length l ≡ 48
    → sum_of ws 0 + 256 * sum_of ws 8 + 65536 * (sum_of ws 16 + 256 * sum_of ws 24) + 4294967296 * (sum_of ws 32 + 256 * sum_of ws 40) ≡ marked test l
block_marked test l ws w n =
    let a = eight_marked test l ws 48 w (sym n) 0 refl (omega arith) in
    let b = eight_marked test l ws 48 w (sym n) 8 refl (omega arith) in
    let c = eight_marked test l ws 48 w (sym n) 16 refl (omega arith) in
    let d = eight_marked test l ws 48 w (sym n) 24 refl (omega arith) in
    let f = eight_marked test l ws 48 w (sym n) 32 refl (omega arith) in
    let g = eight_marked test l ws 48 w (sym n) 40 refl (omega arith) in
    let h : length l ≤ 48 = omega arith in
    let e = ap (marked test) (drop_of_length-le l h) ∙ marked_nothing test in
    omega arith

pub light_block : (test : ℕ → Bool) (l ws : List ℕ) → Weighs test l 48 ws → length l ≡ 48 → length ws ≡ 48 → (at : ℕ) → at ≤ 40 → at % 8 ≡ 0 → Light ws at
light_block test l ws w n k at h z = light test l ws 48 w (sym n) at z (omega arith) k

pub sum_most : (ws : List ℕ) (at : ℕ) → Light ws at → sum_of ws at ≤ 255
sum_most ws at h =
    let h1 = h.1 in
    let h2 = h.2 in
    let h3 = h.3 in
    let h4 = h.4 in
    let h5 = h.5 in
    let h6 = h.6 in
    let h7 = h.7 in
    let h8 = h.8 in
    omega arith
