-- Marks of a word's bytes that are taken one by one: what the lowest says, and what is left without it. Assumes nothing.
use mathlib.Core.Path.{◌≡◌, refl, sym, ap, ap₂, ◌∙◌}
use mathlib.Core.List.{List, [], ◌∷◌}
use mathlib.Core.Bool.{Bool, true, false, cond}
use Prim.Native.Nat.{ℕ, zero, suc, ◌+◌, ◌-◌, ◌*◌, ◌/◌, ◌≤◌, ◌<◌}
use native.Mathlib.Nat.{zero-add}
use native.Mathlib.Omega.{arith}
use lib.Bits.{bit_and, and_block, and_self, and_zero_l}
use lib.Count.{count_trailing_zeros}
use lib.ListN.{length, drop}
use Rattle.alphabet.specs.Lists.{first}
use Rattle.search.specs.Words.{marks}
use Rattle.search.proofs.WordLaws.{zeros_below, zeros_first, marks_some}

positive : (n : ℕ) → (n ≡ 0 → ⊥) → 0 < n
positive zero h = absurd (h refl)
positive (suc n) h = omega arith

-- one less takes the lowest byte's mark away, where it has one
clear_here : (x : ℕ) → bit_and (x * 256 + 128) (x * 256 + 128 - 1) ≡ x * 256
clear_here x =
    let a : x * 256 + 128 - 1 ≡ x * 256 + 127 = omega arith in
    let z : x * 256 + 0 ≡ x * 256 = omega arith in
    ap (bit_and (x * 256 + 128)) a ∙ and_block 8 x x 128 127 (omega arith) (omega arith) ∙ ap (λ (i : ℕ). i * 256 + 0) (and_self x) ∙ z

-- and else one of a byte behind it
clear_behind : (x : ℕ) → 0 < x → bit_and (x * 256) (x * 256 - 1) ≡ bit_and x (x - 1) * 256
clear_behind x h =
    let a : x * 256 ≡ x * 256 + 0 = omega arith in
    let b : x * 256 - 1 ≡ (x - 1) * 256 + 255 = omega arith in
    let y = bit_and x (x - 1) in
    let z : y * 256 + 0 ≡ y * 256 = omega arith in
    ap₂ bit_and a b ∙ and_block 8 x (x - 1) 0 255 (omega arith) (omega arith) ∙ ap (λ (i : ℕ). y * 256 + i) (and_zero_l 255) ∙ z

module _ (test : ℕ → Bool) where
  -- the marks without those of the first k bytes
  unfoldable pub marks_from : ℕ → List ℕ → ℕ
  marks_from zero l = marks test l
  marks_from (suc k) [] = 0
  marks_from (suc k) (b ∷ l) = marks_from k l * 256

  pub from_all : (l : List ℕ) → marks test l ≡ marks_from 0 l
  unfolding marks_from
  from_all l = refl

  -- no mark, no byte that passes
  marks_none : (l : List ℕ) → marks test l ≡ 0 → first test l ≡ length l
  unfolding marks first
  marks_none [] e = refl
  marks_none (b ∷ l) e = at (test b) (marks_none l) e
    where
      at : (t : Bool) → (marks test l ≡ 0 → first test l ≡ length l) → marks test l * 256 + cond t 128 0 ≡ 0 → cond t 0 (suc (first test l)) ≡ suc (length l)
      at true ih e = absurd (omega arith)
      at false ih e = ap suc (ih (omega arith))

  pub from_none : (k : ℕ) (l : List ℕ) → marks_from k l ≡ 0 → first test (drop k l) ≡ length (drop k l)
  unfolding marks_from first
  from_none zero l e = marks_none l e
  from_none (suc k) [] e = refl
  from_none (suc k) (b ∷ l) e = from_none k l (omega arith)

  pub from_some : (k : ℕ) (l : List ℕ) → (marks_from k l ≡ 0 → ⊥) → first test (drop k l) < length (drop k l)
  unfolding marks_from
  from_some zero l n = marks_some test l n
  from_some (suc k) [] n = absurd (n refl)
  from_some (suc k) (b ∷ l) n = from_some k l (λ e. n (ap (λ (x : ℕ). x * 256) e))

  some_if : (l : List ℕ) → first test l < length l → 0 < marks test l
  some_if l h = positive (marks test l) (λ e. let q = marks_none l e in omega arith)

  from_some_if : (k : ℕ) (l : List ℕ) → first test (drop k l) < length (drop k l) → 0 < marks_from k l
  from_some_if k l h = positive (marks_from k l) (λ e. let q = from_none k l e in omega arith)

  -- the lowest is the first byte that passes behind them
  pub from_first : (k : ℕ) (l : List ℕ) → k ≤ length l → count_trailing_zeros (length l * 8) (marks_from k l) / 8 ≡ k + first test (drop k l)
  unfolding marks_from
  from_first zero l h = zeros_first test l ∙ sym (zero-add (first test l))
  from_first (suc k) [] h = absurd (omega arith)
  from_first (suc k) (b ∷ l) h =
      let n : suc (length l) * 8 ≡ 8 + length l * 8 = omega arith in
      let r = ap (λ (i : ℕ). count_trailing_zeros i (marks_from k l * 256)) n ∙ zeros_below 8 (length l * 8) (marks_from k l) in
      let e = from_first k l (omega arith) in
      omega arith

  -- one less has the lowest mark gone, and lower ones in its place
  marks_clear : (l : List ℕ) → first test l < length l → bit_and (marks test l) (marks test l - 1) ≡ marks_from (suc (first test l)) l
  unfolding marks marks_from first
  marks_clear [] h = absurd (omega arith)
  marks_clear (b ∷ l) h = at (test b) (some_if l) (marks_clear l) h
    where
      at : (t : Bool) → (first test l < length l → 0 < marks test l)
          → (first test l < length l → bit_and (marks test l) (marks test l - 1) ≡ marks_from (suc (first test l)) l) → cond t 0 (suc (first test l)) < suc (length l)
          → bit_and (marks test l * 256 + cond t 128 0) (marks test l * 256 + cond t 128 0 - 1) ≡ marks_from (suc (cond t 0 (suc (first test l)))) (b ∷ l)
      at true some ih h = clear_here (marks test l)
      at false some ih h =
          let z : marks test l * 256 + 0 ≡ marks test l * 256 = omega arith in
          ap (λ (x : ℕ). bit_and x (x - 1)) z ∙ clear_behind (marks test l) (some (omega arith)) ∙ ap (λ (x : ℕ). x * 256) (ih (omega arith))

  pub from_clear : (k : ℕ) (l : List ℕ) → first test (drop k l) < length (drop k l)
      → bit_and (marks_from k l) (marks_from k l - 1) ≡ marks_from (k + first test (drop k l) + 1) l
  unfolding marks_from
  from_clear zero l h =
      let e : suc (first test l) ≡ 0 + first test l + 1 = omega arith in
      marks_clear l h ∙ ap (λ (i : ℕ). marks_from i l) e
  from_clear (suc k) [] h = absurd (omega arith)
  from_clear (suc k) (b ∷ l) h =
      let e : suc (k + first test (drop k l) + 1) ≡ suc k + first test (drop k l) + 1 = omega arith in
      clear_behind (marks_from k l) (from_some_if k l h) ∙ ap (λ (x : ℕ). x * 256) (from_clear k l h)
      ∙ ap (λ (i : ℕ). marks_from i (b ∷ l)) e
