-- Bytes that do the same, one behind another: a run of them is fed as single bytes are. Assumes nothing.
use mathlib.Core.Path.{◌≡◌, refl, sym, ap, ◌∙◌}
use mathlib.Core.Bool.{Bool, true, false, cond}
use mathlib.Core.List.{List, [], ◌∷◌}
use Prim.Native.Nat.{ℕ, zero, suc, ◌+◌, ◌-◌, ◌≤◌, ◌<◌}
use native.Mathlib.Omega.{arith}
use native.Mathlib.Decide.{dec_lt}
use native.Mathlib.Numerals.{add-one}
use lib.Dec.{eqb}
use lib.ListN.{take, drop, set}
use lib.Seq.{sets}
use borrow.Author.Tests.{le-leb, lt-leb, eqb-false}
use Rattle.alphabet.specs.Lists.{first, find}
use Rattle.alphabet.proofs.BoolLaws.{or_neither}
use Rattle.frames.specs.declared.state.FrameState.{FrameState}
use Rattle.frames.specs.Wire.{most_dropped}
use Rattle.frames.specs.Steps.{quiet, gather, inside, outside, skipping, stepped, counted}
use Rattle.frames.specs.Feeding.{feeding, stored}
use Rattle.frames.specs.Passing.{framing, counted_on}
use Rattle.frames.proofs.StepLaws.{counted_more, counted_most, outside_drops, inside_gathers, skipping_on, step_outside_lem, step_inside_lem, step_skipping_lem}
use Rattle.frames.proofs.KnownLaws.{counted_within}

-- ---- one byte

module _ (limit : ℕ) (s t : FrameState) (d : List ℕ) (used b : ℕ) (l : List ℕ) where
  feed_quiet : stepped limit s b ≡ quiet t → feeding limit s d used (b ∷ l) ≡ feeding limit t d (used + 1) l
  unfolding feeding stored
  feed_quiet e = rw e

  feed_gather : stepped limit s b ≡ gather t → feeding limit s d used (b ∷ l) ≡ feeding limit t (set d s.held b) (used + 1) l
  unfolding feeding stored
  feed_gather e = rw e

-- the first of the bytes before the first that passes
run_next : (test : ℕ → Bool) (b : ℕ) (l : List ℕ) (k : ℕ) → suc k ≤ first test (b ∷ l) → (test b ≡ false) × (k ≤ first test l)
unfolding first
run_next test b l k h = at (test b) refl h
  where
    at : (t : Bool) → test b ≡ t → suc k ≤ cond t 0 (suc (first test l)) → (test b ≡ false) × (k ≤ first test l)
    at true e g = absurd (omega arith)
    at false e g = (e, omega arith)

run_none : (test : ℕ → Bool) (k : ℕ) → suc k ≤ first test [] → ⊥
unfolding first
run_none test k h = omega arith

plain_byte : (b : ℕ) → framing b ≡ false → (b ≡ 11 → ⊥) × (b ≡ 28 → ⊥)
plain_byte b e =
    let p = or_neither (eqb 11 b) (eqb 28 b) e in
    (λ (q : b ≡ 11). eqb-false 11 b p.0 (sym q), λ (q : b ≡ 28). eqb-false 28 b p.1 (sym q))

-- ---- the count

module _ (n : ℕ) (h : n ≤ most_dropped) where
  on_within : (k : ℕ) → n + k ≤ most_dropped → counted_on n k ≡ n + k
  unfolding counted_on
  on_within k g = rw (le-leb k (most_dropped - n) (omega arith))

  on_over : (k : ℕ) → most_dropped < n + k → counted_on n k ≡ most_dropped
  unfolding counted_on
  on_over k g = rw (lt-leb k (most_dropped - n) (omega arith))

on_most : (n k : ℕ) → n ≤ most_dropped → most_dropped ≤ n + k → counted_on n k ≡ most_dropped
on_most n k h g = at (dec_lt most_dropped (n + k))
  where
    at : Dec (most_dropped < n + k) → counted_on n k ≡ most_dropped
    at (yes j) = on_over n h k j
    at (no j) = let e : n + k ≡ most_dropped = omega arith in on_within n h k (omega arith) ∙ e

pub counted_on_within : (n k : ℕ) → n ≤ most_dropped → counted_on n k ≤ most_dropped
counted_on_within n k h = at (dec_lt most_dropped (n + k))
  where
    at : Dec (most_dropped < n + k) → counted_on n k ≤ most_dropped
    at (yes g) = omega (arith, on_over n h k g)
    at (no g) = omega (arith, on_within n h k (omega arith))

counted_next : (n k : ℕ) → n ≤ most_dropped → counted_on (counted n) k ≡ counted_on n (suc k)
counted_next n k h = at (dec_lt n most_dropped) (dec_lt most_dropped (n + suc k))
  where
    at : Dec (n < most_dropped) → Dec (most_dropped < n + suc k) → counted_on (counted n) k ≡ counted_on n (suc k)
    at (yes g) (yes j) = ap (λ (m : ℕ). counted_on m k) (counted_more {n = n} g) ∙ on_over (n + 1) (omega arith) k (omega arith) ∙ sym (on_over n h (suc k) j)
    at (yes g) (no j) =
        let e : n + 1 + k ≡ n + suc k = omega arith in
        ap (λ (m : ℕ). counted_on m k) (counted_more {n = n} g) ∙ on_within (n + 1) (omega arith) k (omega arith) ∙ e ∙ sym (on_within n h (suc k) (omega arith))
    at (no g) q = ap (λ (m : ℕ). counted_on m k) (counted_most {n = n} (omega arith)) ∙ on_most n k h (omega arith) ∙ sym (on_over n h (suc k) (omega arith))

-- ---- runs

module _ (limit n : ℕ) where
  pub outside_run : (k used m : ℕ) (d l : List ℕ) → m ≤ most_dropped → k ≤ find 11 l
      → feeding limit (outside m) d used l ≡ feeding limit (outside (counted_on m k)) d (used + k) (drop k l)
  outside_run zero used m d l h g =
      let e : used ≡ used + 0 = omega arith in
      let c : m ≡ counted_on m 0 = omega (arith, on_within m h 0 (omega arith)) in
      ap (λ (j : ℕ). feeding limit (outside m) d j l) e ∙ ap (λ (j : ℕ). feeding limit (outside j) d (used + 0) l) c
  outside_run (suc k) used m d [] h g = absurd (run_none (eqb 11) k g)
  outside_run (suc k) used m d (b ∷ l) h g =
      let p = run_next (eqb 11) b l k g in
      let e : used + 1 + k ≡ used + suc k = omega arith in
      feed_quiet limit (outside m) (outside (counted m)) d used b l
      (step_outside_lem limit (outside m) b refl ∙ outside_drops m b (λ (q : b ≡ 11). eqb-false 11 b p.0 (sym q)))
      ∙ outside_run k (used + 1) (counted m) d l (counted_within m h) p.1
      ∙ ap (λ (j : ℕ). feeding limit (outside j) d (used + 1 + k) (drop k l)) (counted_next m k h)
      ∙ ap (λ (j : ℕ). feeding limit (outside (counted_on m (suc k))) d j (drop k l)) e

  pub inside_run : (k used h : ℕ) (d l : List ℕ) → k ≤ first framing l → h + k ≤ limit
      → feeding limit (inside h n) d used l ≡ feeding limit (inside (h + k) n) (sets d h (take k l)) (used + k) (drop k l)
  inside_run zero used h d l g f =
      let e : used ≡ used + 0 = omega arith in
      let c : h ≡ h + 0 = omega arith in
      ap (λ (j : ℕ). feeding limit (inside h n) d j l) e ∙ ap (λ (j : ℕ). feeding limit (inside j n) d (used + 0) l) c
  inside_run (suc k) used h d [] g f = absurd (run_none framing k g)
  inside_run (suc k) used h d (b ∷ l) g f =
      let p = run_next framing b l k g in
      let q = plain_byte b p.0 in
      let e : used + 1 + k ≡ used + suc k = omega arith in
      let c : h + 1 + k ≡ h + suc k = omega arith in
      feed_gather limit (inside h n) (inside (h + 1) n) d used b l (step_inside_lem limit (inside h n) b refl ∙ inside_gathers limit h n b q.0 q.1 (omega arith))
      ∙ inside_run k (used + 1) (h + 1) (set d h b) l p.1 (omega arith)
      ∙ ap (λ (j : ℕ). feeding limit (inside (h + 1 + k) n) (sets (set d h b) j (take k l)) (used + 1 + k) (drop k l)) (add-one h)
      ∙ ap (λ (j : ℕ). feeding limit (inside j n) (sets (set d h b) (suc h) (take k l)) (used + 1 + k) (drop k l)) c
      ∙ ap (λ (j : ℕ). feeding limit (inside (h + suc k) n) (sets (set d h b) (suc h) (take k l)) j (drop k l)) e

  pub skipping_run : (k used : ℕ) (d l : List ℕ) → k ≤ first framing l → feeding limit (skipping n) d used l ≡ feeding limit (skipping n) d (used + k) (drop k l)
  skipping_run zero used d l g = let e : used ≡ used + 0 = omega arith in ap (λ (j : ℕ). feeding limit (skipping n) d j l) e
  skipping_run (suc k) used d [] g = absurd (run_none framing k g)
  skipping_run (suc k) used d (b ∷ l) g =
      let p = run_next framing b l k g in
      let q = plain_byte b p.0 in
      let e : used + 1 + k ≡ used + suc k = omega arith in
      feed_quiet limit (skipping n) (skipping n) d used b l (step_skipping_lem limit (skipping n) b refl ∙ skipping_on n b q.0 q.1)
      ∙ skipping_run k (used + 1) d l p.1 ∙ ap (λ (j : ℕ). feeding limit (skipping n) d j (drop k l)) e

-- the code's two ways of counting on
pub counts_within : (n k : ℕ) → k ≤ most_dropped - n → n + k ≡ counted_on n k
unfolding counted_on
counts_within n k g = rw (le-leb k (most_dropped - n) g)

pub counts_over : (n k : ℕ) → most_dropped - n < k → most_dropped ≡ counted_on n k
unfolding counted_on
counts_over n k g = rw (lt-leb k (most_dropped - n) g)
