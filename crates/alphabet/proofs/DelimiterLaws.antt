-- Laws of the five delimiters: what the check of number 3 cites, and what holds of five that pass it. Assumes nothing.
use mathlib.Core.Path.{◌≡◌, refl, sym, ap, ◌∙◌}
use mathlib.Core.List.{List}
use mathlib.Core.Bool.{true, false, not}
use Prim.Native.Nat.{ℕ, zero, suc, ◌+◌, ◌≤◌, ◌<◌}
use native.Mathlib.Omega.{arith}
use lib.Dec.{ltb}
use lib.ListN.{length, get_or, drop}
use borrow.Author.Tests.{not-false, lt-ltb, le-ltb, ltb-false}
use Rattle.alphabet.specs.Lists.{first, find}
use Rattle.alphabet.specs.Delimiters.{permitted, wrong, places, first_wrong_delimiter}
use Rattle.alphabet.proofs.BoolLaws.{or_neither}
use Rattle.alphabet.proofs.ListLaws.{first_here, first_past, first_end, first_before, first_le, find_own}

pub place_own : (i : ℕ) → i < 5 → get_or places i 0 ≡ i
place_own zero h = refl
place_own (suc zero) h = refl
place_own (suc (suc zero)) h = refl
place_own (suc (suc (suc zero))) h = refl
place_own (suc (suc (suc (suc zero)))) h = refl
place_own (suc (suc (suc (suc (suc i))))) h = absurd (omega arith)

-- ---- the delimiter at place i

pub wrong_not_permitted : (ds : List ℕ) (i : ℕ) → permitted (get_or ds i 0) ≡ false → wrong ds i ≡ true
wrong_not_permitted ds i e = rw e

pub wrong_again : (ds : List ℕ) (i : ℕ) → permitted (get_or ds i 0) ≡ true → find (get_or ds i 0) ds < i → wrong ds i ≡ true
wrong_again ds i e h = rw (e, lt-ltb _ _ h)

pub right : (ds : List ℕ) (i : ℕ) → permitted (get_or ds i 0) ≡ true → i ≤ find (get_or ds i 0) ds → wrong ds i ≡ false
right ds i e h = rw (e, le-ltb _ _ h)

-- ---- the first wrong one, from place i on

module _ (ds : List ℕ) (i : ℕ) (h : i < 5) where
  pub wrong_here : wrong ds i ≡ true → first (wrong ds) (drop i places) ≡ 0
  wrong_here e = first_here (wrong ds) places i h (ap (wrong ds) (place_own i h) ∙ e)

  -- that it equals an earlier one makes it the first that is wrong
  pub again_here : permitted (get_or ds i 0) ≡ true → find (get_or ds i 0) ds < i → first (wrong ds) (drop i places) ≡ 0
  again_here e g = wrong_here (wrong_again ds i e g)

  pub wrong_past : wrong ds i ≡ false → first (wrong ds) (drop i places) ≡ suc (first (wrong ds) (drop (i + 1) places))
  wrong_past e = first_past (wrong ds) places i h (ap (wrong ds) (place_own i h) ∙ e)

pub wrong_end : (ds : List ℕ) (i : ℕ) → 5 ≤ i → first (wrong ds) (drop i places) ≡ 0
wrong_end ds i h = first_end (wrong ds) places i h

pub wrong_most : (ds : List ℕ) → first_wrong_delimiter ds ≤ 5
unfolding first_wrong_delimiter
wrong_most ds = first_le (wrong ds) places

-- ---- five delimiters that pass are permitted and differ

module _ (ds : List ℕ) (five : length ds ≡ 5) (passes : first_wrong_delimiter ds ≡ 5) (i : ℕ) (h : i < 5) where
  both : (permitted (get_or ds i 0) ≡ true) × (i ≤ find (get_or ds i 0) ds)
  unfolding first_wrong_delimiter
  both =
      let e = ap (wrong ds) (sym (place_own i h)) ∙ first_before (wrong ds) places i (omega arith) in
      let b = or_neither (not (permitted (get_or ds i 0))) (ltb (find (get_or ds i 0) ds) i) e in
      (not-false _ b.0, ltb-false _ _ b.1)

  pub delimiter_permitted : permitted (get_or ds i 0) ≡ true
  delimiter_permitted = both.0

  -- each is found at its own place
  pub delimiter_own : find (get_or ds i 0) ds ≡ i
  delimiter_own =
      let u = find_own ds i (omega arith) in
      let l = both.1 in
      omega arith

-- "the five differ"
pub delimiters_differ : (ds : List ℕ) → length ds ≡ 5 → first_wrong_delimiter ds ≡ 5 → (i j : ℕ) → i < 5 → j < 5 → get_or ds i 0 ≡ get_or ds j 0 → i ≡ j
delimiters_differ ds five p i j h k e =
    sym (delimiter_own ds five p i h) ∙ ap (λ (b : ℕ). find b ds) e ∙ delimiter_own ds five p j k
