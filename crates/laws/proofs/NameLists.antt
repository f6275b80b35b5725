-- The names that could have stood, asked for one by one: by the numbers below their count exactly the names of the list, each once, and 0 past it. Assumes nothing.
use mathlib.Core.Path.{◌≡◌, refl, sym, ap, ◌∙◌}
use mathlib.Core.List.{List, [], ◌∷◌, ◌++◌, map}
use mathlib.Core.Bool.{Bool, true, false}
use Prim.Native.Nat.{ℕ, zero, suc, ◌+◌, ◌≤◌, ◌<◌}
use native.Mathlib.Omega.{arith}
use lib.Dec.{leb}
use lib.ListN.{length, get_or, replicate}
use borrow.Author.Tests.{leb-true, leb-false}
use Rattle.structure.specs.Listed.{In, here, there, Rising, Listed}

-- ---- a list by its numbers

pub in_at : (l : List ℕ) (i : ℕ) → i < length l → In (get_or l i 0) l
in_at [] i h = absurd (omega arith)
in_at (x ∷ l) zero h = here
in_at (x ∷ l) (suc i) h = there (in_at l i (omega arith))

pub at_in : {x : ℕ} {l : List ℕ} → In x l → (i : ℕ) × (i < length l) × (get_or l i 0 ≡ x)
at_in here = (0, omega arith, refl)
at_in (there m) = let r = at_in m in let h = r.1 in (suc r.0, omega arith, r.2)

pub front_at : (l r : List ℕ) (i : ℕ) → i < length l → get_or (l ++ r) i 0 ≡ get_or l i 0
front_at [] r i h = absurd (omega arith)
front_at (x ∷ l) r zero h = refl
front_at (x ∷ l) r (suc i) h = front_at l r i (omega arith)

zeros : (n i : ℕ) → get_or (replicate {A = ℕ} n 0) i 0 ≡ 0
zeros zero i = refl
zeros (suc n) zero = refl
zeros (suc n) (suc i) = zeros n i

pub behind_at : (l : List ℕ) (n i : ℕ) → length l ≤ i → get_or (l ++ replicate n 0) i 0 ≡ 0
behind_at [] n i h = zeros n i
behind_at (x ∷ l) n zero h = absurd (omega arith)
behind_at (x ∷ l) n (suc i) h = behind_at l n i (omega arith)

mapped_length : (f : ℕ → ℕ) (l : List ℕ) → length (map f l) ≡ length l
mapped_length f [] = refl
mapped_length f (x ∷ l) = ap suc (mapped_length f l)

mapped_at : (f : ℕ → ℕ) (l : List ℕ) (i : ℕ) → i < length l → get_or (map f l) i 0 ≡ f (get_or l i 0)
mapped_at f [] i h = absurd (omega arith)
mapped_at f (x ∷ l) zero h = refl
mapped_at f (x ∷ l) (suc i) h = mapped_at f l i (omega arith)

-- ---- each once

rising_from : (k : ℕ) (ps : List ℕ) (i : ℕ) → Rising k ps → i < length ps → k ≤ get_or ps i 0
rising_from k [] i r h = absurd (omega arith)
rising_from k (p ∷ ps) zero r h = r.0
rising_from k (p ∷ ps) (suc i) r h = let a = r.0 in let b = rising_from (suc p) ps i r.1 (omega arith) in omega arith

rising_less : (k : ℕ) (ps : List ℕ) (i j : ℕ) → Rising k ps → i < j → j < length ps → get_or ps i 0 < get_or ps j 0
rising_less k [] i j r l h = absurd (omega arith)
rising_less k (p ∷ ps) i zero r l h = absurd (omega arith)
rising_less k (p ∷ ps) zero (suc j) r l h = rising_from (suc p) ps j r.1 (omega arith)
rising_less k (p ∷ ps) (suc i) (suc j) r l h = rising_less (suc p) ps i j r.1 (omega arith) (omega arith)

module _ (Possible : ℕ → Type 0) (name_at : ℕ → ℕ) (l : List ℕ) (g : Listed Possible name_at l) where
  sizes : length l ≡ length g.places
  sizes = ap length g.named ∙ mapped_length name_at g.places

  name_is : (i : ℕ) → i < length l → get_or l i 0 ≡ name_at (get_or g.places i 0)
  name_is i h = let n = sizes in ap (λ (x : List ℕ). get_or x i 0) g.named ∙ mapped_at name_at g.places i (omega arith)

  never_again : (i j : ℕ) → i < j → j < length l → get_or l i 0 ≡ get_or l j 0 → ⊥
  never_again i j h k e =
      let n = sizes in
      let p = get_or g.places i 0 in
      let q = get_or g.places j 0 in
      let first = (g.exactly p).0 (in_at g.places i (omega arith)) in
      let later = (g.exactly q).0 (in_at g.places j (omega arith)) in
      later.no_earlier p (rising_less 0 g.places i j g.rising h (omega arith)) first.possible (sym (name_is i (omega arith)) ∙ e ∙ name_is j k)

  pub once_each : (i j : ℕ) → i < length l → j < length l → get_or l i 0 ≡ get_or l j 0 → i ≡ j
  once_each i j h k e = at (leb (i + 1) j) refl (leb (j + 1) i) refl
    where
      at : (s : Bool) → leb (i + 1) j ≡ s → (t : Bool) → leb (j + 1) i ≡ t → i ≡ j
      at true a t b = let n = leb-true (i + 1) j a in absurd (never_again i j (omega arith) k e)
      at false a true b = let n = leb-true (j + 1) i b in absurd (never_again j i (omega arith) h (sym e))
      at false a false b = let n = leb-false (i + 1) j a in let m = leb-false (j + 1) i b in omega arith
