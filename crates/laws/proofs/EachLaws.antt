-- What holds of each byte of a list: of lists put together, of the parts at a separator, and of parts joined. Assumes nothing.
use mathlib.Core.Path.{◌≡◌, refl, sym, ap}
use mathlib.Core.List.{List, [], ◌∷◌, ◌++◌}
use mathlib.Core.Bool.{Bool, true, false, cond}
use Prim.Native.Nat.{ℕ, zero, suc, ◌<◌}
use native.Mathlib.Omega.{arith}
use lib.Dec.{eqb}
use lib.ListN.{length, get_or, take}
use borrow.Author.Tests.{eqb-false, ne_eqb}
use Rattle.alphabet.specs.Lists.{first, find}
use Rattle.alphabet.specs.Parts.{grown, split, join}

-- P holds of each byte
unfoldable pub Each : (ℕ → Type 0) → List ℕ → Type 0
Each P [] = Unit {0}
Each P (b ∷ r) = P b × Each P r

-- Q holds of each part
unfoldable pub Every : (List ℕ → Type 0) → List (List ℕ) → Type 0
Every Q [] = Unit {0}
Every Q (p ∷ ps) = Q p × Every Q ps

module _ (P : ℕ → Type 0) where
  pub each_append : (s r : List ℕ) → Each P s → Each P r → Each P (s ++ r)
  unfolding Each
  each_append [] r h k = k
  each_append (b ∷ s) r h k = (h.0, each_append s r h.1 k)

  pub each_at : (s : List ℕ) → Each P s → (i : ℕ) → i < length s → P (get_or s i 0)
  unfolding Each
  each_at [] h i l = absurd (omega arith)
  each_at (b ∷ s) h zero l = h.0
  each_at (b ∷ s) h (suc i) l = each_at s h.1 i (omega arith)

  pub at_each : (s : List ℕ) → ((i : ℕ) → i < length s → P (get_or s i 0)) → Each P s
  unfolding Each
  at_each [] h = tt
  at_each (b ∷ s) h = (h 0 (omega arith), at_each s (λ i l. h (suc i) (omega arith)))

  pub each_take : (n : ℕ) (s : List ℕ) → Each P s → Each P (take n s)
  unfolding Each
  each_take zero s h = tt
  each_take (suc n) [] h = tt
  each_take (suc n) (b ∷ s) h = (h.0, each_take n s h.1)

  -- of each part of a list
  each_grown : (b : ℕ) (ps : List (List ℕ)) → P b → Every (Each P) ps → Every (Each P) (grown b ps)
  unfolding Each Every
  each_grown b [] h k = ((h, tt), tt)
  each_grown b (p ∷ ps) h k = ((h, k.0), k.1)

  pub each_split : (sep : ℕ) (l : List ℕ) → Each P l → Every (Each P) (split sep l)
  unfolding Each Every split
  each_split sep [] h = (tt, tt)
  each_split sep (b ∷ l) h = at (eqb sep b) (each_split sep l h.1)
    where
      at : (t : Bool) → Every (Each P) (split sep l) → Every (Each P) (cond t ([] ∷ split sep l) (grown b (split sep l)))
      at true k = (tt, k)
      at false k = each_grown b (split sep l) h.0 k

  -- of parts joined
  pub each_join : (sep : ℕ) (ps : List (List ℕ)) → P sep → Every (Each P) ps → Each P (join sep ps)
  unfolding Each Every join
  each_join sep [] s h = tt
  each_join sep (p ∷ []) s h = h.0
  each_join sep (p ∷ q ∷ ps) s h = each_append p (sep ∷ join sep (q ∷ ps)) h.0 (s, each_join sep (q ∷ ps) s h.1)

pub each_weaken : (P R : ℕ → Type 0) → ((b : ℕ) → P b → R b) → (s : List ℕ) → Each P s → Each R s
unfolding Each
each_weaken P R f [] h = tt
each_weaken P R f (b ∷ s) h = (f b h.0, each_weaken P R f s h.1)

pub each_both : (P R : ℕ → Type 0) (s : List ℕ) → Each P s → Each R s → Each (λ (b : ℕ). P b × R b) s
unfolding Each
each_both P R [] h k = tt
each_both P R (b ∷ s) h k = ((h.0, k.0), each_both P R s h.1 k.1)

pub every_weaken : (Q R : List ℕ → Type 0) → ((p : List ℕ) → Q p → R p) → (ps : List (List ℕ)) → Every Q ps → Every R ps
unfolding Every
every_weaken Q R f [] h = tt
every_weaken Q R f (p ∷ ps) h = (f p h.0, every_weaken Q R f ps h.1)

-- the part at a place, or none past the last
pub every_at : (Q : List ℕ → Type 0) (ps : List (List ℕ)) → Q [] → Every Q ps → (k : ℕ) → Q (get_or ps k [])
unfolding Every
every_at Q [] n h k = n
every_at Q (p ∷ ps) n h zero = h.0
every_at Q (p ∷ ps) n h (suc k) = every_at Q ps n h.1 k

-- ---- a byte that stands nowhere in a list

pub each_free : (x : ℕ) (l : List ℕ) → Each (λ (b : ℕ). b ≡ x → ⊥) l → find x l ≡ length l
unfolding Each first
each_free x [] h = refl
each_free x (b ∷ l) h = rw (ne_eqb x b (λ e. h.0 (sym e))) (ap suc (each_free x l h.1))

pub free_each : (x : ℕ) (l : List ℕ) → find x l ≡ length l → Each (λ (b : ℕ). b ≡ x → ⊥) l
unfolding Each first
free_each x [] e = tt
free_each x (b ∷ l) e = at (eqb x b) refl e (free_each x l)
  where
    at : (t : Bool) → eqb x b ≡ t → cond t 0 (suc (find x l)) ≡ suc (length l) → (find x l ≡ length l → Each (λ (b : ℕ). b ≡ x → ⊥) l) → (b ≡ x → ⊥) × Each (λ (b : ℕ). b ≡ x → ⊥) l
    at true q e r = absurd (omega arith)
    at false q e r = (λ h. eqb-false x b q (sym h), r (omega arith))

-- no part at a separator holds it
pub split_each : (sep : ℕ) (l : List ℕ) → Every (Each (λ (b : ℕ). b ≡ sep → ⊥)) (split sep l)
unfolding Each Every split
split_each sep [] = (tt, tt)
split_each sep (b ∷ l) = at (eqb sep b) refl (split_each sep l)
  where
    at : (t : Bool) → eqb sep b ≡ t → Every (Each (λ (b : ℕ). b ≡ sep → ⊥)) (split sep l) → Every (Each (λ (b : ℕ). b ≡ sep → ⊥)) (cond t ([] ∷ split sep l) (grown b (split sep l)))
    at true e k = (tt, k)
    at false e k = each_grown (λ (b : ℕ). b ≡ sep → ⊥) b (split sep l) (λ h. eqb-false sep b e (sym h)) k
