-- What a step gathers: what comes next behind one or another of the places that are in a set and have a name, counted place by place. Assumes nothing.
use mathlib.Core.Path.{◌≡◌, refl, sym, ap, ◌∙◌, subst}
use mathlib.Core.Logic.{◌⊎◌, inl, inr, ⊎_elim}
use mathlib.Core.Bool.{Bool, true, false, cond, ◌&&◌, ◌||◌}
use mathlib.Core.List.{List}
use Prim.Native.Nat.{ℕ, zero, suc, ◌+◌, ◌/◌, ◌%◌, ◌^◌, ◌<◌}
use native.Mathlib.Numerals.{add-one}
use lib.Bits.{bit_and, bit_or, and_mask}
use lib.ListN.{get_or}
use native.Mathlib.Decide.{dec_lt}
use native.Mathlib.Omega.{arith}
use lib.Dec.{T, eqb}
use borrow.Author.Tests.{eqb-true, eqb-false, eq-eqb, ne_eqb}
use Rattle.structure.specs.Engine.{bit, has, hasb, Entry, entry, into, join, entry_at, name_in, gathered}
use Rattle.structure.proofs.SetLaws.{has_zero, or_left, or_right, or_cases}
use Rattle.structure.proofs.FollowLaws.{T_left, T_right, T_cases}
use Rattle.structure.proofs.RunLaws.{Gathered}

-- the lowest digit
pub low_bit : (x : ℕ) → bit_and x 1 ≡ x % 2
low_bit x = and_mask x 1

module _ (tab : ℕ → Entry) where
  -- the same places
  pub gather_same : (H K : ℕ → Type 0) (e : Entry) → ((p : ℕ) → H p → K p) → ((p : ℕ) → K p → H p) → Gathered tab H e → Gathered tab K e
  gather_same H K e f g r = record {
    next_from = λ q h. let k = r.next_from q h in (k.0, f k.0 k.1, k.2);
    next_to = λ p q h n. r.next_to p q (g p h) n;
    ends_from = λ t. let k = r.ends_from t in (k.0, f k.0 k.1, k.2);
    ends_to = λ p h t. r.ends_to p (g p h) t;
  }

  -- one place more
  gather_more : (H : ℕ → Type 0) (e : Entry) (k : ℕ) → Gathered tab H e → Gathered tab (λ (p : ℕ). H p ⊎ (p ≡ k)) (join e (tab k))
  gather_more H e k r = record {
    next_from = λ q h. ⊎_elim (λ l. let j = r.next_from q l in (j.0, inl j.1, j.2)) (λ m. (k, inr refl, m)) (or_cases e.next (tab k).next q h);
    next_to = λ p q h n. ⊎_elim (λ l. or_left e.next (tab k).next q (r.next_to p q l n))
        (λ m. or_right e.next (tab k).next q (subst (λ (x : ℕ). has (tab x).next q) m n)) h;
    ends_from = λ t. ⊎_elim (λ l. let j = r.ends_from l in (j.0, inl j.1, j.2)) (λ m. (k, inr refl, m)) (T_cases e.ends (tab k).ends t);
    ends_to = λ p h n. ⊎_elim (λ l. T_left e.ends (tab k).ends (r.ends_to p l n))
        (λ m. T_right e.ends (tab k).ends (subst (λ (x : ℕ). T (tab x).ends) m n)) h;
  }

  module _ (H : ℕ → Type 0) where
    -- the places below k that are hit
    abbrev pub Below : ℕ → ℕ → Type 0
    Below k p = (p < k) × H p

    none : Gathered tab (Below 0) (into 0)
    none = record {
      next_from = λ q h. absurd (has_zero q h);
      next_to = λ p q h _. let l = h.0 in absurd (omega arith);
      ends_from = λ t. absurd t;
      ends_to = λ p h _. let l = h.0 in absurd (omega arith);
    }

    hit : (k : ℕ) (e : Entry) → H k → Gathered tab (Below k) e → Gathered tab (Below (suc k)) (join e (tab k))
    hit k e h r = gather_same (λ (p : ℕ). Below k p ⊎ (p ≡ k)) (Below (suc k)) (join e (tab k)) more less (gather_more (Below k) e k r)
      where
        more : (p : ℕ) → Below k p ⊎ (p ≡ k) → Below (suc k) p
        more p (inl b) = let l = b.0 in (omega arith, b.1)
        more p (inr m) = (omega arith, subst H (sym m) h)

        less : (p : ℕ) → Below (suc k) p → Below k p ⊎ (p ≡ k)
        less p b = go (dec_lt p k)
          where
            go : Dec (p < k) → Below k p ⊎ (p ≡ k)
            go (yes d) = inl (d, b.1)
            go (no d) = let l = b.0 in inr (omega arith)

    miss : (k : ℕ) (e : Entry) → (H k → ⊥) → Gathered tab (Below k) e → Gathered tab (Below (suc k)) e
    miss k e n r = gather_same (Below k) (Below (suc k)) e (λ p b. let l = b.0 in (omega arith, b.1)) less r
      where
        less : (p : ℕ) → Below (suc k) p → Below k p
        less p b = go (dec_lt p k)
          where
            go : Dec (p < k) → Below k p
            go (yes d) = (d, b.1)
            go (no d) = let l = b.0 in absurd (n (subst H (omega arith) b.1))

module _ (ns follow : List ℕ) (last set n : ℕ) where
  -- the places of the set that have the name
  abbrev pub Hit : ℕ → Type 0
  Hit p = has set p × (name_in ns p ≡ n)

  pub gathered_below : (k : ℕ) → Gathered (entry_at follow last) (Below (entry_at follow last) Hit k) (gathered ns follow last set n k)
  unfolding gathered
  gathered_below zero = none (entry_at follow last) Hit
  gathered_below (suc k) = at (hasb set k) refl (eqb (name_in ns k) n) refl (gathered_below k)
    where
      now_at : Entry
      now_at = gathered ns follow last set n k

      at : (t : Bool) → hasb set k ≡ t → (u : Bool) → eqb (name_in ns k) n ≡ u
          → Gathered (entry_at follow last) (Below (entry_at follow last) Hit k) now_at
          → Gathered (entry_at follow last) (Below (entry_at follow last) Hit (suc k)) (cond (t && u) (join now_at (entry_at follow last k)) now_at)
      at true e true f r = hit (entry_at follow last) Hit k now_at (eqb-true (bit set k) 1 e, eqb-true (name_in ns k) n f) r
      at true e false f r = miss (entry_at follow last) Hit k now_at (λ h. eqb-false (name_in ns k) n f h.1) r
      at false e u f r = miss (entry_at follow last) Hit k now_at (λ h. eqb-false (bit set k) 1 e h.0) r

  -- ---- one turn of a step: `test` and `ends` as the code has them

  pub gathered_hit : (k next : ℕ) (ends : Bool) → entry next ends ≡ gathered ns follow last set n k → bit_and (set / 2 ^ k) 1 ≡ 1 → get_or ns k 0 ≡ n
      → entry (bit_or next (get_or follow k 0)) (ends || eqb (bit_and (last / 2 ^ k) 1) 1) ≡ gathered ns follow last set n (k + 1)
  unfolding gathered
  gathered_hit k next ends e i f =
      let t : hasb set k ≡ true = eq-eqb (bit set k) 1 (sym (low_bit (set / 2 ^ k)) ∙ i) in
      rw add-one (rw (low_bit (last / 2 ^ k), ← e) (rw (t, eq-eqb (get_or ns k 0) n f)))

  missed : (k next : ℕ) (ends : Bool) → entry next ends ≡ gathered ns follow last set n k → (eqb (bit_and (set / 2 ^ k) 1) 1 && eqb (get_or ns k 0) n) ≡ false
      → entry next ends ≡ gathered ns follow last set n (k + 1)
  unfolding gathered
  missed k next ends e t = rw add-one (rw (rw (low_bit (set / 2 ^ k)) at t) e)

  -- a place that is not in the set
  pub gathered_out : (k next : ℕ) (ends : Bool) → entry next ends ≡ gathered ns follow last set n k → (bit_and (set / 2 ^ k) 1 ≡ 1 → ⊥)
      → entry next ends ≡ gathered ns follow last set n (k + 1)
  gathered_out k next ends e t = missed k next ends e (ap (λ (x : Bool). x && eqb (get_or ns k 0) n) (ne_eqb (bit_and (set / 2 ^ k) 1) 1 t))

  -- a place of another name
  pub gathered_other : (k next : ℕ) (ends : Bool) → entry next ends ≡ gathered ns follow last set n k → (get_or ns k 0 ≡ n → ⊥)
      → entry next ends ≡ gathered ns follow last set n (k + 1)
  gathered_other k next ends e t = missed k next ends e (at (eqb (bit_and (set / 2 ^ k) 1) 1))
    where
      at : (x : Bool) → (x && eqb (get_or ns k 0) n) ≡ false
      at true = ne_eqb (get_or ns k 0) n t
      at false = refl

  pub gathered_none : gathered ns follow last set n 0 ≡ into 0
  unfolding gathered
  gathered_none = refl
