-- A set of places without its lowest one, and that a step gathers the places of a set in any order. Assumes nothing.
use mathlib.Core.Path.{◌≡◌, refl, sym, ap, ap₂, ◌∙◌}
use mathlib.Core.Bool.{Bool, true, false, cond, ◌&&◌, ◌||◌}
use mathlib.Core.List.{List}
use Prim.Native.Nat.{ℕ, zero, suc, ◌+◌, ◌-◌, ◌/◌, ◌%◌, ◌^◌, ◌≤◌, ◌<◌, min}
use native.Mathlib.Decide.{ℕ_discrete}
use native.Mathlib.Nat.{zero-div}
use native.Mathlib.Omega.{arith}
use lib.Bits.{bit_and, bit_or, and_step, and_shr, and_self, or_shr, or_comm, or_zero_l}
use lib.Count.{count_trailing_zeros, under}
use lib.Dec.{eqb}
use lib.ListN.{get_or}
use lib.Pow.{shr-shr, shr_lt}
use borrow.Author.Tests.{eq-eqb, ne_eqb}
use Rattle.structure.specs.Engine.{bit, hasb, Entry, entry, into, join, entry_at, name_in, gathered}
use Rattle.structure.proofs.SetLaws.{bit_or_lem}
use Rattle.structure.proofs.GatherLaws.{low_bit}

-- ---- the lowest place

-- y is the set x without its place p
pub record Without (x p y : ℕ) : Type 0 where
  pub there : bit x p ≡ 1
  pub gone : bit y p ≡ 0
  pub same : (q : ℕ) → (q ≡ p → ⊥) → bit y q ≡ bit x q

bit_low : (m : ℕ) → bit m 0 ≡ m % 2
bit_low m = omega arith

bit_half : (m q : ℕ) → bit m (suc q) ≡ bit (m / 2) q
bit_half m q =
    let e : suc q ≡ 1 + q = omega arith in
    ap (λ (k : ℕ). m / 2 ^ k % 2) e ∙ sym (ap (λ (k : ℕ). k % 2) (shr-shr m 1 q))

and_half : (a b : ℕ) → bit_and a b / 2 ≡ bit_and (a / 2) (b / 2)
and_half a b = and_shr a b 1

and_low : (a b : ℕ) → bit_and a b % 2 ≡ min (a % 2) (b % 2)
and_low a b = rw and_step (omega arith)

without_low : (x y : ℕ) → x % 2 ≡ 1 → y % 2 ≡ 0 → y / 2 ≡ x / 2 → Without x 0 y
without_low x y h l e = record { there = bit_low x ∙ h; gone = bit_low y ∙ l; same = others }
  where
    others : (q : ℕ) → (q ≡ 0 → ⊥) → bit y q ≡ bit x q
    others zero n = absurd (n refl)
    others (suc q) n = bit_half y q ∙ ap (λ (m : ℕ). bit m q) e ∙ sym (bit_half x q)

without_high : (x p y : ℕ) → x % 2 ≡ 0 → y % 2 ≡ 0 → Without (x / 2) p (y / 2) → Without x (suc p) y
without_high x p y h l w = record { there = bit_half x p ∙ w.there; gone = bit_half y p ∙ w.gone; same = others }
  where
    others : (q : ℕ) → (q ≡ suc p → ⊥) → bit y q ≡ bit x q
    others zero n = bit_low y ∙ l ∙ sym (bit_low x ∙ h)
    others (suc q) n = bit_half y q ∙ w.same q (λ (e : q ≡ p). n (ap suc e)) ∙ sym (bit_half x q)

-- `x & (x - 1)` is the set without its lowest place
pub without_lowest : (k x : ℕ) → 0 < x → x < 2 ^ k → Without x (count_trailing_zeros k x) (bit_and x (x - 1))
unfolding count_trailing_zeros
without_lowest zero x h l = absurd (omega arith)
without_lowest (suc k) x h l = at (x % 2) refl (without_lowest k (x / 2))
  where
    at : (d : ℕ) → x % 2 ≡ d → (0 < x / 2 → x / 2 < 2 ^ k → Without (x / 2) (count_trailing_zeros k (x / 2)) (bit_and (x / 2) (x / 2 - 1)))
        → Without x (under d (count_trailing_zeros k (x / 2))) (bit_and x (x - 1))
    at zero e rest =
        let m : (x - 1) / 2 ≡ x / 2 - 1 = omega arith in
        let z : bit_and x (x - 1) % 2 ≡ 0 = omega (arith, and_low x (x - 1)) in
        let s : suc k ≡ k + 1 = omega arith in
        let f : bit_and x (x - 1) / 2 ≡ bit_and (x / 2) (x / 2 - 1) = and_half x (x - 1) ∙ ap (bit_and (x / 2)) m in
        without_high x (count_trailing_zeros k (x / 2)) (bit_and x (x - 1)) e z
        (rw f (rest (omega arith) (shr_lt k 1 (rw (← s) l))))
    at (suc d) e rest =
        let o : x % 2 ≡ 1 = omega arith in
        let m : (x - 1) / 2 ≡ x / 2 = omega arith in
        let z : bit_and x (x - 1) % 2 ≡ 0 = omega (arith, and_low x (x - 1)) in
        without_low x (bit_and x (x - 1)) o z (and_half x (x - 1) ∙ ap (bit_and (x / 2)) m ∙ and_self (x / 2))

-- ---- what comes next behind one place and another, in any order

or_half : (a b : ℕ) → bit_or a b / 2 ≡ bit_or (a / 2) (b / 2)
or_half a b = or_shr a b 1

or_grouped_below : (k a b c : ℕ) → a ≤ k → bit_or (bit_or a b) c ≡ bit_or a (bit_or b c)
or_grouped_below zero a b c h =
    let z : a ≡ 0 = omega arith in
    ap (λ (x : ℕ). bit_or (bit_or x b) c) z ∙ ap (λ (x : ℕ). bit_or x c) (or_zero_l b) ∙ sym (ap (λ (x : ℕ). bit_or x (bit_or b c)) z ∙ or_zero_l (bit_or b c))
or_grouped_below (suc k) a b c h =
    let i = or_grouped_below k (a / 2) (b / 2) (c / 2) (omega arith) in
    let l : bit_or (bit_or a b) c / 2 ≡ bit_or (bit_or (a / 2) (b / 2)) (c / 2) = or_half (bit_or a b) c ∙ ap (λ (x : ℕ). bit_or x (c / 2)) (or_half a b) in
    let r : bit_or a (bit_or b c) / 2 ≡ bit_or (a / 2) (bit_or (b / 2) (c / 2)) = or_half a (bit_or b c) ∙ ap (bit_or (a / 2)) (or_half b c) in
    omega (arith, i, l, r, bit_or_lem (bit_or a b) c 0, bit_or_lem a b 0, bit_or_lem a (bit_or b c) 0, bit_or_lem b c 0)

or_grouped : (a b c : ℕ) → bit_or (bit_or a b) c ≡ bit_or a (bit_or b c)
or_grouped a b c = or_grouped_below a a b c (omega arith)

either_grouped : (a b c : Bool) → ((a || b) || c) ≡ (a || (b || c))
either_grouped true b c = refl
either_grouped false b c = refl

either_turned : (a b : Bool) → (a || b) ≡ (b || a)
either_turned true true = refl
either_turned true false = refl
either_turned false true = refl
either_turned false false = refl

join_grouped : (a b c : Entry) → join (join a b) c ≡ join a (join b c)
join_grouped a b c = ap₂ entry (or_grouped a.next b.next c.next) (either_grouped a.ends b.ends c.ends)

join_turned : (a b : Entry) → join a b ≡ join b a
join_turned a b = ap₂ entry (or_comm a.next b.next) (either_turned a.ends b.ends)

join_swapped : (a b c : Entry) → join (join a b) c ≡ join (join a c) b
join_swapped a b c = join_grouped a b c ∙ ap (join a) (join_turned b c) ∙ sym (join_grouped a c b)

pub join_none : (a : Entry) → join (into 0) a ≡ a
join_none a = ap (λ (m : ℕ). entry m a.ends) (or_zero_l a.next)

-- ---- what a step gathers of a set, and of the set without a place

module _ (ns follow : List ℕ) (last n : ℕ) where
  -- place q is in the set x and has the name
  abbrev hits : ℕ → ℕ → Bool
  hits x q = hasb x q && eqb (name_in ns q) n

  abbrev of : ℕ → ℕ → Entry
  of x k = gathered ns follow last x n k

  -- two sets of which the same places are hit
  alike : (x y k : ℕ) → ((q : ℕ) → q < k → hits y q ≡ hits x q) → of y k ≡ of x k
  unfolding gathered
  alike x y zero h = refl
  alike x y (suc k) h =
      ap₂ (λ (t : Bool) (g : Entry). cond t (join g (entry_at follow last k)) g) (h k (omega arith)) (alike x y k (λ q l. h q (omega arith)))

  -- the place is past those that are looked at
  pub without_past : (x p y k : ℕ) → Without x p y → k ≤ p → of y k ≡ of x k
  without_past x p y k w h =
      alike x y k (λ q l. ap (λ (b : ℕ). eqb b 1 && eqb (name_in ns q) n) (w.same q (λ (e : q ≡ p). omega arith)))

  -- the place has another name
  pub without_other : (x p y k : ℕ) → Without x p y → (get_or ns p 0 ≡ n → ⊥) → of y k ≡ of x k
  without_other x p y k w m = alike x y k (λ q l. at q (ℕ_discrete q p))
    where
      neither : (s t u : Bool) → u ≡ false → (s && u) ≡ (t && u)
      neither true true u e = refl
      neither true false u e = e
      neither false true u e = sym e
      neither false false u e = refl

      at : (q : ℕ) → Dec (q ≡ p) → hits y q ≡ hits x q
      at q (yes e) = neither (hasb y q) (hasb x q) (eqb (name_in ns q) n) (ap (λ (k : ℕ). eqb (name_in ns k) n) e ∙ ne_eqb (get_or ns p 0) n m)
      at q (no e) = ap (λ (b : ℕ). eqb b 1 && eqb (name_in ns q) n) (w.same q e)

  -- the place has the name
  taken : (x p y : ℕ) → Without x p y → get_or ns p 0 ≡ n → (k : ℕ) → p < k → of x k ≡ join (of y k) (entry_at follow last p)
  unfolding gathered
  taken x p y w m zero h = absurd (omega arith)
  taken x p y w m (suc k) h = at (ℕ_discrete k p) (taken x p y w m k)
    where
      over : (t : Bool) (g g' : Entry) → g ≡ join g' (entry_at follow last p)
          → cond t (join g (entry_at follow last k)) g ≡ join (cond t (join g' (entry_at follow last k)) g') (entry_at follow last p)
      over true g g' e = ap (λ (i : Entry). join i (entry_at follow last k)) e ∙ join_swapped g' (entry_at follow last p) (entry_at follow last k)
      over false g g' e = e

      at : Dec (k ≡ p) → (p < k → of x k ≡ join (of y k) (entry_at follow last p)) → of x (suc k) ≡ join (of y (suc k)) (entry_at follow last p)
      at (yes e) ih =
          let i : hasb x k ≡ true = ap (λ (q : ℕ). hasb x q) e ∙ eq-eqb (bit x p) 1 w.there in
          let o : hasb y k ≡ false = ap (λ (q : ℕ). hasb y q) e ∙ ne_eqb (bit y p) 1 (λ (z : bit y p ≡ 1). omega (arith, w.gone)) in
          let j : eqb (name_in ns k) n ≡ true = ap (λ (q : ℕ). eqb (name_in ns q) n) e ∙ eq-eqb (get_or ns p 0) n m in
          let g : of y k ≡ of x k = without_past x p y k w (omega arith) in
          rw (i, o, j, g, e)
      at (no e) ih =
          ap (λ (t : Bool). cond t (join (of x k) (entry_at follow last k)) (of x k)) (sym (ap (λ (b : ℕ). eqb b 1 && eqb (name_in ns k) n) (w.same k e)))
          ∙ over (hits y k) (of x k) (of y k) (ih (omega arith))

  -- one turn of a step: `ends` as the code has it
  pub without_hit : (x p y k next : ℕ) (ends : Bool) → Without x p y → p < k → get_or ns p 0 ≡ n
      → join (entry (bit_or next (get_or follow p 0)) (ends || eqb (bit_and (last / 2 ^ p) 1) 1)) (of y k) ≡ join (entry next ends) (of x k)
  without_hit x p y k next ends w h m =
      ap (λ (d : ℕ). join (entry (bit_or next (get_or follow p 0)) (ends || eqb d 1)) (of y k)) (low_bit (last / 2 ^ p))
      ∙ join_grouped (entry next ends) (entry_at follow last p) (of y k)
      ∙ ap (join (entry next ends)) (join_turned (entry_at follow last p) (of y k) ∙ sym (taken x p y w m k h))

  -- nothing is gathered of no place
  gathered_nothing : (k : ℕ) → of 0 k ≡ into 0
  unfolding gathered
  gathered_nothing zero = refl
  gathered_nothing (suc k) =
      let o : hasb 0 k ≡ false = ne_eqb (bit 0 k) 1 (λ (z : bit 0 k ≡ 1). omega (arith, zero-div (2 ^ k))) in
      rw o (gathered_nothing k)

  pub nothing_left : (k next : ℕ) (ends : Bool) → join (entry next ends) (of 0 k) ≡ entry next ends
  nothing_left k next ends =
      ap (join (entry next ends)) (gathered_nothing k) ∙ join_turned (entry next ends) (into 0) ∙ join_none (entry next ends)
