-- What is known after some names, for every structure that the tables fit: what can come next is exactly what the grammar says. Assumes nothing.
use mathlib.Core.Path.{◌≡◌, refl, sym, ap, ◌∙◌, subst}
use mathlib.Core.Logic.{◌⊎◌, inl, inr, ⊎_elim, ◌↔◌}
use mathlib.Core.Bool.{false}
use mathlib.Core.List.{List, [], ◌∷◌, ◌++◌, map}
use Prim.Native.Nat.{ℕ, suc, ◌+◌, ◌/◌, ◌%◌, ◌<◌}
use native.Mathlib.Nat.{div-one}
use native.Mathlib.Decide.{ℕ_discrete}
use native.Mathlib.Omega.{arith}
use lib.Arith.{bin_ind}
use lib.Pow.{shr-shr}
use lib.Dec.{T}
use lib.ListN.{length}
use Rattle.structure.specs.Shapes.{Shape, Yields, Viable, Fills, Possible, names, size, name_at, numbered}
use Rattle.structure.specs.Shapes.Shape.{end, seg, opt, rep}
use Rattle.structure.specs.Engine.{has, Entry, stop, enter, Fits, entry_at, name_in, stepped}
use Rattle.structure.proofs.SetLaws.{has_zero}
use Rattle.structure.proofs.FollowLaws.{Acc, live, some, Label}
use Rattle.structure.proofs.PlaceLaws.{yields_is, size_is}
use Rattle.structure.proofs.RunLaws.{Stepped, Holds, start, step, Inside, start_inside, step_inside_lem, ends_is, next_is}
use Rattle.structure.proofs.GatherLaws.{Hit, Below, gather_same, gathered_below}

-- the places of a structure whose first is k
pub label_below : (s : Shape) (k p : ℕ) → Label (numbered k s) p → p < k + size s
label_below end k p l = absurd l
label_below (seg n s) k p (inl e) = omega arith
label_below (seg n s) k p (inr l) = let h = label_below s (suc k) p l in omega arith
label_below (opt b s) k p (inl l) = let h = label_below b k p l in omega arith
label_below (opt b s) k p (inr l) = let h = label_below s (k + size b) p l in omega arith
label_below (rep b s) k p (inl l) = let h = label_below b k p l in omega arith
label_below (rep b s) k p (inr l) = let h = label_below s (k + size b) p l in omega arith

pub map_append : (f : ℕ → ℕ) (xs ys : List ℕ) → map f (xs ++ ys) ≡ map f xs ++ map f ys
map_append f [] ys = refl
map_append f (x ∷ xs) ys = ap (λ (l : List ℕ). f x ∷ l) (map_append f xs ys)

-- a list that maps to two lists joined is two lists joined
Parts : (ℕ → ℕ) → List ℕ → List ℕ → Type 0
Parts f xs ys = (us : List ℕ) × (vs : List ℕ) × (xs ≡ us ++ vs) × (map f us ≡ ys)

parts : (f : ℕ → ℕ) (xs ys zs : List ℕ) → map f xs ≡ ys ++ zs → Parts f xs ys
unfolding Parts
parts f xs [] zs e = ([], xs, refl, refl)
parts f [] (y ∷ ys) zs e = let z : ◌≡◌ {A = ℕ} 0 1 = cc in absurd (omega arith)
parts f (x ∷ xs) (y ∷ ys) zs e =
    let k = parts f xs ys zs (cc) in
    let k3 = k.3 in
    (x ∷ k.0, k.1, ap (λ (l : List ℕ). x ∷ l) k.2, cc)

-- a number that is not 0 has a digit that is 1
some_bit : (m : ℕ) → (m ≡ 0 → ⊥) → (q : ℕ) × has m q
some_bit = bin_ind (λ (m : ℕ). (m ≡ 0 → ⊥) → (q : ℕ) × has m q) (λ n. absurd (n refl)) up
  where
    up : (m : ℕ) → ((m / 2 ≡ 0 → ⊥) → (q : ℕ) × has (m / 2) q) → (m ≡ 0 → ⊥) → (q : ℕ) × has m q
    up m ih n = go (ℕ_discrete (m / 2) 0)
      where
        go : Dec (m / 2 ≡ 0) → (q : ℕ) × has m q
        go (yes z) = (0, omega (arith, div-one m))
        go (no z) = let k = ih z in (1 + k.0, ap (λ (x : ℕ). x % 2) (sym (shr-shr m 1 k.0)) ∙ k.1)

module _ (s : Shape) (ns follow : List ℕ) (last : ℕ) (named : ns ≡ names s) (fits : Fits (entry_at follow last) (numbered 0 s) stop) where
  abbrev tab : ℕ → Entry
  tab = entry_at follow last

  pub record Going (ms : List ℕ) (e : Entry) : Type 0 where
    pub holds : Holds s (entry_at follow last) ms e
    pub inside : Inside s (entry_at follow last) fits e
    pub viable : Viable s ms

  pub begun : (begin : Entry) → begin ≡ enter (numbered 0 s) stop → Going [] begin
  begun begin e = rw e (record { holds = start s tab fits; inside = start_inside s tab fits; viable = some s [] })

  -- some way on shows that the names begin a yielded list
  viable_of : (ns : List ℕ) (e : Entry) → Holds s tab ns e → (ws : List ℕ) → Acc tab e ws → Viable s ns
  unfolding Holds
  viable_of ns e h ws a =
      let k = (h ws).0 a in
      let k1 = k.1 in
      (map (name_at s) ws, (yields_is s (ns ++ map (name_at s) ws)).1 (k.0 ++ ws, map_append (name_at s) k.0 ws ∙ ap (λ (l : List ℕ). l ++ map (name_at s) ws) k1, k.2))

  way_of : (ns : List ℕ) (e : Entry) → Holds s tab ns e → Viable s ns → (ws : List ℕ) × Acc tab e ws
  unfolding Holds Parts
  way_of ns e h v =
      let c = (yields_is s (ns ++ v.0)).0 v.1 in
      let k = parts (name_at s) c.0 ns v.0 c.1 in
      (k.1, (h k.1).1 (k.0, k.3, subst (λ (l : List ℕ). Fills s l) k.2 c.2))

  no_way : (e : Entry) → e.next ≡ 0 → e.ends ≡ false → (ws : List ℕ) → Acc tab e ws → ⊥
  no_way e z f [] a = subst T f a
  no_way e z f (q ∷ ws) a = has_zero q (subst (λ (x : ℕ). has x q) z a.0)

  -- a step of the tables is one of the structure
  steps : (e : Entry) (n : ℕ) → Inside s tab fits e → Stepped tab (name_at s) e.next n (stepped ns follow last e.next n)
  unfolding Inside
  steps e n i =
      gather_same tab (Below tab (Hit ns follow last e.next n) (length ns)) (λ (p : ℕ). has e.next p × (name_at s p ≡ n)) (stepped ns follow last e.next n)
      (λ p h. (h.1.0, sym (same p) ∙ h.1.1)) (λ p h. (inside_of p h.0, (h.0, same p ∙ h.1))) (gathered_below ns follow last e.next n (length ns))
    where
      same : (p : ℕ) → name_in ns p ≡ name_at s p
      same p = ap (λ (l : List ℕ). name_in l p) named

      inside_of : (p : ℕ) → has e.next p → p < length ns
      inside_of p h = let l = label_below s 0 p (i p h) in omega (arith, size_is s, ap length named)

  -- one name more
  pub onward : (ms : List ℕ) (n : ℕ) (e : Entry) → Going ms e → ((stepped ns follow last e.next n).next ≡ 0 → ⊥) ⊎ T (stepped ns follow last e.next n).ends
      → Going (ms ++ (n ∷ [])) (stepped ns follow last e.next n)
  unfolding Inside
  onward ms n e g a =
      let e' = stepped ns follow last e.next n in
      let st = steps e n g.inside in
      let h = step s tab fits ms n e e' g.holds st in
      let i = step_inside_lem s tab fits n e e' g.inside st in
      record {
        holds = h;
        inside = i;
        viable = ⊎_elim
            (λ nz. let b = some_bit e'.next nz in
            let l = live tab (numbered 0 s) stop fits [] tt b.0 (i b.0 b.1) in
            viable_of (ms ++ (n ∷ [])) e' h (b.0 ∷ l.0) (b.1, l.1))
            (λ y. viable_of (ms ++ (n ∷ [])) e' h [] y) a;
      }

  -- none more
  pub halted : (ms : List ℕ) (n : ℕ) (e : Entry) → Going ms e → (stepped ns follow last e.next n).next ≡ 0 → (stepped ns follow last e.next n).ends ≡ false
      → Viable s (ms ++ (n ∷ [])) → ⊥
  halted ms n e g z f v =
      let e' = stepped ns follow last e.next n in
      let w = way_of (ms ++ (n ∷ [])) e' (step s tab fits ms n e e' g.holds (steps e n g.inside)) v in
      no_way e' z f w.0 w.1

  pub yielded : (ms : List ℕ) (e : Entry) → Going ms e → T e.ends ↔ Yields s ms
  yielded ms e g =
      (λ x. (yields_is s ms).1 ((ends_is s tab fits ms e g.holds).0 x), λ y. (ends_is s tab fits ms e g.holds).1 ((yields_is s ms).0 y))

  pub standing : (ms : List ℕ) (e : Entry) → Going ms e → (q : ℕ) → has e.next q ↔ Possible s ms q
  standing ms e g = next_is s tab fits ms e g.holds g.inside

  -- every place of the set is a place of the tables
  pub placed : (ms : List ℕ) (e : Entry) → Going ms e → (q : ℕ) → has e.next q → q < length ns
  unfolding Inside
  placed ms e g q h = let l = label_below s 0 q (g.inside q h) in omega (arith, size_is s, ap length named)
