-- The sets of places after a list of names. Assumes nothing.
use mathlib.Core.Path.{◌≡◌, refl, ap, ◌∙◌, subst}
use mathlib.Core.Logic.{⊎_elim, ◌↔◌}
use mathlib.Core.List.{List, [], ◌∷◌, ◌++◌, map, append-nil}
use Prim.Native.Nat.{ℕ}
use native.Mathlib.Omega.{arith}
use lib.Dec.{T}
use lib.Seq.{append_snoc}
use Rattle.structure.specs.Shapes.{Shape, Spans, Fills, Possible, name_at, numbered}
use Rattle.structure.specs.Engine.{has, Entry, stop, enter, Fits}
use Rattle.structure.proofs.SetLaws.{has_zero}
use Rattle.structure.proofs.PlaceLaws.{CouldEnd}
use Rattle.structure.proofs.FollowLaws.{Acc, complete, sound, live, Label, enter_label, next_label}

-- e is what comes next after one or another of the places that Hit picks
pub record Gathered (tab : ℕ → Entry) (Hit : ℕ → Type 0) (e : Entry) : Type 0 where
  pub next_from : (q : ℕ) → has e.next q → (p : ℕ) × Hit p × has (tab p).next q
  pub next_to : (p q : ℕ) → Hit p → has (tab p).next q → has e.next q
  pub ends_from : T e.ends → (p : ℕ) × Hit p × T (tab p).ends
  pub ends_to : (p : ℕ) → Hit p → T (tab p).ends → T e.ends

-- e is what comes next after a place of the set m whose name is n
abbrev pub Stepped : (ℕ → Entry) → (ℕ → ℕ) → ℕ → ℕ → Entry → Type 0
Stepped tab nm m n e = Gathered tab (λ (p : ℕ). has m p × (nm p ≡ n)) e

pub snoc_map : (f : ℕ → ℕ) (xs : List ℕ) (x : ℕ) → map f (xs ++ (x ∷ [])) ≡ map f xs ++ (f x ∷ [])
snoc_map f [] x = refl
snoc_map f (a ∷ xs) x = ap (λ (l : List ℕ). f a ∷ l) (snoc_map f xs x)

-- a list that maps to one with a last element has one
Snoc : (ℕ → ℕ) → List ℕ → List ℕ → ℕ → Type 0
Snoc f xs ys y = (zs : List ℕ) × (z : ℕ) × (xs ≡ zs ++ (z ∷ [])) × (map f zs ≡ ys) × (f z ≡ y)

unsnoc : (f : ℕ → ℕ) (xs ys : List ℕ) (y : ℕ) → map f xs ≡ ys ++ (y ∷ []) → Snoc f xs ys y
unfolding Snoc
unsnoc f [] [] y e = let z : ◌≡◌ {A = ℕ} 0 1 = cc in absurd (omega arith)
unsnoc f [] (b ∷ ys) y e = let z : ◌≡◌ {A = ℕ} 0 1 = cc in absurd (omega arith)
unsnoc f (a ∷ []) [] y e = ([], a, refl, refl, cc)
unsnoc f (a ∷ b ∷ xs) [] y e = let z : ◌≡◌ {A = ℕ} 0 1 = cc in absurd (omega arith)
unsnoc f (a ∷ xs) (b ∷ ys) y e =
    let k = unsnoc f xs ys y (cc) in
    let k2 = k.2 in
    let k3 = k.3 in
    (a ∷ k.0, k.1, ap (λ (l : List ℕ). a ∷ l) k2, cc, k.4)

module _ (s : Shape) (tab : ℕ → Entry) where
  -- e is what comes next after the names ns
  unfoldable pub Holds : List ℕ → Entry → Type 0
  Holds ns e = (ws : List ℕ) → Acc tab e ws ↔ ((ps : List ℕ) × (map (name_at s) ps ≡ ns) × Fills s (ps ++ ws))

  module _ (fits : Fits tab (numbered 0 s) stop) where
    pub start : Holds [] (enter (numbered 0 s) stop)
    unfolding Holds
    start ws = (
      λ a. let k = sound tab (numbered 0 s) stop fits ws a in
          ([], refl, subst (λ (l : List ℕ). Spans (numbered 0 s) ws l) (ended_is k.rest k.goes) k.spans),
      λ r. complete tab (subst (λ (l : List ℕ). Fills s (l ++ ws)) (no_names r.0 r.1) r.2) stop fits tt,
    )
      where
        ended_is : (us : List ℕ) → Acc tab stop us → us ≡ []
        ended_is [] a = refl
        ended_is (q ∷ us) a = absurd (has_zero q a.0)

        no_names : (ps : List ℕ) → map (name_at s) ps ≡ [] → ps ≡ []
        no_names [] e = refl
        no_names (p ∷ ps) e = let z : ◌≡◌ {A = ℕ} 0 1 = cc in absurd (omega arith)

    step_acc : (e e' : Entry) (n : ℕ) → Stepped tab (name_at s) e.next n e' → (ws : List ℕ) → Acc tab e' ws → (p : ℕ) × (name_at s p ≡ n) × Acc tab e (p ∷ ws)
    step_acc e e' n st [] a = let k = st.ends_from a in (k.0, k.1.1, (k.1.0, k.2))
    step_acc e e' n st (q ∷ ws) a = let k = st.next_from q a.0 in (k.0, k.1.1, (k.1.0, (k.2, a.1)))

    acc_step : (e e' : Entry) (n : ℕ) → Stepped tab (name_at s) e.next n e' → (ws : List ℕ) (p : ℕ) → name_at s p ≡ n → Acc tab e (p ∷ ws) → Acc tab e' ws
    acc_step e e' n st [] p m a = st.ends_to p (a.0, m) a.1
    acc_step e e' n st (q ∷ ws) p m a = (st.next_to p q (a.0, m) a.1.0, a.1.1)

    pub step : (ns : List ℕ) (n : ℕ) (e e' : Entry) → Holds ns e → Stepped tab (name_at s) e.next n e' → Holds (ns ++ (n ∷ [])) e'
    unfolding Holds Snoc
    step ns n e e' h st ws = (
      λ a. let k = step_acc e e' n st ws a in
          let j = (h (k.0 ∷ ws)).0 k.2 in
          let j1 = j.1 in
          let k1 = k.1 in
          (j.0 ++ (k.0 ∷ []), snoc_map (name_at s) j.0 k.0 ∙ cc, rw append_snoc j.2),
      λ r. let k = unsnoc (name_at s) r.0 ns n r.1 in
          acc_step e e' n st ws k.1 k.4
          ((h (k.1 ∷ ws)).1 (k.0, k.3, rw append_snoc at (subst (λ (l : List ℕ). Fills s (l ++ ws)) k.2 r.2))),
    )

    -- every place of a set is a place of the structure
    unfoldable pub Inside : Entry → Type 0
    Inside e = (q : ℕ) → has e.next q → Label (numbered 0 s) q

    pub start_inside : Inside (enter (numbered 0 s) stop)
    unfolding Inside
    start_inside q h = ⊎_elim (λ l. l) (λ r. absurd (has_zero q r)) (enter_label (numbered 0 s) stop q h)

    pub step_inside_lem : (n : ℕ) (e e' : Entry) → Inside e → Stepped tab (name_at s) e.next n e' → Inside e'
    unfolding Inside
    step_inside_lem n e e' i st q h =
        let k = st.next_from q h in
        ⊎_elim (λ l. l) (λ r. absurd (has_zero q r)) (next_label tab (numbered 0 s) stop fits k.0 q (i k.0 k.1.0) k.2)

    pub ends_is : (ns : List ℕ) (e : Entry) → Holds ns e → T e.ends ↔ CouldEnd s ns
    unfolding Holds
    ends_is ns e h =
        (λ t. let k = (h []).0 t in (k.0, k.1, rw append-nil at k.2), λ c. (h []).1 (c.0, c.1, rw append-nil c.2))

    pub next_is : (ns : List ℕ) (e : Entry) → Holds ns e → Inside e → (q : ℕ) → has e.next q ↔ Possible s ns q
    unfolding Holds Inside
    next_is ns e h i q = (
      λ m. let k = live tab (numbered 0 s) stop fits [] tt q (i q m) in
          let j = (h (q ∷ k.0)).0 (m, k.1) in
          (j.0, k.0, j.1, j.2),
      λ c. ((h (q ∷ c.1)).1 (c.0, c.2, c.3)).0,
    )
