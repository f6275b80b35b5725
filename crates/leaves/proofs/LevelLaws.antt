-- Laws of what is still to come of a message's leaves: one byte that ends a leaf, at each level. Assumes nothing.
use mathlib.Core.Path.{◌≡◌, refl, sym, ap, ap₂, ◌∙◌}
use mathlib.Core.List.{List, [], ◌∷◌, ◌++◌, append_assoc, append-nil}
use mathlib.Core.Bool.{Bool, true, false, cond}
use Prim.Native.Nat.{ℕ, suc, ◌+◌, ◌≤◌}
use native.Mathlib.Omega.{arith}
use lib.Dec.{eqb}
use lib.ListN.{length, get_or, length-append}
use Rattle.alphabet.specs.Bytes.{carriage_return}
use Rattle.alphabet.specs.Lists.{first, find}
use Rattle.alphabet.specs.Parts.{grown, split}
use Rattle.alphabet.proofs.PartLaws.{split_cons, split_last, split_some}
use Rattle.leaves.specs.Leaves.{Leaf, each, subcomponent_leaf, in_component, in_repetition, in_field}
use Rattle.leaves.specs.Walks.{resume, rest_component, rest_repetition, rest_field}

-- the parts with bytes more in front of the first
abbrev pub onto : List ℕ → List (List ℕ) → List (List ℕ)
onto q [] = []
onto q (p ∷ ps) = (q ++ p) ∷ ps

-- bytes without the separator only lengthen the first part
pub split_onto : (sep : ℕ) (q l : List ℕ) → find sep q ≡ length q → split sep (q ++ l) ≡ onto q (split sep l)
unfolding split first
split_onto sep [] l e = at (split sep l)
  where
    at : (ps : List (List ℕ)) → ps ≡ onto [] ps
    at [] = refl
    at (p ∷ ps) = refl
split_onto sep (b ∷ q) l e = at (eqb sep b) (split_onto sep q l) e
  where
    grow : (ps : List (List ℕ)) → 1 ≤ length ps → grown b (onto q ps) ≡ onto (b ∷ q) ps
    grow [] h = absurd (omega arith)
    grow (p ∷ ps) h = refl

    at : (t : Bool) → (find sep q ≡ length q → split sep (q ++ l) ≡ onto q (split sep l)) → cond t 0 (suc (find sep q)) ≡ suc (length q)
        → cond t ([] ∷ split sep (q ++ l)) (grown b (split sep (q ++ l))) ≡ onto (b ∷ q) (split sep l)
    at true ih e = absurd (omega arith)
    at false ih e = ap (grown b) (ih (omega arith)) ∙ grow (split sep l) (split_some sep l)

-- the first of some parts is met at its beginning
pub each_resume : (inner : ℕ → List ℕ → List Leaf) (next : ℕ → ℕ → List ℕ → List Leaf) (k at : ℕ) (ps : List (List ℕ))
    → ((at : ℕ) (p : List ℕ) → next k at p ≡ inner at p) → each next k at ps ≡ resume inner next (k + 1) at ps
unfolding each resume
each_resume inner next k at [] h = refl
each_resume inner next k at (p ∷ ps) h = ap (λ (xs : List Leaf). xs ++ each next (k + 1) (at + length p + 1) ps) (h at p)

pub find_behind : (sep : ℕ) (p : List ℕ) (b : ℕ) → find sep p ≡ length p → eqb sep b ≡ false → find sep (p ++ b ∷ []) ≡ length (p ++ b ∷ [])
unfolding first
find_behind sep [] b e o = rw o
find_behind sep (x ∷ p) b e o = at (eqb sep x) (λ h. find_behind sep p b h o) e
  where
    at : (t : Bool) → (find sep p ≡ length p → find sep (p ++ b ∷ []) ≡ length (p ++ b ∷ [])) → cond t 0 (suc (find sep p)) ≡ suc (length p)
        → cond t 0 (suc (find sep (p ++ b ∷ []))) ≡ suc (length (p ++ b ∷ []))
    at true ih e = absurd (omega arith)
    at false ih e = ap suc (ih (omega arith))

module _ (sep : ℕ) (next : ℕ → ℕ → List ℕ → List Leaf) (k at : ℕ) (p : List ℕ) (xs : List Leaf) (clear : find sep p ≡ length p) where
  -- the part is the last
  pub level_alone : (inner : ℕ → List ℕ → List Leaf) → inner at p ≡ xs → resume inner next k at (split sep p) ≡ xs
  unfolding each resume
  level_alone inner e = rw (split_last sep p (omega arith)) (append-nil (inner at p) ∙ e)

  -- the separator of this level ends it
  pub level_own : (inner inner' : ℕ → List ℕ → List Leaf) (l : List ℕ) → inner at p ≡ xs → ((at : ℕ) (p : List ℕ) → next k at p ≡ inner' at p)
      → resume inner next k at (split sep (p ++ sep ∷ l)) ≡ xs ++ resume inner' next (k + 1) (at + length p + 1) (split sep l)
  unfolding resume
  level_own inner inner' l e h = rw (split_cons sep p l clear) (ap₂ (λ (a b : List Leaf). a ++ b) e (each_resume inner' next k (at + length p + 1) (split sep l) h))

-- a byte of a level below ends a leaf in the first of some parts
pub resume_past : (inner inner' : ℕ → List ℕ → List Leaf) (next : ℕ → ℕ → List ℕ → List Leaf) (k at : ℕ) (p : List ℕ) (b : ℕ) (xs : List Leaf) (ps : List (List ℕ)) → 1 ≤ length ps
    → ((q : List ℕ) → inner at (p ++ b ∷ q) ≡ xs ++ inner' (at + length p + 1) q)
    → resume inner next k at (onto (p ++ b ∷ []) ps) ≡ xs ++ resume inner' next k (at + length p + 1) ps
unfolding resume
resume_past inner inner' next k at p b xs [] n h = absurd (omega arith)
resume_past inner inner' next k at p b xs (q ∷ ps) n h =
    let l = length-append (p ++ b ∷ []) q in
    let m = length-append p (b ∷ []) in
    let e : at + length ((p ++ b ∷ []) ++ q) + 1 ≡ at + length p + 1 + length q + 1 = omega arith in
    ap₂ (λ (x : List ℕ) (i : ℕ). inner at x ++ each next k i ps) (append_assoc p (b ∷ []) q) e
    ∙ ap (λ (x : List Leaf). x ++ each next k (at + length p + 1 + length q + 1) ps) (h q)
    ∙ append_assoc xs (inner' (at + length p + 1) q) (each next k (at + length p + 1 + length q + 1) ps)

pub level_past : (sep : ℕ) (inner inner' : ℕ → List ℕ → List Leaf) (next : ℕ → ℕ → List ℕ → List Leaf) (k at : ℕ) (p : List ℕ) (b : ℕ) (xs : List Leaf) (l : List ℕ)
    → find sep p ≡ length p → eqb sep b ≡ false → ((q : List ℕ) → inner at (p ++ b ∷ q) ≡ xs ++ inner' (at + length p + 1) q)
    → resume inner next k at (split sep (p ++ b ∷ l)) ≡ xs ++ resume inner' next k (at + length p + 1) (split sep l)
level_past sep inner inner' next k at p b xs l e o h =
    ap (λ (x : List ℕ). resume inner next k at (split sep x)) (sym (append_assoc p (b ∷ []) l))
    ∙ ap (resume inner next k at) (split_onto sep (p ++ b ∷ []) l (find_behind sep p b e o))
    ∙ resume_past inner inner' next k at p b xs (split sep l) (split_some sep l) h

-- ---- each level of a field, with the separators apart

-- the four separators, and CR, are all different
pub record Apart (ds : List ℕ) : Type 0 where
  pub comp_sub : eqb (get_or ds 1 0) (get_or ds 4 0) ≡ false
  pub rep_sub : eqb (get_or ds 2 0) (get_or ds 4 0) ≡ false
  pub rep_comp : eqb (get_or ds 2 0) (get_or ds 1 0) ≡ false
  pub field_sub : eqb (get_or ds 0 0) (get_or ds 4 0) ≡ false
  pub field_comp : eqb (get_or ds 0 0) (get_or ds 1 0) ≡ false
  pub field_rep : eqb (get_or ds 0 0) (get_or ds 2 0) ≡ false
  pub end_sub : eqb carriage_return (get_or ds 4 0) ≡ false
  pub end_comp : eqb carriage_return (get_or ds 1 0) ≡ false
  pub end_rep : eqb carriage_return (get_or ds 2 0) ≡ false
  pub end_field : eqb carriage_return (get_or ds 0 0) ≡ false

-- bytes that no separator and no CR is among
pub record Clear (ds p : List ℕ) : Type 0 where
  pub of_sub : find (get_or ds 4 0) p ≡ length p
  pub of_comp : find (get_or ds 1 0) p ≡ length p
  pub of_rep : find (get_or ds 2 0) p ≡ length p
  pub of_field : find (get_or ds 0 0) p ≡ length p
  pub of_end : find carriage_return p ≡ length p

module _ (ds : List ℕ) (s f : ℕ) where
  -- what begins is what is to come from its first leaf on
  pub component_begins : (r c at : ℕ) (l : List ℕ) → in_component ds s f r c at l ≡ rest_component ds s f r c 1 at l
  unfolding in_component rest_component
  component_begins r c at l = each_resume (subcomponent_leaf ds s f r c 1) (subcomponent_leaf ds s f r c) 1 at (split (get_or ds 4 0) l) (λ a p. refl)

  pub repetition_begins : (r at : ℕ) (l : List ℕ) → in_repetition ds s f r at l ≡ rest_repetition ds s f r 1 1 at l
  unfolding in_repetition rest_repetition
  repetition_begins r at l = each_resume (rest_component ds s f r 1 1) (in_component ds s f r) 1 at (split (get_or ds 1 0) l) (λ a p. component_begins r 1 a p)

  pub field_begins : (at : ℕ) (l : List ℕ) → in_field ds s f at l ≡ rest_field ds s f 1 1 1 at l
  unfolding in_field rest_field
  field_begins at l = each_resume (rest_repetition ds s f 1 1 1) (in_repetition ds s f) 1 at (split (get_or ds 2 0) l) (λ a p. repetition_begins 1 a p)

  module _ (r c u at : ℕ) (p : List ℕ) (clear : Clear ds p) where
    abbrev one : List Leaf
    one = subcomponent_leaf ds s f r c u at p

    component_alone : rest_component ds s f r c u at p ≡ one
    unfolding rest_component
    component_alone = level_alone (get_or ds 4 0) _ (u + 1) at p one clear.of_sub _ refl

    component_sub : (l : List ℕ) → rest_component ds s f r c u at (p ++ get_or ds 4 0 ∷ l) ≡ one ++ rest_component ds s f r c (u + 1) (at + length p + 1) l
    unfolding rest_component
    component_sub l = level_own (get_or ds 4 0) _ (u + 1) at p one clear.of_sub _ _ l refl (λ a q. refl)

    repetition_alone : rest_repetition ds s f r c u at p ≡ one
    unfolding rest_repetition
    repetition_alone = level_alone (get_or ds 1 0) _ (c + 1) at p one clear.of_comp _ component_alone

    repetition_comp : (l : List ℕ) → rest_repetition ds s f r c u at (p ++ get_or ds 1 0 ∷ l) ≡ one ++ rest_repetition ds s f r (c + 1) 1 (at + length p + 1) l
    unfolding rest_repetition
    repetition_comp l = level_own (get_or ds 1 0) _ (c + 1) at p one clear.of_comp _ _ l component_alone (λ a q. component_begins r (c + 1) a q)

    repetition_sub : Apart ds → (l : List ℕ) → rest_repetition ds s f r c u at (p ++ get_or ds 4 0 ∷ l) ≡ one ++ rest_repetition ds s f r c (u + 1) (at + length p + 1) l
    unfolding rest_repetition
    repetition_sub w l = level_past (get_or ds 1 0) _ _ _ (c + 1) at p (get_or ds 4 0) one l clear.of_comp w.comp_sub component_sub

    pub field_alone : rest_field ds s f r c u at p ≡ one
    unfolding rest_field
    field_alone = level_alone (get_or ds 2 0) _ (r + 1) at p one clear.of_rep _ repetition_alone

    pub field_rep_on : (l : List ℕ) → rest_field ds s f r c u at (p ++ get_or ds 2 0 ∷ l) ≡ one ++ rest_field ds s f (r + 1) 1 1 (at + length p + 1) l
    unfolding rest_field
    field_rep_on l = level_own (get_or ds 2 0) _ (r + 1) at p one clear.of_rep _ _ l repetition_alone (λ a q. repetition_begins (r + 1) a q)

    pub field_comp_on : Apart ds → (l : List ℕ) → rest_field ds s f r c u at (p ++ get_or ds 1 0 ∷ l) ≡ one ++ rest_field ds s f r (c + 1) 1 (at + length p + 1) l
    unfolding rest_field
    field_comp_on w l = level_past (get_or ds 2 0) _ _ _ (r + 1) at p (get_or ds 1 0) one l clear.of_rep w.rep_comp repetition_comp

    pub field_sub_on : Apart ds → (l : List ℕ) → rest_field ds s f r c u at (p ++ get_or ds 4 0 ∷ l) ≡ one ++ rest_field ds s f r c (u + 1) (at + length p + 1) l
    unfolding rest_field
    field_sub_on w l = level_past (get_or ds 2 0) _ _ _ (r + 1) at p (get_or ds 4 0) one l clear.of_rep w.rep_sub (repetition_sub w)
