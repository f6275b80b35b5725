-- No second judgement meets the contract, and what a judgement says of the grammar: accepted exactly where the structure yields the names, a list of
-- exactly the names with which what stands before can go on, and no prefix before a refusal that cannot be completed. Assumes nothing.
use mathlib.Core.Path.{◌≡◌, refl, sym, ap, ap₂, ◌∙◌, subst}
use mathlib.Core.Logic.{◌↔◌}
use mathlib.Core.Bool.{Bool, true, false}
use mathlib.Core.List.{List, [], ◌∷◌, ◌++◌, map, append_assoc}
use Prim.Native.Nat.{ℕ, ◌+◌, ◌≤◌, ◌<◌}
use native.Mathlib.Decide.{dec_lt}
use native.Mathlib.Omega.{arith}
use lib.Dec.{T}
use lib.ListN.{length, take, drop, take-append-drop}
use lib.Seq.{take-take, append_snoc}
use Rattle.std.specs.Prelude.{Ok, Err}
use Rattle.alphabet.proofs.CheckLaws.{fails_same, never_both}
use Rattle.alphabet.specs.declared.answers.Refusal.{Refusal}
use Rattle.structure.specs.Shapes.{Shape, Yields, Viable, Fills, Possible, names, name_at}
use Rattle.structure.specs.SegmentNames.{kept, segment_names}
use Rattle.structure.specs.Listed.{In}
use Rattle.structure.specs.Structures.{ListedStructure, built_in}
use Rattle.structure.specs.Judged.{front, Refused, refused_as, Judged, accepted, refused, StructuredBy, no_structure, by, AnswersBy, unread, read, Structured, Answers}
use Rattle.fault.specs.Faults.{Judgement, plain}
use Rattle.fault.specs.declared.FaultRecord.{FaultRecord}
use Rattle.structure.proofs.PlaceLaws.{CouldEnd, yields_is}
use Rattle.structure.proofs.Going.{map_append}
use Rattle.structure.proofs.ListingLaws.{one_list, in_list}
use Rattle.structure.proofs.WalkLaws.{kept_append}

-- a list that maps to one with n in it
cut : (f : ℕ → ℕ) (xs ys : List ℕ) (n : ℕ) (zs : List ℕ) → map f xs ≡ ys ++ n ∷ zs
    → (us : List ℕ) × (q : ℕ) × (vs : List ℕ) × (xs ≡ us ++ q ∷ vs) × (map f us ≡ ys) × (f q ≡ n)
cut f [] [] n zs e = absurd (let z : ◌≡◌ {A = ℕ} 0 1 = cc in omega arith)
cut f [] (y ∷ ys) n zs e = absurd (let z : ◌≡◌ {A = ℕ} 0 1 = cc in omega arith)
cut f (x ∷ xs) [] n zs e = ([], x, xs, refl, refl, cc)
cut f (x ∷ xs) (y ∷ ys) n zs e =
    let k = cut f xs ys n zs cc in
    let k4 = k.4 in
    (x ∷ k.0, k.1, k.2, ap (λ (l : List ℕ). x ∷ l) k.3, cc, k.5)

module _ (s : Shape) where
  -- what begins a list that begins a yielded one begins a yielded one
  viable_front : (xs ys : List ℕ) → Viable s (xs ++ ys) → Viable s xs
  viable_front xs ys v = (ys ++ v.0, subst (Yields s) (append_assoc xs ys v.0) v.1)

  front_of : (i j : ℕ) (ns : List ℕ) → i ≤ j → front s j ns ≡ front s i ns ++ kept (names s) (drop i (take j ns))
  front_of i j ns h =
      ap (kept (names s)) (sym (take-append-drop i (take j ns))) ∙ kept_append (names s) (take i (take j ns)) (drop i (take j ns))
      ∙ ap (λ (l : List ℕ). kept (names s) l ++ kept (names s) (drop i (take j ns))) (take-take i j ns h)

  module _ (ns : List ℕ) where
    -- every prefix that is not refused can be completed
    pub goes_on : (place : ℕ) (ends : Bool) (list : List ℕ) → Refused s ns place ends list → (i : ℕ) → i ≤ place → Viable s (front s i ns)
    goes_on place ends list r i h = viable_front (front s i ns) (kept (names s) (drop i (take place ns))) (subst (Viable s) (front_of i place ns h) r.begun)

    not_before : (p q : ℕ) (d e : Bool) (k l : List ℕ) → Refused s ns p d k → Refused s ns q e l → p < q → ⊥
    not_before p q d e k l a b h = let w = b.within in a.stuck (omega arith) (goes_on q e l b (p + 1) (omega arith))

    one_place : (p q : ℕ) (d e : Bool) (k l : List ℕ) → Refused s ns p d k → Refused s ns q e l → p ≡ q
    one_place p q d e k l a b = go (dec_lt p q) (dec_lt q p)
      where
        go : Dec (p < q) → Dec (q < p) → p ≡ q
        go (yes h) x = absurd (not_before p q d e k l a b h)
        go (no h) (yes g) = absurd (not_before q p e d l k b a g)
        go (no h) (no g) = omega arith

    one_flag : (d e : Bool) (Y : Type 0) → T d ↔ Y → T e ↔ Y → d ≡ e
    one_flag true true Y f g = refl
    one_flag true false Y f g = absurd (g.1 (f.0 tt))
    one_flag false true Y f g = absurd (f.1 (g.0 tt))
    one_flag false false Y f g = refl

    one_refusal : (p q : ℕ) (d e : Bool) (k l : List ℕ) → Refused s ns p d k → Refused s ns q e l → refused_as (length ns) p d k ≡ refused_as (length ns) q e l
    one_refusal p q d e k l a b =
        let place = one_place p q d e k l a b in
        let moved = subst (λ (i : ℕ). Refused s ns i e l) (sym place) b in
        let flag = one_flag d e (Yields s (front s p ns)) a.could_end moved.could_end in
        let list = one_list (Possible s (front s p ns)) (name_at s) k l a.could_stand moved.could_stand in
        ap (λ (i : ℕ). refused_as (length ns) i d k) place ∙ ap (λ (t : Bool). refused_as (length ns) q t k) flag ∙ ap (refused_as (length ns) q e) list

    abbrev refusal : FaultRecord → Judgement
    refusal r = Err r

    pub one_judgement : {r t : Judgement} → Judged s ns r → Judged s ns t → r ≡ t
    one_judgement (accepted y) (accepted z) = refl
    one_judgement (accepted y) (refused place ends list r) = absurd (r.not_yielded y)
    one_judgement (refused place ends list r) (accepted y) = absurd (r.not_yielded y)
    one_judgement (refused p d k a) (refused q e l b) = ap refusal (one_refusal p q d e k l a b)

    -- the list has exactly the names with which what stands before goes on
    pub could_stand_is : (place : ℕ) (ends : Bool) (list : List ℕ) → Refused s ns place ends list → (n : ℕ) → In n list ↔ Viable s (front s place ns ++ (n ∷ []))
    could_stand_is place ends list r n = (
      λ i.
          let k = in_list (Possible s (front s place ns)) (name_at s) list r.could_stand n i in
          let c = k.1 in
          let way : CouldEnd s (front s place ns ++ (name_at s k.0 ∷ map (name_at s) c.1)) =
          (c.0 ++ (k.0 ∷ c.1), map_append (name_at s) c.0 (k.0 ∷ c.1) ∙ ap (λ (l : List ℕ). l ++ (name_at s k.0 ∷ map (name_at s) c.1)) c.2, c.3) in
          subst (λ (x : ℕ). Viable s (front s place ns ++ (x ∷ []))) k.2
          (map (name_at s) c.1, subst (Yields s) (sym (append_snoc (front s place ns) (name_at s k.0) (map (name_at s) c.1))) ((yields_is s _).1 way)),
      λ v.
          let c = (yields_is s (front s place ns ++ (n ∷ v.0))).0 (subst (Yields s) (append_snoc (front s place ns) n v.0) v.1) in
          let k = cut (name_at s) c.0 (front s place ns) n v.0 c.1 in
          subst (λ (x : ℕ). In x list) k.5 (r.could_stand.every k.1 (k.0, k.2, k.4, subst (Fills s) k.3 c.2)),
    )

    -- accepted exactly where the structure yields the names
    pub accepts_exactly : {r : Judgement} → Judged s ns r → (r ≡ Ok tt) ↔ Yields s (kept (names s) ns)
    accepts_exactly j = (yielded j, λ y. one_judgement j (accepted y))
      where
        yielded : {r : Judgement} → Judged s ns r → r ≡ Ok tt → Yields s (kept (names s) ns)
        yielded (accepted y) e = y
        yielded (refused place ends list a) e = absurd (let z : ◌≡◌ {A = ℕ} 0 1 = cc in omega arith)

module _ (book : List ListedStructure) (m : List ℕ) where
  -- no second judgement of a message that was read
  pub one_structured_by : {r t : Judgement} → StructuredBy book m r → StructuredBy book m t → r ≡ t
  one_structured_by (no_structure e) (no_structure f) = refl
  one_structured_by (no_structure e) (by x f j) = absurd (let z : ◌≡◌ {A = ℕ} 0 1 = cc in omega arith)
  one_structured_by (by x e j) (no_structure f) = absurd (let z : ◌≡◌ {A = ℕ} 0 1 = cc in omega arith)
  one_structured_by (by x e j) (by {r = t} y f k) =
      let q : y ≡ x = cc in
      one_judgement x.shape (segment_names m) j (subst (λ (z : ListedStructure). Judged z.shape (segment_names m) t) q k)

  -- nor of any bytes
  pub only_one_by : {r t : Judgement} → AnswersBy book m r → AnswersBy book m t → r ≡ t
  only_one_by (unread k p e) (unread l q f) = let k = fails_same (sym e ∙ f) in ap₂ (λ (x : Refusal) (n : ℕ). told x n) k.0 k.1
    where
      told : Refusal → ℕ → Judgement
      told x n = Err (plain x n)
  only_one_by (unread k p e) (read f j) = absurd (never_both (sym f ∙ e))
  only_one_by (read e j) (unread l q f) = absurd (never_both (sym e ∙ f))
  only_one_by (read e j) (read f k) = one_structured_by j k

-- by the structures of document 01
pub one_structured : (m : List ℕ) {r t : Judgement} → Structured m r → Structured m t → r ≡ t
one_structured m a b = one_structured_by built_in m a b

pub only_one : (m : List ℕ) {r t : Judgement} → Answers m r → Answers m t → r ≡ t
only_one m a b = only_one_by built_in m a b
