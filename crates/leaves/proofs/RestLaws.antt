-- Laws of what is still to come of a message's leaves, from a byte that ends one to the next: `advance`. Assumes nothing.
use mathlib.Core.Path.{◌≡◌, refl, sym, ap, ap₂, ◌∙◌, subst}
use mathlib.Core.List.{List, [], ◌∷◌, ◌++◌, append_assoc}
use mathlib.Core.Bool.{Bool, true, false, cond}
use Prim.Native.Nat.{ℕ, zero, suc, ◌+◌, ◌*◌, ◌≤◌, ◌<◌}
use native.Mathlib.Omega.{arith}
use lib.Dec.{eqb, leb, ltb}
use lib.ListN.{length, get_or}
use borrow.Author.Tests.{eq-eqb, ne_eqb, eqb-true, eqb-false, lt-leb, leb-false, ltb-true, lt-ltb}
use Rattle.alphabet.specs.Bytes.{carriage_return}
use Rattle.alphabet.specs.Lists.{first, find, among}
use Rattle.alphabet.specs.Parts.{split}
use Rattle.alphabet.proofs.BoolLaws.{false_true}
use Rattle.alphabet.proofs.PartLaws.{split_cons, split_some, more_parts}
use Rattle.reading.specs.Segments.{all_but_last}
use Rattle.reading.proofs.SegmentLaws.{but_last_cons}
use Rattle.element.specs.declared.address.Address.{Address}
use Rattle.leaves.specs.Leaves.{Leaf, addressed, subcomponent_leaf, in_field, in_part, in_segment}
use Rattle.leaves.specs.Walks.{resume, rest_field, whole, rest_part, rest_segment, rest_from, here_of, passed}
use Rattle.leaves.proofs.LevelLaws.{onto, split_onto, each_resume, find_behind, level_alone, level_own, level_past, resume_past, Apart, Clear, field_begins, field_alone, field_rep_on, field_comp_on, field_sub_on}

-- ---- a part of a segment: its name, or a field

name_part : (ds : List ℕ) (s r c u at : ℕ) (l : List ℕ) → 1 ≤ s → rest_part ds s 0 r c u at l ≡ []
unfolding rest_part in_part
name_part ds s r c u at l h = rw (ne_eqb s 0 (λ e. omega arith))

split_whole : (s f : ℕ) → 3 ≤ s * 3 + f → (f ≡ 0 → ⊥) → whole s f ≡ false
split_whole s f h n = at (eqb s 0) refl
  where
    at : (t : Bool) → eqb s 0 ≡ t → cond t (leb f 2) (eqb f 0) ≡ false
    at true e = let z = eqb-true s 0 e in lt-leb f 2 (omega arith)
    at false e = ne_eqb f 0 n

split_part : (ds : List ℕ) (s f r c u at : ℕ) (l : List ℕ) → 3 ≤ s * 3 + f → (f ≡ 0 → ⊥) → rest_part ds s f r c u at l ≡ rest_field ds s f r c u at l
unfolding rest_part
split_part ds s f r c u at l h n = rw (split_whole s f h n)

whole_not : (s f : ℕ) → whole s f ≡ false → 3 ≤ s * 3 + f × (f ≡ 0 → ⊥)
whole_not s f h = at (eqb s 0) refl h
  where
    at : (t : Bool) → eqb s 0 ≡ t → cond t (leb f 2) (eqb f 0) ≡ false → 3 ≤ s * 3 + f × (f ≡ 0 → ⊥)
    at true e h = let z = eqb-true s 0 e in let g = leb-false f 2 h in (omega arith, λ n. omega arith)
    at false e h = let z = eqb-false s 0 e in let g = eqb-false f 0 h in (omega (arith, z), g)

field_part_lem : (ds : List ℕ) (s f at : ℕ) (l : List ℕ) → whole s f ≡ false → in_part ds s f at l ≡ in_field ds s f at l
unfolding in_part
field_part_lem ds s f at l h = by (eqb s 0) refl
  where
    w : 3 ≤ s * 3 + f × (f ≡ 0 → ⊥)
    w = whole_not s f h

    by : (t : Bool) → eqb s 0 ≡ t → in_part ds s f at l ≡ in_field ds s f at l
    by true e =
        let z = eqb-true s 0 e in
        let g = w.0 in
        rw (e, ne_eqb f 1 (λ n. omega arith), ne_eqb f 2 (λ n. omega arith)) (ap (λ (x : ℕ). in_field ds x f at l) (sym z))
    by false e = rw (e, ne_eqb f 0 w.1)

pub part_begins : (ds : List ℕ) (s f at : ℕ) (l : List ℕ) → in_part ds s f at l ≡ rest_part ds s f 1 1 1 at l
unfolding rest_part
part_begins ds s f at l = by (whole s f) refl
  where
    by : (t : Bool) → whole s f ≡ t → in_part ds s f at l ≡ cond t (in_part ds s f at l) (rest_field ds s f 1 1 1 at l)
    by true e = refl
    by false e = field_part_lem ds s f at l e ∙ field_begins ds s f at l

module _ (ds : List ℕ) (s : ℕ) where
  part_on : (f : ℕ) (r c u r' c' u' at at' : ℕ) (p l l' : List ℕ) → 3 ≤ s * 3 + f
      → rest_field ds s f r c u at l ≡ subcomponent_leaf ds s f r c u at p ++ rest_field ds s f r' c' u' at' l'
      → rest_part ds s f r c u at l ≡ cond (eqb f 0) [] (subcomponent_leaf ds s f r c u at p) ++ rest_part ds s f r' c' u' at' l'
  part_on zero r c u r' c' u' at at' p l l' h e = name_part ds s r c u at l (omega arith) ∙ sym (name_part ds s r' c' u' at' l' (omega arith))
  part_on (suc f) r c u r' c' u' at at' p l l' h e =
      split_part ds s (suc f) r c u at l h (λ n. omega arith) ∙ e
      ∙ ap₂ (λ (b : Bool) (x : List Leaf). cond b [] (subcomponent_leaf ds s (suc f) r c u at p) ++ x) (sym (ne_eqb (suc f) 0 (λ n. omega arith))) (sym (split_part ds s (suc f) r' c' u' at' l' h (λ n. omega arith)))

  part_alone : (f r c u at : ℕ) (p : List ℕ) → 3 ≤ s * 3 + f → Clear ds p → rest_part ds s f r c u at p ≡ cond (eqb f 0) [] (subcomponent_leaf ds s f r c u at p)
  part_alone zero r c u at p h w = name_part ds s r c u at p (omega arith)
  part_alone (suc f) r c u at p h w =
      split_part ds s (suc f) r c u at p h (λ n. omega arith) ∙ field_alone ds s (suc f) r c u at p w
      ∙ ap (λ (b : Bool). cond b [] (subcomponent_leaf ds s (suc f) r c u at p)) (sym (ne_eqb (suc f) 0 (λ n. omega arith)))

-- ---- a segment

pub segment_begins : (ds : List ℕ) (s at : ℕ) (l : List ℕ) → in_segment ds (s + 1) at l ≡ rest_segment ds (s + 1) 0 1 1 1 at l
unfolding in_segment rest_segment
segment_begins ds s at l =
    rw (ne_eqb (s + 1) 0 (λ e. omega arith))
    (each_resume (rest_part ds (s + 1) 0 1 1 1) (in_part ds (s + 1)) 0 at (split (get_or ds 0 0) l) (λ a p. part_begins ds (s + 1) 0 a p))

module _ (ds : List ℕ) (w : Apart ds) (s f r c u at : ℕ) (p : List ℕ) (clear : Clear ds p) (h : 3 ≤ s * 3 + f) where
  abbrev here : List Leaf
  here = cond (eqb f 0) [] (subcomponent_leaf ds s f r c u at p)

  segment_alone : rest_segment ds s f r c u at p ≡ here
  unfolding rest_segment
  segment_alone = level_alone (get_or ds 0 0) _ (f + 1) at p here clear.of_field _ (part_alone ds s f r c u at p h clear)

  segment_field : (l : List ℕ) → rest_segment ds s f r c u at (p ++ get_or ds 0 0 ∷ l) ≡ here ++ rest_segment ds s (f + 1) 1 1 1 (at + length p + 1) l
  unfolding rest_segment
  segment_field l = level_own (get_or ds 0 0) _ (f + 1) at p here clear.of_field _ _ l (part_alone ds s f r c u at p h clear) (λ a q. part_begins ds s (f + 1) a q)

  segment_rep : (l : List ℕ) → rest_segment ds s f r c u at (p ++ get_or ds 2 0 ∷ l) ≡ here ++ rest_segment ds s f (r + 1) 1 1 (at + length p + 1) l
  unfolding rest_segment
  segment_rep l =
      level_past (get_or ds 0 0) _ _ _ (f + 1) at p (get_or ds 2 0) here l clear.of_field w.field_rep
      (λ q. part_on ds s f r c u (r + 1) 1 1 at (at + length p + 1) p (p ++ get_or ds 2 0 ∷ q) q h (field_rep_on ds s f r c u at p clear q))

  segment_comp : (l : List ℕ) → rest_segment ds s f r c u at (p ++ get_or ds 1 0 ∷ l) ≡ here ++ rest_segment ds s f r (c + 1) 1 (at + length p + 1) l
  unfolding rest_segment
  segment_comp l =
      level_past (get_or ds 0 0) _ _ _ (f + 1) at p (get_or ds 1 0) here l clear.of_field w.field_comp
      (λ q. part_on ds s f r c u r (c + 1) 1 at (at + length p + 1) p (p ++ get_or ds 1 0 ∷ q) q h (field_comp_on ds s f r c u at p clear w q))

  segment_sub : (l : List ℕ) → rest_segment ds s f r c u at (p ++ get_or ds 4 0 ∷ l) ≡ here ++ rest_segment ds s f r c (u + 1) (at + length p + 1) l
  unfolding rest_segment
  segment_sub l =
      level_past (get_or ds 0 0) _ _ _ (f + 1) at p (get_or ds 4 0) here l clear.of_field w.field_sub
      (λ q. part_on ds s f r c u r c (u + 1) at (at + length p + 1) p (p ++ get_or ds 4 0 ∷ q) q h (field_sub_on ds s f r c u at p clear w q))

-- ---- the message

but_last_onto : (q : List ℕ) (ps : List (List ℕ)) → 1 < length ps → all_but_last (onto q ps) ≡ onto q (all_but_last ps)
but_last_onto q [] h = absurd (omega arith)
but_last_onto q (p ∷ ps) h = but_last_cons (q ++ p) ps (omega arith) ∙ ap (onto q) (sym (but_last_cons p ps (omega arith)))

but_last_some : (ps : List (List ℕ)) → 1 < length ps → 1 ≤ length (all_but_last ps)
but_last_some [] h = absurd (omega arith)
but_last_some (p ∷ ps) h = let e = ap length (but_last_cons p ps (omega arith)) in omega arith

-- CR ends the segment, and the next begins
pub message_own : (next : ℕ → ℕ → List ℕ → List Leaf) (inner inner' : ℕ → List ℕ → List Leaf) (k at : ℕ) (p l : List ℕ) (xs : List Leaf) → find carriage_return p ≡ length p → inner at p ≡ xs
    → ((at : ℕ) (p : List ℕ) → next k at p ≡ inner' at p)
    → resume inner next k at (all_but_last (split carriage_return (p ++ carriage_return ∷ l))) ≡ xs ++ resume inner' next (k + 1) (at + length p + 1) (all_but_last (split carriage_return l))
unfolding resume
message_own next inner inner' k at p l xs clear e h =
    rw (split_cons carriage_return p l clear, but_last_cons p (split carriage_return l) (split_some carriage_return l))
    (ap₂ (λ (a b : List Leaf). a ++ b) e (each_resume inner' next k (at + length p + 1) (all_but_last (split carriage_return l)) h))

-- another byte ends a leaf in it, and a CR is still to come
pub message_past : (next : ℕ → ℕ → List ℕ → List Leaf) (inner inner' : ℕ → List ℕ → List Leaf) (k at : ℕ) (p : List ℕ) (b : ℕ) (l : List ℕ) (xs : List Leaf) → find carriage_return p ≡ length p
    → eqb carriage_return b ≡ false → find carriage_return l < length l → ((q : List ℕ) → inner at (p ++ b ∷ q) ≡ xs ++ inner' (at + length p + 1) q)
    → resume inner next k at (all_but_last (split carriage_return (p ++ b ∷ l))) ≡ xs ++ resume inner' next k (at + length p + 1) (all_but_last (split carriage_return l))
message_past next inner inner' k at p b l xs clear o more h =
    let n : 1 < length (split carriage_return l) = ltb-true 1 (length (split carriage_return l)) (more_parts carriage_return l ∙ lt-ltb (find carriage_return l) (length l) more) in
    ap (λ (x : List ℕ). resume inner next k at (all_but_last (split carriage_return x))) (sym (append_assoc p (b ∷ []) l))
    ∙ ap (λ (ps : List (List ℕ)). resume inner next k at (all_but_last ps)) (split_onto carriage_return (p ++ b ∷ []) l (find_behind carriage_return p b clear o))
    ∙ ap (resume inner next k at) (but_last_onto (p ++ b ∷ []) (split carriage_return l) n)
    ∙ resume_past inner inner' next k at p b xs (all_but_last (split carriage_return l)) (but_last_some (split carriage_return l) n) h

-- ---- one byte that ends a leaf

-- the five bytes that end leaves
abbrev pub ends_by : List ℕ → List ℕ
ends_by ds = carriage_return ∷ get_or ds 0 0 ∷ get_or ds 1 0 ∷ get_or ds 2 0 ∷ get_or ds 4 0 ∷ []

among_last : (ds : List ℕ) (b : ℕ) → among (ends_by ds) b ≡ true → eqb b (get_or ds 0 0) ≡ false → eqb b (get_or ds 1 0) ≡ false → eqb b carriage_return ≡ false → eqb b (get_or ds 2 0) ≡ false → b ≡ get_or ds 4 0
unfolding first
among_last ds b e e₁ e₂ e₀ e₃ = at (eqb b (get_or ds 4 0)) refl (rw (e₀, e₁, e₂, e₃) at e)
  where
    at : (t : Bool) → eqb b (get_or ds 4 0) ≡ t → ltb (suc (suc (suc (suc (cond t 0 1))))) 5 ≡ true → b ≡ get_or ds 4 0
    at true q h = eqb-true b (get_or ds 4 0) q
    at false q h = absurd (false_true h)

module _ (ds : List ℕ) (w : Apart ds) (a : Address) (at : ℕ) (p : List ℕ) (clear : Clear ds p) (h : 3 ≤ a.segment * 3 + a.field) (l : List ℕ) where
  abbrev Next : ℕ → Address → Type 0
  Next b a' = rest_from ds a at (p ++ b ∷ l) ≡ here_of ds a at p ++ rest_from ds a' (at + length p + 1) l

  on_end : Next carriage_return (addressed (a.segment + 1) 0 1 1 1)
  unfolding rest_from
  on_end =
      message_own (in_segment ds) (rest_segment ds a.segment a.field a.repetition a.component a.subcomponent) (rest_segment ds (a.segment + 1) 0 1 1 1) (a.segment + 1) at p l (here_of ds a at p) clear.of_end (segment_alone ds w a.segment a.field a.repetition a.component a.subcomponent at p clear h)
      (λ i q. segment_begins ds a.segment i q)

  module _ (more : find carriage_return l < length l) where
    on_field : Next (get_or ds 0 0) (addressed a.segment (a.field + 1) 1 1 1)
    unfolding rest_from
    on_field =
        message_past (in_segment ds) (rest_segment ds a.segment a.field a.repetition a.component a.subcomponent) (rest_segment ds a.segment (a.field + 1) 1 1 1) (a.segment + 1) at p _ l (here_of ds a at p) clear.of_end w.end_field more (segment_field ds w a.segment a.field a.repetition a.component a.subcomponent at p clear h)

    on_rep : Next (get_or ds 2 0) (addressed a.segment a.field (a.repetition + 1) 1 1)
    unfolding rest_from
    on_rep =
        message_past (in_segment ds) (rest_segment ds a.segment a.field a.repetition a.component a.subcomponent) (rest_segment ds a.segment a.field (a.repetition + 1) 1 1) (a.segment + 1) at p _ l (here_of ds a at p) clear.of_end w.end_rep more (segment_rep ds w a.segment a.field a.repetition a.component a.subcomponent at p clear h)

    on_comp : Next (get_or ds 1 0) (addressed a.segment a.field a.repetition (a.component + 1) 1)
    unfolding rest_from
    on_comp =
        message_past (in_segment ds) (rest_segment ds a.segment a.field a.repetition a.component a.subcomponent) (rest_segment ds a.segment a.field a.repetition (a.component + 1) 1) (a.segment + 1) at p _ l (here_of ds a at p) clear.of_end w.end_comp more (segment_comp ds w a.segment a.field a.repetition a.component a.subcomponent at p clear h)

    on_sub : Next (get_or ds 4 0) (addressed a.segment a.field a.repetition a.component (a.subcomponent + 1))
    unfolding rest_from
    on_sub =
        message_past (in_segment ds) (rest_segment ds a.segment a.field a.repetition a.component a.subcomponent) (rest_segment ds a.segment a.field a.repetition a.component (a.subcomponent + 1)) (a.segment + 1) at p _ l (here_of ds a at p) clear.of_end w.end_sub more (segment_sub ds w a.segment a.field a.repetition a.component a.subcomponent at p clear h)

  pub advance : (b : ℕ) → among (ends_by ds) b ≡ true → ((b ≡ carriage_return → ⊥) → find carriage_return l < length l) → Next b (passed (ends_by ds) b a)
  advance b e more = by₁ (eqb b (get_or ds 0 0)) refl
    where
      by₄ : eqb b (get_or ds 0 0) ≡ false → eqb b (get_or ds 1 0) ≡ false → eqb b carriage_return ≡ false → (t : Bool) → eqb b (get_or ds 2 0) ≡ t
          → Next b (cond t (addressed a.segment a.field (a.repetition + 1) 1 1) (addressed a.segment a.field a.repetition a.component (a.subcomponent + 1)))
      by₄ e₁ e₂ e₀ true q = subst (λ (x : ℕ). Next x (addressed a.segment a.field (a.repetition + 1) 1 1)) (sym (eqb-true b (get_or ds 2 0) q)) (on_rep (more (eqb-false b carriage_return e₀)))
      by₄ e₁ e₂ e₀ false q =
          subst (λ (x : ℕ). Next x (addressed a.segment a.field a.repetition a.component (a.subcomponent + 1))) (sym (among_last ds b e e₁ e₂ e₀ q)) (on_sub (more (eqb-false b carriage_return e₀)))

      by₃ : eqb b (get_or ds 0 0) ≡ false → eqb b (get_or ds 1 0) ≡ false → (t : Bool) → eqb b carriage_return ≡ t
          → Next b (cond t (addressed (a.segment + 1) 0 1 1 1) (cond (eqb b (get_or ds 2 0)) (addressed a.segment a.field (a.repetition + 1) 1 1) (addressed a.segment a.field a.repetition a.component (a.subcomponent + 1))))
      by₃ e₁ e₂ true q = subst (λ (x : ℕ). Next x (addressed (a.segment + 1) 0 1 1 1)) (sym (eqb-true b carriage_return q)) on_end
      by₃ e₁ e₂ false q = by₄ e₁ e₂ q (eqb b (get_or ds 2 0)) refl

      by₂ : eqb b (get_or ds 0 0) ≡ false → (t : Bool) → eqb b (get_or ds 1 0) ≡ t
          → Next b (cond t (addressed a.segment a.field a.repetition (a.component + 1) 1) (cond (eqb b carriage_return) (addressed (a.segment + 1) 0 1 1 1) (cond (eqb b (get_or ds 2 0)) (addressed a.segment a.field (a.repetition + 1) 1 1) (addressed a.segment a.field a.repetition a.component (a.subcomponent + 1)))))
      by₂ e₁ true q =
          subst (λ (x : ℕ). Next x (addressed a.segment a.field a.repetition (a.component + 1) 1)) (sym (eqb-true b (get_or ds 1 0) q)) (on_comp (more (λ z. apart w.end_comp (sym z ∙ eqb-true b (get_or ds 1 0) q))))
        where
          apart : {x y : ℕ} → eqb x y ≡ false → x ≡ y → ⊥
          apart {x} {y} f g = eqb-false x y f g
      by₂ e₁ false q = by₃ e₁ q (eqb b carriage_return) refl

      by₁ : (t : Bool) → eqb b (get_or ds 0 0) ≡ t
          → Next b (cond t (addressed a.segment (a.field + 1) 1 1 1) (cond (eqb b (get_or ds 1 0)) (addressed a.segment a.field a.repetition (a.component + 1) 1) (cond (eqb b carriage_return) (addressed (a.segment + 1) 0 1 1 1) (cond (eqb b (get_or ds 2 0)) (addressed a.segment a.field (a.repetition + 1) 1 1) (addressed a.segment a.field a.repetition a.component (a.subcomponent + 1))))))
      by₁ true q =
          subst (λ (x : ℕ). Next x (addressed a.segment (a.field + 1) 1 1 1)) (sym (eqb-true b (get_or ds 0 0) q)) (on_field (more (λ z. apart w.end_field (sym z ∙ eqb-true b (get_or ds 0 0) q))))
        where
          apart : {x y : ℕ} → eqb x y ≡ false → x ≡ y → ⊥
          apart {x} {y} f g = eqb-false x y f g
      by₁ false q = by₂ q (eqb b (get_or ds 1 0)) refl

-- ---- `passed`, case by case

module _ (ends : List ℕ) (b : ℕ) (a : Address) where
  pub pass_field : b ≡ get_or ends 1 0 → addressed a.segment (a.field + 1) 1 1 1 ≡ passed ends b a
  pass_field e = rw (eq-eqb b (get_or ends 1 0) e)

  pub pass_component : (b ≡ get_or ends 1 0 → ⊥) → b ≡ get_or ends 2 0 → addressed a.segment a.field a.repetition (a.component + 1) 1 ≡ passed ends b a
  pass_component n e = rw (ne_eqb b (get_or ends 1 0) n, eq-eqb b (get_or ends 2 0) e)

  pub pass_end : (b ≡ get_or ends 1 0 → ⊥) → (b ≡ get_or ends 2 0 → ⊥) → b ≡ get_or ends 0 0 → addressed (a.segment + 1) 0 1 1 1 ≡ passed ends b a
  pass_end n₁ n₂ e = rw (ne_eqb b (get_or ends 1 0) n₁, ne_eqb b (get_or ends 2 0) n₂, eq-eqb b (get_or ends 0 0) e)

  pub pass_repetition : (b ≡ get_or ends 1 0 → ⊥) → (b ≡ get_or ends 2 0 → ⊥) → (b ≡ get_or ends 0 0 → ⊥) → b ≡ get_or ends 3 0
      → addressed a.segment a.field (a.repetition + 1) 1 1 ≡ passed ends b a
  pass_repetition n₁ n₂ n₀ e = rw (ne_eqb b (get_or ends 1 0) n₁, ne_eqb b (get_or ends 2 0) n₂, ne_eqb b (get_or ends 0 0) n₀, eq-eqb b (get_or ends 3 0) e)

  pub pass_subcomponent : (b ≡ get_or ends 1 0 → ⊥) → (b ≡ get_or ends 2 0 → ⊥) → (b ≡ get_or ends 0 0 → ⊥) → (b ≡ get_or ends 3 0 → ⊥)
      → addressed a.segment a.field a.repetition a.component (a.subcomponent + 1) ≡ passed ends b a
  pass_subcomponent n₁ n₂ n₀ n₃ = rw (ne_eqb b (get_or ends 1 0) n₁, ne_eqb b (get_or ends 2 0) n₂, ne_eqb b (get_or ends 0 0) n₀, ne_eqb b (get_or ends 3 0) n₃)
