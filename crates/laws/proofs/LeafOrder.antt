-- The leaves of a message stand in the order in which they begin, and none twice: those of a part begin between its first byte and the byte behind it. So no other list has the same leaves in this order. Assumes nothing.
use mathlib.Core.Path.{◌≡◌, refl, sym, ap, ap₂, subst, ◌∙◌}
use mathlib.Core.Bool.{Bool, true, false, cond}
use mathlib.Core.List.{List, [], ◌∷◌, ◌++◌}
use mathlib.Core.Logic.{◌⊎◌, inl, inr, ⊎_elim, ◌↔◌}
use Prim.Native.Nat.{ℕ, zero, suc, ◌+◌, ◌≤◌, ◌<◌}
use native.Mathlib.Nat.{add-zero}
use native.Mathlib.Omega.{arith}
use lib.Dec.{eqb}
use lib.ListN.{length, get_or}
use borrow.Author.Tests.{eqb-true, ne_eqb}
use Rattle.alphabet.specs.Answers.{passes}
use Rattle.alphabet.specs.Parts.{grown, split, standing, from_to}
use Rattle.alphabet.proofs.PartLaws.{part_same, split_some}
use Rattle.reading.specs.Reading.{reading}
use Rattle.reading.specs.Segments.{delimiters_of, field_separator, segments, segment_at}
use Rattle.reading.proofs.Accepted.{accepted}
use Rattle.reading.proofs.SegmentLaws.{segment_bytes}
use Rattle.element.specs.Finding.{part_bytes}
use Rattle.element.proofs.LevelLaws.{within_segment, field_header}
use Rattle.leaves.specs.Leaves.{Leaf, addressed, leaf_at, each, subcomponent_leaf, in_component, in_repetition, in_field, in_part, in_segment, leaves_of}
use Rattle.laws.specs.Elements.{spanned}
use Rattle.laws.specs.Listing.{In, here, there, FoundAt, Rising}
use Rattle.laws.proofs.EveryLeaf.{leaf_exactly}
use Rattle.laws.proofs.HeaderFields.{second_field}
use Rattle.laws.proofs.HeaderLaws.{first_segment}
use Rattle.laws.proofs.LeafLaws.{Stands, part_standing}

-- ---- leaves that begin from one place on, and before another

unfoldable Spans : ℕ → ℕ → List Leaf → Type 0
Spans from to [] = from ≤ to
Spans from to (l ∷ ls) = (from ≤ l.element.start) × Spans (l.element.start + 1) to ls

spans_rising : (from to : ℕ) (ls : List Leaf) → Spans from to ls → Rising from ls
unfolding Spans
spans_rising from to [] h = tt
spans_rising from to (l ∷ ls) h = (h.0, spans_rising (l.element.start + 1) to ls h.1)

spans_earlier : (early from to : ℕ) (ls : List Leaf) → early ≤ from → Spans from to ls → Spans early to ls
unfolding Spans
spans_earlier early from to [] e h = omega arith
spans_earlier early from to (l ∷ ls) e h = let n = h.0 in (omega arith, h.1)

spans_append : (from mid to : ℕ) (ks ls : List Leaf) → Spans from mid ks → Spans mid to ls → Spans from to (ks ++ ls)
unfolding Spans
spans_append from mid to [] ls h k = spans_earlier from mid to ls h k
spans_append from mid to (l ∷ ks) ls h k = (h.0, spans_append (l.element.start + 1) mid to ks ls h.1 k)

spans_one : (from to : ℕ) (l : Leaf) → from ≤ l.element.start → l.element.start < to → Spans from to (l ∷ [])
unfolding Spans
spans_one from to l h k = (h, omega arith)

spans_none : (from to : ℕ) → from ≤ to → Spans from to []
unfolding Spans
spans_none from to h = h

each_spans : (inner : ℕ → ℕ → List ℕ → List Leaf) (k at : ℕ) (ps : List (List ℕ))
    → ((j s : ℕ) → standing at ps j ≡ from_to s (s + length (get_or ps j [])) → Spans s (s + length (get_or ps j []) + 1) (inner (k + j) s (get_or ps j []))) → Spans at (at + spanned ps) (each inner k at ps)
unfolding each standing spanned
each_spans inner k at [] h = spans_none at (at + 0) (omega arith)
each_spans inner k at (p ∷ ps) h =
    let sum : at + length p + 1 + spanned ps ≡ at + (length p + 1 + spanned ps) = omega arith in
    subst (λ (to : ℕ). Spans at to (each inner k at (p ∷ ps))) sum
    (spans_append at (at + length p + 1) (at + length p + 1 + spanned ps) (inner k at p) (each inner (k + 1) (at + length p + 1) ps)
    (subst (λ (n : ℕ). Spans at (at + length p + 1) (inner n at p)) (add-zero k) (h 0 at refl))
    (each_spans inner (k + 1) (at + length p + 1) ps
    (λ j s e. let n : k + suc j ≡ k + 1 + j = omega arith in subst (λ (i : ℕ). Spans s (s + length (get_or ps j []) + 1) (inner i s (get_or ps j []))) n (h (suc j) s e))))

-- the parts of some bytes have these, and a separator between each two
split_spanned : (sep : ℕ) (bytes : List ℕ) → spanned (split sep bytes) ≡ length bytes + 1
unfolding split spanned
split_spanned sep [] = refl
split_spanned sep (b ∷ r) = go (eqb sep b) (split_spanned sep r)
  where
    grow : (ps : List (List ℕ)) → 1 ≤ length ps → spanned (grown b ps) ≡ 1 + spanned ps
    grow [] h = absurd (omega arith)
    grow (p ∷ ps) h = omega arith

    go : (t : Bool) → spanned (split sep r) ≡ length r + 1 → spanned (cond t ([] ∷ split sep r) (grown b (split sep r))) ≡ suc (length r) + 1
    go true e = omega arith
    go false e = let n = grow (split sep r) (split_some sep r) in omega arith

level_spans : (inner : ℕ → ℕ → List ℕ → List Leaf) (k at sep : ℕ) (bytes : List ℕ)
    → ((j s : ℕ) → standing at (split sep bytes) j ≡ from_to s (s + length (get_or (split sep bytes) j [])) → Spans s (s + length (get_or (split sep bytes) j []) + 1) (inner (k + j) s (get_or (split sep bytes) j [])))
    → Spans at (at + length bytes + 1) (each inner k at (split sep bytes))
level_spans inner k at sep bytes h =
    let n = split_spanned sep bytes in
    let sum : at + spanned (split sep bytes) ≡ at + length bytes + 1 = omega arith in
    subst (λ (to : ℕ). Spans at to (each inner k at (split sep bytes))) sum (each_spans inner k at (split sep bytes) h)

-- ---- each level

module _ (ds : List ℕ) (s f : ℕ) where
  component_spans : (r c at : ℕ) (bytes : List ℕ) → Spans at (at + length bytes + 1) (in_component ds s f r c at bytes)
  unfolding in_component
  component_spans r c at bytes = level_spans (subcomponent_leaf ds s f r c) 1 at (get_or ds 4 0) bytes (λ j t e. spans_one t _ _ (omega arith) (omega arith))

  repetition_spans : (r at : ℕ) (bytes : List ℕ) → Spans at (at + length bytes + 1) (in_repetition ds s f r at bytes)
  unfolding in_repetition
  repetition_spans r at bytes = level_spans (in_component ds s f r) 1 at (get_or ds 1 0) bytes (λ j t e. component_spans r (1 + j) t (get_or (split (get_or ds 1 0) bytes) j []))

  field_spans : (at : ℕ) (bytes : List ℕ) → Spans at (at + length bytes + 1) (in_field ds s f at bytes)
  unfolding in_field
  field_spans at bytes = level_spans (in_repetition ds s f) 1 at (get_or ds 2 0) bytes (λ j t e. repetition_spans (1 + j) t (get_or (split (get_or ds 2 0) bytes) j []))

other_spans : (ds : List ℕ) (s f at : ℕ) (bytes : List ℕ) → (s ≡ 0 → ⊥) → Spans at (at + length bytes + 1) (in_part ds s f at bytes)
unfolding in_part
other_spans ds s f at bytes ne = rw (ne_eqb s 0 ne) (go (eqb f 0))
  where
    go : (t : Bool) → Spans at (at + length bytes + 1) (cond t [] (in_field ds s f at bytes))
    go true = spans_none at (at + length bytes + 1) (omega arith)
    go false = field_spans ds s f at bytes

-- MSH-1 stands where the name is the part, and is the byte behind it
header_spans : (ds : List ℕ) (f at : ℕ) (bytes : List ℕ) → (f ≡ 1 → (at ≤ 3) × (3 ≤ at + length bytes)) → Spans at (at + length bytes + 1) (in_part ds 0 f at bytes)
unfolding in_part
header_spans ds f at bytes h = go (eqb f 1) (eqb f 2) refl
  where
    go : (t u : Bool) → eqb f 1 ≡ t
        → Spans at (at + length bytes + 1) (cond t (leaf_at ds (addressed 0 1 1 1 1) 3 (get_or ds 0 0 ∷ []) ∷ []) (cond u (leaf_at ds (addressed 0 2 1 1 1) at bytes ∷ []) (in_field ds 0 f at bytes)))
    go true u e = let b = h (eqb-true f 1 e) in let b0 = b.0 in let b1 = b.1 in spans_one at (at + length bytes + 1) _ b0 (omega arith)
    go false true e = spans_one at (at + length bytes + 1) _ (omega arith) (omega arith)
    go false false e = field_spans ds 0 f at bytes

-- where the second of some parts begins, the first has ended
first_ends : (at : ℕ) (ps : List (List ℕ)) (t u v : ℕ) → standing at ps 0 ≡ from_to t (t + length (get_or ps 0 [])) → standing at ps 1 ≡ from_to u v → (t ≡ at) × (t + length (get_or ps 0 []) + 1 ≡ u)
unfolding standing
first_ends at [] t u v e g = absurd (let z : ◌≡◌ {A = ℕ} 0 1 = cc in omega arith)
first_ends at (p ∷ []) t u v e g = absurd (let z : ◌≡◌ {A = ℕ} 0 1 = cc in omega arith)
first_ends at (p ∷ q ∷ ps) t u v e g =
    let a : at ≡ t = (part_same e).0 in
    let b : at + length p + 1 ≡ u = (part_same g).0 in
    (sym a, omega arith)

module _ (m : List ℕ) (ok : reading m ≡ passes) where
  abbrev ds : List ℕ
  ds = delimiters_of m

  segment_spans : (s at : ℕ) (bytes : List ℕ) → Stands m (segment_at m s) at bytes → Spans at (at + length bytes + 1) (in_segment ds s at bytes)
  unfolding in_segment
  segment_spans zero at bytes h =
      level_spans (in_part ds 0) 1 at (get_or ds 0 0) bytes
      (λ j t e. header_spans ds (1 + j) t (get_or (split (get_or ds 0 0) bytes) j []) (λ n. let z : j ≡ 0 = omega arith in named j t e z))
    where
      second : standing at (split (get_or ds 0 0) bytes) 1 ≡ from_to 4 8
      second = sym (part_standing m (field_separator m) h 1) ∙ sym (field_header m 0 (segment_at m 0) 2 refl (λ z. omega arith)) ∙ second_field m (accepted m ok)

      begun : at ≡ 0
      begun = (part_same (sym h.place ∙ (first_segment m (accepted m ok)).0)).0

      named : (j t : ℕ) → standing at (split (get_or ds 0 0) bytes) j ≡ from_to t (t + length (get_or (split (get_or ds 0 0) bytes) j [])) → j ≡ 0 → (t ≤ 3) × (3 ≤ t + length (get_or (split (get_or ds 0 0) bytes) j []))
      named zero t e z =
          let x = first_ends at (split (get_or ds 0 0) bytes) t 4 8 e second in
          let x0 = x.0 in
          let x1 = x.1 in
          let b = begun in
          (omega arith, omega arith)
      named (suc j) t e z = absurd (omega arith)
  segment_spans (suc s) at bytes h =
      rw (ne_eqb (suc s) 0 (λ z. omega arith))
      (level_spans (in_part ds (suc s)) 0 at (get_or ds 0 0) bytes (λ j t e. other_spans ds (suc s) (0 + j) t (get_or (split (get_or ds 0 0) bytes) j []) (λ z. omega arith)))

-- the leaves of a message that was read are listed in the order in which they begin, each once
pub leaves_rising : (m : List ℕ) → reading m ≡ passes → Rising 0 (leaves_of m)
unfolding leaves_of segment_at
leaves_rising m ok =
    spans_rising 0 (0 + spanned (segments m)) (each (in_segment (delimiters_of m)) 0 0 (segments m))
    (each_spans (in_segment (delimiters_of m)) 0 0 (segments m)
    (λ j t e. let n : j ≡ 0 + j = omega arith in
    let b = segment_bytes m j t (t + length (get_or (segments m) j [])) e in
    subst (λ (i : ℕ). Spans t (t + length (get_or (segments m) j []) + 1) (in_segment (delimiters_of m) i t (get_or (segments m) j []))) n
    (segment_spans m ok j t (get_or (segments m) j []) (record { place = e; within = within_segment m j; holds = ap (part_bytes m) e ∙ b.3 }))))

-- ---- no second list

in_cases : {x k : Leaf} {ks : List Leaf} → In x (k ∷ ks) → (x ≡ k) ⊎ In x ks
in_cases here = inl refl
in_cases (there i) = inr i

in_none : {x : Leaf} (ls : List Leaf) → In x ls → ls ≡ [] → ⊥
in_none [] i e = elim i [ ]
in_none (k ∷ ks) i e = let z : ◌≡◌ {A = ℕ} 0 1 = cc in omega arith

in_later : {x : Leaf} (from : ℕ) (ls : List Leaf) → Rising from ls → In x ls → from ≤ x.element.start
in_later from [] h i = elim i [ ]
in_later from (l ∷ ls) h here = h.0
in_later from (l ∷ ls) h (there i) =
    let n = in_later (l.element.start + 1) ls h.1 i in
    let k = h.0 in
    omega arith

begins_same : {x k : Leaf} → x ≡ k → x.element.start ≡ k.element.start
begins_same e = ap (λ (l : Leaf). l.element.start) e

-- one of the rest, if it is not the first
in_rest : {x l : Leaf} (ls : List Leaf) → In x (l ∷ ls) → l.element.start + 1 ≤ x.element.start → In x ls
in_rest ls i h = ⊎_elim (λ e. absurd (let n = begins_same e in omega arith)) (λ j. j) (in_cases i)

first_same : (k l : Leaf) (ks ls : List Leaf) (from : ℕ) → Rising from (k ∷ ks) → Rising from (l ∷ ls) → In k (l ∷ ls) → In l (k ∷ ks) → k ≡ l
first_same k l ks ls from h g i j =
    ⊎_elim (λ e. e)
    (λ a. ⊎_elim sym
    (λ b. absurd (let n = in_later (l.element.start + 1) ls g.1 a in let o = in_later (k.element.start + 1) ks h.1 b in omega arith)) (in_cases j)) (in_cases i)

same_leaves : (from : ℕ) (ks ls : List Leaf) → Rising from ks → Rising from ls → ((x : Leaf) → In x ks ↔ In x ls) → ks ≡ ls
same_leaves from [] [] h g same = refl
same_leaves from [] (l ∷ ls) h g same = absurd (in_none [] ((same l).1 here) refl)
same_leaves from (k ∷ ks) [] h g same = absurd (in_none [] ((same k).0 here) refl)
same_leaves from (k ∷ ks) (l ∷ ls) h g same =
    let e : k ≡ l = first_same k l ks ls from h g ((same k).0 here) ((same l).1 here) in
    let n = begins_same e in
    let g' : Rising (k.element.start + 1) ls = subst (λ (x : Leaf). Rising (x.element.start + 1) ls) (sym e) g.1 in
    let rest : ks ≡ ls
    = same_leaves (k.element.start + 1) ks ls h.1 g'
    (λ x. (
      (λ i. in_rest ls ((same x).0 (there i)) (let o = in_later (k.element.start + 1) ks h.1 i in omega arith)),
      (λ i. in_rest ks ((same x).1 (there i)) (in_later (k.element.start + 1) ls g' i)),
    )) in
    ap₂ (λ (x : Leaf) (xs : List Leaf). x ∷ xs) e rest

-- a list in this order, of exactly what lookups find at full addresses, is the list of the message's leaves
pub leaves_only : (m : List ℕ) → reading m ≡ passes → (ls : List Leaf) → Rising 0 ls → ((l : Leaf) → In l ls ↔ FoundAt m l) → ls ≡ leaves_of m
leaves_only m ok ls rising exactly =
    same_leaves 0 ls (leaves_of m) rising (leaves_rising m ok)
    (λ l. ((λ i. (leaf_exactly m ok l).1 ((exactly l).0 i)), (λ i. (exactly l).1 ((leaf_exactly m ok l).0 i))))
