-- Every element that is asked for by a full address, and that is there, is one of the message's leaves: `leaf-found` the other way. Assumes nothing.
use mathlib.Core.Path.{◌≡◌, refl, sym, ap, subst, subst₂, ◌∙◌}
use mathlib.Core.Bool.{Bool, true, false, ◌&&◌}
use mathlib.Core.List.{List, [], ◌∷◌, ◌++◌}
use mathlib.Core.Logic.{◌↔◌}
use Prim.Native.Nat.{ℕ, zero, suc, ◌+◌, ◌-◌, ◌≤◌}
use native.Mathlib.Nat.{add-zero}
use native.Mathlib.Omega.{arith}
use lib.Dec.{eqb, leb}
use lib.ListN.{length, get_or}
use borrow.Author.Tests.{eqb-true, ne_eqb, leb-true, leb-false, le-leb}
use Rattle.std.specs.Prelude.{None, Some, Option}
use Rattle.alphabet.specs.Answers.{Refusable, passes, checked}
use Rattle.alphabet.specs.Parts.{split, standing, from_to}
use Rattle.alphabet.specs.declared.parts.Part.{Part}
use Rattle.alphabet.proofs.BoolLaws.{and_both}
use Rattle.alphabet.proofs.PartLaws.{part_same, standing_first}
use Rattle.reading.specs.Reading.{reading}
use Rattle.reading.specs.Segments.{delimiters_of, field_separator, segments, segment_at}
use Rattle.element.specs.Finding.{found, part_bytes, element_found}
use Rattle.element.specs.Levels.{between, part_in, field_in, field_at, below, repetition_at, component_at, subcomponent_at, fixed, unsplit, element_at}
use Rattle.element.specs.declared.Element.{Element}
use Rattle.element.specs.declared.address.Address.{Address}
use Rattle.element.specs.declared.states.State.TheVariants.{Absent as no_part}
use Rattle.element.proofs.LevelLaws.{Within, between_length, within_in, within_below, within_segment, within_field, within_element, in_absent, below_split, field_header, field_other, element_split, element_unsplit, unsplit_more}
use Rattle.leaves.specs.Leaves.{Leaf, addressed, leaf_at, each, subcomponent_leaf, in_component, in_repetition, in_field, in_part, in_segment, leaves_of}
use Rattle.laws.specs.Elements.{Asks, whole_field, whole_repetition, whole_component, subcomponent}
use Rattle.laws.specs.Listing.{In, here, there, FoundAt}
use Rattle.laws.proofs.Asking.{answered_exactly}
use Rattle.laws.proofs.FoundLaws.{absent_nowhere, segment_stands}
use Rattle.laws.proofs.LeafLaws.{Stands, part_standing, leaf_right, leaf_found_at, four}
use Rattle.laws.proofs.HeaderFields.{one_byte}
use Rattle.element.proofs.RawLaws.{part_in_bytes, segment_part_bytes}

-- ---- one of several

in_front : {l : Leaf} (ks ls : List Leaf) → In l ks → In l (ks ++ ls)
in_front [] ls i = elim i [ ]
in_front (k ∷ ks) ls here = here
in_front (k ∷ ks) ls (there i) = there (in_front ks ls i)

in_behind : {l : Leaf} (ks ls : List Leaf) → In l ls → In l (ks ++ ls)
in_behind [] ls i = i
in_behind (k ∷ ks) ls i = there (in_behind ks ls i)

nowhere_at : {s e : ℕ} → None ≡ from_to s e → ⊥
nowhere_at q = let z : ◌≡◌ {A = ℕ} 0 1 = cc in omega arith

-- a leaf of one of some parts, by its number and where it stands
each_in : (l : Leaf) (inner : ℕ → ℕ → List ℕ → List Leaf) (k at : ℕ) (ps : List (List ℕ)) (j t e : ℕ) → standing at ps j ≡ from_to t e
    → In l (inner (k + j) t (get_or ps j [])) → In l (each inner k at ps)
unfolding each standing
each_in l inner k at [] j t e q i = absurd (nowhere_at q)
each_in l inner k at (p ∷ ps) zero t e q i =
    in_front (inner k at p) (each inner (k + 1) (at + length p + 1) ps) (subst₂ (λ (n b : ℕ). In l (inner n b p)) (add-zero k) (sym (part_same q).0) i)
each_in l inner k at (p ∷ ps) (suc j) t e q i =
    let n : k + suc j ≡ k + 1 + j = omega arith in
    in_behind (inner k at p) (each inner (k + 1) (at + length p + 1) ps)
    (each_in l inner (k + 1) (at + length p + 1) ps j t e q (subst (λ (x : ℕ). In l (inner x t (get_or ps j []))) n i))

-- ---- a part that is there

abbrev begin : Option Part → ℕ
begin None = 0
begin (Some part) = part.start

module _ (m : List ℕ) where
  stands_there : (p : Option Part) → Within m p → (p ≡ None → ⊥) → Stands m p (begin p) (part_bytes m p)
  stands_there None w h = absurd (h refl)
  stands_there (Some part) w h =
      let w0 = w.0 in
      let n = between_length m part.start part.end w0 w.1 in
      let k : part.end ≡ part.start + length (between m part.start part.end) = omega arith in
      record { place = ap (from_to part.start) k; within = w; holds = refl }

  -- one of its parts, numbered from k
  part_listed : (sep : ℕ) (p : Option Part) → Within m p → (p ≡ None → ⊥) → (j : ℕ) → (part_in sep m p j ≡ None → ⊥) → (l : Leaf) (inner : ℕ → ℕ → List ℕ → List Leaf) (k : ℕ)
      → In l (inner (k + j) (begin (part_in sep m p j)) (part_bytes m (part_in sep m p j))) → In l (each inner k (begin p) (split sep (part_bytes m p)))
  part_listed sep p w h j g l inner k i =
      let child = stands_there (part_in sep m p j) (within_in sep m p j w) g in
      each_in l inner k (begin p) (split sep (part_bytes m p)) j (begin (part_in sep m p j)) (begin (part_in sep m p j) + length (part_bytes m (part_in sep m p j)))
      (sym (part_standing m sep (stands_there p w h) j) ∙ child.place)
      (subst (λ (b : List ℕ). In l (inner (k + j) (begin (part_in sep m p j)) b)) (part_in_bytes sep m p j w) i)

  above_in : (sep : ℕ) (p : Option Part) (j : ℕ) → (part_in sep m p j ≡ None → ⊥) → p ≡ None → ⊥
  above_in sep p j g q = g (in_absent sep m p j q)

  above : (sep : ℕ) (p : Option Part) (k : ℕ) → (below sep m p k ≡ None → ⊥) → p ≡ None → ⊥
  unfolding below
  above sep p zero g q = g q
  above sep p (suc k) g q = above_in sep p k g q

  -- the same by its number, from 1
  level_listed : (sep : ℕ) (p : Option Part) → Within m p → (k : ℕ) → 1 ≤ k → (below sep m p k ≡ None → ⊥) → (l : Leaf) (inner : ℕ → ℕ → List ℕ → List Leaf)
      → In l (inner k (begin (below sep m p k)) (part_bytes m (below sep m p k))) → In l (each inner 1 (begin p) (split sep (part_bytes m p)))
  level_listed sep p w k one g l inner i =
      let q = below_split sep m p k (λ z. omega arith) in
      let n : k ≡ 1 + (k - 1) = omega arith in
      part_listed sep p w (above sep p k g) (k - 1) (λ e. g (q ∙ e)) l inner 1
      (subst₂ (λ (x : ℕ) (y : Option Part). In l (inner x (begin y) (part_bytes m y))) n q i)

module _ (m : List ℕ) (ok : reading m ≡ passes) where
  abbrev ds : List ℕ
  ds = delimiters_of m

  -- ---- of a field that is split further

  module _ (s f r c u : ℕ) (hr : 1 ≤ r) (hc : 1 ≤ c) (hu : 1 ≤ u) where
    abbrev field_part : Option Part
    field_part = field_in m s (segment_at m s) f

    abbrev repetition_part : Option Part
    repetition_part = below (get_or (delimiters_of m) 2 0) m field_part r

    abbrev component_part : Option Part
    component_part = below (get_or (delimiters_of m) 1 0) m repetition_part c

    abbrev subcomponent_part : Option Part
    subcomponent_part = below (get_or (delimiters_of m) 4 0) m component_part u

    field_within : Within m field_part
    field_within = within_field m s (segment_at m s) f (four m ok) (within_segment m s)

    repetition_within : Within m repetition_part
    repetition_within = within_below (get_or (delimiters_of m) 2 0) m field_part r field_within

    component_within : Within m component_part
    component_within = within_below (get_or (delimiters_of m) 1 0) m repetition_part c repetition_within

    module _ (g : subcomponent_part ≡ None → ⊥) where
      component_there : component_part ≡ None → ⊥
      component_there = above m (get_or (delimiters_of m) 4 0) component_part u g

      repetition_there : repetition_part ≡ None → ⊥
      repetition_there = above m (get_or (delimiters_of m) 1 0) repetition_part c component_there

      field_there : field_in m s (segment_at m s) f ≡ None → ⊥
      field_there = above m (get_or (delimiters_of m) 2 0) field_part r repetition_there

      field_listed : In (leaf_at ds (addressed s f r c u) (begin subcomponent_part) (part_bytes m subcomponent_part)) (in_field ds s f (begin field_part) (part_bytes m field_part))
      unfolding in_field in_repetition in_component
      field_listed =
          level_listed m (get_or (delimiters_of m) 2 0) field_part field_within r hr repetition_there _ (in_repetition ds s f)
          (level_listed m (get_or (delimiters_of m) 1 0) repetition_part repetition_within c hc component_there _ (in_component ds s f r)
          (level_listed m (get_or (delimiters_of m) 4 0) component_part component_within u hu g _ (subcomponent_leaf ds s f r c) here))

  -- ---- of a segment

  abbrev Held : Leaf → ℕ → Type 0
  Held l s = In l (in_segment ds s (begin (segment_at m s)) (part_bytes m (segment_at m s)))

  message_listed : (l : Leaf) (s : ℕ) → (segment_at m s ≡ None → ⊥) → Held l s → In l (leaves_of m)
  unfolding leaves_of segment_at
  message_listed l s g i =
      let h = stands_there m (segment_at m s) (within_segment m s) g in
      let n : s ≡ 0 + s = omega arith in
      each_in l (in_segment ds) 0 0 (segments m) s (begin (segment_at m s)) (begin (segment_at m s) + length (part_bytes m (segment_at m s))) h.place
      (subst₂ (λ (x : ℕ) (b : List ℕ). In l (in_segment ds x (begin (segment_at m s)) b)) n (segment_part_bytes m (four m ok) s) i)

  other_listed : (l : Leaf) (s f : ℕ) → (s ≡ 0 → ⊥) → 1 ≤ f → (field_in m s (segment_at m s) f ≡ None → ⊥)
      → In l (in_field ds s f (begin (field_in m s (segment_at m s) f)) (part_bytes m (field_in m s (segment_at m s) f))) → Held l s
  unfolding in_segment in_part
  other_listed l s f ne one g i =
      let q = field_other m s (segment_at m s) f ne in
      let n : f ≡ 0 + f = omega arith in
      let k : In l (in_part ds s f (begin (field_in m s (segment_at m s) f)) (part_bytes m (field_in m s (segment_at m s) f))) = rw (ne_eqb s 0 ne, ne_eqb f 0 (λ z. omega arith)) i in
      let part : In l (each (in_part ds s) 0 (begin (segment_at m s)) (split (field_separator m) (part_bytes m (segment_at m s))))
      = part_listed m (field_separator m) (segment_at m s) (within_segment m s) (above_in m (field_separator m) (segment_at m s) f (λ e. g (q ∙ e))) f (λ e. g (q ∙ e)) l (in_part ds s) 0
      (subst₂ (λ (x : ℕ) (y : Option Part). In l (in_part ds s x (begin y) (part_bytes m y))) n q k) in
      rw (ne_eqb s 0 ne) part

  -- a part of MSH
  header_part : (l : Leaf) (f : ℕ) → 2 ≤ f → (field_in m 0 (segment_at m 0) f ≡ None → ⊥)
      → In l (in_part ds 0 f (begin (field_in m 0 (segment_at m 0) f)) (part_bytes m (field_in m 0 (segment_at m 0) f))) → Held l 0
  unfolding in_segment
  header_part l f two g i =
      let q = field_header m 0 (segment_at m 0) f refl (λ z. omega arith) in
      let n : f ≡ 1 + (f - 1) = omega arith in
      part_listed m (field_separator m) (segment_at m 0) (within_segment m 0) (above_in m (field_separator m) (segment_at m 0) (f - 1) (λ e. g (q ∙ e))) (f - 1) (λ e. g (q ∙ e)) l (in_part ds 0) 1
      (subst₂ (λ (x : ℕ) (y : Option Part). In l (in_part ds 0 x (begin y) (part_bytes m y))) n q i)

  header_listed : (l : Leaf) (f : ℕ) → 3 ≤ f → (field_in m 0 (segment_at m 0) f ≡ None → ⊥)
      → In l (in_field ds 0 f (begin (field_in m 0 (segment_at m 0) f)) (part_bytes m (field_in m 0 (segment_at m 0) f))) → Held l 0
  unfolding in_part
  header_listed l f three g i = header_part l f (omega arith) g (rw (ne_eqb f 1 (λ z. omega arith), ne_eqb f 2 (λ z. omega arith)) i)

  separator_listed : Held (leaf_at ds (addressed 0 1 1 1 1) 3 (get_or m 3 0 ∷ [])) 0
  unfolding in_segment in_part
  separator_listed =
      each_in _ (in_part ds 0) 1 (begin (segment_at m 0)) (split (field_separator m) (part_bytes m (segment_at m 0))) 0 _ _
      (standing_first (field_separator m) (begin (segment_at m 0)) (part_bytes m (segment_at m 0))) here

  encoding_listed : (field_in m 0 (segment_at m 0) 2 ≡ None → ⊥) → Held (leaf_at ds (addressed 0 2 1 1 1) (begin (field_in m 0 (segment_at m 0) 2)) (part_bytes m (field_in m 0 (segment_at m 0) 2))) 0
  unfolding in_part
  encoding_listed g = header_part _ 2 (omega arith) g here

  -- ---- of the message

  -- what stands at an address is one of the leaves
  abbrev Listed : Address → Type 0
  Listed a = In (leaf_at ds a (begin (element_at m a)) (part_bytes m (element_at m a))) (leaves_of m)

  split_listed : (s f r c u : ℕ) → 1 ≤ f → 1 ≤ r → 1 ≤ c → 1 ≤ u → fixed s f ≡ false → (segment_at m s ≡ None → ⊥) → (element_at m (addressed s f r c u) ≡ None → ⊥) → Listed (addressed s f r c u)
  unfolding subcomponent_at component_at repetition_at
  split_listed s f r c u hf hr hc hu further stood g =
      let q = element_split m (addressed s f r c u) further in
      let k : subcomponent_at m (addressed s f r c u) ≡ None → ⊥ = (λ e. g (q ∙ e)) in
      subst (λ (p : Option Part). In (leaf_at ds (addressed s f r c u) (begin p) (part_bytes m p)) (leaves_of m)) (sym q)
      (message_listed _ s stood (held s further (field_there s f r c u hr hc hu k) (field_listed s f r c u hr hc hu k)))
    where
      held : (s : ℕ) → fixed s f ≡ false → (field_in m s (segment_at m s) f ≡ None → ⊥) → {l : Leaf}
          → In l (in_field ds s f (begin (field_in m s (segment_at m s) f)) (part_bytes m (field_in m s (segment_at m s) f))) → Held l s
      held zero e there-is i = let n = leb-false f 2 e in header_listed _ f (omega arith) there-is i
      held (suc s) e there-is i = other_listed _ (suc s) f (λ z. omega arith) hf there-is i

  separator_here : (segment_at m 0 ≡ None → ⊥) → Listed (addressed 0 1 1 1 1)
  unfolding element_at unsplit field_in
  separator_here stood = subst (λ (b : List ℕ). In (leaf_at ds (addressed 0 1 1 1 1) 3 b) (leaves_of m)) (sym (one_byte m (four m ok))) (message_listed _ 0 stood separator_listed)

  encoding_here : (segment_at m 0 ≡ None → ⊥) → (element_at m (addressed 0 2 1 1 1) ≡ None → ⊥) → Listed (addressed 0 2 1 1 1)
  unfolding element_at unsplit
  encoding_here stood g = message_listed _ 0 stood (encoding_listed g)

  fixed_listed : (f r c u : ℕ) → 1 ≤ f → f ≤ 2 → 1 ≤ r → 1 ≤ c → 1 ≤ u → (segment_at m 0 ≡ None → ⊥) → (element_at m (addressed 0 f r c u) ≡ None → ⊥) → Listed (addressed 0 f r c u)
  fixed_listed f r c u hf few hr hc hu stood g = go (leb r 1 && (leb c 1 && leb u 1)) refl
    where
      one : (f : ℕ) → 1 ≤ f → f ≤ 2 → (element_at m (addressed 0 f 1 1 1) ≡ None → ⊥) → Listed (addressed 0 f 1 1 1)
      one zero a b k = absurd (omega arith)
      one (suc zero) a b k = separator_here stood
      one (suc (suc zero)) a b k = encoding_here stood k
      one (suc (suc (suc f))) a b k = absurd (omega arith)

      go : (t : Bool) → (leb r 1 && (leb c 1 && leb u 1)) ≡ t → Listed (addressed 0 f r c u)
      go false e = absurd (g (element_unsplit m (addressed 0 f r c u) (le-leb f 2 few) ∙ unsplit_more (field_at m (addressed 0 f r c u)) (addressed 0 f r c u) e))
      go true e =
          let x = and_both (leb r 1) (leb c 1 && leb u 1) e in
          let y = and_both (leb c 1) (leb u 1) x.1 in
          let lr = leb-true r 1 x.0 in
          let lc = leb-true c 1 y.0 in
          let lu = leb-true u 1 y.1 in
          let er : 1 ≡ r = omega arith in
          let ec : 1 ≡ c = omega arith in
          let eu : 1 ≡ u = omega arith in
          let same : addressed 0 f 1 1 1 ≡ addressed 0 f r c u = (λ i. addressed 0 f (er i) (ec i) (eu i)) in
          subst Listed same (one f hf few (subst (λ (a : Address). element_at m a ≡ None → ⊥) (sym same) g))

  asked_listed : {a : Address} → Asks a → 1 ≤ a.subcomponent → (segment_at m a.segment ≡ None → ⊥) → (element_at m a ≡ None → ⊥) → Listed a
  asked_listed (whole_field s f h) n stood g = absurd (omega arith)
  asked_listed (whole_repetition s f r h k) n stood g = absurd (omega arith)
  asked_listed (whole_component s f r c h k j) n stood g = absurd (omega arith)
  asked_listed (subcomponent s f r c u hf hr hc hu) n stood g = go (fixed s f) refl
    where
      go : (t : Bool) → fixed s f ≡ t → Listed (addressed s f r c u)
      go false e = split_listed s f r c u hf hr hc hu e stood g
      go true e =
          let x = and_both (eqb s 0) (leb f 2) e in
          let z = sym (eqb-true s 0 x.0) in
          let same : addressed 0 f r c u ≡ addressed s f r c u = ap (λ (i : ℕ). addressed i f r c u) z in
          subst Listed same
          (fixed_listed f r c u hf (leb-true f 2 x.1) hr hc hu (subst (λ (i : ℕ). segment_at m i ≡ None → ⊥) (sym z) stood)
          (subst (λ (a : Address). element_at m a ≡ None → ⊥) (sym same) g))

-- every element that is asked for down to its subcomponent, and that is there, is one of the leaves
pub found_listed : (m : List ℕ) (a : Address) → checked (found m a) ≡ passes → 1 ≤ a.subcomponent → ((element_found (found m a)).state ≡ no_part → ⊥)
    → In (record { address = a; element = (element_found (found m a)) }) (leaves_of m)
found_listed m a done n here-is =
    let x = (answered_exactly m a).0 done in
    let ok = x.0 in
    let g : element_at m a ≡ None → ⊥ = (λ q. here-is ((absent_nowhere m a done).1 q)) in
    let right = leaf_right m ok a _ _ x.1 n x.2 (stands_there m (element_at m a) (within_element m a (four m ok)) g) in
    subst (λ (e : Element). In (record { address = a; element = e }) (leaves_of m)) (sym (ap (λ (y : Refusable Element). element_found y) right.looked_up))
    (asked_listed m ok x.1 n (segment_stands m a done) g)

-- the leaves of a message are exactly the elements that full addresses find
pub leaf_exactly : (m : List ℕ) → reading m ≡ passes → (l : Leaf) → In l (leaves_of m) ↔ FoundAt m l
leaf_exactly m ok l = (leaf_found_at m ok l, back)
  where
    back : FoundAt m l → In l (leaves_of m)
    back h =
        let same : (element_found (found m l.address)) ≡ l.element = ap (λ (y : Refusable Element). element_found y) h.looked_up in
        subst (λ (e : Element). In (record { address = l.address; element = e }) (leaves_of m)) same
        (found_listed m l.address (ap (λ (y : Refusable Element). checked y) h.looked_up) h.full (λ q. h.not_absent (ap (λ (e : Element). e.state) (sym same) ∙ q)))
