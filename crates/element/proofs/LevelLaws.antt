-- Laws of the levels: what each case of `part_in`, `field_in`, `below` and `element_at` is, and that all lie within the message. Assumes nothing.
use mathlib.Core.Path.{◌≡◌, refl, sym, ap, subst}
use mathlib.Core.List.{List}
use mathlib.Core.Bool.{Bool, true, false, cond, ◌&&◌}
use Prim.Native.Nat.{ℕ, zero, suc, ◌+◌, ◌-◌, ◌≤◌}
use native.Mathlib.Omega.{arith}
use lib.ListN.{length, drop, length-drop}
use lib.Seq.{length-take-le}
use lib.Dec.{eqb, leb, lit≤}
use borrow.Author.Tests.{eqb-true, eq-eqb, ne_eqb, le-leb}
use Rattle.std.specs.Prelude.{None, Some, Option}
use Rattle.alphabet.specs.Parts.{part_at, from_to}
use Rattle.alphabet.specs.declared.parts.Part.{Part}
use Rattle.alphabet.proofs.BoolLaws.{false_true, and_both, both_and}
use Rattle.alphabet.proofs.PartLaws.{part_bytes_lem}
use Rattle.reading.specs.Segments.{field_separator, segment_at}
use Rattle.reading.proofs.SegmentLaws.{segment_bytes}
use Rattle.element.specs.Levels.{between, moved, part_in, field_in, field_at, below, repetition_at, component_at, subcomponent_at, fixed, unsplit, element_at}
use Rattle.element.specs.Ends.{field_index}
use Rattle.element.specs.declared.address.Address.{Address}

-- a part lies within the message
abbrev pub Within : List ℕ → Option Part → Type 0
Within m None = Unit {0}
Within m (Some part) = (part.start ≤ part.end) × (part.end ≤ length m)

-- what stands between s and e has so many bytes
pub between_length : (m : List ℕ) (s e : ℕ) → s ≤ e → e ≤ length m → length (between m s e) ≡ e - s
between_length m s e h k = let n = length-drop s m in length-take-le (e - s) (drop s m) (omega arith)

pub within_at : (m : List ℕ) (part : Option Part) (s e : ℕ) → Within m part → part ≡ from_to s e → (s ≤ e) × (e ≤ length m)
within_at m part s e w q = subst (Within m) q w

-- ---- a part of a part

module _ (sep : ℕ) (m : List ℕ) (part : Option Part) (k : ℕ) where
  pub in_absent : part ≡ None → part_in sep m part k ≡ None
  unfolding part_in
  in_absent q = rw q

  module _ (s e : ℕ) (q : part ≡ from_to s e) where
    pub in_at : (a b : ℕ) → part_at sep (between m s e) k ≡ from_to a b → part_in sep m part k ≡ from_to (s + a) (s + b)
    unfolding part_in
    in_at a b r = rw (q, r)

    pub in_none : part_at sep (between m s e) k ≡ None → part_in sep m part k ≡ None
    unfolding part_in
    in_none r = rw (q, r)

-- it lies within the part, so within the message
inner_part : (sep : ℕ) (m : List ℕ) (s e k : ℕ) → s ≤ e → e ≤ length m → (a b : ℕ) → part_at sep (between m s e) k ≡ from_to a b → (s + a ≤ s + b) × (s + b ≤ e)
inner_part sep m s e k h l a b q =
    let i = part_bytes_lem sep (between m s e) k a b q in
    let n = between_length m s e h l in
    let i1 = i.1 in
    let i2 = i.2 in
    (omega arith, omega arith)

pub within_in : (sep : ℕ) (m : List ℕ) (part : Option Part) (k : ℕ) → Within m part → Within m (part_in sep m part k)
unfolding part_in
within_in sep m None k w = tt
within_in sep m (Some part) k w = at (part_at sep (between m part.start part.end) k) refl
  where
    at : (p : Option Part) → part_at sep (between m part.start part.end) k ≡ p → Within m (moved part.start p)
    at None q = tt
    at (Some piece) q =
        let i = inner_part sep m part.start part.end k w.0 w.1 piece.start piece.end q in
        let i1 = i.1 in
        let l = w.1 in
        (i.0, omega arith)

-- ---- a field

module _ (m : List ℕ) (segment : ℕ) (part : Option Part) (f : ℕ) where
  pub field_separator_lem : (eqb segment 0 && eqb f 1) ≡ true → field_in m segment part f ≡ from_to 3 4
  unfolding field_in
  field_separator_lem h = let e = and_both (eqb segment 0) (eqb f 1) h in rw (e.0, e.1)

  pub field_part_lem : (eqb segment 0 && eqb f 1) ≡ false → field_in m segment part f ≡ part_in (field_separator m) m part (field_index segment f)
  unfolding field_in
  field_part_lem h = at (eqb segment 0) (eqb f 1) h
    where
      at : (t u : Bool) → (t && u) ≡ false
          → cond t (cond u (from_to 3 4) (part_in (field_separator m) m part (f - 1))) (part_in (field_separator m) m part f) ≡ part_in (field_separator m) m part (cond t (f - 1) f)
      at true true e = false_true (sym e)
      at true false e = refl
      at false u e = refl

  pub field_other : (segment ≡ 0 → ⊥) → field_in m segment part f ≡ part_in (field_separator m) m part f
  unfolding field_in
  field_other h = rw (ne_eqb segment 0 h)

  pub field_header : segment ≡ 0 → (f ≡ 1 → ⊥) → field_in m segment part f ≡ part_in (field_separator m) m part (f - 1)
  unfolding field_in
  field_header h e = rw (eq-eqb segment 0 h, ne_eqb f 1 e)

-- MSH-1 is one of the two that are not split
pub separator_fixed : (segment f : ℕ) → (eqb segment 0 && eqb f 1) ≡ true → fixed segment f ≡ true
separator_fixed segment f h =
    let e = and_both (eqb segment 0) (eqb f 1) h in
    let n = eqb-true f 1 e.1 in
    both_and e.0 (le-leb f 2 (omega arith))

module _ (segment f : ℕ) where
  pub index_other : (segment ≡ 0 → ⊥) → f ≡ field_index segment f
  index_other h = rw (ne_eqb segment 0 h)

  pub index_header : segment ≡ 0 → f - 1 ≡ field_index segment f
  index_header h = rw (eq-eqb segment 0 h)

-- ---- a level below

module _ (sep : ℕ) (m : List ℕ) (part : Option Part) where
  pub below_split : (k : ℕ) → (k ≡ 0 → ⊥) → below sep m part k ≡ part_in sep m part (k - 1)
  unfolding below
  below_split zero h = absurd (h refl)
  below_split (suc k) h = let e : suc k - 1 ≡ k = omega arith in ap (part_in sep m part) (sym e)

  -- of no part there is no part
  pub below_none : (k : ℕ) → part ≡ None → below sep m part k ≡ None
  unfolding below part_in
  below_none zero e = e
  below_none (suc k) e = rw e

  pub within_below : (k : ℕ) → Within m part → Within m (below sep m part k)
  unfolding below
  within_below zero w = w
  within_below (suc k) w = within_in sep m part k w

within_either : (m : List ℕ) (t : Bool) (p q : Option Part) → Within m p → Within m q → Within m (cond t p q)
within_either m true p q a b = a
within_either m false p q a b = b

pub within_field : (m : List ℕ) (segment : ℕ) (part : Option Part) (f : ℕ) → 4 ≤ length m → Within m part → Within m (field_in m segment part f)
unfolding field_in
within_field m segment part f l w =
    within_either m (eqb segment 0) (cond (eqb f 1) (from_to 3 4) _) _
    (within_either m (eqb f 1) (from_to 3 4) _ (lit≤ tt, l) (within_in (field_separator m) m part (f - 1) w))
    (within_in (field_separator m) m part f w)

pub within_segment : (m : List ℕ) (k : ℕ) → Within m (segment_at m k)
within_segment m k = at (segment_at m k) refl
  where
    at : (p : Option Part) → segment_at m k ≡ p → Within m p
    at None q = tt
    at (Some part) q =
        let b = segment_bytes m k part.start part.end q in
        let l = b.2 in
        (b.1, omega arith)

-- ---- an element

module _ (part : Option Part) (a : Address) where
  pub unsplit_whole : (leb a.repetition 1 && (leb a.component 1 && leb a.subcomponent 1)) ≡ true → unsplit part a ≡ part
  unfolding unsplit
  unsplit_whole h = rw h

  pub unsplit_more : (leb a.repetition 1 && (leb a.component 1 && leb a.subcomponent 1)) ≡ false → unsplit part a ≡ None
  unfolding unsplit
  unsplit_more h = rw h

module _ (m : List ℕ) (a : Address) where
  -- of no field there is no element
  pub element_none : field_at m a ≡ None → element_at m a ≡ None
  unfolding element_at unsplit subcomponent_at component_at repetition_at
  element_none e =
      at (fixed a.segment a.field) (leb a.repetition 1 && (leb a.component 1 && leb a.subcomponent 1)) e
      (below_none _ m _ a.subcomponent (below_none _ m _ a.component (below_none _ m _ a.repetition e)))
    where
      at : (t u : Bool) {p q : Option Part} → p ≡ None → q ≡ None → cond t (cond u p None) q ≡ None
      at true true e f = e
      at true false e f = refl
      at false u e f = f

  pub element_unsplit : fixed a.segment a.field ≡ true → element_at m a ≡ unsplit (field_at m a) a
  unfolding element_at
  element_unsplit h = rw h

  pub element_split : fixed a.segment a.field ≡ false → element_at m a ≡ subcomponent_at m a
  unfolding element_at
  element_split h = rw h

  pub within_element : 4 ≤ length m → Within m (element_at m a)
  unfolding element_at unsplit subcomponent_at component_at repetition_at
  within_element h =
      let field = within_field m a.segment _ a.field h (within_segment m a.segment) in
      within_either m (fixed a.segment a.field) (unsplit (field_at m a) a) (subcomponent_at m a)
      (within_either m (leb a.repetition 1 && (leb a.component 1 && leb a.subcomponent 1)) (field_at m a) None field tt)
      (within_below _ m _ a.subcomponent (within_below _ m _ a.component (within_below _ m _ a.repetition field)))
