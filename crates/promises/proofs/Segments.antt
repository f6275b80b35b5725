-- A segment and its elements, by their places: every element that a lookup finds stands inside the segment of its address. Assumes nothing.
use mathlib.Core.Path.{◌≡◌, refl, sym, ap, subst, ◌∙◌}
use mathlib.Core.List.{List}
use mathlib.Core.Bool.{Bool, true, false, cond, ◌&&◌}
use Prim.Native.Nat.{ℕ, zero, suc, ◌-◌, ◌≤◌, ◌<◌}
use native.Mathlib.Omega.{arith}
use lib.ListN.{length}
use lib.Dec.{eqb, leb}
use borrow.Author.Tests.{eqb-true}
use Rattle.std.specs.Prelude.{None, Some, Option}
use Rattle.alphabet.specs.Answers.{Refusable, passes, checked}
use Rattle.alphabet.specs.Parts.{part_at, from_to}
use Rattle.alphabet.specs.declared.parts.Part.{Part}
use Rattle.alphabet.proofs.PartLaws.{part_same, part_bytes_lem}
use Rattle.reading.specs.Reading.{reading}
use Rattle.reading.specs.Segments.{field_separator, segment_at, segments}
use Rattle.reading.proofs.Accepted.{accepted}
use Rattle.reading.proofs.SegmentLaws.{segment_bytes, segment_past}
use Rattle.element.specs.Levels.{between, moved, part_in, field_in, field_at, below, repetition_at, component_at, subcomponent_at, fixed, unsplit, element_at}
use Rattle.element.specs.Finding.{found, element_found}
use Rattle.element.specs.declared.address.Address.{Address}
use Rattle.element.specs.declared.states.State.TheVariants.{Absent as IsAbsent}
use Rattle.element.proofs.LevelLaws.{between_length}
use Rattle.laws.proofs.FoundLaws.{place_at, absent_nowhere}
use Rattle.laws.proofs.HeaderLaws.{first_segment}
use Rattle.segments.specs.Asked.{segment_found, segment_given}
use Rattle.segments.specs.declared.Segment.{Segment}
use Rattle.segments.proofs.AskedLaws.{asked_there}
use Rattle.promises.proofs.Elements.{found_exactly}

-- a part lies between two places of the message
abbrev Inside : List ℕ → ℕ → ℕ → Option Part → Type 0
Inside m from to None = Unit {0}
Inside m from to (Some part) = (from ≤ part.start) × (part.start ≤ part.end) × (part.end ≤ to)

module _ (m : List ℕ) (from to : ℕ) (ends : to ≤ length m) where
  inside_in : (sep : ℕ) (part : Option Part) (k : ℕ) → Inside m from to part → Inside m from to (part_in sep m part k)
  unfolding part_in
  inside_in sep None k w = tt
  inside_in sep (Some part) k w = at (part_at sep (between m part.start part.end) k) refl
    where
      at : (p : Option Part) → part_at sep (between m part.start part.end) k ≡ p → Inside m from to (moved part.start p)
      at None q = tt
      at (Some piece) q =
          let i = part_bytes_lem sep (between m part.start part.end) k piece.start piece.end q in
          let l0 = w.0 in
          let l1 = w.1 in
          let l2 = w.2 in
          let n = between_length m part.start part.end l1 (omega arith) in
          let i1 = i.1 in
          let i2 = i.2 in
          (omega arith, omega arith, omega arith)

  inside_below : (sep : ℕ) (part : Option Part) (k : ℕ) → Inside m from to part → Inside m from to (below sep m part k)
  unfolding below
  inside_below sep part zero w = w
  inside_below sep part (suc k) w = inside_in sep part k w

  inside_either : (t : Bool) (p q : Option Part) → Inside m from to p → Inside m from to q → Inside m from to (cond t p q)
  inside_either true p q a b = a
  inside_either false p q a b = b

module _ (m : List ℕ) (r : reading m ≡ passes) (from to : ℕ) where
  -- MSH-1 and MSH-2 stand before the first CR, as all of the header does
  inside_field : (segment f : ℕ) → segment_at m segment ≡ from_to from to → Inside m from to (field_in m segment (segment_at m segment) f)
  unfolding field_in
  inside_field segment f q = at (eqb segment 0) refl
    where
      b : (from ≤ to) × (to < length m)
      b = let i = segment_bytes m segment from to q in (i.1, i.2)

      whole : Inside m from to (segment_at m segment)
      whole = subst (Inside m from to) (sym q) (let l = b.0 in (omega arith, l, omega arith))

      ends : to ≤ length m
      ends = let l = b.1 in omega arith

      separator : eqb segment 0 ≡ true → Inside m from to (from_to 3 4)
      separator e =
          let f = first_segment m (accepted m r) in
          let z : from_to from to ≡ from_to 0 _ = sym q ∙ ap (segment_at m) (eqb-true segment 0 e) ∙ f.0 in
          let w = part_same z in
          let x : from ≡ 0 = w.0 in
          let long = f.1 in
          let y : 8 ≤ to = subst (λ (n : ℕ). 8 ≤ n) (sym w.1) long in
          (omega arith, omega arith, omega arith)

      at : (t : Bool) → eqb segment 0 ≡ t
          → Inside m from to (cond (eqb segment 0) (cond (eqb f 1) (from_to 3 4) (part_in (field_separator m) m (segment_at m segment) (f - 1))) (part_in (field_separator m) m (segment_at m segment) f))
      at true e = rw e (inside_either m from to ends (eqb f 1) (from_to 3 4) _ (separator e) (inside_in m from to ends (field_separator m) (segment_at m segment) (f - 1) whole))
      at false e = rw e (inside_in m from to ends (field_separator m) (segment_at m segment) f whole)

  -- every element stands inside its segment
  pub inside_segment : (a : Address) (s e : ℕ) → segment_at m a.segment ≡ from_to from to → element_at m a ≡ from_to s e → (from ≤ s) × (s ≤ e) × (e ≤ to)
  unfolding element_at unsplit subcomponent_at component_at repetition_at
  inside_segment a s e q p =
      let i = segment_bytes m a.segment from to q in
      let l = i.2 in
      let ends : to ≤ length m = omega arith in
      let field = inside_field a.segment a.field q in
      let all : Inside m from to (element_at m a) =
      inside_either m from to ends (fixed a.segment a.field) (unsplit (field_at m a) a) (subcomponent_at m a)
      (inside_either m from to ends (leb a.repetition 1 && (leb a.component 1 && leb a.subcomponent 1)) (field_at m a) None field tt)
      (inside_below m from to ends _ _ a.subcomponent (inside_below m from to ends _ _ a.component (inside_below m from to ends _ _ a.repetition field))) in
      subst (Inside m from to) p all

-- as C sees both: from the segment's start up to its end, where a lookup is not refused and does not find its element absent
pub found_inside : (m : List ℕ) (a : Address) → checked (found m a) ≡ passes → ((element_found (found m a)).state ≡ IsAbsent → ⊥)
    → ((segment_given (segment_found m a.segment)).start ≤ (element_found (found m a)).start) × ((element_found (found m a)).start ≤ (element_found (found m a)).end) × ((element_found (found m a)).end ≤ (segment_given (segment_found m a.segment)).end)
found_inside m a n there = at (segment_at m a.segment) refl (element_at m a) refl
  where
    read : reading m ≡ passes
    read = ((found_exactly m a).0 n).0

    below_count : a.segment < length (segments m)
    below_count = ((found_exactly m a).0 n).2

    at : (g : Option Part) → segment_at m a.segment ≡ g → (p : Option Part) → element_at m a ≡ p
        → ((segment_given (segment_found m a.segment)).start ≤ (element_found (found m a)).start) × ((element_found (found m a)).start ≤ (element_found (found m a)).end) × ((element_found (found m a)).end ≤ (segment_given (segment_found m a.segment)).end)
    at None q p e = let l = segment_past m a.segment q in let b = below_count in absurd (omega arith)
    at (Some part) q None e = absurd (there ((absent_nowhere m a n).1 e))
    at (Some part) q (Some part2) e =
        let i = inside_segment m read part.start part.end a part2.start part2.end q e in
        let place = place_at m a n part2.start part2.end e in
        let f = asked_there m a.segment part.start part.end read q in
        let start : part.start ≡ (segment_given (segment_found m a.segment)).start = ap (λ (x : Refusable Segment). (segment_given x).start) f in
        let end : part.end ≡ (segment_given (segment_found m a.segment)).end = ap (λ (x : Refusable Segment). (segment_given x).end) f in
        let p0 = place.0 in
        let p1 = place.1 in
        let i0 = i.0 in
        let i1 = i.1 in
        let i2 = i.2 in
        (omega arith, omega arith, omega arith)
