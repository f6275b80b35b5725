-- What is promised of elements: each lies inside its segment, absent means past the last part, which bytes each state means, and the whole of a
-- level with one part is that part. Assumes nothing.
use mathlib.Core.Path.{◌≡◌, refl, sym, ap, subst, ◌∙◌}
use mathlib.Core.List.{List}
use mathlib.Core.Bool.{Bool, true, false, not, cond, ◌&&◌, ◌||◌}
use Prim.Native.Nat.{ℕ, zero, suc, ◌+◌, ◌-◌, ◌≤◌}
use native.Mathlib.Omega.{arith}
use lib.Dec.{eqb, leb}
use lib.ListN.{length, get_or}
use borrow.Author.Tests.{eqb-true, eq-eqb, not-false}
use Rattle.std.specs.Prelude.{None, Some, Option}
use Rattle.alphabet.specs.Lists.{first, find}
use Rattle.alphabet.specs.Bytes.{is_null}
use Rattle.alphabet.specs.Parts.{split, part_at, from_to}
use Rattle.alphabet.specs.declared.parts.Part.{Part}
use Rattle.alphabet.proofs.BoolLaws.{false_true}
use Rattle.alphabet.proofs.NullLaws.{two_quotes_lem, not_quotes}
use Rattle.alphabet.proofs.ListLaws.{first_before, first_none}
use Rattle.alphabet.proofs.PartLaws.{standing_first, standing_absent}
use Rattle.reading.specs.Segments.{field_separator, segment_at}
use Rattle.element.specs.States.{blank, is_empty, state_of}
use Rattle.element.specs.Levels.{between, part_in, field_in, field_at, below, repetition_at, component_at, subcomponent_at, fixed, unsplit, element_at}
use Rattle.element.specs.declared.address.Address.{Address}
use Rattle.element.specs.declared.states.State.{State}
use Rattle.reading.specs.Message.{Message}
use Rattle.laws.specs.Means.{Separator, component, subcomponent, repetition, OnlySeparators, Means, null, empty, present}
use Rattle.laws.proofs.HeaderLaws.{first_segment}
use Rattle.element.proofs.RawLaws.{part_means}
use Rattle.element.proofs.LevelLaws.{Within, between_length, in_absent, within_segment, within_field, within_below}
use Rattle.element.proofs.StateLaws.{state_null, state_empty, state_present}

-- ---- the states and their bytes

-- a byte is blank exactly where it is one of the three separators
is_separator : (ds : List ℕ) (b : ℕ) → blank ds b ≡ true → Separator ds b
is_separator ds b = at (eqb b (get_or ds 1 0)) refl (eqb b (get_or ds 2 0)) refl
  where
    at : (t : Bool) → eqb b (get_or ds 1 0) ≡ t → (u : Bool) → eqb b (get_or ds 2 0) ≡ u → (t || (u || eqb b (get_or ds 4 0))) ≡ true → Separator ds b
    at true e u f h = component (eqb-true b (get_or ds 1 0) e)
    at false e true f h = repetition (eqb-true b (get_or ds 2 0) f)
    at false e false f h = subcomponent (eqb-true b (get_or ds 4 0) h)

or_last : (x : Bool) → (x || true) ≡ true
or_last true = refl
or_last false = refl

is_blank : (ds : List ℕ) (b : ℕ) → Separator ds b → blank ds b ≡ true
is_blank ds b (component e) = rw (eq-eqb b (get_or ds 1 0) e)
is_blank ds b (repetition e) = rw (eq-eqb b (get_or ds 2 0) e) (or_last (eqb b (get_or ds 1 0)))
is_blank ds b (subcomponent e) = rw (eq-eqb b (get_or ds 4 0) e, or_last (eqb b (get_or ds 2 0))) (or_last (eqb b (get_or ds 1 0)))

only_separators : (ds bytes : List ℕ) → is_empty ds bytes ≡ true → OnlySeparators ds bytes
only_separators ds bytes e i h =
    let n = eqb-true (first (λ (b : ℕ). not (blank ds b)) bytes) (length bytes) e in
    is_separator ds (get_or bytes i 0) (not-false (blank ds (get_or bytes i 0)) (first_before (λ (b : ℕ). not (blank ds b)) bytes i (omega arith)))

separators_only : (ds bytes : List ℕ) → OnlySeparators ds bytes → is_empty ds bytes ≡ true
separators_only ds bytes h =
    eq-eqb (first (λ (b : ℕ). not (blank ds b)) bytes) (length bytes)
    (first_none (λ (b : ℕ). not (blank ds b)) bytes (λ i k. ap not (is_blank ds (get_or bytes i 0) (h i k))))

-- each state means what it should of the bytes
pub state_means : (ds bytes : List ℕ) → Means ds bytes (state_of ds bytes)
state_means ds bytes = at (is_null bytes) refl (is_empty ds bytes) refl
  where
    at : (t : Bool) → is_null bytes ≡ t → (u : Bool) → is_empty ds bytes ≡ u → Means ds bytes (state_of ds bytes)
    at true e u f = subst (Means ds bytes) (sym (state_null ds bytes e)) (null (two_quotes_lem bytes e))
    at false e true f = subst (Means ds bytes) (sym (state_empty ds bytes e f)) (empty (not_quotes bytes e) (only_separators ds bytes f))
    at false e false f =
        subst (Means ds bytes) (sym (state_present ds bytes e f))
        (present (not_quotes bytes e) (λ (h : OnlySeparators ds bytes). false_true (sym f ∙ separators_only ds bytes h)))

-- no other state says that of them
pub one_state : (ds bytes : List ℕ) (s t : State) → Means ds bytes s → Means ds bytes t → s ≡ t
one_state ds bytes _ _ (null p) (null q) = refl
one_state ds bytes _ _ (null p) (empty q r) = absurd (q p)
one_state ds bytes _ _ (null p) (present q r) = absurd (q p)
one_state ds bytes _ _ (empty q r) (null p) = absurd (q p)
one_state ds bytes _ _ (empty p q) (empty r s) = refl
one_state ds bytes _ _ (empty p q) (present r s) = absurd (s q)
one_state ds bytes _ _ (present q r) (null p) = absurd (q p)
one_state ds bytes _ _ (present r s) (empty p q) = absurd (s q)
one_state ds bytes _ _ (present p q) (present r s) = refl

-- ---- absent means past the last part

pub means_absent : (sep : ℕ) (m : List ℕ) (s e k : ℕ) → length (split sep (between m s e)) ≤ k → part_in sep m (from_to s e) k ≡ None
unfolding part_in part_at
means_absent sep m s e k h = rw (standing_absent 0 (split sep (between m s e)) k h)

-- ---- the whole of a level that has one part is that part

pub whole_is_part : (sep : ℕ) (m : List ℕ) (s e : ℕ) → s ≤ e → e ≤ length m → find sep (between m s e) ≡ length (between m s e)
    → below sep m (from_to s e) 1 ≡ below sep m (from_to s e) 0
unfolding below part_in part_at
whole_is_part sep m s e h k n =
    let l = between_length m s e h k in
    let a : s + 0 ≡ s = omega arith in
    let b : s + (0 + find sep (between m s e)) ≡ e = omega arith in
    rw (standing_first sep 0 (between m s e)) (rw (a, b))

-- ---- an element lies inside its segment

-- q lies inside p; what is absent lies anywhere
abbrev pub Inside : Option Part → Option Part → Type 0
Inside p None = Unit {0}
Inside None (Some part) = ⊥
Inside (Some part) (Some part2) = (part.start ≤ part2.start) × (part2.start ≤ part2.end) × (part2.end ≤ part.end)

inside_in : (sep : ℕ) (m : List ℕ) (p q : Option Part) (k : ℕ) → Within m q → Inside p q → Inside p (part_in sep m q k)
inside_in sep m p None k w h = subst (Inside p) (sym (in_absent sep m None k refl)) tt
inside_in sep m None (Some part) k w h = absurd h
inside_in sep m (Some part) (Some part2) k w h = at (part_in sep m (from_to part2.start part2.end) k) refl
  where
    at : (r : Option Part) → part_in sep m (from_to part2.start part2.end) k ≡ r → Inside (from_to part.start part.end) r
    at None q = tt
    at (Some piece) q =
        let g = part_means sep m part2.start part2.end k piece.start piece.end w.0 w.1 q in
        let g0 = g.0 in
        let g2 = g.2 in
        let h0 = h.0 in
        let h2 = h.2 in
        (omega arith, g.1, omega arith)

inside_either : (p : Option Part) (t : Bool) (q r : Option Part) → Inside p q → Inside p r → Inside p (cond t q r)
inside_either p true q r a b = a
inside_either p false q r a b = b

inside_below : (sep : ℕ) (m : List ℕ) (p q : Option Part) (k : ℕ) → Within m q → Inside p q → Inside p (below sep m q k)
unfolding below
inside_below sep m p q zero w h = h
inside_below sep m p q (suc k) w h = inside_in sep m p q k w h

inside_own : (m : List ℕ) (p : Option Part) → Within m p → Inside p p
inside_own m None w = tt
inside_own m (Some part) w = (omega arith, w.0, omega arith)

inside_field : (m : List ℕ) → Message m → (k f : ℕ) → Inside (segment_at m k) (field_in m k (segment_at m k) f)
unfolding field_in
inside_field m g k f = at (eqb k 0) refl
  where
    p : Option Part
    p = segment_at m k

    in_part : (i : ℕ) → Inside p (part_in (field_separator m) m p i)
    in_part i = inside_in (field_separator m) m p p i (within_segment m k) (inside_own m p (within_segment m k))

    separator : k ≡ 0 → Inside p (from_to 3 4)
    separator e =
        let s = first_segment m g in
        let l = s.1 in
        subst (λ (q : Option Part). Inside q (from_to 3 4)) (sym (ap (segment_at m) e ∙ s.0)) (omega arith, omega arith, omega arith)

    at : (t : Bool) → eqb k 0 ≡ t → Inside p (cond t (cond (eqb f 1) (from_to 3 4) (part_in (field_separator m) m p (f - 1))) (part_in (field_separator m) m p f))
    at true e = inside_either p (eqb f 1) (from_to 3 4) _ (separator (eqb-true k 0 e)) (in_part (f - 1))
    at false e = in_part f

pub element_inside : (m : List ℕ) → Message m → (a : Address) → Inside (segment_at m a.segment) (element_at m a)
unfolding element_at unsplit subcomponent_at component_at repetition_at
element_inside m g a =
    let n = g.opened.nine_bytes in
    let field = within_field m a.segment _ a.field (omega arith) (within_segment m a.segment) in
    let repetition = within_below _ m _ a.repetition field in
    let component = within_below _ m _ a.component repetition in
    let inside = inside_field m g a.segment a.field in
    let one = leb a.repetition 1 && (leb a.component 1 && leb a.subcomponent 1) in
    inside_either (segment_at m a.segment) (fixed a.segment a.field) (unsplit (field_at m a) a) (subcomponent_at m a)
    (inside_either (segment_at m a.segment) one (field_at m a) None inside tt)
    (inside_below _ m _ _ a.subcomponent component
    (inside_below _ m _ _ a.component repetition (inside_below _ m _ _ a.repetition field inside)))
