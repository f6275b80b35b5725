-- "Field 1 of MSH is the separator byte, field 2 the four encoding bytes, neither split further": what stands there at every address, and that it is present.
-- Assumes nothing.
use mathlib.Core.Path.{◌≡◌, refl, ap, ap₂, ◌∙◌}
use mathlib.Core.Bool.{Bool, true, false, cond, ◌&&◌}
use mathlib.Core.List.{List, [], ◌∷◌}
use Prim.Native.Nat.{ℕ, ◌≤◌, ◌<◌}
use native.Mathlib.Omega.{arith}
use lib.Dec.{leb}
use lib.ListN.{length, get_or}
use borrow.Author.Tests.{eq-eqb, le-leb, leb-true}
use Rattle.alphabet.specs.Answers.{checked, passes}
use Rattle.std.specs.Prelude.{None, Option}
use Rattle.alphabet.specs.Parts.{from_to}
use Rattle.alphabet.specs.declared.parts.Part.{Part}
use Rattle.alphabet.proofs.DelimiterLaws.{delimiters_differ}
use Rattle.reading.specs.Message.{Message}
use Rattle.reading.specs.Segments.{delimiters_of, segment_at}
use Rattle.element.specs.Finding.{found, element_bytes, part_bytes, element_found}
use Rattle.element.specs.Levels.{between, fixed, field_in, unsplit, element_at}
use Rattle.element.specs.States.{state_of}
use Rattle.element.specs.declared.address.Address.{Address}
use Rattle.element.specs.declared.states.State.TheVariants.{Absent as no_part, Present}
use Rattle.element.proofs.LevelLaws.{element_unsplit}
use Rattle.laws.specs.Elements.{NoneBeyondOne}
use Rattle.laws.specs.Means.{Separator, component, subcomponent, repetition, OnlySeparators, present}
use Rattle.laws.proofs.ElementLaws.{state_means, one_state}
use Rattle.laws.proofs.FoundLaws.{was_read, four_long, shown_is, state_at, place_at, absent_nowhere}
use Rattle.laws.proofs.HeaderFields.{first_field, second_field, one_byte, four_bytes}

-- ---- the two fields

module _ (m : List ℕ) (a : Address) (header : a.segment ≡ 0) (early : a.field ≤ 2) where
  not_split : fixed a.segment a.field ≡ true
  not_split = rw (eq-eqb a.segment 0 header, le-leb a.field 2 early)

  abbrev field_part : Option Part
  field_part = field_in m a.segment (segment_at m a.segment) a.field

  -- "0 or 1 give the whole"
  whole_field : NoneBeyondOne a → element_at m a ≡ field_part
  unfolding unsplit
  whole_field h =
      element_unsplit m a not_split
      ∙ rw (le-leb a.repetition 1 h.0, le-leb a.component 1 h.1, le-leb a.subcomponent 1 h.2)

  -- "more is absent"
  no_more : (NoneBeyondOne a → ⊥) → element_at m a ≡ None
  unfolding unsplit
  no_more h = element_unsplit m a not_split ∙ at (leb a.repetition 1) refl (leb a.component 1) refl (leb a.subcomponent 1) refl
    where
      at : (x : Bool) → leb a.repetition 1 ≡ x → (y : Bool) → leb a.component 1 ≡ y → (z : Bool) → leb a.subcomponent 1 ≡ z
          → cond (x && (y && z)) field_part None ≡ None
      at false e y f z g = refl
      at true e false f z g = refl
      at true e true f false g = refl
      at true e true f true g = absurd (h (leb-true a.repetition 1 e, leb-true a.component 1 f, leb-true a.subcomponent 1 g))

  field_is : (f : ℕ) → a.field ≡ f → field_part ≡ field_in m 0 (segment_at m 0) f
  field_is f e = ap₂ (λ (k n : ℕ). field_in m k (segment_at m k) n) header e

  separator_at : a.field ≡ 1 → NoneBeyondOne a → element_at m a ≡ from_to 3 4
  separator_at e h = whole_field h ∙ field_is 1 e ∙ first_field m

  encoding_at : Message m → a.field ≡ 2 → NoneBeyondOne a → element_at m a ≡ from_to 4 8
  encoding_at g e h = whole_field h ∙ field_is 2 e ∙ second_field m g

-- ---- they are present

module _ (m : List ℕ) (g : Message m) where
  abbrev ds : List ℕ
  ds = delimiters_of m

  other : (i j : ℕ) → i < 5 → j < 5 → (i ≡ j → ⊥) → get_or ds i 0 ≡ get_or ds j 0 → ⊥
  other i j h k n e = n (delimiters_differ ds refl g.opened.delimiters_right i j h k e)

  -- the field separator and the escape are none of the three
  no_separator : (i : ℕ) → i < 5 → (i ≡ 1 → ⊥) → (i ≡ 2 → ⊥) → (i ≡ 4 → ⊥) → Separator ds (get_or ds i 0) → ⊥
  no_separator i h p q r (component e) = other i 1 h (omega arith) p e
  no_separator i h p q r (repetition e) = other i 2 h (omega arith) q e
  no_separator i h p q r (subcomponent e) = other i 4 h (omega arith) r e

  is_present_lem : (bytes : List ℕ) → (length bytes ≡ 2 → ⊥) → (OnlySeparators ds bytes → ⊥) → state_of ds bytes ≡ Present
  is_present_lem bytes n h = one_state ds bytes (state_of ds bytes) Present (state_means ds bytes) (present (λ e. n (ap length e)) h)

  separator_present : state_of ds (get_or m 3 0 ∷ []) ≡ Present
  separator_present =
      is_present_lem (get_or m 3 0 ∷ []) (λ e. omega arith)
      (λ (h : OnlySeparators ds (get_or m 3 0 ∷ [])). no_separator 0 (omega arith) (λ e. omega arith) (λ e. omega arith) (λ e. omega arith) (h 0 (omega arith)))

  encoding_present : state_of ds (get_or m 4 0 ∷ get_or m 5 0 ∷ get_or m 6 0 ∷ get_or m 7 0 ∷ []) ≡ Present
  encoding_present =
      is_present_lem (get_or m 4 0 ∷ get_or m 5 0 ∷ get_or m 6 0 ∷ get_or m 7 0 ∷ []) (λ e. omega arith)
      (λ (h : OnlySeparators ds (get_or m 4 0 ∷ get_or m 5 0 ∷ get_or m 6 0 ∷ get_or m 7 0 ∷ [])).
      no_separator 3 (omega arith) (λ e. omega arith) (λ e. omega arith) (λ e. omega arith) (h 2 (omega arith)))

-- ---- what a lookup finds there

module _ (m : List ℕ) (a : Address) (done : checked (found m a) ≡ passes) (header : a.segment ≡ 0) where
  at_place : (s e : ℕ) (bytes : List ℕ) → element_at m a ≡ from_to s e → between m s e ≡ bytes → state_of (delimiters_of m) bytes ≡ Present
      → (element_bytes m a ≡ bytes) × ((element_found (found m a)).state ≡ Present)
  at_place s e bytes q b p = (shown_is m a done ∙ ap (part_bytes m) q ∙ b, state_at m a done s e q ∙ ap (state_of (delimiters_of m)) b ∙ p)

  pub separator_found : a.field ≡ 1 → NoneBeyondOne a → (element_bytes m a ≡ get_or m 3 0 ∷ []) × ((element_found (found m a)).state ≡ Present)
  separator_found e h =
      let n = four_long m a done in
      at_place 3 4 (get_or m 3 0 ∷ []) (separator_at m a header (omega arith) e h) (one_byte m (omega arith)) (separator_present m (was_read m a done))

  pub encoding_found : a.field ≡ 2 → NoneBeyondOne a → (element_bytes m a ≡ get_or m 4 0 ∷ get_or m 5 0 ∷ get_or m 6 0 ∷ get_or m 7 0 ∷ []) × ((element_found (found m a)).state ≡ Present)
  encoding_found e h =
      let n = (was_read m a done).opened.nine_bytes in
      at_place 4 8 (get_or m 4 0 ∷ get_or m 5 0 ∷ get_or m 6 0 ∷ get_or m 7 0 ∷ []) (encoding_at m a header (omega arith) (was_read m a done) e h) (four_bytes m (omega arith))
      (encoding_present m (was_read m a done))

  pub separator_place : a.field ≡ 1 → NoneBeyondOne a → ((element_found (found m a)).start ≡ 3) × ((element_found (found m a)).end ≡ 4)
  separator_place e h = place_at m a done 3 4 (separator_at m a header (omega arith) e h)

  pub encoding_place : a.field ≡ 2 → NoneBeyondOne a → ((element_found (found m a)).start ≡ 4) × ((element_found (found m a)).end ≡ 8)
  encoding_place e h = place_at m a done 4 8 (encoding_at m a header (omega arith) (was_read m a done) e h)

  pub more_absent : a.field ≤ 2 → (NoneBeyondOne a → ⊥) → (element_found (found m a)).state ≡ no_part
  more_absent early more = (absent_nowhere m a done).1 (no_more m a header early more)
