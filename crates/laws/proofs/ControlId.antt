-- A message in which the field judge finds nothing has a control ID: MSH-10, the whole field, is present and not too long. Rests on the rows of MSH
-- (HeaderRows).
use mathlib.Core.Path.{◌≡◌, refl, sym, ap, ◌∙◌, subst}
use mathlib.Core.List.{List, [], ◌∷◌}
use Prim.Native.Nat.{ℕ, ◌+◌, ◌≤◌}
use native.Mathlib.Omega.{arith}
use lib.ListN.{length, get_or}
use Rattle.std.specs.Prelude.{None, Ok, Err, Some, Option}
use Rattle.alphabet.specs.Answers.{Check, passes}
use Rattle.alphabet.specs.Limits.{id_limit}
use Rattle.alphabet.specs.Parts.{join, from_to}
use Rattle.alphabet.proofs.PartLaws.{join_split}
use Rattle.alphabet.specs.declared.parts.Part.{Part}
use Rattle.reading.specs.Segments.{delimiters_of, segments}
use Rattle.element.specs.Finding.{part_bytes, raw_bytes}
use Rattle.element.specs.Levels.{field_in, between}
use Rattle.element.specs.States.{state_of}
use Rattle.element.specs.declared.states.State.TheVariants.{Present}
use Rattle.field_table.specs.Table.{rows}
use Rattle.field_table.specs.declared.Kind.TheVariants.{Identifier}
use Rattle.rules.specs.Rules.{judged_part}
use Rattle.fields.specs.Judging.{Fault, sound, repetitions_in, repetitions_of, located, or_fault, first_fault, segment_fault, segment_faults, judging}
use Rattle.element.proofs.RawLaws.{raw_whole}
use Rattle.laws.proofs.HeaderRows.{asks, Single, single, nothing_there, finds, placed_passes, id_form, first_stands, timed_found, identified_found, in_header}

-- where nothing is found in all, nothing is found in each
or_sound : (f g : Fault) → or_fault f g ≡ sound → (f ≡ sound) × (g ≡ sound)
or_sound (Ok _) g e = (refl, e)
or_sound (Err fault) g e = absurd (let z : ◌≡◌ {A = ℕ} 0 1 = cc in omega arith)

located_sound : (segment field : ℕ) (c : Check) → located segment field c ≡ sound → c ≡ passes
located_sound segment field (Ok _) e = refl
located_sound segment field (Err fault) e = absurd (let z : ◌≡◌ {A = ℕ} 0 1 = cc in omega arith)

-- one repetition, present and not too long
record One (ds : List ℕ) (rs : List (List ℕ)) : Type 0 where
  pub bytes : List ℕ
  pub alone : rs ≡ bytes ∷ []
  pub present : state_of ds bytes ≡ Present
  pub short : length bytes ≤ id_limit

-- what the row asks of the repetitions
one : (ds : List ℕ) (rs : List (List ℕ)) → asks ds 0 Identifier rs ≡ passes → One ds rs
unfolding judged_part
one ds rs e = at rs (single ds 0 Identifier rs passes e tt) e
  where
    at : (l : List (List ℕ)) → Single ds 0 Identifier l → asks ds 0 Identifier l ≡ passes → One ds l
    at [] o q = absurd (nothing_there ds 0 Identifier o.there)
    at (r ∷ []) o q = record { bytes = r; alone = refl; present = o.there; short = (id_form r).0 (placed_passes 1 _ (sym (finds ds 0 Identifier (r ∷ []) o) ∙ q)) }
    at (r ∷ p ∷ rest) o q = absurd (let l = o.once in omega arith)

-- ---- the message

module _ (m s : List ℕ) (rest : List (List ℕ)) (first : segments m ≡ s ∷ rest) (all : judging rows m ≡ sound) where
  -- where the first segment stands
  abbrev part : Option Part
  part = from_to 0 (0 + length s)

  in_first : segment_fault rows m 0 0 s ≡ sound
  unfolding judging segment_faults first_fault
  in_first = (or_sound (segment_fault rows m 0 0 s) (first_fault (segment_faults rows m (0 + 1) (0 + length s + 1) rest)) (sym (ap (λ (ss : List (List ℕ)). first_fault (segment_faults rows m 0 0 ss)) first) ∙ all)).0

  asked : (long : 4 ≤ length m) → identified_found m s rest first long ≡ passes
  asked long =
      let a = or_sound (located 0 7 (timed_found m s rest first long)) _ (sym (in_header m s rest first long) ∙ in_first) in
      located_sound 0 10 (identified_found m s rest first long) (or_sound (located 0 10 (identified_found m s rest first long)) _ a.1).0

  -- the field is its only repetition
  whole_is : (p : Option Part) (r : List ℕ) → repetitions_in m p ≡ r ∷ [] → part_bytes m p ≡ r
  unfolding join
  whole_is None r e = absurd (let z : ◌≡◌ {A = ℕ} 0 1 = cc in omega arith)
  whole_is (Some part) r e = sym (join_split (get_or (delimiters_of m) 2 0) (between m part.start part.end)) ∙ ap (join (get_or (delimiters_of m) 2 0)) e

  pub control_id : 4 ≤ length m → let id = raw_bytes m (record { segment = 0; field = 10; repetition = 0; component = 0; subcomponent = 0 }) in (state_of (delimiters_of m) id ≡ Present) × (length id ≤ id_limit)
  control_id long =
      let o = one (delimiters_of m) (repetitions_of m 0 part 10) (asked long) in
      let e = raw_whole m long 0 10 ∙ ap (λ (p : Option Part). part_bytes m (field_in m 0 p 10)) (first_stands m s rest first) ∙ whole_is (field_in m 0 part 10) o.bytes o.alone in
      (ap (state_of (delimiters_of m)) e ∙ o.present, subst (λ (l : List ℕ). length l ≤ id_limit) (sym e) o.short)
