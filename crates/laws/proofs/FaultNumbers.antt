-- Every fault has a number from 31 to 37, so that what is answered without one is sound; those of later segments have later places, and the place is that
-- of a segment. Assumes nothing.
use mathlib.Core.Path.{◌≡◌, refl}
use mathlib.Core.Logic.{◌⊎◌, inl, inr}
use mathlib.Core.Bool.{Bool, true, false, cond, not, ◌&&◌}
use mathlib.Core.List.{List, [], ◌∷◌, map}
use Prim.Native.Nat.{ℕ, ◌+◌, ◌≤◌, ◌<◌}
use native.Mathlib.Omega.{arith}
use lib.Dec.{ltb, eqb}
use lib.ListN.{length}
use Rattle.fault.specs.Faults.{number_judged}
use Rattle.std.specs.Prelude.{Ok, Err, Option}
use Rattle.alphabet.specs.Answers.{fails_if, in_order, Check, passes}
use Rattle.alphabet.specs.Limits.{id_limit}
use Rattle.alphabet.proofs.CheckLaws.{NumberFromTo, Numbered, numbered_if, numbered_or}
use Rattle.alphabet.specs.declared.answers.Refusal.TheVariants.{RequiredMissing, BreaksForm, NotListed, RequiredNull, ValueWithoutType, Repeated, ValueTooLong}
use Rattle.alphabet.specs.declared.parts.Part.{Part}
use Rattle.reading.specs.Segments.{delimiters_of, segments}
use Rattle.element.specs.States.{state_of, is_present}
use Rattle.element.specs.declared.states.State.{State}
use Rattle.element.specs.declared.states.State.TheVariants.{Absent, Empty, Null, Present}
use Rattle.numbers.specs.Numbers.{nm_check, nm_form, nm_digits, most_digits, is_si}
use Rattle.times.specs.Times.{is_dt, is_tm, is_ts}
use Rattle.field_table.specs.Table.{values_of, member}
use Rattle.rules.specs.Rules.{form_check, judged_part, part_state, placed, repetition_check, repetition_checks, first_state, required_check, repeated_check, said_check, is_said, some_present, kind_of, component_of, row_check}
use Rattle.fields.specs.Judging.{Fault, sound, name_at, said_in, repetitions_of, located, or_fault, first_fault, row_fault, segment_fault, segment_faults, judging, fault_answer}
use Rattle.field_table.specs.declared.Kind.{Kind}
use Rattle.field_table.specs.declared.Kind.TheVariants.{Any, Identifier, Ts, Si, Nm, Dt, Tm, OneOf, AsField}
use Rattle.field_table.specs.declared.Row.{Row}

-- a check that fails with a number of the field judge's, if it fails
abbrev Told : Check → Type 0
Told c = Numbered 31 37 c

abbrev AllTold : List Check → Type 0
AllTold [] = Unit {0}
AllTold (c ∷ later) = Told c × AllTold later

order_told : (cs : List Check) → AllTold cs → Told (in_order cs)
order_told [] p = tt
order_told (c ∷ later) p = numbered_or 31 37 c (in_order later) p.0 (order_told later p.1)

form_told : (kind : Kind) (bytes : List ℕ) → Told (form_check kind bytes)
unfolding form_check nm_check
form_told Any bytes = tt
form_told Identifier bytes = numbered_if 31 37 (ltb id_limit (length bytes)) ValueTooLong 0 (omega arith, omega arith)
form_told Ts bytes = numbered_if 31 37 (not (is_ts bytes)) BreaksForm 0 (omega arith, omega arith)
form_told Si bytes = numbered_if 31 37 (not (is_si bytes)) BreaksForm 0 (omega arith, omega arith)
form_told Nm bytes =
    numbered_or 31 37 (fails_if (not (nm_form bytes)) BreaksForm 0) _ (numbered_if 31 37 (not (nm_form bytes)) BreaksForm 0 (omega arith, omega arith))
    (numbered_or 31 37 (fails_if (ltb most_digits (length (nm_digits bytes))) ValueTooLong 0) passes (numbered_if 31 37 (ltb most_digits (length (nm_digits bytes))) ValueTooLong 0 (omega arith, omega arith)) tt)
form_told Dt bytes = numbered_if 31 37 (not (is_dt bytes)) BreaksForm 0 (omega arith, omega arith)
form_told Tm bytes = numbered_if 31 37 (not (is_tm bytes)) BreaksForm 0 (omega arith, omega arith)
form_told (OneOf values) bytes = numbered_if 31 37 (not (member bytes (values_of values))) NotListed 0 (omega arith, omega arith)
form_told (AsField f) bytes = tt

placed_told : (number : ℕ) (c : Check) → Told c → Told (placed number c)
placed_told number (Ok _) p = tt
placed_told number (Err fault) p = p

module _ (ds : List ℕ) where
  repetition_told : (component : ℕ) (kind : Kind) (number : ℕ) (r : List ℕ) → Told (repetition_check ds component kind number r)
  unfolding repetition_check
  repetition_told component kind number r = at (is_present (part_state ds component r))
    where
      at : (t : Bool) → Told (cond t (placed number (form_check kind (judged_part ds component r))) passes)
      at true = placed_told number (form_check kind (judged_part ds component r)) (form_told kind (judged_part ds component r))
      at false = tt

  repetitions_told : (component : ℕ) (kind : Kind) (number : ℕ) (rs : List (List ℕ)) → AllTold (repetition_checks ds component kind number rs)
  unfolding repetition_checks
  repetitions_told component kind number [] = tt
  repetitions_told component kind number (r ∷ rest) = (repetition_told component kind number r, repetitions_told component kind (number + 1) rest)

  required_told : (required : Bool) (s : State) → Told (required_check required s)
  required_told required Absent = numbered_if 31 37 required RequiredMissing 1 (omega arith, omega arith)
  required_told required Empty = numbered_if 31 37 required RequiredMissing 1 (omega arith, omega arith)
  required_told required Null = numbered_if 31 37 required RequiredNull 1 (omega arith, omega arith)
  required_told required Present = tt

  row_told : (row : Row) (said : List ℕ) (rs : List (List ℕ)) → Told (row_check ds row said rs)
  unfolding row_check
  row_told row said rs =
      numbered_or 31 37 (required_check row.required (first_state ds row.component rs)) _ (required_told row.required (first_state ds row.component rs))
      (numbered_or 31 37 (repeated_check row.repeats rs) _ (numbered_if 31 37 (not row.repeats && ltb 1 (length rs)) Repeated 1 (omega arith, omega arith))
      (numbered_or 31 37 (said_check ds row.kind said rs) _ (numbered_if 31 37 ((is_said row.kind && not (is_present (state_of ds said))) && some_present ds rs) ValueWithoutType 1 (omega arith, omega arith))
      (order_told (repetition_checks ds (component_of row said) (kind_of row.kind said) 1 rs) (repetitions_told (component_of row said) (kind_of row.kind said) 1 rs))))

-- ---- faults

-- a fault with a number of the field judge's, of a segment from the first number on and before the last
abbrev pub FaultNumbered : (first last : ℕ) → Fault → Type 0
FaultNumbered first last (Ok _) = Unit {0}
FaultNumbered first last (Err fault) = NumberFromTo 31 37 fault.kind × (first ≤ fault.segment) × (fault.segment < last)

or_numbered : (first last : ℕ) (f g : Fault) → FaultNumbered first last f → FaultNumbered first last g → FaultNumbered first last (or_fault f g)
or_numbered first last (Ok _) g p q = q
or_numbered first last (Err fault) g p q = p

weaker : (first last : ℕ) (f : Fault) → FaultNumbered (first + 1) last f → FaultNumbered first last f
weaker first last (Ok _) p = tt
weaker first last (Err fault) p = (p.0, omega (arith, p.1), p.2)

located_numbered : (number last field : ℕ) (c : Check) → number < last → Told c → FaultNumbered number last (located number field c)
located_numbered number last field (Ok _) h p = tt
located_numbered number last field (Err fault) h p = (p, omega arith, h)

module _ (m : List ℕ) where
  row_numbered : (number last : ℕ) (part : Option Part) (s : List ℕ) (row : Row) → number < last → FaultNumbered number last (row_fault m number part s row)
  unfolding row_fault
  row_numbered number last part s row h = at (eqb row.segment (name_at number s))
    where
      at : (t : Bool) → FaultNumbered number last (cond t (located number row.field (row_check (delimiters_of m) row (said_in m number part row.kind) (repetitions_of m number part row.field))) sound)
      at true = located_numbered number last row.field (row_check (delimiters_of m) row (said_in m number part row.kind) (repetitions_of m number part row.field)) h (row_told (delimiters_of m) row (said_in m number part row.kind) (repetitions_of m number part row.field))
      at false = tt

  rows_numbered : (number last : ℕ) (part : Option Part) (s : List ℕ) (rs : List Row) → number < last → FaultNumbered number last (first_fault (map (row_fault m number part s) rs))
  unfolding first_fault
  rows_numbered number last part s [] h = tt
  rows_numbered number last part s (row ∷ rest) h = or_numbered number last (row_fault m number part s row) _ (row_numbered number last part s row h) (rows_numbered number last part s rest h)

  pub segments_numbered : (rs : List Row) (number last at : ℕ) (ss : List (List ℕ)) → number + length ss ≤ last → FaultNumbered number last (first_fault (segment_faults rs m number at ss))
  unfolding first_fault segment_faults
  segments_numbered rs number last at [] h = tt
  segments_numbered rs number last at (s ∷ rest) h =
      or_numbered number last (segment_fault rs m number at s) _ (rows_numbered number last _ s rs (omega arith))
      (weaker number last (first_fault (segment_faults rs m (number + 1) (at + length s + 1) rest)) (segments_numbered rs (number + 1) last (at + length s + 1) rest (omega arith)))

  pub judging_numbered : (rs : List Row) → FaultNumbered 0 (length (segments m)) (judging rs m)
  unfolding judging
  judging_numbered rs = segments_numbered rs 0 (length (segments m)) 0 (segments m) (omega arith)

  -- the answer is 0, or one of 31 to 37
  pub fields_number : (rs : List Row) → let n = number_judged (fault_answer (judging rs m)) in (n ≡ 0) ⊎ ((31 ≤ n) × (n ≤ 37))
  fields_number rs = at (judging rs m) (judging_numbered rs)
    where
      at : (f : Fault) → FaultNumbered 0 (length (segments m)) f → let n = number_judged (fault_answer f) in (n ≡ 0) ⊎ ((31 ≤ n) × (n ≤ 37))
      at (Ok _) n = inl refl
      at (Err fault) n = inr n.0

  -- what is accepted is sound
  pub none_sound : (rs : List Row) → fault_answer (judging rs m) ≡ Ok tt → judging rs m ≡ sound
  none_sound rs e = at (judging rs m) e
    where
      at : (f : Fault) → fault_answer f ≡ Ok tt → f ≡ sound
      at (Ok _) q = refl
      at (Err fault) q = absurd (let z : ◌≡◌ {A = ℕ} 0 1 = cc in omega arith)
