-- The order of judging, by document 01, 'Fields judged': "Order: segments as sent, rows as above". "The first fault
-- found in this order ends the judging." Any bytes are judged, and no fault of reading is looked for: whoever asks has
-- read the message.
use Rattle.std.specs.Prelude.{ℕ, ◌+◌, List, [], ◌∷◌, map, cond, length, get_or, eqb, Option, Some, None, Result, Ok, Err}
use Rattle.alphabet.specs.Answers.{Check}
use Rattle.alphabet.specs.Parts.{split, from_to}
use Rattle.alphabet.specs.declared.answers.Refusal.{Refusal}
use Rattle.alphabet.specs.declared.parts.Part.{Part}
use Rattle.reading.specs.Segments.{delimiters_of, segments, name_of, name}
use Rattle.element.specs.Levels.{between, fixed, field_in}
use Rattle.fault.specs.Faults.{Judgement, at_field}
use Rattle.fault.specs.declared.FieldFault.{FieldFault}
use Rattle.rules.specs.Rules.{is_said, said_field, row_check}
use Rattle.field_table.specs.declared.Kind.{Kind}
use Rattle.field_table.specs.declared.Row.{Row}

-- ---- what a row is held against: a segment of the message, by its number, from 0, and where it stands

-- "Each level splits the part above it at its own separator; [..] an absent one into none."
abbrev pub repetitions_in : List ℕ → Option Part → List (List ℕ)
repetitions_in m None = []
repetitions_in m (Some part) = split (get_or (delimiters_of m) 2 0) (between m part.start part.end)

-- MSH-1 and MSH-2 are "neither split further": a row that names one is held against none
abbrev pub repetitions_of : List ℕ → ℕ → Option Part → ℕ → List (List ℕ)
repetitions_of m number part field = cond (fixed number field) [] (repetitions_in m (field_in m number part field))

-- repetition 1 of the field that says a type: no bytes where it is absent, or where no field says it
abbrev pub said_in : List ℕ → ℕ → Option Part → Kind → List ℕ
said_in m number part kind = cond (is_said kind) (get_or (repetitions_of m number part (said_field kind)) 0 []) []

-- the name of a segment: the first is MSH, as a message that was read has it
abbrev pub name_at : ℕ → List ℕ → ℕ
name_at number s = cond (eqb number 0) (name "MSH") (name_of s)

-- ---- faults

-- "segment, field and repetition for 31 to 37 in the field judge": nothing is found, or a fault in a field
abbrev pub Fault : Type 0
Fault = Result (Unit {0}) FieldFault

abbrev pub sound : Fault
sound = Ok tt

abbrev pub faulty : Refusal → ℕ → ℕ → ℕ → Fault
faulty kind segment field repetition = Err (record { kind = kind; segment = segment; field = field; repetition = repetition })

abbrev pub located : ℕ → ℕ → Check → Fault
located segment field (Ok _) = sound
located segment field (Err fault) = faulty fault.kind segment field fault.place

abbrev pub or_fault : Fault → Fault → Fault
or_fault (Ok _) later = later
or_fault (Err fault) later = Err fault

-- "The first fault found"
unfoldable pub first_fault : List Fault → Fault
first_fault [] = sound
first_fault (fault ∷ later) = or_fault fault (first_fault later)

-- a row of another segment asks nothing
unfoldable pub row_fault : List ℕ → ℕ → Option Part → List ℕ → Row → Fault
row_fault m number part s row =
    cond (eqb row.segment (name_at number s))
    (located number row.field (row_check (delimiters_of m) row (said_in m number part row.kind) (repetitions_of m number part row.field)))
    sound

-- "rows as above"
abbrev pub segment_fault : List Row → List ℕ → ℕ → ℕ → List ℕ → Fault
segment_fault rows m number at s = first_fault (map (row_fault m number (from_to at (at + length s)) s) rows)

-- "segments as sent": the segment of a number, which stands at `at`, and those behind it; each is followed by its CR
unfoldable pub segment_faults : List Row → List ℕ → ℕ → ℕ → List (List ℕ) → List Fault
segment_faults rows m number at [] = []
segment_faults rows m number at (s ∷ rest) = segment_fault rows m number at s ∷ segment_faults rows m (number + 1) (at + length s + 1) rest

unfoldable pub judging : List Row → List ℕ → Fault
judging rows m = first_fault (segment_faults rows m 0 0 (segments m))

-- the answer, in the record that all judges share
abbrev pub fault_answer : Fault → Judgement
fault_answer (Ok _) = Ok tt
fault_answer (Err fault) = Err (at_field fault.kind fault.segment fault.field fault.repetition)
