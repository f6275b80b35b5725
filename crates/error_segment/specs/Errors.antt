-- The ERR segment of an acknowledgement, by document 02, W4: what stands in it, from the message m that is answered and
-- the verdict's record r.
use Rattle.std.specs.Prelude.{ℕ, ◌+◌, List, [], ◌∷◌, ◌++◌, Bool, cond, ◌&&◌, ◌||◌, eqb, leb, get_or, take, Ok, Err}
use Rattle.alphabet.specs.Answers.{number_of}
use Rattle.alphabet.specs.Bytes.{ascii}
use Rattle.alphabet.specs.Parts.{join}
use Rattle.reading.specs.Segments.{segments, field_separator, name_of}
use Rattle.structure.specs.SegmentNames.{segment_names}
use Rattle.fault.specs.Faults.{Judgement}
use Rattle.fault.specs.declared.FaultRecord.{FaultRecord}
use Rattle.error_segment.specs.Numerals.{numeral}

-- ---- the code

-- "Codes from table 0357: 100 for 21 and 22, 101 for 31 and 34, 102 for 32 and 37, 103 for 33 with MSH-11 as 202 and
-- MSH-12 as 203, 200 for 20, 207 for reading faults; 35 is 101 and 36 is 102.": MSH is segment 0
unfoldable pub error_code : (number place field : ℕ) → ℕ
error_code number place field =
    cond (eqb number 21 || eqb number 22) 100
    (cond (eqb number 31 || (eqb number 34 || eqb number 35)) 101
    (cond (eqb number 32 || (eqb number 36 || eqb number 37)) 102
    (cond (eqb number 33)
    (cond (eqb place 0 && eqb field 11) 202
    (cond (eqb place 0 && eqb field 12) 203 103))
    (cond (eqb number 20) 200 207))))

-- ---- the place

-- the segment at fault
abbrev pub faulty : List ℕ → ℕ → List ℕ
faulty m place = get_or (segments m) place []

-- how many of some names are this one
unfoldable pub count_of : ℕ → List ℕ → ℕ
count_of n [] = 0
count_of n (x ∷ l) = cond (eqb n x) 1 0 + count_of n l

-- "Sequence counts segments of that name from 1 up to the faulty one."
abbrev pub sequence_of : List ℕ → ℕ → ℕ
sequence_of m place = count_of (name_of (faulty m place)) (take (place + 1) (segment_names m))

-- "20 points to field 9 of MSH; for 21 the field position is empty.": the place of a 20 is 0, which is MSH's
abbrev pub field_position : (number field : ℕ) → List ℕ
field_position number field = cond (eqb number 21) [] (numeral (cond (eqb number 20) 9 field))

-- "For 22 and reading faults the first three components stay empty.": reading faults are 1 to 8
abbrev pub nowhere : ℕ → Bool
nowhere number = eqb number 22 || leb number 8

-- "segment ID, sequence, field position"
unfoldable pub error_place : List ℕ → (number place field : ℕ) → List (List ℕ)
error_place m number place field =
    cond (nowhere number) ([] ∷ [] ∷ [] ∷ [])
    (take 3 (faulty m place) ∷ numeral (sequence_of m place) ∷ field_position number field ∷ [])

-- ---- the segment

-- "and a code as subcomponents", "The code is its identifier alone."
unfoldable pub error_parts : List ℕ → FaultRecord → List (List ℕ)
error_parts m r =
    error_place m (number_of r.kind) r.place r.field
    ++ (numeral (error_code (number_of r.kind) r.place r.field) ∷ [])

-- ERR and its one field, with the separators of the message
unfoldable pub error_line : List ℕ → FaultRecord → List ℕ
error_line m r = join (field_separator m) (ascii "ERR" ∷ join (get_or m 4 0) (error_parts m r) ∷ [])

-- "an ERR segment after MSA when we answer AE or AR": what is accepted is AA
abbrev pub error_lines : List ℕ → Judgement → List (List ℕ)
error_lines m (Ok _) = []
error_lines m (Err r) = error_line m r ∷ []
