-- The starred samples of document 01, 'Samples', as one table. A row says what comes of some bytes; `Holds` says it by
-- the definitions that the public contracts cite.
use Rattle.std.specs.Prelude.{ℕ, ◌+◌, ℤ, pos, neg_ℤ, ◌≡◌, Bool, true, false, List, [], ◌∷◌, ◌++◌, map, length, Ok, Err}
use Prim.Native.String.{String}
use Rattle.alphabet.specs.Bytes.{ascii}
use Rattle.alphabet.specs.Answers.{number_of, number_given}
use Rattle.alphabet.specs.declared.answers.Refusal.{Refusal}
use Rattle.element.specs.Finding.{found, element_found}
use Rattle.element.specs.declared.address.Address.{Address}
use Rattle.element.specs.declared.states.State.{State}
use Rattle.element.specs.declared.states.State.TheVariants.{Absent, Empty, Present}
use Rattle.value.specs.Asked.{Asked, nm_found, ts_found}
use Rattle.value.specs.declared.asked.Value.{Value}
use Rattle.value.specs.declared.asked.NoValue.TheVariants.{NotSaid}
use Rattle.escaping.specs.Outcomes.{text}
use Rattle.escaping.specs.Outcomes.{escaping, answer}
use Rattle.text.specs.Unescape.{unescaping}
use Rattle.reading.specs.Segments.{name}
use Rattle.structure.specs.Judged.{Answers, refused_as}

-- a row of the table
pub data Row : Type 0 where
  -- a written text, and what it says
  says : String → String → Row
  -- a written text that is refused, and the number
  says_not : String → ℕ → Row
  -- a text, and what it is written as
  is_written : String → String → Row
  -- a field asked as NM, its digits as a whole number and its decimals
  is_number : String → ℤ → ℕ → Row
  -- a field that is refused as NM, and the number
  no_number : String → ℕ → Row
  -- a field that passes as TS
  is_time_row : String → Row
  -- a field that is refused as TS, and the number
  no_time_row : String → ℕ → Row
  -- a segment behind MSH, a field of it, and its state
  has_state : String → ℕ → State → Row
  -- the names behind MSH in an ORU^R01, the number, the place, the names that could have stood there, and whether it
  -- could have ended there
  is_refused : List String → ℕ → ℕ → List String → Bool → Row

-- the usual delimiters
abbrev pub usual : List ℕ
usual = ascii "|^~\\&"

-- a message of MSH and one segment
abbrev pub message_of : String → List ℕ
message_of s = ascii "MSH|^~\\&|" ++ 13 ∷ ascii s ++ 13 ∷ []

-- field f of that segment, the whole
abbrev pub in_segment : ℕ → Address
in_segment f = record { segment = 1; field = f; repetition = 0; component = 0; subcomponent = 0 }

-- a message with an OBX whose field 1 has these bytes
abbrev pub with_field : String → List ℕ
with_field s = ascii "MSH|^~\\&|" ++ 13 ∷ ascii "OBX|" ++ ascii s ++ 13 ∷ []

-- an ORU^R01 of MSH and segments of these names
abbrev pub named : List String → List ℕ
named [] = []
named (n ∷ ns) = ascii n ++ 13 ∷ named ns

abbrev pub report_of : List String → List ℕ
report_of ns = ascii "MSH|^~\\&|||||||ORU^R01" ++ 13 ∷ named ns

-- the state of field 1 of such a message
abbrev pub state_in : List ℕ → State
state_in m = (element_found (found m (in_segment 1))).state

-- the answer is a value that is present
abbrev pub IsPresent : {T : Type 0} → Asked T → Type 0
IsPresent {T = T} asked = (value : T) × (asked ≡ Ok (Value.Present value))

-- the answer is that the element is present, and its bytes are refused by this number
abbrev pub NotSaidBy : {T : Type 0} → ℕ → Asked T → Type 0
NotSaidBy n asked = (kind : Refusal) × (asked ≡ Err (NotSaid kind)) × (number_of kind ≡ n)

-- what a row says, by the definitions; the room is more than any sample needs
unfoldable pub Holds : Row → Type 0
Holds (says written t) = unescaping usual (ascii written) 100 ≡ text (ascii t)
Holds (says_not written n) = number_given (answer (unescaping usual (ascii written) 100)) ≡ n
Holds (is_written t written) = escaping usual (ascii t) 100 ≡ text (ascii written)
Holds (is_number bytes value decimals) =
    nm_found (with_field bytes) (in_segment 1) ≡ Ok (Value.Present (record { value = value; decimals = decimals }))
Holds (no_number bytes n) =
    NotSaidBy n (nm_found (with_field bytes) (in_segment 1)) × (state_in (with_field bytes) ≡ Present)
Holds (is_time_row bytes) =
    IsPresent (ts_found (with_field bytes) (in_segment 1)) × (state_in (with_field bytes) ≡ Present)
Holds (no_time_row bytes n) =
    NotSaidBy n (ts_found (with_field bytes) (in_segment 1)) × (state_in (with_field bytes) ≡ Present)
Holds (has_state s f state) =
    (number_given (found (message_of s) (in_segment f)) ≡ 0)
    × ((element_found (found (message_of s) (in_segment f))).state ≡ state)
Holds (is_refused ns n place could ends) =
    (number_of (refused_as (1 + length ns) place ends (map name could)).kind ≡ n)
    × Answers (report_of ns) (Err (refused_as (1 + length ns) place ends (map name could)))

-- every row of a table
unfoldable pub All : List Row → Type 0
All [] = Unit {0}
All (r ∷ rows) = Holds r × All rows

-- 1 to 5: "`10\\S\\9/l` gives `10^9/l`" .. "Text `""` is written `\\X2222\\`."
unfoldable pub of_text : List Row
of_text =
    says "10\\S\\9/l" "10^9/l"
    ∷ says "201104\\E\\123456" "201104\\123456"
    ∷ says "\\E\\F\\E\\" "\\F\\"
    ∷ says_not "\\X\\" 12
    ∷ says_not "a\\F" 13
    ∷ is_written "\"\"" "\\X2222\\"
    ∷ []

-- 6 and 7: "`4.0` is 40 with 1 decimal" .. "18 nines pass, 19 digits are 37."
unfoldable pub of_numbers : List Row
of_numbers =
    is_number "4.0" (pos 40) 1
    ∷ is_number "-0.50" (neg_ℤ (pos 50)) 2
    ∷ no_number "5." 32
    ∷ no_number "+" 32
    ∷ no_number "-" 32
    ∷ is_number "999999999999999999" (pos 999999999999999999) 0
    ∷ no_number "9999999999999999999" 37
    ∷ []

-- 8: "As TS, 20000229 passes, 19000229 is 32; 20050705+1000 passes."
unfoldable pub of_times : List Row
of_times = is_time_row "20000229" ∷ no_time_row "19000229" 32 ∷ is_time_row "20050705+1000" ∷ []

-- 9: "`PID|`: field 1 empty, field 2 absent. `PID`: field 1 absent."
unfoldable pub of_states : List Row
of_states = has_state "PID|" 1 Empty ∷ has_state "PID|" 2 Absent ∷ has_state "PID" 1 Absent ∷ []

-- 10 to 12: "MSH alone as ORU: 22; PID, ORC, OBR; could not end." ..
unfoldable pub of_structures : List Row
of_structures =
    is_refused [] 22 1 ("PID" ∷ "ORC" ∷ "OBR" ∷ []) false
    ∷ is_refused ("PID" ∷ "EVN" ∷ []) 21 2 ("PD1" ∷ "NK1" ∷ "NTE" ∷ "PV1" ∷ "ORC" ∷ "OBR" ∷ []) false
    ∷ is_refused ("OBR" ∷ "EVN" ∷ []) 21 2 ("PID" ∷ "ORC" ∷ "OBR" ∷ "NTE" ∷ "OBX" ∷ "CTI" ∷ "DSC" ∷ []) true
    ∷ []

-- the table
unfoldable pub samples : List Row
samples = of_text ++ (of_numbers ++ (of_times ++ (of_states ++ of_structures)))
