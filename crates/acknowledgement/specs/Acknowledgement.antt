-- The acknowledgement, by document 01, 'The acknowledgement', and document 02, W4, as a list of bytes that is put
-- together of parts; and when it is refused.
use Rattle.std.specs.Prelude.{ℕ, ◌+◌, ◌≡◌, List, [], ◌∷◌, ◌++◌, Bool, cond, not, ◌&&◌, ◌||◌, length, get_or, take, leb, ltb, eqb, is_ok, Err}
use Rattle.alphabet.specs.Bytes.{carriage_return, ascii}
use Rattle.alphabet.specs.Limits.{message_limit, id_limit}
use Rattle.alphabet.specs.Lists.{find, same}
use Rattle.alphabet.specs.Parts.{join}
use Rattle.alphabet.specs.Answers.{Check, Refusable, passes, fails_if, in_order}
use Rattle.alphabet.specs.declared.answers.Fault.{Fault}
use Rattle.alphabet.specs.declared.answers.Refusal.TheVariants.{NotAcknowledgeable, AcknowledgementTooLong, CallersTime, CallersId}
use Rattle.reading.specs.Segments.{delimiters_of, field_separator}
use Rattle.reading.specs.Reading.{opening}
use Rattle.reading.specs.Message.{ended}
use Rattle.element.specs.Addresses.{type_address}
use Rattle.element.specs.Finding.{raw_bytes}
use Rattle.element.specs.States.{state_of, is_present}
use Rattle.element.specs.declared.address.Address.{Address}
use Rattle.times.specs.Times.{is_ts}
use Rattle.escaping.specs.Escape.{escape}
use Rattle.escaping.specs.Outcomes.{Outcome, text, fault}
use Rattle.escaping.specs.Outcomes.{answer, filled}
use Rattle.verdict.specs.Verdicts.{Verdicts}
use Rattle.fault.specs.Faults.{Judgement}
use Rattle.acknowledgement_code.specs.Codes.{code_of, letters_of}
use Rattle.acknowledgement_code.specs.declared.Code.{Code}
use Rattle.error_segment.specs.Errors.{error_lines}

-- ---- the sender's header

-- "the header (through the first CR)"
abbrev pub header : List ℕ → List ℕ
header m = take (find carriage_return m + 1) m

-- "the sender's 5, 6, 3, 4 as raw bytes (absent gives empty)", "MSH-10, the whole field"
abbrev pub field_address : ℕ → Address
field_address f = record { segment = 0; field = f; repetition = 0; component = 0; subcomponent = 0 }

abbrev pub sent : List ℕ → ℕ → List ℕ
sent h f = raw_bytes h (field_address f)

-- component k of "MSH-9, repetition 1"
abbrev pub type_part : List ℕ → ℕ → List ℕ
type_part h k = raw_bytes h (type_address k)

abbrev pub present : List ℕ → List ℕ → Bool
present h bytes = is_present (state_of (delimiters_of h) bytes)

-- ---- the parts

-- "It uses the sender's delimiters": the four behind the field separator
abbrev pub encoding : List ℕ → List ℕ
encoding h = get_or h 4 0 ∷ get_or h 5 0 ∷ get_or h 6 0 ∷ get_or h 7 0 ∷ []

-- "9 `ACK`, and a component separator and raw component 2 of the sender's MSH-9, repetition 1, after it where that is
-- present"
unfoldable pub type_sent : List ℕ → List ℕ
type_sent h = ascii "ACK" ++ cond (present h (type_part h 2)) (get_or h 4 0 ∷ type_part h 2) []

-- "12 `2.4`"
abbrev pub version : List ℕ
version = ascii "2.4"

-- "fields 3, 4, 5, 6 are the sender's 5, 6, 3, 4 ..; 7 the caller's time; 8 empty; 9 ..; 10 the caller's ID, escaped;
-- 11 copied raw; 12 `2.4`"
unfoldable pub header_parts : List ℕ → List ℕ → List ℕ → List (List ℕ)
header_parts h time id =
    ascii "MSH" ∷ encoding h
    ∷ sent h 5 ∷ sent h 6 ∷ sent h 3 ∷ sent h 4
    ∷ time ∷ [] ∷ type_sent h ∷ escape (delimiters_of h) id ∷ sent h 11 ∷ version ∷ []

-- "Then MSA: code, and the sender's MSH-10 raw."
unfoldable pub answer_parts : List ℕ → Code → List (List ℕ)
answer_parts h letters = ascii "MSA" ∷ letters_of letters ∷ sent h 10 ∷ []

-- the two segments, and those behind them, each ended by CR
unfoldable pub acknowledgement : (h time id : List ℕ) → Code → (errors : List (List ℕ)) → List ℕ
acknowledgement h time id letters errors =
    ended (join (field_separator h) (header_parts h time id) ∷ join (field_separator h) (answer_parts h letters) ∷ errors)

-- ---- the refusals

-- 17: "caller's ID not 1 to 199 bytes"
abbrev pub bad_id : List ℕ → Bool
bad_id id = eqb (length id) 0 || ltb id_limit (length id)

-- 9: "the header (through the first CR) is missing that CR or has fault 1 to 4 itself; type ACK; MSH-10, the whole
-- field, not present or over 199 bytes"
unfoldable pub acknowledgeable : List ℕ → Bool
acknowledgeable m =
    ltb (find carriage_return m) (length m)
    && (is_ok (opening (header m))
    && (not (same (type_part (header m) 1) (ascii "ACK"))
    && (present (header m) (sent (header m) 10) && leb (length (sent (header m) 10)) id_limit)))

-- 10: "acknowledgement longer than the buffer or 1,048,576"; its place is 0. By W4 it "now counts the ERR bytes": w has
-- them
unfoldable pub roomy : ℕ → List ℕ → Outcome ℕ
roomy room w = cond (leb (length w) room && leb (length w) message_limit) (text w) (fault AcknowledgementTooLong 0)

-- "Acknowledging: 16, 17, 9, 10.": what stands against any acknowledgement, whatever the buffer; 16: "caller's time
-- isn't TS"
unfoldable pub refusing : List ℕ → List ℕ → List ℕ → Check
refusing m time id =
    in_order
    (fails_if (not (is_ts time)) CallersTime 0
    ∷ fails_if (bad_id id) CallersId 0
    ∷ fails_if (not (acknowledgeable m)) NotAcknowledgeable 0
    ∷ [])

-- ---- what is answered

-- the acknowledgement of a message, by the verdict on it: "an ERR segment after MSA when we answer AE or AR"
abbrev pub answer_to : List ℕ → List ℕ → List ℕ → Judgement → List ℕ
answer_to m time id r = acknowledgement (header m) time id (code_of r) (error_lines m r)

-- the answer, and what is left in the buffer that was lent: a refusal gives number and place 0, and writes nothing;
-- what is written "fills the front of the buffer, its length is given, the bytes behind it stay"
pub data Acknowledges (m time id lent : List ℕ) : Refusable ℕ → List ℕ → Type 0 where
  not_written : (f : Fault) → refusing m time id ≡ Err f → Acknowledges m time id lent (Err f) lent
  written : refusing m time id ≡ passes → (r : Judgement) → Verdicts m r
      → Acknowledges m time id lent (answer (roomy (length lent) (answer_to m time id r)))
      (filled (roomy (length lent) (answer_to m time id r)) lent)
