-- What demand 2 says of an acknowledgement: looked up in the bytes w that were written, and in the message m that was
-- sent. And when demand 1 has one refused.
use Rattle.std.specs.Prelude.{ℕ, ◌≤◌, ◌<◌, ◌≡◌, ◌↔◌, List, [], ◌∷◌, ◌++◌, length, get_or, Ok, Err, IsErrAnd}
use Rattle.alphabet.specs.Bytes.{carriage_return, ascii}
use Rattle.alphabet.specs.Limits.{id_limit}
use Rattle.alphabet.specs.Parts.{split}
use Rattle.alphabet.specs.Answers.{Refusable, passes}
use Rattle.alphabet.specs.declared.answers.Fault.{Fault}
use Rattle.alphabet.specs.declared.answers.Refusal.{Refusal}
use Rattle.alphabet.specs.declared.answers.Refusal.TheVariants.{NotAcknowledgeable, CallersTime, CallersId}
use Rattle.calendar.specs.declared.figures.Time.{Time}
use Rattle.reading.specs.Message.{Opened}
use Rattle.reading.specs.Reading.{reading}
use Rattle.reading.specs.Segments.{delimiters_of, field_separator, segments, name}
use Rattle.element.specs.Finding.{raw_bytes}
use Rattle.element.specs.States.{state_of}
use Rattle.element.specs.declared.address.Address.{Address}
use Rattle.element.specs.declared.states.State.TheVariants.{Present}
use Rattle.escaping.specs.Escape.{escape}
use Rattle.escaping.specs.Outcomes.{text}
use Rattle.text.specs.Unescape.{unescaping}
use Rattle.structure.specs.SegmentNames.{segment_names}
use Rattle.element.specs.Addresses.{type_address}
use Rattle.structure.specs.Structures.{ack, chosen, structure_for, built_in, acknowledgement as ackListed}
use Rattle.structure.specs.Judged.{Judged, Answers}
use Rattle.fault.specs.declared.FaultRecord.{FaultRecord}
use Rattle.verdict.specs.Verdicts.{Accepts, Verdicts}
use Rattle.acknowledgement.specs.Acknowledgement.{header}
use Rattle.acknowledgement.specs.Acknowledgement.{field_address as inHeader}
use Rattle.laws.specs.Rejected.{Rejected}
use Rattle.laws.specs.Told.{TellsCode, TellsPlace}
use Rattle.grammars.specs.SpeltTimes.{Ts}

-- the whole of a field of the second segment, which is MSA; `inHeader` is that of a field of MSH
abbrev pub in_answer : ℕ → Address
in_answer f = record { segment = 1; field = f; repetition = 0; component = 0; subcomponent = 0 }

-- the whole of ERR-1, and component c of its first repetition: the third segment is ERR
abbrev pub error_field : Address
error_field = record { segment = 2; field = 1; repetition = 0; component = 0; subcomponent = 0 }

abbrev pub in_error : ℕ → Address
in_error c = record { segment = 2; field = 1; repetition = 1; component = c; subcomponent = 0 }

-- document 02, W4, of an acknowledgement w with an ERR segment, by the first fault r of the message m
pub record TellsError (m w : List ℕ) (r : FaultRecord) : Type 0 where
  -- "ERR-1 in v2.4: segment ID, sequence, field position, and a code": one field, of one repetition and four components
  pub one_field : length (split (field_separator w) (get_or (segments w) 2 [])) ≡ 2
  pub one_repetition : length (split (get_or (delimiters_of w) 2 0) (raw_bytes w error_field)) ≡ 1
  pub four_components : length (split (get_or (delimiters_of w) 1 0) (raw_bytes w error_field)) ≡ 4
  -- "a code as subcomponents", "The code is its identifier alone."
  pub one_identifier : length (split (get_or (delimiters_of w) 4 0) (raw_bytes w (in_error 4))) ≡ 1
  -- where the fault stands, and its code
  pub place : TellsPlace m r (raw_bytes w (in_error 1)) (raw_bytes w (in_error 2)) (raw_bytes w (in_error 3))
  pub code : TellsCode r (raw_bytes w (in_error 4))

-- the first fault of the message, which its verdict tells, and what ERR says of it
pub record ErrorOf (m w : List ℕ) : Type 0 where
  pub fault : FaultRecord
  pub first : Verdicts m (Err fault)
  pub tells : TellsError m w fault

pub record Carries (m time id w : List ℕ) : Type 0 where
  -- "reads back through our reader"
  pub reads_back : reading w ≡ passes
  -- "fits the ACK structure": its type is ACK's, that structure yields its names, and the structure judge accepts it
  pub is_ack : structure_for built_in w ≡ chosen ackListed
  pub yields_ack : Judged ack (segment_names w) (Ok tt)
  pub fits_ack : Answers w (Ok tt)
  -- "MSH", "Then MSA", and by W4 "an ERR segment after MSA when we answer AE or AR": with AA these two segments, else
  -- these three; MSH of twelve parts, MSA of three
  pub two_segments : raw_bytes w (in_answer 1) ≡ ascii "AA" → segment_names w ≡ name "MSH" ∷ name "MSA" ∷ []
  pub three_segments : (raw_bytes w (in_answer 1) ≡ ascii "AA" → ⊥)
      → segment_names w ≡ name "MSH" ∷ name "MSA" ∷ name "ERR" ∷ []
  pub header_parts : length (split (field_separator w) (get_or (segments w) 0 [])) ≡ 12
  pub answer_parts : length (split (field_separator w) (get_or (segments w) 1 [])) ≡ 3
  -- "and carries the sender's own control ID": MSA-2 is the sender's MSH-10
  pub control_id : raw_bytes w (in_answer 2) ≡ raw_bytes m (inHeader 10)
  -- and the sender has one: "MSH-10, the whole field, not present or over 199 bytes" is 9
  pub identified : (state_of (delimiters_of m) (raw_bytes m (inHeader 10)) ≡ Present) × (length (raw_bytes m (inHeader 10)) ≤ id_limit)
  -- "It uses the sender's delimiters"
  pub senders_delimiters : delimiters_of w ≡ delimiters_of m
  -- "fields 3, 4, 5, 6 are the sender's 5, 6, 3, 4": it goes back to where it came from
  pub application : raw_bytes w (inHeader 3) ≡ raw_bytes m (inHeader 5)
  pub facility : raw_bytes w (inHeader 4) ≡ raw_bytes m (inHeader 6)
  pub senders_application : raw_bytes w (inHeader 5) ≡ raw_bytes m (inHeader 3)
  pub senders_facility : raw_bytes w (inHeader 6) ≡ raw_bytes m (inHeader 4)
  -- "7 the caller's time; 8 empty"
  pub callers_time : raw_bytes w (inHeader 7) ≡ time
  pub no_security : raw_bytes w (inHeader 8) ≡ []
  -- "9 `ACK`, and a component separator and raw component 2 of the sender's MSH-9, repetition 1, after it where that is
  -- present"
  pub with_event : state_of (delimiters_of m) (raw_bytes m (type_address 2)) ≡ Present
      → raw_bytes w (inHeader 9) ≡ ascii "ACK" ++ (get_or (delimiters_of m) 1 0 ∷ raw_bytes m (type_address 2))
  pub without_event : (state_of (delimiters_of m) (raw_bytes m (type_address 2)) ≡ Present → ⊥) → raw_bytes w (inHeader 9) ≡ ascii "ACK"
  -- "10 the caller's ID, escaped": and unescaped it is his ID again
  pub escaped_id : raw_bytes w (inHeader 10) ≡ escape (delimiters_of m) id
  pub callers_id : (room : ℕ) → length id ≤ room → unescaping (delimiters_of w) (raw_bytes w (inHeader 10)) room ≡ text id
  -- "11 copied raw; 12 `2.4`"
  pub processing : raw_bytes w (inHeader 11) ≡ raw_bytes m (inHeader 11)
  pub version : raw_bytes w (inHeader 12) ≡ ascii "2.4"
  -- "Code AA exactly when reading, structure and fields all accept"
  pub accepted_exactly : (raw_bytes w (in_answer 1) ≡ ascii "AA") ↔ Accepts m
  -- document 02, W2: "an unsupported type (20), or MSH-11 or MSH-12 outside its list (33), is AR", where that is the
  -- first fault
  pub rejected_exactly : (raw_bytes w (in_answer 1) ≡ ascii "AR") ↔ Rejected m
  -- "the rest stays AE"
  pub errored_exactly : (raw_bytes w (in_answer 1) ≡ ascii "AE") ↔ ((Accepts m → ⊥) × (Rejected m → ⊥))
  -- W4: what ERR tells, where it stands
  pub tells_error : (raw_bytes w (in_answer 1) ≡ ascii "AA" → ⊥) → ErrorOf m w

-- ---- refusals

-- an answer that is a refusal of this kind
abbrev pub Refuses : Refusable ℕ → Refusal → Type 0
Refuses r kind = IsErrAnd r (λ (fault : Fault). fault.kind ≡ kind)

-- 17: "caller's ID not 1 to 199 bytes"
abbrev pub GoodId : List ℕ → Type 0
GoodId id = (1 ≤ length id) × (length id ≤ id_limit)

-- 9, each case of it, in the header's own bytes: nothing behind the header is looked at
pub data Unacknowledgeable (m : List ℕ) : Type 0 where
  -- "the header (through the first CR) is missing that CR"
  no_return : ((i : ℕ) → i < length m → get_or m i 0 ≡ carriage_return → ⊥) → Unacknowledgeable m
  -- "or has fault 1 to 4 itself"
  unsound : (Opened (header m) → ⊥) → Unacknowledgeable m
  -- "type ACK"
  of_type_ack : raw_bytes (header m) (type_address 1) ≡ ascii "ACK" → Unacknowledgeable m
  -- "MSH-10, the whole field, not present or over 199 bytes"
  no_control_id : (state_of (delimiters_of (header m)) (raw_bytes (header m) (inHeader 10)) ≡ Present → ⊥) → Unacknowledgeable m
  long_control_id : id_limit < length (raw_bytes (header m) (inHeader 10)) → Unacknowledgeable m

-- "Acknowledging: 16, 17, 9, 10.": the first three, which are refused whatever the buffer, each where those before it
-- are not; 16: "caller's time isn't TS"
pub data RefusedBy (m time id : List ℕ) : Refusal → Type 0 where
  bad_time : ((t : Time) → Ts time t → ⊥) → RefusedBy m time id CallersTime
  by_bad_id : (t : Time) → Ts time t → (GoodId id → ⊥) → RefusedBy m time id CallersId
  bad_header : (t : Time) → Ts time t → GoodId id → Unacknowledgeable m → RefusedBy m time id NotAcknowledgeable
