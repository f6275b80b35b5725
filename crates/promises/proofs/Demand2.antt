-- Demand 2: "What is read is what HL7 v2.4 and document 01 say: each element absent, empty, null or present, with exactly its own bytes, its number or
-- its time. Text of any bytes, escaped and then unescaped under the same permitted delimiters, comes back the same where both buffers have room. Every
-- acknowledgement written reads back through our reader, fits the ACK structure and carries the sender's own control ID." Elements.antt has the states and
-- the bytes of elements, Values.antt their numbers and times. Here are text and acknowledgement, of lists of bytes: `write_and_read` and `acknowledge` in
-- src/lib.rt say the same of slices, which hold nothing else. Assumes nothing.
use mathlib.Core.Path.{◌≡◌}
use mathlib.Core.Logic.{◌↔◌}
use mathlib.Core.Bool.{true}
use mathlib.Core.List.{List}
use Prim.Native.Nat.{ℕ, ◌≤◌, ◌<◌}
use lib.ListN.{length, get_or, take, drop}
use Rattle.alphabet.specs.Delimiters.{first_wrong_delimiter}
use Rattle.alphabet.specs.Filling.{over}
use Rattle.std.specs.Prelude.{Ok}
use Rattle.alphabet.specs.Answers.{Refusable, length_given, fails}
use Rattle.alphabet.specs.declared.answers.Refusal.TheVariants.{AcknowledgementTooLong}
use Rattle.escaping.specs.Escape.{escape}
use Rattle.escaping.specs.Outcomes.{escaping, answer, filled}
use Rattle.text.specs.Unescape.{unescaping}
use Rattle.acknowledgement.specs.Acknowledgement.{Acknowledges}
use Rattle.laws.proofs.Acknowledged.{reads_back, of_type, yields_ack, fits_ack, two_segments, three_segments, counted, carries_id, identified_sender, told, own_delimiters, crossed, stamped, with_event, without_event, own_id, callers_id, accepts_exactly, rejects_exactly, errors_exactly, error_counted, told_fault, its_verdict, tells, room_exactly}
use Rattle.laws.specs.Rejected.{Rejected, RejectedFor}
use Rattle.laws.proofs.RejectedLaws.{rejected_bytes as laws-rejected-bytes}
use Rattle.laws.proofs.Clean.{both_ways}
use Rattle.laws.proofs.RoundTrip.{AreBytes}
use Rattle.laws.proofs.NumeralReads.{numeral_reads, numeral_zero}
use Rattle.error_segment.specs.Numerals.{numeral}
use Rattle.element.specs.Finding.{raw_bytes}
use Rattle.alphabet.specs.Bytes.{ascii, byte_of}
use Rattle.alphabet.specs.Digits.{all_digits, decimal}
use Rattle.promises.specs.Acknowledgements.{in_answer, ErrorOf, Carries}

-- ---- text

-- the buffer d takes the escaped text, e takes the text: `unescape` of what `escape` left in d gives the text back, and its length
pub text_comes_back : (ds : List ℕ) → length ds ≡ 5 → first_wrong_delimiter ds ≡ 5 → (t d e : List ℕ) → AreBytes t → length (escape ds t) ≤ length d → length t ≤ length e
    → (answer (unescaping ds (take (length_given (answer (escaping ds t (length d)))) (filled (escaping ds t (length d)) d)) (length e)) ≡ Ok (length t))
    × (filled (unescaping ds (take (length_given (answer (escaping ds t (length d)))) (filled (escaping ds t (length d)) d)) (length e)) e ≡ over t e)
text_comes_back ds five fine t d e small h k = both_ways ds five fine t d e small h k

-- ---- the acknowledgement

error_tells : (m time id lent : List ℕ) → AreBytes id → {r : Refusable ℕ} {x : List ℕ} → Acknowledges m time id lent r x → (n : ℕ) → r ≡ Ok n
    → (raw_bytes (take n x) (in_answer 1) ≡ ascii "AA" → ⊥) → ErrorOf m (take n x)
error_tells m time id lent small a n done other =
    let c = error_counted m time id lent small a n done other in
    let t = tells m time id lent small a n done other in
    record {
      fault = told_fault m time id lent small a n done other;
      first = its_verdict m time id lent small a n done other;
      tells = record { one_field = c.0; one_repetition = c.1; four_components = c.2; one_identifier = c.3; place = t.0; code = t.1 };
    }

-- every acknowledgement that was written, which is the front of the buffer as long as the answer says
pub acknowledgement_carries : (m time id lent : List ℕ) → AreBytes id → {r : Refusable ℕ} {x : List ℕ} → Acknowledges m time id lent r x → (n : ℕ) → r ≡ Ok n → Carries m time id (take n x)
acknowledgement_carries m time id lent small a n done =
    let c = crossed m time id lent small a n done in
    let s = stamped m time id lent small a n done in
    let p = counted m time id lent small a n done in
    record {
      reads_back = reads_back m time id lent small a n done;
      is_ack = of_type m time id lent small a n done;
      yields_ack = yields_ack m time id lent small a n done;
      fits_ack = fits_ack m time id lent small a n done;
      two_segments = two_segments m time id lent small a n done;
      three_segments = three_segments m time id lent small a n done;
      header_parts = p.0;
      answer_parts = p.1;
      control_id = carries_id m time id lent small a n done;
      identified = identified_sender m time id lent small a n done;
      senders_delimiters = own_delimiters m time id lent small a n done;
      application = c.0;
      facility = c.1;
      senders_application = c.2;
      senders_facility = c.3;
      callers_time = s.0;
      no_security = s.1;
      with_event = with_event m time id lent small a n done;
      without_event = without_event m time id lent small a n done;
      escaped_id = own_id m time id lent small a n done;
      callers_id = callers_id m time id lent small a n done;
      processing = s.3;
      version = s.4;
      accepted_exactly = accepts_exactly m time id lent small a n done;
      rejected_exactly = rejects_exactly m time id lent small a n done;
      errored_exactly = errors_exactly m time id lent small a n done;
      tells_error = error_tells m time id lent small a n done;
    }

-- AR in the message's own bytes: a type that is not listed, or what stands at MSH-11 or MSH-12 is outside its list and nothing before it is wrong
pub rejected_bytes : (m : List ℕ) → Rejected m ↔ RejectedFor m
rejected_bytes m = laws-rejected-bytes m

-- a numeral, as ERR-1 has two: digits, which alphabet's reader reads back as the number, and no 0 before them but for 0 itself
pub numeral_comes_back : (n : ℕ) → (all_digits (numeral n) ≡ true) × (decimal (numeral n) ≡ n) × (1 ≤ n → byte_of "1" ≤ get_or (numeral n) 0 0) × (numeral 0 ≡ ascii "0")
numeral_comes_back n = let r = numeral_reads n in (r.0, r.1, r.2, numeral_zero)

-- 10, "acknowledgement longer than the buffer", of which document 02, W4 says that it "now counts the ERR bytes": where one is written, over any other
-- buffer the answer is the same exactly where that has as many bytes as were written, and 10 where it has fewer
pub ten_exactly : (m time id lent other : List ℕ) {r s : Refusable ℕ} {x y : List ℕ} → Acknowledges m time id lent r x → (n : ℕ) → r ≡ Ok n → Acknowledges m time id other s y
    → (n ≤ length other → s ≡ Ok n) × (length other < n → s ≡ fails AcknowledgementTooLong 0)
ten_exactly m time id lent other a n done b = room_exactly m time id lent other a n done b

-- "A written text or acknowledgement fills the front of its buffer, its length is given, the bytes behind it stay.": a length that the buffer has, a buffer of
-- the length that it had, and what stood behind
pub acknowledgement_told : (m time id lent : List ℕ) → AreBytes id → {r : Refusable ℕ} {x : List ℕ} → Acknowledges m time id lent r x → (n : ℕ) → r ≡ Ok n
    → (length x ≡ length lent) × (n ≤ length lent) × (drop n x ≡ drop n lent)
acknowledgement_told m time id lent small a n done = told m time id lent small a n done
