-- Demand 2 of every acknowledgement that is written: it reads back, it fits ACK, it carries the sender's own control ID, his names crossed, the
-- caller's ID, the verdict's code and, with AE and AR, an ERR segment that tells the fault. All of it is looked up in the bytes that were written and in
-- the message that was sent. Assumes nothing.
use mathlib.Core.Path.{◌≡◌, refl, sym, ap, ap₂, ◌∙◌, subst}
use mathlib.Core.Logic.{◌↔◌}
use mathlib.Core.Bool.{Bool, true, false, cond, not, ◌&&◌, ◌||◌}
use mathlib.Core.List.{List, [], ◌∷◌, ◌++◌, map}
use Prim.Native.Nat.{ℕ, ◌+◌, ◌-◌, ◌≤◌, ◌<◌}
use native.Mathlib.Nat.{zero-add, sub-zero}
use native.Mathlib.Omega.{arith}
use lib.Dec.{leb, ltb, eqb}
use lib.ListN.{length, get_or, take, drop, length-append, length-drop}
use lib.Seq.{get_or-take, take-take, length-take-le}
use borrow.Author.Tests.{lt-ltb, le-leb, lt-leb, leb-true}
use Rattle.alphabet.specs.Bytes.{carriage_return, allowed, ascii}
use Rattle.alphabet.specs.Delimiters.{first_wrong_delimiter}
use Rattle.alphabet.proofs.BoolLaws.{and_both, false_true}
use Rattle.alphabet.proofs.ListLaws.{same_is}
use Rattle.alphabet.specs.Limits.{message_limit, id_limit}
use Rattle.alphabet.specs.Lists.{find, same}
use Rattle.alphabet.specs.Parts.{split}
use Rattle.alphabet.specs.declared.answers.Refusal.TheVariants.{NotAcknowledgeable, AcknowledgementTooLong}
use Rattle.reading.specs.Segments.{segments, delimiters_of, field_separator, name, name_of}
use Rattle.reading.specs.Reading.{reading, opening}
use Rattle.reading.specs.Message.{Opened, Message}
use Rattle.reading.proofs.Accepted.{opening_if}
use Rattle.reading.proofs.Accepted.{accepted as accepted-message}
use Rattle.reading.proofs.SegmentLaws.{segments_walk}
use Rattle.element.specs.Finding.{raw_bytes}
use Rattle.element.specs.declared.address.Address.{Address}
use Rattle.laws.proofs.HeaderLaws.{first_segment as begins}
use Rattle.element.proofs.RawLaws.{raw_header, raw_component}
use Rattle.times.specs.Times.{is_ts}
use Rattle.escaping.specs.Escape.{escape}
use Rattle.escaping.specs.Outcomes.{Outcome, text, fault}
use Rattle.escaping.specs.Outcomes.{fitting, answer, filled}
use Rattle.text.specs.Unescape.{unescaping}
use Rattle.laws.proofs.RoundTrip.{AreBytes, round_trip}
use Rattle.element.specs.States.{state_of, is_present}
use Rattle.element.specs.declared.states.State.{State}
use Rattle.element.specs.declared.states.State.TheVariants.{Present}
use Rattle.laws.proofs.PresentLaws.{is_present_lem, not_present}
use Rattle.field_table.specs.Table.{rows}
use Rattle.laws.proofs.FaultNumbers.{none_sound}
use Rattle.laws.proofs.ControlId.{control_id}
use Rattle.structure.specs.SegmentNames.{segment_names}
use Rattle.structure.specs.Structures.{ack, chosen, structure_for, built_in, acknowledgement as ackListed}
use Rattle.fault.specs.Faults.{Judgement}
use Rattle.structure.specs.Judged.{Judged, Answers}
use Rattle.verdict.specs.Verdicts.{Verdicts, Accepts}
use Rattle.verdict.proofs.VerdictLaws.{one_verdict, accepts_exactly as verdict-accepts}
use Rattle.acknowledgement.specs.Acknowledgement.{header, field_address, sent, type_part, present, type_sent, acknowledgement, bad_id, acknowledgeable, roomy, answer_to, Acknowledges}
use Rattle.acknowledgement.specs.Acknowledgement.Acknowledges.{not_written, written}
use Rattle.error_segment.specs.Errors.{error_parts, error_line, error_lines}
use Rattle.fault.specs.declared.FaultRecord.{FaultRecord}
use Rattle.std.specs.Prelude.{Ok, Err, is_ok}
use Rattle.alphabet.specs.Answers.{Refusable, number_given, length_given, passes, fails}
use Rattle.alphabet.proofs.CheckLaws.{number_positive, never_both}
use Rattle.laws.specs.Told.{TellsCode, TellsPlace}
use Rattle.acknowledgement_code.specs.Codes.{code_of, letters_of}
use Rattle.acknowledgement_code.specs.declared.Code.{Code}
use Rattle.acknowledgement.proofs.HeaderLaws.{nothing_against, return_inside, header_find, header_ends, sound_header}
use Rattle.laws.proofs.SenderLaws.{segments_header}
use Rattle.laws.specs.Rejected.{Rejected}
use Rattle.laws.proofs.CodeLaws.{Turns, letters_accept, letters_reject, letters_error}
use Rattle.laws.proofs.WrittenLaws as W
use Rattle.laws.proofs.ErrorLines as E
use Rattle.laws.proofs.ErrorTold.{told_as, place_tells, code_tells}
use Rattle.acknowledgement.proofs.AnswerLaws.{Writes, ok_writes, nine_unacknowledgeable}

-- ---- the header's fields are the message's

module _ (m : List ℕ) (inside : find carriage_return m < length m) (opened : Opened (header m)) where
  ends : find carriage_return (header m) + 1 ≡ length (header m)
  ends = header_ends m inside

  first_segment : get_or (segments m) 0 [] ≡ take (find carriage_return m) m
  unfolding segments
  first_segment = ap (λ (ss : List (List ℕ)). get_or ss 0 []) (segments_walk m 0 (find carriage_return m) (sym (zero-add (find carriage_return m))) inside) ∙ ap (λ (n : ℕ). take n m) (sub-zero (find carriage_return m))

  same_byte : (i : ℕ) → i < 9 → get_or (header m) i 0 ≡ get_or m i 0
  same_byte i l = get_or-take (find carriage_return m + 1) m i 0 (let n = opened.nine_bytes in let e = ends in let f = header_find m inside in omega arith)

  pub same_delimiters : delimiters_of (header m) ≡ delimiters_of m
  same_delimiters =
      λ i. same_byte 3 (omega arith) i ∷ same_byte 4 (omega arith) i ∷ same_byte 5 (omega arith) i ∷ same_byte 6 (omega arith) i ∷ same_byte 7 (omega arith) i ∷ []

  long : 9 ≤ length m
  long = let n = opened.nine_bytes in let e = ends in let f = header_find m inside in omega (arith, inside)

  lines : take (find carriage_return (header m)) (header m) ≡ take (find carriage_return m) m
  lines =
      ap (λ (n : ℕ). take n (header m)) (header_find m inside)
      ∙ take-take (find carriage_return m) (find carriage_return m + 1) m (omega arith)

  -- a field looked up in the header is the same looked up in the message
  pub sent_whole : (f : ℕ) → (f ≡ 1 → ⊥) → sent (header m) f ≡ sent m f
  sent_whole f n =
      raw_header (header m) (let q = opened.nine_bytes in omega arith) f n
      ∙ ap₂ (λ (sep : ℕ) (l : List ℕ). get_or (split sep l) (f - 1) []) (same_byte 3 (omega arith))
      (ap (λ (ss : List (List ℕ)). get_or ss 0 []) (segments_header (header m) opened ends) ∙ lines ∙ sym first_segment)
      ∙ sym (raw_header m (let q = long in omega arith) f n)

  -- so is a component of the type
  pub type_whole : (k : ℕ) → 1 ≤ k → type_part (header m) k ≡ type_part m k
  type_whole k least =
      raw_component (header m) (let q = opened.nine_bytes in omega arith) 9 k (omega arith) least
      ∙ ap₂ (λ (ds l : List ℕ). get_or (split (get_or ds 1 0) (get_or (split (get_or ds 2 0) l) 0 [])) (k - 1) []) same_delimiters (sent_whole 9 (λ e. omega arith))
      ∙ sym (raw_component m (let q = long in omega arith) 9 k (omega arith) least)

  -- and the type that is sent back
  pub type_sent_lem : type_sent (header m) ≡ type_sent m
  unfolding type_sent
  type_sent_lem =
      ap₂ (λ (ds event : List ℕ). ascii "ACK" ++ cond (is_present (state_of ds event)) (get_or ds 1 0 ∷ event) []) same_delimiters (type_whole 2 (omega arith))

-- ---- what is written

-- by whether there is room
abbrev outcome : List ℕ → Bool → Outcome ℕ
outcome w t = cond t (text w) (fault AcknowledgementTooLong 0)

length_told : (m time id lent : List ℕ) {r : Refusable ℕ} {x : List ℕ} → Acknowledges m time id lent r x → (n : ℕ) → r ≡ Ok n → (length x ≡ length lent) × (n ≤ length lent)
unfolding answer filled roomy
length_told m time id lent (not_written f e) n q = absurd (let z = ap number_given q in omega (arith, number_positive f.kind))
length_told m time id lent (written e found v) n q = at (leb (length w) (length lent)) (leb (length w) message_limit) refl q
  where
    w : List ℕ
    w = answer_to m time id found

    at : (s t : Bool) → leb (length w) (length lent) ≡ s → answer (outcome w (s && t)) ≡ Ok n → (length (filled (outcome w (s && t)) lent) ≡ length lent) × (n ≤ length lent)
    at true true f z =
        let h = leb-true (length w) (length lent) f in
        let a = length-append w (drop (length w) lent) in
        let b = length-drop (length w) lent in
        let k = ap length_given z in
        (omega arith, omega (arith, h, k))
    at true false f z = absurd (let k = ap number_given z in omega arith)
    at false t f z = absurd (let k = ap number_given z in omega arith)

-- over another buffer: the same answer where that has room for what was written, else 10
pub room_exactly : (m time id lent other : List ℕ) {r s : Refusable ℕ} {x y : List ℕ} → Acknowledges m time id lent r x → (n : ℕ) → r ≡ Ok n → Acknowledges m time id other s y
    → (n ≤ length other → s ≡ Ok n) × (length other < n → s ≡ fails AcknowledgementTooLong 0)
unfolding answer filled roomy
room_exactly m time id lent other (not_written f e) n q b = absurd (let z = ap number_given q in omega (arith, number_positive f.kind))
room_exactly m time id lent other (written e found v) n q (not_written f p) = absurd (never_both (sym e ∙ p))
room_exactly m time id lent other (written e found v) n q (written f again u) =
    at (leb (length w) (length lent)) (leb (length w) message_limit) refl q (ap (λ (z : Judgement). answer (roomy (length other) (answer_to m time id z))) (one_verdict m u v))
  where
    w : List ℕ
    w = answer_to m time id found

    at : (s t : Bool) → leb (length w) message_limit ≡ t → answer (outcome w (s && t)) ≡ Ok n → {k : Refusable ℕ}
        → k ≡ answer (outcome w (leb (length w) (length other) && leb (length w) message_limit))
        → (n ≤ length other → k ≡ Ok n) × (length other < n → k ≡ fails AcknowledgementTooLong 0)
    at true true l z q =
        let k = ap length_given z in (
          λ h. q ∙ rw (le-leb (length w) (length other) (omega (arith, h, k))) (rw l z),
          λ h. q ∙ rw (lt-leb (length w) (length other) (omega (arith, h, k))),
        )
    at true false l z q = absurd (let k = ap number_given z in omega arith)
    at false t l z q = absurd (let k = ap number_given z in omega arith)

-- field f of MSA, which stands behind MSH
abbrev pub answer_address : ℕ → Address
answer_address f = record { segment = 1; field = f; repetition = 0; component = 0; subcomponent = 0 }

-- ERR-1, which stands behind MSA: whole at 0, 0, or component c of repetition 1
abbrev pub error_address : ℕ → ℕ → Address
error_address repetition c = record { segment = 2; field = 1; repetition = repetition; component = c; subcomponent = 0 }

-- each number is a byte, as in every slice that is handed in
module _ (m time id lent : List ℕ) (small : AreBytes id) {r : Refusable ℕ} {x : List ℕ} (a : Acknowledges m time id lent r x) (n : ℕ) (done : r ≡ Ok n) where
  -- the bytes that were written
  abbrev pub w : List ℕ
  w = take n x

  pub writes : Writes m time id lent n x
  writes = ok_writes m time id lent a n done

  abbrev h : List ℕ
  h = header m

  -- the code by the verdict
  abbrev code : Code
  code = code_of writes.found

  against : (is_ts time ≡ true) × (bad_id id ≡ false) × (acknowledgeable m ≡ true)
  against = nothing_against m time id writes.nothing_against

  sound : Opened h × (find carriage_return h + 1 ≡ length h)
  sound = (sound_header m against.2, header_ends m (return_inside m against.2))

  -- the lines behind MSA, by the verdict
  abbrev es : List (List ℕ)
  es = error_lines m writes.found

  alike : delimiters_of h ≡ delimiters_of m
  alike = same_delimiters m (return_inside m against.2) sound.0

  behind : W.Behind (field_separator h) es
  behind = E.lines_behind h sound.0 sound.1 m alike writes.verdict

  of_message : (f : ℕ) → (f ≡ 1 → ⊥) → sent h f ≡ sent m f
  of_message = sent_whole m (return_inside m against.2) sound.0

  -- the sender has a control ID, of a length that is allowed
  pub identified_sender : (state_of (delimiters_of m) (sent m 10) ≡ Present) × (length (sent m 10) ≤ id_limit)
  unfolding acknowledgeable
  identified_sender =
      let a = and_both (ltb (find carriage_return m) (length m)) _ against.2 in
      let b = and_both (is_ok (opening h)) _ a.1 in
      let c = and_both (not (same (type_part h 1) (ascii "ACK"))) _ b.1 in
      let d = and_both (present h (sent h 10)) (leb (length (sent h 10)) id_limit) c.1 in
      let same_id = of_message 10 (λ e. omega arith) in (
        is_present_lem (state_of (delimiters_of m) (sent m 10))
            (ap₂ (λ (ds l : List ℕ). is_present (state_of ds l)) (sym (same_delimiters m (return_inside m against.2) sound.0)) (sym same_id) ∙ d.0),
        (let n = leb-true (length (sent h 10)) id_limit d.1 in let e = ap length same_id in omega arith),
      )

  -- the length that is told is that of what was written, and the buffer keeps its own length and what stands behind
  pub told : (length x ≡ length lent) × (n ≤ length lent) × (drop n x ≡ drop n lent)
  told =
      let t = length_told m time id lent a n done in
      (t.0, t.1, writes.behind)

  -- "reads back through our reader"
  pub reads_back : reading w ≡ passes
  reads_back = ap reading writes.bytes ∙ W.reads_back h sound.0 sound.1 time id against.0 small code es behind writes.most

  -- "fits the ACK structure": the structure judge accepts it
  pub fits_ack : Answers w (Ok tt)
  fits_ack = subst (λ (b : List ℕ). Answers b (Ok tt)) (sym writes.bytes) (W.judged_written h sound.0 sound.1 time id against.0 small code es behind writes.most)

  -- "carries the sender's own control ID": MSA-2, the whole field, is byte for byte the sender's MSH-10, the whole field
  pub carries_id : raw_bytes w (answer_address 2) ≡ raw_bytes m (field_address 10)
  carries_id =
      ap (λ (b : List ℕ). raw_bytes b (answer_address 2)) writes.bytes ∙ W.carries_id h sound.0 sound.1 time id against.0 small code es behind
      ∙ of_message 10 (λ e. omega arith)

  crossing : (f g : ℕ) → (g ≡ 1 → ⊥) → raw_bytes (acknowledgement h time id code es) (field_address f) ≡ sent h g → raw_bytes w (field_address f) ≡ raw_bytes m (field_address g)
  crossing f g n e = ap (λ (b : List ℕ). raw_bytes b (field_address f)) writes.bytes ∙ e ∙ of_message g n

  -- its MSH-3 to MSH-6 are the sender's 5, 6, 3, 4
  pub crossed : (raw_bytes w (field_address 3) ≡ raw_bytes m (field_address 5)) × (raw_bytes w (field_address 4) ≡ raw_bytes m (field_address 6))
      × (raw_bytes w (field_address 5) ≡ raw_bytes m (field_address 3)) × (raw_bytes w (field_address 6) ≡ raw_bytes m (field_address 4))
  crossed =
      let c = W.crossed h sound.0 sound.1 time id against.0 small code es behind in
      (crossing 3 5 (λ e. omega arith) c.0, crossing 4 6 (λ e. omega arith) c.1, crossing 5 3 (λ e. omega arith) c.2, crossing 6 4 (λ e. omega arith) c.3)

  -- its delimiters are the sender's
  pub own_delimiters : delimiters_of w ≡ delimiters_of m
  own_delimiters =
      ap delimiters_of writes.bytes ∙ W.same_delimiters h sound.0 sound.1 time id against.0 small code es behind
      ∙ same_delimiters m (return_inside m against.2) sound.0

  -- its type is ACK's, and its first segments are MSH and MSA, in so many parts
  pub of_type : structure_for built_in w ≡ chosen ackListed
  of_type = ap (structure_for built_in) writes.bytes ∙ W.structure_written h sound.0 sound.1 time id against.0 small code es behind

  named_so : segment_names w ≡ name "MSH" ∷ name "MSA" ∷ map name_of es
  named_so = ap segment_names writes.bytes ∙ W.names_written h sound.0 sound.1 time id against.0 small code es behind

  pub yields_ack : Judged ack (segment_names w) (Ok tt)
  yields_ack =
      subst (λ (b : List ℕ). Judged ack (segment_names b) (Ok tt)) (sym writes.bytes)
      (W.fits_ack h sound.0 sound.1 time id against.0 small code es behind)

  pub counted : (length (split (field_separator w) (get_or (segments w) 0 [])) ≡ 12) × (length (split (field_separator w) (get_or (segments w) 1 [])) ≡ 3)
  counted =
      let c = W.parts_counted h sound.0 sound.1 time id against.0 small code es behind in (
        ap (λ (b : List ℕ). length (split (field_separator b) (get_or (segments b) 0 []))) writes.bytes ∙ c.0,
        ap (λ (b : List ℕ). length (split (field_separator b) (get_or (segments b) 1 []))) writes.bytes ∙ c.1,
      )

  written_field : (f : ℕ) (l : List ℕ) → raw_bytes (acknowledgement h time id code es) (field_address f) ≡ l → raw_bytes w (field_address f) ≡ l
  written_field f l e = ap (λ (b : List ℕ). raw_bytes b (field_address f)) writes.bytes ∙ e

  -- its MSH-7, 8, 9, 11 and 12
  pub stamped : (raw_bytes w (field_address 7) ≡ time) × (raw_bytes w (field_address 8) ≡ []) × (raw_bytes w (field_address 9) ≡ type_sent m)
      × (raw_bytes w (field_address 11) ≡ raw_bytes m (field_address 11)) × (raw_bytes w (field_address 12) ≡ ascii "2.4")
  stamped =
      let c = W.stamped h sound.0 sound.1 time id against.0 small code es behind in (
        written_field 7 time c.0,
        written_field 8 [] c.1,
        written_field 9 (type_sent m) (c.2 ∙ type_sent_lem m (return_inside m against.2) sound.0),
        written_field 11 (raw_bytes m (field_address 11)) (c.3 ∙ of_message 11 (λ e. omega arith)),
        written_field 12 (ascii "2.4") c.4,
      )

  -- the type and, where it is present, the event
  pub with_event : state_of (delimiters_of m) (type_part m 2) ≡ Present → raw_bytes w (field_address 9) ≡ ascii "ACK" ++ (get_or (delimiters_of m) 1 0 ∷ type_part m 2)
  unfolding type_sent
  with_event there = stamped.2 ∙ ap (λ (t : Bool). ascii "ACK" ++ cond t (get_or (delimiters_of m) 1 0 ∷ type_part m 2) []) (ap (λ (x : State). is_present x) there)

  pub without_event : (state_of (delimiters_of m) (type_part m 2) ≡ Present → ⊥) → raw_bytes w (field_address 9) ≡ ascii "ACK"
  unfolding type_sent
  without_event none = stamped.2 ∙ ap (λ (t : Bool). ascii "ACK" ++ cond t (get_or (delimiters_of m) 1 0 ∷ type_part m 2) []) (not_present (state_of (delimiters_of m) (type_part m 2)) none)

  -- its MSH-10 is the caller's ID, escaped
  pub own_id : raw_bytes w (field_address 10) ≡ escape (delimiters_of m) id
  own_id =
      written_field 10 _ (W.own_id h sound.0 sound.1 time id against.0 small code es behind)
      ∙ ap (λ (ds : List ℕ). escape ds id) (ap delimiters_of (sym writes.bytes) ∙ own_delimiters)

  -- its MSH-10, unescaped, is the caller's ID
  pub callers_id : (room : ℕ) → length id ≤ room → unescaping (delimiters_of w) (raw_bytes w (field_address 10)) room ≡ text id
  unfolding fitting
  callers_id room l =
      let b = writes.bytes in
      ap (λ (z : List ℕ). unescaping (delimiters_of z) (raw_bytes z (field_address 10)) room) b
      ∙ ap (λ (z : List ℕ). unescaping (delimiters_of (acknowledgement h time id code es)) z room) (W.own_id h sound.0 sound.1 time id against.0 small code es behind)
      ∙ round_trip (delimiters_of (acknowledgement h time id code es)) refl (W.message_written h sound.0 sound.1 time id against.0 small code es behind writes.most).opened.delimiters_right id room small
      ∙ rw (le-leb (length id) room l)

  -- MSA-1 is the code
  code_told : raw_bytes w (answer_address 1) ≡ letters_of code
  code_told = ap (λ (b : List ℕ). raw_bytes b (answer_address 1)) writes.bytes ∙ W.carries_code h sound.0 sound.1 time id against.0 small code es behind

  -- "Code AA exactly when reading, structure and fields all accept"
  pub accepts_exactly : (raw_bytes w (answer_address 1) ≡ ascii "AA") ↔ Accepts m
  accepts_exactly =
      let v = verdict-accepts m writes.verdict in
      let l = letters_accept writes.found in
      (λ q. v.0 (l.0 (sym code_told ∙ q)), λ q. code_told ∙ l.1 (v.1 q))

  -- the judgement that the letters go by is the first fault, and there is no second
  own_fault : Rejected m → Turns writes.found
  own_fault j = (j.fault, one_verdict m writes.verdict j.first, j.rejects)

  its_fault : Turns writes.found → Rejected m
  its_fault t = record { fault = t.0; first = subst (Verdicts m) t.1 writes.verdict; rejects = t.2 }

  -- "an unsupported type (20), or MSH-11 or MSH-12 outside its list (33), is AR"
  pub rejects_exactly : (raw_bytes w (answer_address 1) ≡ ascii "AR") ↔ Rejected m
  rejects_exactly =
      let l = letters_reject writes.found in
      (λ q. its_fault (l.0 (sym code_told ∙ q)), λ j. code_told ∙ l.1 (own_fault j))

  -- "the rest stays AE"
  pub errors_exactly : (raw_bytes w (answer_address 1) ≡ ascii "AE") ↔ ((Accepts m → ⊥) × (Rejected m → ⊥))
  errors_exactly =
      let v = verdict-accepts m writes.verdict in
      let l = letters_error writes.found in (
        λ q. let n = l.0 (sym code_told ∙ q) in (λ a. n.0 (v.1 a), λ j. n.1 (own_fault j)),
        λ n. code_told ∙ l.1 (λ e. n.0 (v.0 e), λ j. n.1 (its_fault j)),
      )

  -- ---- ERR

  -- "an ERR segment after MSA when we answer AE or AR": where the letters are AA there is none
  pub two_segments : raw_bytes w (answer_address 1) ≡ ascii "AA" → segment_names w ≡ name "MSH" ∷ name "MSA" ∷ []
  two_segments aa =
      let none = (letters_accept writes.found).0 (sym code_told ∙ aa) in
      named_so ∙ ap (λ (l : List (List ℕ)). name "MSH" ∷ name "MSA" ∷ map name_of l) (E.lines_none m none)

  module _ (other : raw_bytes w (answer_address 1) ≡ ascii "AA" → ⊥) where
    -- the judgement is a fault
    faulted : (j : Judgement) → writes.found ≡ j → (r : FaultRecord) × (writes.found ≡ Err r)
    faulted (Ok _) e = absurd (other (code_told ∙ (letters_accept writes.found).1 e))
    faulted (Err r) e = (r, e)

    pub told_fault : FaultRecord
    told_fault = (faulted writes.found refl).0

    pub is_found : writes.found ≡ Err told_fault
    unfolding told_fault faulted
    is_found = (faulted writes.found refl).1

    pub its_verdict : Verdicts m (Err told_fault)
    its_verdict = subst (Verdicts m) is_found writes.verdict

    -- one line stands behind MSA
    one_line : es ≡ error_line m told_fault ∷ []
    one_line = E.lines_one m is_found

    pub three_segments : segment_names w ≡ name "MSH" ∷ name "MSA" ∷ name "ERR" ∷ []
    three_segments =
        named_so ∙ ap (λ (l : List (List ℕ)). name "MSH" ∷ name "MSA" ∷ map name_of l) one_line
        ∙ ap (λ (n : ℕ). name "MSH" ∷ name "MSA" ∷ n ∷ []) (E.line_name h sound.0 sound.1 m alike its_verdict)

    -- ERR-1, whole
    field_told : raw_bytes w (error_address 0 0) ≡ E.told h sound.0 sound.1 m alike its_verdict
    field_told =
        ap (λ (b : List ℕ). raw_bytes b (error_address 0 0)) writes.bytes ∙ W.error_field h sound.0 sound.1 time id against.0 small code es behind
        ∙ ap (λ (l : List (List ℕ)). get_or (split (field_separator h) (get_or l 0 [])) 1 []) one_line
        ∙ ap (λ (ps : List (List ℕ)). get_or ps 1 []) (E.line_parts h sound.0 sound.1 m alike its_verdict)

    -- component c of ERR-1 is the part of that number
    component_told : (c : ℕ) → 1 ≤ c → raw_bytes w (error_address 1 c) ≡ get_or (error_parts m told_fault) (c - 1) []
    component_told c l =
        ap (λ (b : List ℕ). raw_bytes b (error_address 1 c)) writes.bytes ∙ W.error_component h sound.0 sound.1 time id against.0 small code es behind c l
        ∙ ap (λ (ls : List (List ℕ)). get_or (split (get_or (delimiters_of h) 1 0) (get_or (split (get_or (delimiters_of h) 2 0) (get_or (split (field_separator h) (get_or ls 0 [])) 1 [])) 0 [])) (c - 1) []) one_line
        ∙ E.told_component h sound.0 sound.1 m alike its_verdict c

    -- one field, of one repetition and four components, of which the last has one subcomponent
    pub error_counted : (length (split (field_separator w) (get_or (segments w) 2 [])) ≡ 2)
        × (length (split (get_or (delimiters_of w) 2 0) (raw_bytes w (error_address 0 0))) ≡ 1)
        × (length (split (get_or (delimiters_of w) 1 0) (raw_bytes w (error_address 0 0))) ≡ 4)
        × (length (split (get_or (delimiters_of w) 4 0) (raw_bytes w (error_address 1 4))) ≡ 1)
    error_counted =
        let d = own_delimiters ∙ sym alike in
        let third =
        ap (λ (b : List ℕ). get_or (segments b) 2 []) writes.bytes
        ∙ ap (λ (ss : List (List ℕ)). get_or ss 2 []) (W.segments_written h sound.0 sound.1 time id against.0 small code es behind) ∙ ap (λ (ls : List (List ℕ)). get_or ls 0 []) one_line in (
          ap₂ (λ (x l : List ℕ). length (split (get_or x 0 0) l)) d third ∙ ap length (E.line_parts h sound.0 sound.1 m alike its_verdict),
          ap₂ (λ (x l : List ℕ). length (split (get_or x 2 0) l)) d field_told ∙ ap length (E.told_once h sound.0 sound.1 m alike its_verdict),
          ap₂ (λ (x l : List ℕ). length (split (get_or x 1 0) l)) d field_told ∙ ap length (E.told_parts h sound.0 sound.1 m alike its_verdict) ∙ E.four m told_fault,
          ap₂ (λ (x l : List ℕ). length (split (get_or x 4 0) l)) d (component_told 4 (omega arith)) ∙ ap length (E.part_alone h sound.0 sound.1 m alike its_verdict 3),
        )

    -- what the parts tell of the message, by its verdict
    pub tells : TellsPlace m told_fault (raw_bytes w (error_address 1 1)) (raw_bytes w (error_address 1 2)) (raw_bytes w (error_address 1 3)) × TellsCode told_fault (raw_bytes w (error_address 1 4))
    tells =
        let at : (c : ℕ) → 1 ≤ c → get_or (error_parts m told_fault) (c - 1) [] ≡ raw_bytes w (error_address 1 c) = λ c l. sym (component_told c l) in (
          told_as (λ (x y z : List ℕ). TellsPlace m told_fault x y z) (at 1 (omega arith)) (at 2 (omega arith)) (at 3 (omega arith)) (place_tells m its_verdict),
          subst (TellsCode told_fault) (at 4 (omega arith)) (code_tells m its_verdict),
        )

-- ---- 9 for an accepted message

module _ (m : List ℕ) (accepts : Accepts m) where
  message : Message m
  message = accepted-message m accepts.read

  o : Opened m
  o = message.opened

  return_there : find carriage_return m < length m
  return_there = (begins m message).2

  late : 8 ≤ find carriage_return m
  late = (begins m message).1

  size : length (header m) ≡ find carriage_return m + 1
  size = length-take-le (find carriage_return m + 1) m (omega (arith, return_there))

  own_byte : (i : ℕ) → i < length (header m) → get_or (header m) i 0 ≡ get_or m i 0
  own_byte i l = let n = size in get_or-take (find carriage_return m + 1) m i 0 (omega arith)

  near : (i : ℕ) → i < 9 → get_or (header m) i 0 ≡ get_or m i 0
  near i l = let n = size in let q = late in own_byte i (omega arith)

  -- its header is sound by itself
  header_sound : Opened (header m)
  header_sound =
      let n = size in
      let q = late in
      let t = return_there in
      let most = o.most_bytes in
      record {
        some_bytes = omega arith;
        most_bytes = omega arith;
        nine_bytes = omega arith;
        header = (λ i. eqb (near 0 (omega arith) i) 77 && (eqb (near 1 (omega arith) i) 83 && eqb (near 2 (omega arith) i) 72)) ∙ o.header;
        byte_eight = (λ i. eqb (near 8 (omega arith) i) (near 3 (omega arith) i) || eqb (near 8 (omega arith) i) carriage_return) ∙ o.byte_eight;
        delimiters_right =
            (λ i. first_wrong_delimiter (near 3 (omega arith) i ∷ near 4 (omega arith) i ∷ near 5 (omega arith) i ∷ near 6 (omega arith) i ∷ near 7 (omega arith) i ∷ [])) ∙ o.delimiters_right;
        all_allowed = λ i l. ap allowed (own_byte i l) ∙ o.all_allowed i (omega arith);
      }

  identified : (state_of (delimiters_of m) (sent m 10) ≡ Present) × (length (sent m 10) ≤ id_limit)
  identified = at (segments m) refl message.some_segments
    where
      at : (ss : List (List ℕ)) → segments m ≡ ss → 1 ≤ length (segments m) → (state_of (delimiters_of m) (sent m 10) ≡ Present) × (length (sent m 10) ≤ id_limit)
      at [] e l = absurd (let n = ap length e in omega arith)
      at (s ∷ rest) e l = control_id m s rest e (none_sound m rows accepts.sound) (let n = o.nine_bytes in omega arith)

  -- it can be acknowledged, if it is no acknowledgement itself
  acknowledged : same (type_part m 1) (ascii "ACK") ≡ false → acknowledgeable m ≡ true
  unfolding acknowledgeable
  acknowledged unlike =
      let ds = same_delimiters m return_there header_sound in
      let id = sent_whole m return_there header_sound 10 (λ e. omega arith) in
      rw (
        lt-ltb (find carriage_return m) (length m) return_there,
        opening_if (header m) header_sound,
        type_whole m return_there header_sound 1 (omega arith),
        unlike,
        ds,
        id,
        identified.0,
      ) (le-leb (length (sent m 10)) id_limit identified.1)

-- 9 "is never the answer to an accepted message except for its type"
pub nine_for_type : (m time id lent : List ℕ) {r : Refusable ℕ} {x : List ℕ} → Acknowledges m time id lent r x → (place : ℕ) → r ≡ fails NotAcknowledgeable place → Accepts m → type_part m 1 ≡ ascii "ACK"
nine_for_type m time id lent a place nine accepts = at (same (type_part m 1) (ascii "ACK")) refl
  where
    at : (t : Bool) → same (type_part m 1) (ascii "ACK") ≡ t → type_part m 1 ≡ ascii "ACK"
    at true e = same_is (type_part m 1) (ascii "ACK") e
    at false e = absurd (false_true (sym (nine_unacknowledgeable m time id lent a place nine) ∙ acknowledged m accepts e))
