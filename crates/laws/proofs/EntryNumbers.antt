-- The numbers that each entry point can give, and what a refusal leaves in a buffer: what demand 1 rests on, of the definitions that the contracts cite.
-- Assumes nothing.
use mathlib.Core.Path.{◌≡◌, refl, sym, ap, subst, ◌∙◌}
use mathlib.Core.Logic.{◌⊎◌, inl, inr}
use mathlib.Core.Bool.{Bool, true, false, cond, not, ◌&&◌}
use mathlib.Core.List.{List, [], ◌∷◌, ◌++◌}
use Prim.Native.Nat.{ℕ, ◌≤◌}
use native.Mathlib.Omega.{arith}
use lib.IntN.{ℤ, pos}
use lib.Dec.{leb, ltb}
use lib.ListN.{length}
use Rattle.element.specs.declared.states.State.TheVariants.{Absent, Empty, Null, Present}
use Rattle.element.specs.declared.states.State.{State}
use Rattle.element.specs.declared.Element.{Element}
use Rattle.fault.specs.Faults.{Judgement, number_judged}
use Rattle.std.specs.Prelude.{Ok, Err, Result, IsOk}
use Rattle.alphabet.specs.Answers.{number_of, fails_if, Check, passes, number_given, Refusable}
use Rattle.alphabet.specs.Digits.{decimal}
use Rattle.alphabet.specs.Limits.{message_limit}
use Rattle.alphabet.specs.declared.answers.Refusal.{Refusal}
use Rattle.alphabet.specs.declared.answers.Refusal.TheVariants.{Address as BadAddress, CallersTime, CallersId, NotAcknowledgeable, AcknowledgementTooLong, SegmentMisplaced, EndedEarly, BreaksForm, ValueTooLong}
use Rattle.alphabet.proofs.CheckLaws.{Numbered, checked_given, number_checked}
use Rattle.reading.specs.Reading.{reading}
use Rattle.reading.specs.Segments.{segment_at}
use Rattle.reading.proofs.Honest.{reading_numbered}
use Rattle.element.specs.Addresses.{address_check, well_formed}
use Rattle.element.specs.Finding.{is_absent, lookup_check, found, element_bytes}
use Rattle.element.specs.declared.address.Address.{Address}
use Rattle.numbers.specs.Numbers.{nm_form, nm_digits, most_digits, nm_check, nm_value, fraction, unsigned, nm_read, is_si, si_read, number_if}
use Rattle.forms.specs.declared.layouts.Form.{Form}
use Rattle.forms.specs.declared.layouts.Form.TheVariants.{Tm, Ts}
use Rattle.times.specs.Times.{is_dt, is_ts, is_time, dt_time, time_of, dt_read, time_read, time_if}
use Rattle.value.specs.Asked.{asked_of, value_at, number_told, nm_found, si_found, dt_found, tm_found, ts_found}
use Rattle.calendar.specs.declared.figures.Time.{Time}
use Rattle.escaping.specs.Outcomes.{Outcome, text, fault}
use Rattle.escaping.specs.Outcomes.{escaping, answer, filled}
use Rattle.text.specs.Unescape.{unescaping}
use Rattle.formatting.specs.Formatting.{formatting}
use Rattle.structure.specs.Listed.{In, here, there}
use Rattle.structure.specs.SegmentNames.{segment_names}
use Rattle.structure.specs.Judged.{accepted, refused, Structured, no_structure, by, Answers, unread, read}
use Rattle.field_table.specs.Table.{rows}
use Rattle.fields.specs.Judging.{fault_answer, judging}
use Rattle.verdict.specs.Verdicts.{Verdicts}
use Rattle.verdict.specs.Verdicts.VerdictsBy.{refused as by-structure, judged as by-fields}
use Rattle.acknowledgement.specs.Acknowledgement.{bad_id, acknowledgeable, refusing, roomy, answer_to, Acknowledges}
use Rattle.acknowledgement.specs.Acknowledgement.Acknowledges.{not_written, written}
use Rattle.laws.proofs.FaultNumbers.{fields_number}
use Rattle.laws.specs.Entries.{of_reading, of_finding, of_nm, of_form, of_escaping, of_unescaping, of_formatting, of_structure, of_verdict, of_acknowledging}
use Rattle.laws.proofs.Among.{among, from, in_range_lem, Given, given_or, given_if}
use Rattle.laws.proofs.TextNumbers.{escaping_numbers, unescaping_numbers, formatting_numbers}

-- ---- reading

reading_given : (c : Check) → Numbered 1 8 c → Given of_reading c
reading_given (Ok _) n = here
reading_given (Err fault) n = let n1 = n.1 in there (in_range_lem 1 8 (number_of fault.kind) n.0 (omega arith))

pub read_numbers : (m : List ℕ) → In (number_given (reading m)) of_reading
read_numbers m = reading_given (reading m) (reading_numbered m)

-- ---- finding, and the values of elements

pub find_numbers : (m : List ℕ) (a : Address) → In (number_given (found m a)) of_finding
unfolding found lookup_check
find_numbers m a =
    subst (λ (n : ℕ). In n of_finding) (sym (number_checked (found m a) ∙ ap (λ (c : Check). number_given c) (checked_given (lookup_check m a) _)))
    (given_or of_finding (reading m) _ (there (read_numbers m))
    (given_or of_finding (address_check a) _ (given_if of_finding (not (well_formed a)) BadAddress 0 (among of_finding 0 refl) here)
    (given_or of_finding (fails_if (is_absent (segment_at m a.segment)) BadAddress 0) passes (given_if of_finding (is_absent (segment_at m a.segment)) BadAddress 0 (among of_finding 0 refl) here) (among of_finding 0 refl))))

-- the number of what is read of bytes
abbrev read_number : {T : Type 0} → Result T Refusal → ℕ
read_number (Ok _) = 0
read_number (Err kind) = number_of kind

-- what is asked of an element answers what its bytes say, or what finding it says
asked_numbers : {T : Type 0} (l : List ℕ) (f : Refusable Element) (r : Result T Refusal) → In (read_number r) l → In (number_given f) l → In 0 l → In (number_told (asked_of f r)) l
asked_numbers l (Err f) r p q z = q
asked_numbers {T} l (Ok e) r p q z = at e.state r p
  where
    at : (s : State) (r : Result T Refusal) → In (read_number r) l → In (number_told (value_at s r)) l
    at Absent r p = z
    at Empty r p = z
    at Null r p = z
    at Present (Ok v) p = p
    at Present (Err kind) p = p

if_given : (l : List ℕ) (c : Check) (v : ℤ) (n : ℕ) → Given l c → In (read_number (number_if c v n)) l
if_given l (Ok _) v n g = g
if_given l (Err fault) v n g = g

nm_read_lem : (l : List ℕ) → In (read_number (nm_read l)) of_nm
unfolding nm_read nm_check
nm_read_lem l =
    if_given of_nm (nm_check l) (nm_value l) (length (fraction (unsigned l)))
    (given_or of_nm (fails_if (not (nm_form l)) BreaksForm 0) _ (given_if of_nm (not (nm_form l)) BreaksForm 0 (among of_nm 0 refl) here)
    (given_or of_nm (fails_if (ltb most_digits (length (nm_digits l))) ValueTooLong 0) passes (given_if of_nm (ltb most_digits (length (nm_digits l))) ValueTooLong 0 (among of_nm 0 refl) (there here)) (among of_nm 0 refl)))

pub nm_numbers : (m : List ℕ) (a : Address) → In (number_told (nm_found m a)) of_nm
nm_numbers m a = asked_numbers of_nm (found m a) (nm_read (element_bytes m a)) (nm_read_lem (element_bytes m a)) (there (there (find_numbers m a))) (among of_nm 0 refl)

si_read_lem : (l : List ℕ) → In (read_number (si_read l)) of_form
unfolding si_read
si_read_lem l = if_given of_form (fails_if (not (is_si l)) BreaksForm 0) (pos (decimal l)) 0 (given_if of_form (not (is_si l)) BreaksForm 0 (among of_form 0 refl) here)

pub si_numbers : (m : List ℕ) (a : Address) → In (number_told (si_found m a)) of_form
si_numbers m a = asked_numbers of_form (found m a) (si_read (element_bytes m a)) (si_read_lem (element_bytes m a)) (there (find_numbers m a)) (among of_form 0 refl)

timed : (t : Bool) (time : Time) → In (read_number (time_if t time)) of_form
timed true time = among of_form 0 refl
timed false time = here

dt_read_lem : (l : List ℕ) → In (read_number (dt_read l)) of_form
unfolding dt_read
dt_read_lem l = timed (is_dt l) (dt_time l)

pub dt_numbers : (m : List ℕ) (a : Address) → In (number_told (dt_found m a)) of_form
dt_numbers m a = asked_numbers of_form (found m a) (dt_read (element_bytes m a)) (dt_read_lem (element_bytes m a)) (there (find_numbers m a)) (among of_form 0 refl)

time_read_lem : (form : Form) (l : List ℕ) → In (read_number (time_read form l)) of_form
unfolding time_read
time_read_lem form l = timed (is_time form l) (time_of form l)

pub tm_numbers : (m : List ℕ) (a : Address) → In (number_told (tm_found m a)) of_form
tm_numbers m a = asked_numbers of_form (found m a) (time_read Tm (element_bytes m a)) (time_read_lem Tm (element_bytes m a)) (there (find_numbers m a)) (among of_form 0 refl)

pub ts_numbers : (m : List ℕ) (a : Address) → In (number_told (ts_found m a)) of_form
ts_numbers m a = asked_numbers of_form (found m a) (time_read Ts (element_bytes m a)) (time_read_lem Ts (element_bytes m a)) (there (find_numbers m a)) (among of_form 0 refl)

-- ---- text

pub escape_numbers : (ds t : List ℕ) (room : ℕ) → In (number_given (answer (escaping ds t room))) of_escaping
escape_numbers = escaping_numbers

pub unescape_numbers : (ds s : List ℕ) (room : ℕ) → In (number_given (answer (unescaping ds s room))) of_unescaping
unescape_numbers = unescaping_numbers

pub format_numbers : (ds s : List ℕ) (room : ℕ) → In (number_given (answer (formatting ds s room))) of_formatting
format_numbers = formatting_numbers

-- ---- the judges

judged_numbers : {m : List ℕ} {j : Judgement} → Structured m j → In (number_judged j) of_structure
judged_numbers (no_structure g) = here
judged_numbers (by s g (accepted y)) = among of_structure 0 refl
judged_numbers {m} (by s g (refused place ends list r)) = at (ltb place (length (segment_names m)))
  where
    at : (t : Bool) → In (number_of (cond t SegmentMisplaced EndedEarly)) of_structure
    at true = there here
    at false = there (there here)

pub structure_numbers : (m : List ℕ) {j : Judgement} → Answers m j → In (number_judged j) of_structure
structure_numbers m (unread kind place e) = there (there (there (subst (λ (c : Check). In (number_given c) of_reading) e (read_numbers m))))
structure_numbers m (read e s) = judged_numbers s

pub verdict_numbers : (m : List ℕ) {r : Judgement} → Verdicts m r → In (number_judged r) of_verdict
verdict_numbers m (by-structure j a) = there (there (there (there (there (there (there (structure_numbers m a)))))))
verdict_numbers m (by-fields a) = at (fields_number m rows)
  where
    number : ℕ
    number = number_judged (fault_answer (judging rows m))

    fault : (31 ≤ number) × (number ≤ 37) → In number (from 31 7)
    fault n = let n1 = n.1 in in_range_lem 31 7 number n.0 (omega arith)

    later : (l : List ℕ) → In number l → In number (l ++ of_structure)
    later [] i = elim i [ ]
    later (k ∷ ks) here = here
    later (k ∷ ks) (there i) = there (later ks i)

    at : (number ≡ 0) ⊎ ((31 ≤ number) × (number ≤ 37)) → In number of_verdict
    at (inl z) = subst (λ (n : ℕ). In n of_verdict) (sym z) (among of_verdict 0 refl)
    at (inr n) = later (from 31 7) (fault n)

-- ---- acknowledging

refusing_numbers : (m time id : List ℕ) → In (number_given (refusing m time id)) of_acknowledging
unfolding refusing
refusing_numbers m time id =
    given_or of_acknowledging (fails_if (not (is_ts time)) CallersTime 0) _ (given_if of_acknowledging (not (is_ts time)) CallersTime 0 here (among of_acknowledging 16 refl))
    (given_or of_acknowledging (fails_if (bad_id id) CallersId 0) _ (given_if of_acknowledging (bad_id id) CallersId 0 here (among of_acknowledging 17 refl))
    (given_or of_acknowledging (fails_if (not (acknowledgeable m)) NotAcknowledgeable 0) passes (given_if of_acknowledging (not (acknowledgeable m)) NotAcknowledgeable 0 here (among of_acknowledging 9 refl)) here))

pub acknowledge_numbers : (m time id lent : List ℕ) {r : Refusable ℕ} {x : List ℕ} → Acknowledges m time id lent r x → In (number_given r) of_acknowledging
unfolding answer roomy
acknowledge_numbers m time id lent (not_written f n) = subst (λ (c : Check). In (number_given c) of_acknowledging) n (refusing_numbers m time id)
acknowledge_numbers m time id lent (written e found v) = at (leb (length w) (length lent) && leb (length w) message_limit)
  where
    w : List ℕ
    w = answer_to m time id found

    at : (t : Bool) → In (number_given (answer (cond t (text w) (fault AcknowledgementTooLong 0)))) of_acknowledging
    at true = here
    at false = among of_acknowledging 10 refl

-- ---- "After a refusal every buffer lent holds the bytes it held before."

outcome_leaves : (o : Outcome ℕ) (lent : List ℕ) → (IsOk (answer o) → ⊥) → filled o lent ≡ lent
unfolding answer filled
outcome_leaves (Ok t) lent some = absurd (some refl)
outcome_leaves (Err f) lent some = refl

pub escape_leaves : (ds t lent : List ℕ) → (IsOk (answer (escaping ds t (length lent))) → ⊥) → filled (escaping ds t (length lent)) lent ≡ lent
escape_leaves ds t lent = outcome_leaves (escaping ds t (length lent)) lent

pub unescape_leaves : (ds s lent : List ℕ) → (IsOk (answer (unescaping ds s (length lent))) → ⊥) → filled (unescaping ds s (length lent)) lent ≡ lent
unescape_leaves ds s lent = outcome_leaves (unescaping ds s (length lent)) lent

pub format_leaves : (ds s lent : List ℕ) → (IsOk (answer (formatting ds s (length lent))) → ⊥) → filled (formatting ds s (length lent)) lent ≡ lent
format_leaves ds s lent = outcome_leaves (formatting ds s (length lent)) lent
