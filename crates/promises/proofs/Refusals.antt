-- Demand 1, "refuses by the number in the table", of the acknowledgement: 16, 17 and 9 are given exactly where document 01 has them, and 10 or 0 exactly where none
-- of them is. Rests on the grammar of times and on what checks 1 to 4 accept. Assumes nothing.
use mathlib.Core.Path.{◌≡◌, refl, sym, ap, subst, ◌∙◌}
use mathlib.Core.Logic.{◌↔◌, ◌⊎◌, inl, inr, ⊎_elim}
use mathlib.Core.Bool.{Bool, true, false, cond, not, ◌&&◌}
use mathlib.Core.List.{List}
use Prim.Native.Nat.{ℕ, zero, suc, ◌≤◌}
use native.Mathlib.Omega.{arith}
use lib.Dec.{leb, ltb, eqb}
use lib.ListN.{length, get_or}
use borrow.Author.Tests.{leb-true, leb-false, ltb-false, eqb-false, eq-eqb, ne_eqb, le-ltb, not-true}
use Rattle.std.specs.Prelude.{Ok, Err, is_ok, IsOk}
use Rattle.alphabet.specs.Answers.{Refusable, passes, fails, fails_if, or_else, number_of}
use Rattle.alphabet.specs.declared.answers.Fault.{Fault}
use Rattle.alphabet.proofs.CheckLaws.{fails_same, never_both}
use Rattle.alphabet.specs.Bytes.{carriage_return, ascii}
use Rattle.alphabet.specs.Limits.{message_limit, id_limit}
use Rattle.alphabet.specs.Lists.{find, same}
use Rattle.alphabet.specs.declared.answers.Refusal.{Refusal}
use Rattle.alphabet.specs.declared.answers.Refusal.TheVariants.{NotAcknowledgeable, AcknowledgementTooLong, CallersTime, CallersId}
use Rattle.alphabet.proofs.BoolLaws.{false_true, and_both, or_neither, neither_or}
use Rattle.alphabet.proofs.ListLaws.{first_least, find_is, same_is, same_own}
use Rattle.reading.specs.Reading.{opening}
use Rattle.reading.proofs.Accepted.{opening_if}
use Rattle.laws.proofs.PresentLaws.{is_present_lem}
use Rattle.element.specs.States.{is_present}
use Rattle.times.specs.Times.{is_ts}
use Rattle.escaping.specs.Outcomes.{text, fault}
use Rattle.escaping.specs.Outcomes.{answer}
use Rattle.acknowledgement.specs.Acknowledgement.{header, sent, type_part, present, bad_id, acknowledgeable, refusing, roomy, answer_to, Acknowledges}
use Rattle.acknowledgement.specs.Acknowledgement.Acknowledges.{not_written, written}
use Rattle.acknowledgement.proofs.HeaderLaws.{return_inside, sound_header, no_time_row, no_id, no_header}
use Rattle.grammars.proofs.SpeltTimesLaws.{ts_spelt, ts_spells}
use Rattle.promises.specs.Acknowledgements.{GoodId, Refuses, Unacknowledgeable, no_return, unsound, of_type_ack, no_control_id, long_control_id, RefusedBy, bad_time, by_bad_id, bad_header}

-- ---- the caller's ID

good_id : (id : List ℕ) → bad_id id ≡ false → GoodId id
good_id id e =
    let b = or_neither (eqb (length id) 0) (ltb id_limit (length id)) e in
    let n = eqb-false (length id) 0 b.0 in
    (some (length id) n, ltb-false id_limit (length id) b.1)
  where
    some : (n : ℕ) → (n ≡ 0 → ⊥) → 1 ≤ n
    some zero h = absurd (h refl)
    some (suc n) h = omega arith

id_good : (id : List ℕ) → GoodId id → bad_id id ≡ false
id_good id g = neither_or (ne_eqb (length id) 0 (λ e. let l = g.0 in omega arith)) (le-ltb id_limit (length id) g.1)

-- ---- the header

module _ (m : List ℕ) where
  not_so : acknowledgeable m ≡ false → Unacknowledgeable m
  unfolding acknowledgeable
  not_so q =
      at (ltb (find carriage_return m) (length m)) refl (is_ok (opening (header m))) refl (same (type_part (header m) 1) (ascii "ACK")) refl
      (present (header m) (sent (header m) 10)) refl (leb (length (sent (header m) 10)) id_limit) refl q
    where
      at : (a : Bool) → ltb (find carriage_return m) (length m) ≡ a → (b : Bool) → is_ok (opening (header m)) ≡ b → (c : Bool) → same (type_part (header m) 1) (ascii "ACK") ≡ c
          → (d : Bool) → present (header m) (sent (header m) 10) ≡ d → (e : Bool) → leb (length (sent (header m) 10)) id_limit ≡ e
          → (a && (b && (not c && (d && e)))) ≡ false → Unacknowledgeable m
      at false ea b eb c ec d ed e ee q =
          no_return (λ i h r. let l = ltb-false (find carriage_return m) (length m) ea in let k = first_least (eqb carriage_return) m i h (eq-eqb carriage_return (get_or m i 0) (sym r)) in omega arith)
      at true ea false eb c ec d ed e ee q = unsound (λ o. false_true (sym eb ∙ ap is_ok (opening_if (header m) o)))
      at true ea true eb true ec d ed e ee q = of_type_ack (same_is (type_part (header m) 1) (ascii "ACK") ec)
      at true ea true eb false ec false ed e ee q = no_control_id (λ p. false_true (sym ed ∙ ap is_present p))
      at true ea true eb false ec true ed false ee q = long_control_id (leb-false (length (sent (header m) 10)) id_limit ee)
      at true ea true eb false ec true ed true ee q = absurd (false_true (sym q))

  holds : acknowledgeable m ≡ true
      → (same (type_part (header m) 1) (ascii "ACK") ≡ false) × (present (header m) (sent (header m) 10) ≡ true) × (leb (length (sent (header m) 10)) id_limit ≡ true)
  unfolding acknowledgeable
  holds e =
      let a = and_both (ltb (find carriage_return m) (length m)) _ e in
      let b = and_both (is_ok (opening (header m))) _ a.1 in
      let c = and_both (not (same (type_part (header m) 1) (ascii "ACK"))) _ b.1 in
      let d = and_both (present (header m) (sent (header m) 10)) (leb (length (sent (header m) 10)) id_limit) c.1 in
      (not-true (same (type_part (header m) 1) (ascii "ACK")) c.0, d.0, d.1)

  not_both : Unacknowledgeable m → acknowledgeable m ≡ true → ⊥
  not_both (no_return n) e = let h = return_inside m e in n (find carriage_return m) h (find_is carriage_return m h)
  not_both (unsound n) e = n (sound_header m e)
  not_both (of_type_ack t) e = false_true (sym (holds e).0 ∙ ap (λ (l : List ℕ). same l (ascii "ACK")) t ∙ same_own (ascii "ACK"))
  not_both (no_control_id n) e = n (is_present_lem _ (holds e).1)
  not_both (long_control_id l) e = let k = leb-true (length (sent (header m) 10)) id_limit (holds e).2 in omega arith

-- ---- what stands against an acknowledgement

is_false : {t : Bool} → (t ≡ true → ⊥) → t ≡ false
is_false {t = true} n = absurd (n refl)
is_false {t = false} n = refl

module _ (m time id : List ℕ) where
  against : (f : Fault) → refusing m time id ≡ Err f → RefusedBy m time id f.kind
  unfolding refusing
  against f e = at (is_ts time) refl (bad_id id) refl (acknowledgeable m) refl e
    where
      at : (t : Bool) → is_ts time ≡ t → (b : Bool) → bad_id id ≡ b → (a : Bool) → acknowledgeable m ≡ a
          → or_else (fails_if (not t) CallersTime 0) (or_else (fails_if b CallersId 0) (or_else (fails_if (not a) NotAcknowledgeable 0) passes)) ≡ Err f
          → RefusedBy m time id f.kind
      at false et b eb a ea q = subst (RefusedBy m time id) (fails_same q).0 (bad_time (λ t s. false_true (sym et ∙ (ts_spelt s).0)))
      at true et true eb a ea q = subst (RefusedBy m time id) (fails_same q).0 (by_bad_id _ (ts_spells time et) (λ g. false_true (sym (id_good id g) ∙ eb)))
      at true et false eb false ea q = subst (RefusedBy m time id) (fails_same q).0 (bad_header _ (ts_spells time et) (good_id id eb) (not_so m ea))
      at true et false eb true ea q = absurd (never_both q)

  so_refused : {k : Refusal} → RefusedBy m time id k → refusing m time id ≡ fails k 0
  so_refused (bad_time n) = no_time_row m time id (ap not (is_false (λ e. n _ (ts_spells time e))))
  so_refused (by_bad_id t s n) = no_id m time id (ap not (ts_spelt s).0) (is_true (bad_id id) (λ e. n (good_id id e)))
    where
      is_true : (b : Bool) → (b ≡ false → ⊥) → b ≡ true
      is_true true h = refl
      is_true false h = absurd (h refl)
  so_refused (bad_header t s g u) = no_header m time id (ap not (ts_spelt s).0) (id_good id g) (ap not (is_false (not_both m u)))

-- ---- the answer

-- what is left for an answer where none of these stands against it: 10 or 0
abbrev Left : Refusable ℕ → Type 0
Left r = Refuses r AcknowledgementTooLong ⊎ IsOk r

of_room : (room : ℕ) (w : List ℕ) → Left (answer (roomy room w))
unfolding answer roomy
of_room room w = at (leb (length w) room && leb (length w) message_limit)
  where
    at : (t : Bool) → Left (answer (cond t (text w) (fault AcknowledgementTooLong 0)))
    at true = inr refl
    at false = inl refl

-- no other refusal is
not_left : (r : Refusable ℕ) (k : Refusal) → (number_of k ≡ 10 → ⊥) → Left r → Refuses r k → ⊥
not_left (Ok n) k ten l w = w
not_left (Err f) k ten l w = ⊎_elim (λ e. ten (ap number_of (sym w ∙ e))) (λ e. false_true e) l

module _ (m time id lent : List ℕ) where
  not_ten : {k : Refusal} → RefusedBy m time id k → number_of k ≡ 10 → ⊥
  not_ten (bad_time n) e = omega arith
  not_ten (by_bad_id t s n) e = omega arith
  not_ten (bad_header t s g u) e = omega arith

  -- one of these stands against it and is the answer, or none does
  either : {r : Refusable ℕ} {x : List ℕ} → Acknowledges m time id lent r x → ((f : Fault) × (r ≡ Err f) × (refusing m time id ≡ Err f)) ⊎ ((refusing m time id ≡ passes) × Left r)
  either (not_written f e) = inl (f, refl, e)
  either (written e found v) = inr (e, of_room (length lent) (answer_to m time id found))

  module _ {r : Refusable ℕ} {x : List ℕ} (a : Acknowledges m time id lent r x) where
    given : {k : Refusal} → RefusedBy m time id k → Refuses r k
    given {k} b =
        let e = so_refused m time id b in
        ⊎_elim (λ q. subst (λ (s : Refusable ℕ). Refuses s k) (sym q.1) (fails_same (sym q.2 ∙ e)).0) (λ q. absurd (never_both (sym q.0 ∙ e))) (either a)

    told : (k : Refusal) → (number_of k ≡ 10 → ⊥) → Refuses r k → RefusedBy m time id k
    told k ten w =
        ⊎_elim (λ q. subst (RefusedBy m time id) (subst (λ (s : Refusable ℕ). Refuses s k) q.1 w) (against m time id q.0 q.2)) (λ q. absurd (not_left r k ten q.1 w)) (either a)

    -- 16: "caller's time isn't TS"
    pub sixteen_exactly : Refuses r CallersTime ↔ RefusedBy m time id CallersTime
    sixteen_exactly = (told CallersTime (λ e. omega arith), given)

    -- 17: "caller's ID not 1 to 199 bytes"
    pub seventeen_exactly : Refuses r CallersId ↔ RefusedBy m time id CallersId
    seventeen_exactly = (told CallersId (λ e. omega arith), given)

    -- 9: "the header (through the first CR) is missing that CR or has fault 1 to 4 itself; type ACK; MSH-10, the whole field, not present or over 199 bytes"
    pub nine_exactly : Refuses r NotAcknowledgeable ↔ RefusedBy m time id NotAcknowledgeable
    nine_exactly = (told NotAcknowledgeable (λ e. omega arith), given)

    -- 10, or 0, where none of the three is, and nowhere else
    pub ten_or_zero_exactly : (Refuses r AcknowledgementTooLong ⊎ IsOk r) ↔ ((k : Refusal) → RefusedBy m time id k → ⊥)
    ten_or_zero_exactly = (λ l k b. not_left r k (not_ten b) l (given b), λ n. ⊎_elim (λ q. absurd (n q.0.kind (against m time id q.0 q.2))) (λ q. q.1) (either a))
