-- What holds of every answer: that no second one meets the contract, and demand 2 of each acknowledgement that is written. Assumes nothing.
use mathlib.Core.Path.{◌≡◌, refl, sym, ap, ◌∙◌, subst}
use mathlib.Core.Bool.{Bool, true, false, cond, not, ◌&&◌}
use mathlib.Core.List.{List, [], ◌++◌}
use Prim.Native.Nat.{ℕ, ◌≤◌}
use native.Mathlib.Omega.{arith}
use lib.Dec.{leb}
use lib.ListN.{length, take, drop}
use lib.Seq.{take-append_seam, drop-append_seam}
use borrow.Author.Tests.{leb-true}
use Rattle.std.specs.Prelude.{Ok, Err}
use Rattle.alphabet.specs.Answers.{Check, Refusable, passes, fails, fails_if, or_else, number_of, number_given}
use Rattle.alphabet.specs.declared.answers.Fault.{Fault}
use Rattle.alphabet.specs.Limits.{message_limit}
use Rattle.alphabet.specs.declared.answers.Refusal.TheVariants.{NotAcknowledgeable, AcknowledgementTooLong, CallersTime, CallersId}
use Rattle.times.specs.Times.{is_ts}
use Rattle.escaping.specs.Outcomes.{Outcome, text, fault}
use Rattle.alphabet.proofs.CheckLaws.{fails_same, never_both, number_positive}
use Rattle.alphabet.specs.Filling.{over}
use Rattle.escaping.specs.Outcomes.{answer, filled}
use Rattle.acknowledgement.specs.Acknowledgement.{header, bad_id, acknowledgeable, refusing, acknowledgement, roomy, answer_to, Acknowledges}
use Rattle.acknowledgement.specs.Acknowledgement.Acknowledges.{not_written, written}
use Rattle.verdict.specs.Verdicts.{Verdicts}
use Rattle.fault.specs.Faults.{Judgement}
use Rattle.verdict.proofs.VerdictLaws.{one_verdict}
use Rattle.reading.specs.Message.{ended}
use Rattle.error_segment.specs.Errors.{error_lines}
use Rattle.acknowledgement.proofs.PieceLaws.{lines_behind}
use Rattle.acknowledgement_code.specs.Codes.{code_of}
use Rattle.acknowledgement_code.specs.declared.Code.{Code}

module _ (m time id lent : List ℕ) where
  -- the contract, from what the writer gives of the header that was taken, of the code that was chosen and of the lines behind MSA
  pub meets : (h e : List ℕ) (code : Code) (found : Judgement) (r : Refusable ℕ) (x : List ℕ) → refusing m time id ≡ passes → Verdicts m found → h ≡ header m → code ≡ code_of found → e ≡ ended (error_lines m found)
      → r ≡ answer (roomy (length lent) (acknowledgement h time id code [] ++ e)) → x ≡ filled (roomy (length lent) (acknowledgement h time id code [] ++ e)) lent
      → Acknowledges m time id lent r x
  meets h e code found r x n v q k l a f =
      let w : acknowledgement h time id code [] ++ e ≡ answer_to m time id found =
      (λ i. acknowledgement (q i) time id (k i) [] ++ l i) ∙ lines_behind (header m) time id (code_of found) (error_lines m found) in
      let o = ap (roomy (length lent)) w in
      subst (λ (y : Refusable ℕ). Acknowledges m time id lent y x) (sym (a ∙ ap answer o))
      (subst (λ (y : List ℕ). Acknowledges m time id lent (answer (roomy (length lent) (answer_to m time id found))) y) (sym (f ∙ ap (λ (y : Outcome ℕ). filled y lent) o))
      (written n found v))

-- nothing is given and refused
given_not : {n : ℕ} {f : Fault} → ◌≡◌ {A = Refusable ℕ} (Ok n) (Err f) → ⊥
given_not {f = f} q = let z = ap number_given q in omega (arith, number_positive f.kind)

-- a fault that a check found is the one that is answered
same_fault : {f g : Fault} → ◌≡◌ {A = Check} (Err f) (Err g) → ◌≡◌ {A = Refusable ℕ} (Err f) (Err g)
same_fault q = let e = fails_same q in λ i. Err (record { kind = e.0 i; place = e.1 i })

abbrev length_or_0 : Refusable ℕ → ℕ
length_or_0 (Ok n) = n
length_or_0 (Err f) = 0

-- ---- no second answer

pub one_answer : (m time id lent : List ℕ) {r s : Refusable ℕ} {x y : List ℕ} → Acknowledges m time id lent r x → Acknowledges m time id lent s y → (r ≡ s) × (x ≡ y)
one_answer m time id lent (not_written f n) (not_written g p) = (same_fault (sym n ∙ p), refl)
one_answer m time id lent (not_written f n) (written e found v) = absurd (never_both (sym e ∙ n))
one_answer m time id lent (written e found v) (not_written f n) = absurd (never_both (sym e ∙ n))
one_answer m time id lent (written e found v) (written f other w) =
    let o = ap (λ (k : Judgement). roomy (length lent) (answer_to m time id k)) (one_verdict m v w) in
    (ap answer o, ap (λ (z : Outcome ℕ). filled z lent) o)

-- ---- what is refused

-- by whether there is room
abbrev outcome : List ℕ → Bool → Outcome ℕ
outcome w t = cond t (text w) (fault AcknowledgementTooLong 0)

-- what stands against an acknowledgement has place 0
refusing_place : (m time id : List ℕ) (f : Fault) → refusing m time id ≡ Err f → f.place ≡ 0
unfolding refusing
refusing_place m time id f e = at (is_ts time) (bad_id id) (acknowledgeable m) e
  where
    at : (t b a : Bool) → or_else (fails_if (not t) CallersTime 0) (or_else (fails_if b CallersId 0) (or_else (fails_if (not a) NotAcknowledgeable 0) passes)) ≡ Err f → f.place ≡ 0
    at true false false q = sym (fails_same q).1
    at true false true q = absurd (never_both q)
    at true true a q = sym (fails_same q).1
    at false b a q = sym (fails_same q).1

-- "A refusal gives number and place", and the buffer holds the bytes that it held before
pub refusal_leaves : (m time id lent : List ℕ) {r : Refusable ℕ} {x : List ℕ} → Acknowledges m time id lent r x → (f : Fault) → r ≡ Err f → (x ≡ lent) × (f.place ≡ 0)
unfolding answer filled roomy
refusal_leaves m time id lent (not_written g n) f q = (refl, sym (fails_same q).1 ∙ refusing_place m time id g n)
refusal_leaves m time id lent (written e found v) f q =
    at (leb (length (answer_to m time id found)) (length lent) && leb (length (answer_to m time id found)) message_limit) q
  where
    at : (t : Bool) → answer (outcome (answer_to m time id found) t) ≡ Err f → (filled (outcome (answer_to m time id found) t) lent ≡ lent) × (f.place ≡ 0)
    at true q = absurd (given_not q)
    at false q = (refl, sym (fails_same q).1)

-- 9 is for a message that cannot be acknowledged
pub nine_unacknowledgeable : (m time id lent : List ℕ) {r : Refusable ℕ} {x : List ℕ} → Acknowledges m time id lent r x → (place : ℕ) → r ≡ fails NotAcknowledgeable place → acknowledgeable m ≡ false
unfolding answer roomy refusing
nine_unacknowledgeable m time id lent (not_written g n) place nine = at (is_ts time) (bad_id id) (acknowledgeable m) n (fails_same nine).0
  where
    at : (t b a : Bool) → or_else (fails_if (not t) CallersTime 0) (or_else (fails_if b CallersId 0) (or_else (fails_if (not a) NotAcknowledgeable 0) passes)) ≡ Err g → g.kind ≡ NotAcknowledgeable → a ≡ false
    at true false false q k = refl
    at true false true q k = absurd (never_both q)
    at true true a q k = absurd (let z = ap number_of ((fails_same q).0 ∙ k) in omega arith)
    at false b a q k = absurd (let z = ap number_of ((fails_same q).0 ∙ k) in omega arith)
nine_unacknowledgeable m time id lent (written e found v) place nine =
    at (leb (length (answer_to m time id found)) (length lent) && leb (length (answer_to m time id found)) message_limit) nine
  where
    at : (t : Bool) → answer (outcome (answer_to m time id found) t) ≡ fails NotAcknowledgeable place → acknowledgeable m ≡ false
    at true q = absurd (given_not q)
    at false q = absurd (let z = ap number_of (fails_same q).0 in omega arith)

-- ---- what is written

-- of an answer that refuses nothing: the bytes that were written are the acknowledgement by the verdict, and those
-- behind stay
pub record Writes (m time id lent : List ℕ) (n : ℕ) (x : List ℕ) : Type 0 where
  pub found : Judgement
  pub verdict : Verdicts m found
  pub nothing_against : refusing m time id ≡ passes
  pub bytes : take n x ≡ answer_to m time id found
  pub behind : drop n x ≡ drop n lent
  pub most : length (answer_to m time id found) ≤ message_limit

pub ok_writes : (m time id lent : List ℕ) {r : Refusable ℕ} {x : List ℕ} → Acknowledges m time id lent r x → (n : ℕ) → r ≡ Ok n → Writes m time id lent n x
unfolding answer filled roomy
ok_writes m time id lent (not_written g p) n q = absurd (given_not (sym q))
ok_writes m time id lent (written e found v) n q =
    at (leb (length (answer_to m time id found)) (length lent)) (leb (length (answer_to m time id found)) message_limit) refl q
  where
    w : List ℕ
    w = answer_to m time id found

    at : (s t : Bool) → leb (length w) message_limit ≡ t → answer (outcome w (s && t)) ≡ Ok n → Writes m time id lent n (filled (outcome w (s && t)) lent)
    at true true f z =
        subst (λ (k : ℕ). Writes m time id lent k (over w lent)) (ap length_or_0 z)
        (record {
          found = found;
          verdict = v;
          nothing_against = e;
          bytes = take-append_seam w (drop (length w) lent);
          behind = drop-append_seam w (drop (length w) lent);
          most = leb-true (length w) message_limit f;
        })
    at true false f z = absurd (given_not (sym z))
    at false t f z = absurd (given_not (sym z))
