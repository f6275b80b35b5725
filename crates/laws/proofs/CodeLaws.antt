-- The letters of an acknowledgement by the verdict's record: AA exactly for the one that accepts, AR exactly for those that reject, AE exactly for every
-- other. Assumes nothing.
use mathlib.Core.Path.{◌≡◌, refl, sym, ap, subst, ◌∙◌}
use mathlib.Core.Logic.{◌↔◌}
use mathlib.Core.Bool.{Bool, true, false, cond, ◌&&◌, ◌||◌}
use mathlib.Core.List.{List}
use Prim.Native.Nat.{ℕ}
use native.Mathlib.Omega.{arith}
use lib.Dec.{eqb}
use lib.ListN.{get_or}
use borrow.Author.Tests.{eqb-true}
use Rattle.fault.specs.Faults.{Judgement}
use Rattle.std.specs.Prelude.{Ok, Err}
use Rattle.alphabet.specs.Answers.{number_of}
use Rattle.alphabet.specs.Bytes.{ascii}
use Rattle.alphabet.proofs.BoolLaws.{and_both, false_true}
use Rattle.fault.specs.declared.FaultRecord.{FaultRecord}
use Rattle.acknowledgement_code.specs.Codes.{rejects, code_of, letters_of}
use Rattle.acknowledgement_code.specs.declared.Code.{Code}
use Rattle.acknowledgement_code.specs.declared.Code.TheVariants.{Accept, Error, Reject}
use Rattle.laws.specs.Rejected.{Rejects, unsupported, processing, version}

module _ (r : FaultRecord) where
  abbrev number : ℕ
  number = number_of r.kind

  -- the test of the code, case by case
  in_field : (t : Bool) → eqb r.field 11 ≡ t → number ≡ 33 → r.place ≡ 0 → (t || eqb r.field 12) ≡ true → Rejects r
  in_field true e n p q = processing n p (eqb-true r.field 11 e)
  in_field false e n p q = version n p (eqb-true r.field 12 q)

  by_number : (t : Bool) → eqb number 20 ≡ t → (t || (eqb number 33 && (eqb r.place 0 && (eqb r.field 11 || eqb r.field 12)))) ≡ true → Rejects r
  by_number true e q = unsupported (eqb-true number 20 e)
  by_number false e q =
      let n = and_both (eqb number 33) _ q in
      let p = and_both (eqb r.place 0) _ n.1 in
      in_field (eqb r.field 11) refl (eqb-true number 33 n.0) (eqb-true r.place 0 p.0) p.1

  tested : Rejects r → rejects number r.place r.field ≡ true
  tested (unsupported n) = rw n refl
  tested (processing n p f) = rw (n, p, f) refl
  tested (version n p f) = rw (n, p, f) refl

-- what a verdict says that is answered with a code
data Says (r : Judgement) : Code → Type 0 where
  accepts : r ≡ Ok tt → Says r Accept
  refuses : (f : FaultRecord) → r ≡ Err f → (Rejects f → ⊥) → Says r Error
  turns_away : (f : FaultRecord) → r ≡ Err f → Rejects f → Says r Reject

-- a fault that rejects
abbrev pub Turns : Judgement → Type 0
Turns r = (f : FaultRecord) × (r ≡ Err f) × Rejects f

says : (r : Judgement) → Says r (code_of r)
unfolding code_of
says (Ok _) = accepts refl
says (Err f) = at (rejects (number_of f.kind) f.place f.field) refl
  where
    at : (t : Bool) → rejects (number_of f.kind) f.place f.field ≡ t → Says (Err f) (cond t Reject Error)
    at true e = turns_away f refl (by_number f (eqb (number_of f.kind) 20) refl e)
    at false e = refuses f refl (λ j. false_true (sym e ∙ tested f j))

-- two faults that are the same
fault_or : FaultRecord → Judgement → FaultRecord
fault_or f (Ok _) = f
fault_or f (Err g) = g

pub same_fault : {f g : FaultRecord} → ◌≡◌ {A = Judgement} (Err f) (Err g) → f ≡ g
unfolding fault_or
same_fault {f} q = ap (fault_or f) q

-- two codes are not written alike: the second letters differ
unlike : {A : Type 0} (a b : ℕ) (v w : List ℕ) → get_or v 1 0 ≡ a → get_or w 1 0 ≡ b → (a ≡ b → ⊥) → v ≡ w → A
unlike a b v w e f n q = absurd (n (sym e ∙ ap (λ (l : List ℕ). get_or l 1 0) q ∙ f))

-- what is accepted has no fault
pub apart : {r : Judgement} {f : FaultRecord} → r ≡ Ok tt → r ≡ Err f → ⊥
apart e q = let w = sym e ∙ q in let z : ◌≡◌ {A = ℕ} 0 1 = cc in omega arith

module _ (r : Judgement) where
  pub letters_accept : (letters_of (code_of r) ≡ ascii "AA") ↔ (r ≡ Ok tt)
  letters_accept = at (code_of r) (says r)
    where
      at : (c : Code) → Says r c → (letters_of c ≡ ascii "AA") ↔ (r ≡ Ok tt)
      at Accept (accepts e) = (λ q. e, λ q. refl)
      at Error (refuses f e j) = (unlike 69 65 (ascii "AE") (ascii "AA") refl refl (λ e. omega arith), λ q. absurd (apart q e))
      at Reject (turns_away f e j) = (unlike 82 65 (ascii "AR") (ascii "AA") refl refl (λ e. omega arith), λ q. absurd (apart q e))

  pub letters_reject : (letters_of (code_of r) ≡ ascii "AR") ↔ Turns r
  letters_reject = at (code_of r) (says r)
    where
      at : (c : Code) → Says r c → (letters_of c ≡ ascii "AR") ↔ Turns r
      at Accept (accepts e) = (unlike 65 82 (ascii "AA") (ascii "AR") refl refl (λ e. omega arith), λ t. absurd (apart e t.1))
      at Error (refuses f e j) = (unlike 69 82 (ascii "AE") (ascii "AR") refl refl (λ e. omega arith), λ t. absurd (j (subst Rejects (same_fault (sym t.1 ∙ e)) t.2)))
      at Reject (turns_away f e j) = (λ q. (f, e, j), λ q. refl)

  pub letters_error : (letters_of (code_of r) ≡ ascii "AE") ↔ ((r ≡ Ok tt → ⊥) × (Turns r → ⊥))
  letters_error = at (code_of r) (says r)
    where
      at : (c : Code) → Says r c → (letters_of c ≡ ascii "AE") ↔ ((r ≡ Ok tt → ⊥) × (Turns r → ⊥))
      at Accept (accepts e) = (unlike 65 69 (ascii "AA") (ascii "AE") refl refl (λ e. omega arith), λ q. absurd (q.0 e))
      at Error (refuses f e j) = (λ q. (λ o. apart o e, λ t. j (subst Rejects (same_fault (sym t.1 ∙ e)) t.2)), λ q. refl)
      at Reject (turns_away f e j) = (unlike 82 69 (ascii "AR") (ascii "AE") refl refl (λ e. omega arith), λ q. absurd (q.1 (f, e, j)))
