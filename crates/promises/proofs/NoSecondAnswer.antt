-- No second answer meets any public contract. A contract `r ≡ f inputs` leaves one by its form; `escape`, `unescape` and
-- `format` fix the buffer in the same way; those of the structure judge, the verdict and the acknowledgement are
-- relations. Assumes nothing.
use mathlib.Core.Path.{◌≡◌, sym, ◌∙◌}
use mathlib.Core.List.{List}
use Prim.Native.Nat.{ℕ}
use Rattle.alphabet.specs.Answers.{Refusable}
use Rattle.structure.specs.Judged.{Answers}
use Rattle.fault.specs.Faults.{Judgement}
use Rattle.fault.specs.declared.FaultRecord.{FaultRecord}
use Rattle.structure.proofs.OnlyOne.{only_one}
use Rattle.verdict.specs.Verdicts.{Verdicts}
use Rattle.verdict.proofs.VerdictLaws.{one_verdict}
use Rattle.acknowledgement.specs.Acknowledgement.{Acknowledges}
use Rattle.acknowledgement.proofs.AnswerLaws.{one_answer}
use Rattle.laws.specs.Told.{TellsCode, TellsPlace}
use Rattle.laws.proofs.ErrorTold.{one_code, one_place}

-- `r ≡ f inputs`, and `buffer ≡ g inputs`
pub by_definition : {A : Type 0} {r s answer : A} → r ≡ answer → s ≡ answer → r ≡ s
by_definition e f = e ∙ sym f

pub structure_once : (m : List ℕ) {r s : Judgement} → Answers m r → Answers m s → r ≡ s
structure_once m a b = only_one m a b

pub verdict_once : (m : List ℕ) {r s : Judgement} → Verdicts m r → Verdicts m s → r ≡ s
verdict_once m a b = one_verdict m a b

-- the answer, and every byte of the buffer
pub acknowledge_once : (m time id lent : List ℕ) {r s : Refusable ℕ} {x y : List ℕ} → Acknowledges m time id lent r x → Acknowledges m time id lent s y → (r ≡ s) × (x ≡ y)
acknowledge_once m time id lent a b = one_answer m time id lent a b

-- what an ERR segment tells: one place and one code
pub error_once : (m : List ℕ) (r : FaultRecord) {a b c d x y z w : List ℕ} → TellsPlace m r a b c × TellsCode r d → TellsPlace m r x y z × TellsCode r w → ((a ≡ x) × (b ≡ y) × (c ≡ z)) × (d ≡ w)
error_once m r s t = (one_place m r s.0 t.0, one_code r s.1 t.1)
