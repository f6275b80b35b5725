-- No second answer meets the contracts of the boundary that are relations: each is an answer of the library's, of which there is one. Assumes nothing.
use mathlib.Core.Path.{◌≡◌, sym, ap, ◌∙◌}
use mathlib.Core.List.{List}
use Prim.Native.Nat.{ℕ}
use lib.ListN.{get_or}
use Rattle.fault.specs.Faults.{Judgement}
use Rattle.structure.proofs.OnlyOne.{only_one}
use Rattle.verdict.proofs.VerdictLaws.{one_verdict}
use Rattle.acknowledgement.proofs.AnswerLaws.{one_answer}
use Rattle.boundary.specs.Seen.{seen, structure_seen, verdict_seen, names_listed, StructureSeen, VerdictSeen, NameSeen, AcknowledgeSeen}
use Rattle.boundary.specs.declared.answers.CAnswer.{CAnswer}
use Rattle.boundary.specs.declared.judges.CStructure.{CStructure}
use Rattle.boundary.specs.declared.judges.CVerdict.{CVerdict}

pub one_structure_seen : (m : List ℕ) {r t : CStructure} → StructureSeen m r → StructureSeen m t → r ≡ t
one_structure_seen m a b = a.seen_as ∙ ap structure_seen (only_one m a.answers b.answers) ∙ sym b.seen_as

pub one_verdict_seen : (m : List ℕ) {r t : CVerdict} → VerdictSeen m r → VerdictSeen m t → r ≡ t
one_verdict_seen m a b = a.seen_as ∙ ap verdict_seen (one_verdict m a.answers b.answers) ∙ sym b.seen_as

pub one_name_seen : (m : List ℕ) (index : ℕ) {r t : ℕ} → NameSeen m index r → NameSeen m index t → r ≡ t
one_name_seen m index a b = a.seen_as ∙ ap (λ (j : Judgement). get_or (names_listed j) index 0) (only_one m a.answers b.answers) ∙ sym b.seen_as

-- the answer, and every byte of the buffer
pub one_acknowledge_seen : (m time id lent : List ℕ) {r t : CAnswer} {x y : List ℕ} → AcknowledgeSeen m time id lent r x → AcknowledgeSeen m time id lent t y → (r ≡ t) × (x ≡ y)
one_acknowledge_seen m time id lent a b =
    let o = one_answer m time id lent a.acknowledges b.acknowledges in
    (a.seen_as ∙ ap seen o.0 ∙ sym b.seen_as, o.1)
