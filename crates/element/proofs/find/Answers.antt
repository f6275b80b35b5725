-- Rests on the laws of the answer, case by case.
use borrow.Author.Rules.{rules}
use mathlib.Core.Path.{◌≡◌, refl, sym, ap, ◌∙◌}
use Rattle.std.specs.Prelude.{Ok}
use Rattle.alphabet.specs.Answers.{fails, Refusable}
use Rattle.alphabet.specs.declared.answers.Refusal.{Refusal}
use Rattle.element.specs.Finding.{lookup_check}
use Rattle.element.specs.declared.Element.{Element}
use Rattle.element.proofs.FindingLaws.{lookup_long, lookup_refused, lookup_missing, lookup_passes, found_fails, found_passes}
use native.Mathlib.Omega.{arith}
use Rattle.element.proofs.find.Goals.{In-Some}
use Rattle.element.proofs.find.Goals as goal

pub returns-in_err-check_question : goal.returns-in_err-check_question
returns-in_err-check_question c =
    let a = c.args in
    let m = a.message.now in
    let e = found_fails m a.address _ (lookup_refused m a.address _ c.check_question.ensures _ c.in_err-check_question.was) _ c.in_err-check_question.was in
    rw (← e) (search rules)

pub returns-in_default : goal.returns-in_default
returns-in_default c =
    let a = c.args in
    let m = a.message.now in
    found_fails m a.address (fails Refusal.Address 0) (lookup_missing m a.address _ c.check_question.ensures c.in_ok-check_question.was _ c.segment_start.ensures c.in_default.is) _ refl

-- where the segment begins, the lookup passes
passed : (c : In-Some) → let a = c.args in
    c.check_question.result ≡ lookup_check a.message.now a.address
passed c =
    let a = c.args in
    lookup_passes a.message.now a.address _ c.check_question.ensures c.in_ok-check_question.was c.segment_start.result c.segment_start.ensures _ c.in-Some.is

pub element_of-requires : goal.element_of-requires
element_of-requires c =
    let a = c.args in
    let n = lookup_long a.message.now a.address (sym (passed c) ∙ c.in_ok-check_question.was) in
    (omega arith, sym c.in-Some.is ∙ c.segment_start.ensures)

pub returns : goal.returns
returns c =
    let a = c.args in
    let made : Element → Refusable Element = λ e. Ok e in
    ap made c.element_of.ensures
    ∙ found_passes a.message.now a.address c.check_question.result (passed (goal.at.returns c).In-Some) c.in_ok-check_question.was
