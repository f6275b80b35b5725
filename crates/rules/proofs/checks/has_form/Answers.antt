-- Rests on what the callees ensure, case by case, and on when a check passes.
use mathlib.Core.Path.{sym, ap, ◌∙◌}
use lib.Dec.{leb}
use lib.ListN.{length}
use Rattle.alphabet.specs.declared.answers.Refusal.TheVariants.{BreaksForm, NotListed, ValueTooLong}
use Rattle.rules.specs.Rules.{form_check, passing}
use Rattle.field_table.specs.declared.Kind.{Kind}
use Rattle.rules.proofs.RuleLaws.{passing_not, passing_most}
use Rattle.rules.proofs.checks.has_form.Goals as goal

pub returns-in-Any : goal.returns-in-Any
unfolding form_check
returns-in-Any c = sym (ap (λ (k : Kind). passing (form_check k c.args.bytes.now)) c.in-Any.is)

pub returns-in-Identifier : goal.returns-in-Identifier
unfolding form_check
returns-in-Identifier c =
    let a = c.args in
    ap (leb (length a.bytes.now)) c.id_limit-most.ensures ∙ sym (passing_most _ (length a.bytes.now) ValueTooLong 0)
    ∙ sym (ap (λ (k : Kind). passing (form_check k a.bytes.now)) c.in-Identifier.is)

pub returns-in-Ts : goal.returns-in-Ts
unfolding form_check
returns-in-Ts c =
    let a = c.args in
    c.is_ts.ensures ∙ sym (passing_not _ BreaksForm 0) ∙ sym (ap (λ (k : Kind). passing (form_check k a.bytes.now)) c.in-Ts.is)

pub returns-in-Si : goal.returns-in-Si
unfolding form_check
returns-in-Si c =
    let a = c.args in
    c.is_si.ensures ∙ sym (passing_not _ BreaksForm 0) ∙ sym (ap (λ (k : Kind). passing (form_check k a.bytes.now)) c.in-Si.is)

pub returns-in-Nm : goal.returns-in-Nm
unfolding form_check
returns-in-Nm c =
    let a = c.args in
    c.is_ok.ensures.value ∙ ap passing c.check_nm.ensures ∙ sym (ap (λ (k : Kind). passing (form_check k a.bytes.now)) c.in-Nm.is)

pub returns-in-Dt : goal.returns-in-Dt
unfolding form_check
returns-in-Dt c =
    let a = c.args in
    c.is_dt.ensures ∙ sym (passing_not _ BreaksForm 0) ∙ sym (ap (λ (k : Kind). passing (form_check k a.bytes.now)) c.in-Dt.is)

pub returns-in-Tm : goal.returns-in-Tm
unfolding form_check
returns-in-Tm c =
    let a = c.args in
    c.is_tm.ensures ∙ sym (passing_not _ BreaksForm 0) ∙ sym (ap (λ (k : Kind). passing (form_check k a.bytes.now)) c.in-Tm.is)

pub returns-in-OneOf : goal.returns-in-OneOf
unfolding form_check
returns-in-OneOf c =
    let a = c.args in
    c.is_listed.ensures ∙ sym (passing_not _ NotListed 0) ∙ sym (ap (λ (k : Kind). passing (form_check k a.bytes.now)) c.in-OneOf.is)

pub returns-in-AsField : goal.returns-in-AsField
unfolding form_check
returns-in-AsField c = sym (ap (λ (k : Kind). passing (form_check k c.args.bytes.now)) c.in-AsField.is)
