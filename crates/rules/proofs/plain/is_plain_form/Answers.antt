-- Rests on what the callees ensure, and on which forms are plain.
use mathlib.Core.Path.{sym, ap, ◌∙◌}
use Rattle.alphabet.specs.declared.answers.Refusal.TheVariants.{BreaksForm, NotListed}
use Rattle.alphabet.proofs.BoolLaws.{false_true}
use Rattle.field_table.specs.declared.Kind.{Kind}
use Rattle.forms.specs.declared.layouts.Form.TheVariants.{Ts}
use Rattle.rules.specs.Rules.{form_check, passing}
use Rattle.rules.proofs.RuleLaws.{passing_not}
use Rattle.rules.proofs.PlainLaws.{si_plain, time_plain, listed_plain}
use Rattle.rules.proofs.plain.is_plain_form.Goals as goal

pub returns-in-Ts : goal.returns-in-Ts
unfolding form_check
returns-in-Ts c e =
    let a = c.args in
    let t = sym c.is_ts.ensures ∙ e in (
      time_plain Ts a.bytes.now t,
      ap (λ (k : Kind). passing (form_check k a.bytes.now)) c.in-Ts.is ∙ passing_not _ BreaksForm 0 ∙ t,
    )

pub returns-in-Si : goal.returns-in-Si
unfolding form_check
returns-in-Si c e =
    let a = c.args in
    let t = sym c.is_si.ensures ∙ e in (
      si_plain a.bytes.now t,
      ap (λ (k : Kind). passing (form_check k a.bytes.now)) c.in-Si.is ∙ passing_not _ BreaksForm 0 ∙ t,
    )

pub returns-in-OneOf : goal.returns-in-OneOf
unfolding form_check
returns-in-OneOf c e =
    let a = c.args in
    let t = sym c.is_listed.ensures ∙ e in (
      listed_plain _ a.bytes.now t,
      ap (λ (k : Kind). passing (form_check k a.bytes.now)) c.in-OneOf.is ∙ passing_not _ NotListed 0 ∙ t,
    )

pub returns-in_default : goal.returns-in_default
returns-in_default c e = false_true e
