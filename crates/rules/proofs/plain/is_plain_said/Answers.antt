-- Rests on the laws of a row whose type is said by plain bytes, and on what the callees ensure.
use mathlib.Core.Path.{◌≡◌, sym, ap, ◌∙◌}
use mathlib.Core.Bool.{Bool, true, not}
use mathlib.Core.List.{List}
use Prim.Native.Nat.{ℕ, ◌≤◌}
use native.Mathlib.Omega.{arith}
use borrow.Author.Tests.{not-true}
use lib.ListN.{get_or}
use Rattle.alphabet.specs.Parts.{split}
use Rattle.alphabet.proofs.BoolLaws.{false_true, and_both}
use Rattle.field_table.specs.declared.Kind.{Kind}
use Rattle.field_table.specs.declared.Values.TheVariants.{ValueTypes}
use Rattle.rules.specs.Plain.{Plain}
use Rattle.rules.specs.Rules.{form_check, passing, kind_said, is_any}
use Rattle.rules.proofs.RuleLaws.{any_kind}
use Rattle.rules.proofs.PlainLaws.{kind_plain, listed_plain}
use Rattle.rules.proofs.PlainRowLaws.{row_none, said_whole, said_any, said_plain}
use Rattle.rules.proofs.plain.is_plain_said.Goals.{After-is_any}
use Rattle.rules.proofs.plain.is_plain_said.Goals as goal

abbrev said : (c : After-is_any) → List ℕ
said c = c.args.said.now

-- what says the type is a value of its list
typed : (c : After-is_any) → Plain (said c)
typed c = listed_plain ValueTypes (said c) (sym c.is_listed.ensures ∙ c.if-not-is_listed.false)

told : (c : After-is_any) → (t : Bool) → c.is_any.result ≡ t → is_any (kind_said (said c)) ≡ t
told c t e = ap is_any (sym c.kind_said-kind.ensures) ∙ sym c.is_any.ensures ∙ e

pub returns-then-is_any : goal.returns-then-is_any
returns-then-is_any c e ds permits is_said =
    let a = c.args in
    let w = and_both (not a.row.required) a.row.repeats e in
    said_whole ds permits a.row (said (goal.at.returns-then-is_any c).After-is_any) (split (get_or ds 2 0) a.field.now) (typed (goal.at.returns-then-is_any c).After-is_any)
    (said_any ds permits a.row (said (goal.at.returns-then-is_any c).After-is_any) (typed (goal.at.returns-then-is_any c).After-is_any) is_said (split (get_or ds 2 0) a.field.now) (any_kind (kind_said (said (goal.at.returns-then-is_any c).After-is_any)) (told (goal.at.returns-then-is_any c).After-is_any true c.if-is_any.true)) (not-true _ w.0) w.1)

pub returns-then-field-eq0 : goal.returns-then-field-eq0
returns-then-field-eq0 c e ds permits is_said =
    let a = c.args in
    said_whole ds permits a.row (said (goal.at.returns-then-field-eq0 c).After-is_any) (split (get_or ds 2 0) a.field.now) (typed (goal.at.returns-then-field-eq0 c).After-is_any) (row_none ds a.row (said (goal.at.returns-then-field-eq0 c).After-is_any) a.field.now c.if-field-eq0.true (not-true _ e))

pub returns : goal.returns
returns c e ds permits is_said =
    let a = c.args in
    let p = ap (λ (k : Kind). passing (form_check k a.field.now)) (sym c.kind_said-kind.ensures) ∙ sym c.has_form.ensures ∙ e in
    let h : a.row.component ≤ 1 = omega arith in
    said_whole ds permits a.row (said (goal.at.returns c).After-is_any) (split (get_or ds 2 0) a.field.now) (typed (goal.at.returns c).After-is_any)
    (said_plain ds permits a.row (said (goal.at.returns c).After-is_any) (typed (goal.at.returns c).After-is_any) is_said a.field.now (kind_plain a.field.now (said (goal.at.returns c).After-is_any) (told (goal.at.returns c).After-is_any _ c.if-is_any.false) p) h p)

pub returns-then-row-ne0 : goal.returns-then-row-ne0
returns-then-row-ne0 c e = false_true e

pub returns-then-not-is_listed : goal.returns-then-not-is_listed
returns-then-not-is_listed c e = false_true e
