-- Rests on the laws of a row that passes plain bytes or none, and on what the callees ensure.
use mathlib.Core.Path.{ap, ◌∙◌}
use native.Mathlib.Omega.{arith}
use lib.ListN.{get_or}
use borrow.Author.Tests.{not-true}
use Rattle.alphabet.specs.Answers.{in_order}
use Rattle.alphabet.specs.Parts.{split}
use Rattle.alphabet.proofs.BoolLaws.{false_true}
use Rattle.field_table.specs.declared.Kind.{Kind}
use Rattle.rules.specs.Rules.{repetition_checks}
use Rattle.rules.proofs.PlainRowLaws.{row_none, own_plain, any_checks}
use Rattle.rules.proofs.plain.is_plain.Goals as goal

pub returns-then-field-eq0 : goal.returns-then-field-eq0
returns-then-field-eq0 c e permits own said =
    let a = c.args in
    row_none a.delimiters.bytes a.row said a.field.now c.if-field-eq0.true (not-true _ e)

pub returns-in-Any : goal.returns-in-Any
returns-in-Any c e permits own =
    let a = c.args in
    c.is_sent.ensures e own
    (ap (λ (x : Kind). in_order (repetition_checks a.delimiters.bytes 0 x 1 (split (get_or a.delimiters.bytes 2 0) a.field.now))) c.in-Any.is
    ∙ any_checks a.delimiters.bytes 0 1 (split (get_or a.delimiters.bytes 2 0) a.field.now))

pub returns-in-Identifier : goal.returns-in-Identifier
returns-in-Identifier c e permits own = c.is_plain_identifier.ensures e c.in-Identifier.is

pub returns-in_default : goal.returns-in_default
returns-in_default c e permits own said =
    let a = c.args in
    let w = c.is_plain_form.ensures e in
    own_plain a.delimiters.bytes permits a.row said a.field.now w.0 (omega arith) own w.1

pub returns-then-row-gt1 : goal.returns-then-row-gt1
returns-then-row-gt1 c e = false_true e
