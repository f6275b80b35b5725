-- Rests on the laws of number 35.
use mathlib.Core.Path.{sym, ap, ◌∙◌}
use mathlib.Core.Bool.{Bool}
use lib.ListN.{get_or}
use Rattle.alphabet.specs.Answers.{fails_if}
use Rattle.alphabet.specs.Parts.{split}
use Rattle.alphabet.specs.declared.answers.Refusal.TheVariants.{ValueWithoutType}
use Rattle.rules.proofs.RuleLaws.{said_typed, said_untyped}
use Rattle.rules.proofs.checks.check_said.Goals as goal

pub returns-then-not-untyped : goal.returns-then-not-untyped
returns-then-not-untyped c =
    let a = c.args in
    sym (said_typed a.delimiters.bytes a.kind a.said.now (split (get_or a.delimiters.bytes 2 0) a.field.now) c.is_said.result c.is_present.result c.is_said.ensures c.is_present.ensures c.if-not-untyped.true-raw)

pub returns : goal.returns
returns c =
    let a = c.args in
    c.fails_if.ensures ∙ ap (λ (t : Bool). fails_if t ValueWithoutType 1) c.some_present.ensures
    ∙ sym (said_untyped a.delimiters.bytes a.kind a.said.now (split (get_or a.delimiters.bytes 2 0) a.field.now) c.is_said.result c.is_present.result c.is_said.ensures c.is_present.ensures c.if-not-untyped.false-raw)
