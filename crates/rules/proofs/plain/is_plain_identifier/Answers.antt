-- Rests on the law that no repetition is longer than the whole, and on what the callees ensure.
use mathlib.Core.Path.{ap, ◌∙◌}
use Prim.Native.Nat.{◌≤◌}
use native.Mathlib.Omega.{arith}
use lib.ListN.{length, get_or}
use Rattle.alphabet.specs.Answers.{in_order}
use Rattle.alphabet.specs.Limits.{id_limit}
use Rattle.alphabet.specs.Parts.{split}
use Rattle.alphabet.proofs.BoolLaws.{false_true}
use Rattle.field_table.specs.declared.Kind.{Kind}
use Rattle.rules.specs.Rules.{is_said, repetition_checks}
use Rattle.rules.proofs.PlainRowLaws.{short_identifier}
use Rattle.rules.proofs.plain.is_plain_identifier.Goals as goal

pub returns : goal.returns
returns c e k =
    let a = c.args in
    let i = c.id_limit-most.ensures in
    let h : length a.field.now ≤ id_limit = omega (arith, c.if-most-field.false) in
    c.is_sent.ensures e (ap is_said k)
    (ap (λ (x : Kind). in_order (repetition_checks a.delimiters.bytes 0 x 1 (split (get_or a.delimiters.bytes 2 0) a.field.now))) k ∙ short_identifier a.delimiters.bytes a.field.now h)

pub returns-then-most-field : goal.returns-then-most-field
returns-then-most-field c e = false_true e

pub is_sent-requires : goal.is_sent-requires
is_sent-requires c = c.requires
