-- Rests on the law of a row whose repetition 1 is present, and on what the callees ensure.
use mathlib.Core.Path.{◌≡◌, sym, ◌∙◌}
use mathlib.Core.Bool.{false}
use mathlib.Core.List.{List}
use Prim.Native.Nat.{ℕ, ◌≤◌}
use native.Mathlib.Omega.{arith}
use borrow.Author.Tests.{eqb-true}
use lib.Dec.{eqb}
use lib.ListN.{length, get_or}
use Rattle.alphabet.specs.Answers.{in_order, passes}
use Rattle.alphabet.specs.Parts.{split}
use Rattle.alphabet.proofs.BoolLaws.{false_true, or_neither}
use Rattle.element.specs.States.{blank}
use Rattle.rules.specs.Rules.{is_said, repeated_check, repetition_checks, row_check}
use Rattle.rules.proofs.PlainRowLaws.{row_sent, may_repeat, no_second}
use Rattle.rules.proofs.plain.is_sent.Goals.{Else-is_open}
use Rattle.rules.proofs.plain.is_sent.Goals as goal

-- the first byte is neither a quote nor a separator: what is left is that the field repeats only where it may
begun : (c : Else-is_open)
    → let a = c.args in
    repeated_check a.row.repeats (split (get_or a.delimiters.bytes 2 0) a.field.now) ≡ passes → is_said a.row.kind ≡ false
    → in_order (repetition_checks a.delimiters.bytes 0 a.row.kind 1 (split (get_or a.delimiters.bytes 2 0) a.field.now)) ≡ passes
    → (said : List ℕ) → row_check a.delimiters.bytes a.row said (split (get_or a.delimiters.bytes 2 0) a.field.now) ≡ passes
begun c r k f said =
    let a = c.args in
    let b = or_neither (eqb (get_or a.field.now 0 0) 34) (blank a.delimiters.bytes (get_or a.field.now 0 0)) (sym c.is_open.ensures ∙ c.if-is_open.false) in
    let h : 1 ≤ length a.field.now = omega arith in
    row_sent a.delimiters.bytes a.row said a.field.now k c.if-row-ne0.false h b.0 b.1 r f

pub returns-then-row : goal.returns-then-row
returns-then-row c e =
    let a = c.args in
    begun (goal.at.returns-then-row c).Else-is_open (may_repeat a.row.repeats (split (get_or a.delimiters.bytes 2 0) a.field.now) c.if-row.true)

pub returns : goal.returns
returns c e =
    let a = c.args in
    begun (goal.at.returns c).Else-is_open
    (no_second a.row.repeats (get_or a.delimiters.bytes 2 0) a.field.now (sym c.find_by_words.ensures ∙ eqb-true _ _ e))

pub returns-then-row-ne0 : goal.returns-then-row-ne0
returns-then-row-ne0 c e = false_true e

pub returns-then-is_open : goal.returns-then-is_open
returns-then-is_open c e = false_true e
