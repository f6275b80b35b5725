-- Rests on the tests on the way, which say which case of `hex_of` holds.
use native.Mathlib.Omega.{arith}
use mathlib.Core.Path.{sym, ◌∙◌}
use Rattle.alphabet.proofs.BoolLaws.{from_to_lem}
use Rattle.alphabet.proofs.bytes.hex_value.Goals as goal

pub overflow_sub-result : goal.overflow_sub-result
overflow_sub-result c = omega (arith, (from_to_lem 48 57 c.args.b (sym c.is_digit.ensures ∙ c.if-is_digit.true)).0)

pub overflow_sub-result-then-b : goal.overflow_sub-result-then-b
overflow_sub-result-then-b c = omega (arith, (from_to_lem 65 70 c.args.b c.if-b.true).0)

pub overflow_add-result : goal.overflow_add-result
overflow_add-result c = let h = (from_to_lem 65 70 c.args.b c.if-b.true).1 in omega arith

pub returns-then-b : goal.returns-then-b
returns-then-b c = simp (sym c.is_digit.ensures ∙ c.if-is_digit.false, c.if-b.true)

pub overflow_sub-result-then-b-2 : goal.overflow_sub-result-then-b-2
overflow_sub-result-then-b-2 c = omega (arith, (from_to_lem 97 102 c.args.b c.if-b-2.true).0)

pub overflow_add-result-then-b-2 : goal.overflow_add-result-then-b-2
overflow_add-result-then-b-2 c = let h = (from_to_lem 97 102 c.args.b c.if-b-2.true).1 in omega arith

pub returns-then-b-2 : goal.returns-then-b-2
returns-then-b-2 c = simp (sym c.is_digit.ensures ∙ c.if-is_digit.false, c.if-b.false, c.if-b-2.true)

pub returns : goal.returns
returns c = simp (sym c.is_digit.ensures ∙ c.if-is_digit.false, c.if-b.false, c.if-b-2.false)

pub returns-then-is_digit : goal.returns-then-is_digit
returns-then-is_digit c = simp (sym c.is_digit.ensures ∙ c.if-is_digit.true)
