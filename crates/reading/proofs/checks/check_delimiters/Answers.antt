-- Rests on what `delimiters_of`, `first_wrong_delimiter` and `fails_if` give; a wrong place is at most 5.
use native.Mathlib.Omega.{arith}
use Rattle.alphabet.proofs.DelimiterLaws.{wrong_most}
use Rattle.reading.proofs.checks.check_delimiters.Goals as goal

pub overflow_add-wrong : goal.overflow_add-wrong
overflow_add-wrong c = omega (arith, c.first_wrong_delimiter-wrong.ensures, wrong_most c.delimiters_of.result.bytes)
