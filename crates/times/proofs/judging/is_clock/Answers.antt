-- Rests on no fraction being of its form.
use mathlib.Core.Path.{refl}
use native.Mathlib.Omega.{arith}
use Rattle.alphabet.specs.Digits.{all_digits}
use Rattle.times.proofs.judging.is_clock.Goals as goal

pub clock_of-requires-clause-tail_value : goal.clock_of-requires-clause-tail_value
unfolding all_digits
clock_of-requires-clause-tail_value c = (refl, omega arith)
