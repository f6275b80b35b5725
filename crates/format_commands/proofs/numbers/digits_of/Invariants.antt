use Prim.Native.Nat.{◌≤◌}
use mathlib.Core.Path.{◌≡◌}
use lib.ListN.{drop}
use Rattle.alphabet.specs.Digits.{all_digits, counted, decimal}
use Rattle.format_commands.specs.Commands.{held_size}
use Rattle.format_commands.proofs.numbers.digits_of.Given as goal

abbrev pub invariant-loop-digit : goal.invariant-loop-digit
invariant-loop-digit l = (l.size ≤ 201) × (all_digits l.digits ≡ all_digits (drop l.digit-index l.digits)) × (held_size (decimal l.digits) ≡ held_size (counted l.size (drop l.digit-index l.digits)))
