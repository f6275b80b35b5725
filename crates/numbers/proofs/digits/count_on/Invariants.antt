use mathlib.Core.Path.{◌≡◌}
use mathlib.Core.Bool.{true}
use lib.ListN.{drop}
use Rattle.alphabet.specs.Digits.{all_digits, counted}
use Rattle.numbers.proofs.digits.count_on.Given as goal

abbrev pub invariant-loop-b : goal.invariant-loop-b
invariant-loop-b l =
    (all_digits (drop l.b-index l.bytes) ≡ true) × (counted l.number l.bytes ≡ counted l.n (drop l.b-index l.bytes))
