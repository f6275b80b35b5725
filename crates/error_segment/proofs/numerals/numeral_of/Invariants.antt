use Prim.Native.Nat.{◌+◌, ◌^◌, ◌≤◌, ◌<◌}
use mathlib.Core.Path.{◌≡◌}
use mathlib.Core.List.{◌++◌}
use lib.ListN.{length, drop}
use Rattle.error_segment.specs.Numerals.{digits_of, numeral}
use Rattle.error_segment.proofs.numerals.numeral_of.Given as goal

abbrev pub invariant-loop-rest : goal.invariant-loop-rest
invariant-loop-rest l =
    (l.start ≤ 19) × (length l.digits ≡ 20) × (l.rest < 10 ^ (l.start + 1)) × (numeral l.number ≡ digits_of (l.start + 1) l.rest ++ drop (l.start + 1) l.digits)

abbrev pub decreases-loop-rest : goal.decreases-loop-rest
decreases-loop-rest l = l.rest
