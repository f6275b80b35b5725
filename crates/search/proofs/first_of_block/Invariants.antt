use Prim.Native.Nat.{◌≤◌}
use mathlib.Core.Path.{◌≡◌}
use Rattle.alphabet.specs.Bytes.{stops}
use Rattle.alphabet.proofs.BlockLaws.{least_of}
use Rattle.search.proofs.first_of_block.Given as goal

abbrev pub invariant-loop-i : goal.invariant-loop-i
invariant-loop-i l = (l.least ≤ 32) × (l.least ≡ least_of (stops l.unprintable l.five) l.block l.i)
