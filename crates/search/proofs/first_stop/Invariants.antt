use Prim.Native.Nat.{◌*◌, ◌≤◌}
use Rattle.alphabet.specs.Lists.{first}
use Rattle.alphabet.specs.Bytes.{stops}
use Rattle.search.proofs.first_stop.Given as goal

abbrev pub invariant-loop-i : goal.invariant-loop-i
invariant-loop-i l = l.i * 32 ≤ first (stops l.unprintable l.five) l.bytes
