use Prim.Native.Nat.{◌≤◌, ◌<◌}
use Rattle.alphabet.specs.Lists.{first}
use Rattle.search.specs.Two.{near}
use Rattle.search.proofs.two.is_far.Given as goal

abbrev pub invariant-loop-byte : goal.invariant-loop-byte
invariant-loop-byte l = l.bound < l.least → l.byte-index ≤ first (near l.mask l.bound) l.bytes
