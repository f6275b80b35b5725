use Prim.Native.Nat.{◌≤◌}
use Rattle.alphabet.specs.Lists.{first, among}
use Rattle.element.proofs.levels.end_in.Given as goal

abbrev pub invariant-loop-i : goal.invariant-loop-i
invariant-loop-i l = l.i ≤ first (among l.stops) l.bytes
