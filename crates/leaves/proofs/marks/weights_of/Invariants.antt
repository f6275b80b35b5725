use Prim.Native.Nat.{◌≤◌}
use mathlib.Core.Path.{◌≡◌}
use lib.ListN.{length}
use Rattle.alphabet.specs.Lists.{among}
use Rattle.leaves.specs.Walks.{Weighs}
use Rattle.leaves.proofs.marks.weights_of.Given as goal

abbrev pub invariant-loop-i : goal.invariant-loop-i
invariant-loop-i l = (l.i ≤ 48) × (length l.weights ≡ 48) × Weighs (among l.ends) l.block l.i l.weights
