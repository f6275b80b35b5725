use Prim.Native.Nat.{◌+◌, ◌≤◌}
use mathlib.Core.Path.{◌≡◌}
use lib.ListN.{drop}
use Rattle.error_segment.specs.Errors.{count_of}
use Rattle.error_segment.proofs.locating.count_of.Given as goal

abbrev pub invariant-loop-known : goal.invariant-loop-known
invariant-loop-known l = (l.count ≤ l.known-index) × (count_of l.name l.names ≡ l.count + count_of l.name (drop l.known-index l.names))
