use Prim.Native.Nat.{◌≤◌}
use mathlib.Core.Path.{◌≡◌}
use lib.ListN.{length}
use Rattle.leaves.specs.Walks.{Stands, Writes}
use Rattle.leaves.proofs.walking.list_few.Given as goal

abbrev pub invariant-loop-i : goal.invariant-loop-i
invariant-loop-i l =
    (l.i ≤ length l.message) × Stands l.message l.buffer l.here.address l.here.start l.here.at l.i
    × Writes l.message l.initial.buffer l.initial.here.address l.initial.here.start l.initial.here.at l.buffer l.here.address l.here.start l.here.at × (length l.buffer ≡ length l.initial.buffer)
