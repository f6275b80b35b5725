use Prim.Native.Nat.{◌≤◌, ◌-◌}
use mathlib.Core.Path.{◌≡◌}
use lib.ListN.{length}
use Rattle.leaves.specs.Walks.{Stands, Writes}
use Rattle.leaves.proofs.walking.list_rest.Given as goal

abbrev pub invariant-loop-place : goal.invariant-loop-place
invariant-loop-place l =
    (l.place ≤ length l.message) × Stands l.message l.buffer l.here.address l.here.start l.here.at l.place
    × Writes l.message l.initial.buffer l.initial.here.address l.initial.here.start l.initial.here.at l.buffer l.here.address l.here.start l.here.at × (length l.buffer ≡ length l.initial.buffer)

abbrev pub decreases-loop-place : goal.decreases-loop-place
decreases-loop-place l = length l.message - l.place
