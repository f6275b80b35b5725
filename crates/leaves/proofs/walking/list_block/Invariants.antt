use Prim.Native.Nat.{◌≤◌, ◌+◌}
use mathlib.Core.Path.{◌≡◌}
use lib.ListN.{length}
use Rattle.leaves.specs.Walks.{Writes, begins, shown, rest_rows}
use Rattle.leaves.proofs.TurnLaws.{Left}
use Rattle.leaves.proofs.walking.list_block.Given as goal

abbrev pub invariant-loop-bits : goal.invariant-loop-bits
invariant-loop-bits l =
    Left l.message l.here.address (begins l.here.address l.here.start) l.place l.bits × (l.here.at + length (rest_rows l.message l.here.address (begins l.here.address l.here.start)) ≤ length l.buffer)
    × Writes l.message l.initial.buffer l.initial.here.address l.initial.here.start l.initial.here.at l.buffer l.here.address l.here.start l.here.at × (length l.buffer ≡ length l.initial.buffer)
    × (l.here.start ≡ shown l.here.address (begins l.here.address l.here.start))

abbrev pub decreases-loop-bits : goal.decreases-loop-bits
decreases-loop-bits l = l.bits
