use Prim.Native.Nat.{◌≤◌, ◌-◌}
use lib.ListN.{length}
use Rattle.formatting.proofs.LayLaws.{Walks}
use Rattle.formatting.proofs.laying.lay.Given as goal

abbrev pub invariant-loop-i : goal.invariant-loop-i
invariant-loop-i l = (l.i ≤ length l.text) × Walks l.delimiters.bytes l.text l.i l.initial.p l.initial.line l.initial.buffer l.p l.line l.buffer

abbrev pub decreases-loop-i : goal.decreases-loop-i
decreases-loop-i l = length l.text - l.i
