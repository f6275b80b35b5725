use Prim.Native.Nat.{◌≤◌, ◌-◌}
use lib.ListN.{length}
use Rattle.fields.specs.Walk.{Stands}
use Rattle.fields.proofs.walk.reach.Given as goal

abbrev pub invariant-loop-index : goal.invariant-loop-index
invariant-loop-index l = Stands l.separator l.segment (record { index = l.index; place = l.place }) × (l.index ≤ l.wanted)

abbrev pub decreases-loop-index : goal.decreases-loop-index
decreases-loop-index l = length l.segment - l.place
