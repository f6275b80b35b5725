use Prim.Native.Nat.{◌+◌, ◌-◌, ◌≤◌}
use mathlib.Core.Path.{◌≡◌}
use lib.ListN.{length, take}
use Rattle.structure.specs.SegmentNames.{segment_names}
use Rattle.structure.proofs.SegmentWalk.{names_from}
use Rattle.error_segment.specs.Errors.{count_of}
use Rattle.error_segment.proofs.locating.sequence_of.Given as goal

abbrev pub invariant-loop-number : goal.invariant-loop-number
invariant-loop-number l =
    (l.start ≤ length l.message) × (l.number ≤ l.start) × (l.number ≤ l.place + 1) × (l.count ≤ l.number)
    × (count_of l.name (take (l.place + 1) (segment_names l.message)) ≡ l.count + count_of l.name (take (l.place + 1 - l.number) (names_from l.message l.start)))

abbrev pub decreases-loop-number : goal.decreases-loop-number
decreases-loop-number l = length l.message - l.start
