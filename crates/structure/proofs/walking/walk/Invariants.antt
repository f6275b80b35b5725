use Prim.Native.Nat.{◌+◌, ◌-◌, ◌≤◌}
use mathlib.Core.Path.{◌≡◌}
use lib.ListN.{length, drop}
use Rattle.alphabet.specs.Bytes.{carriage_return}
use Rattle.alphabet.specs.Lists.{find}
use Rattle.structure.specs.SegmentNames.{segment_names}
use Rattle.structure.specs.Engine.{into, walked, resumed}
use Rattle.structure.proofs.SegmentWalk.{names_from}
use Rattle.structure.proofs.walking.walk.Given as goal

abbrev pub invariant-loop-end : goal.invariant-loop-end
invariant-loop-end l =
    (l.start ≤ length l.message) × (l.number ≤ l.start) × (l.end ≡ l.start + find carriage_return (drop l.start l.message))
    × (walked l.rows.names.now l.rows.follow.now l.rows.last (into 1) 0 (segment_names l.message) ≡ resumed l.rows.names.now l.rows.follow.now l.rows.last l.course l.number (names_from l.message l.start))

abbrev pub decreases-loop-end : goal.decreases-loop-end
decreases-loop-end l = length l.message - l.start
