use Prim.Native.Nat.{◌≤◌}
use mathlib.Core.Path.{◌≡◌}
use lib.ListN.{length, drop}
use Rattle.reading.specs.Segments.{segments}
use Rattle.error_segment.proofs.LocateLaws.{Passing}
use Rattle.error_segment.proofs.locating.locate_near.Given as goal

abbrev pub invariant-loop-number : goal.invariant-loop-number
invariant-loop-number l =
    (l.number ≤ l.place) × (length l.names ≡ length l.initial.names) × Passing (segments l.message) (segments (drop l.start l.message)) l.names l.number
