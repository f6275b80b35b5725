use Prim.Native.Nat.{◌≤◌, ◌-◌}
use mathlib.Core.Path.{◌≡◌}
use mathlib.Core.Bool.{true}
use lib.ListN.{length}
use Rattle.frames.specs.Feeding.{feeding, known}
use Rattle.frames.proofs.state.FrameState.feed.Given as goal

abbrev pub invariant-loop-b : goal.invariant-loop-b
invariant-loop-b l = (length l.rest ≤ length l.piece) × (length l.buffer ≡ length l.initial.buffer) × (known (length l.initial.buffer) l.self ≡ true) × (feeding l.limit l.initial.self l.initial.buffer 0 l.piece ≡ feeding l.limit l.self l.buffer (length l.piece - length l.rest) l.rest)

abbrev pub decreases-loop-b : goal.decreases-loop-b
decreases-loop-b l = length l.rest
