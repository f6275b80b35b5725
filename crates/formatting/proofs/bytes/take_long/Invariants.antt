use Prim.Native.Nat.{◌≤◌, ◌-◌}
use mathlib.Core.List.{map}
use lib.ListN.{length, take}
use Rattle.format_commands.specs.Items.{byte}
use Rattle.formatting.specs.Pages.{Follows}
use Rattle.formatting.proofs.bytes.take_long.Given as goal

abbrev pub invariant-loop-i : goal.invariant-loop-i
invariant-loop-i l = (l.i ≤ length l.run) × Follows (map byte (take l.i l.run)) l.initial.p l.initial.line l.initial.buffer l.p l.line l.buffer

abbrev pub decreases-loop-i : goal.decreases-loop-i
decreases-loop-i l = length l.run - l.i
