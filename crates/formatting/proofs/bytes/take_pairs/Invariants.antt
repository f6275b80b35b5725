use Prim.Native.Nat.{ℕ, ◌≤◌, ◌-◌}
use mathlib.Core.Bool.{true}
use mathlib.Core.List.{List, ◌++◌, map}
use mathlib.Core.Path.{◌≡◌}
use lib.ListN.{length, drop}
use Rattle.alphabet.specs.Hex.{all_hex, pairs_of}
use Rattle.format_commands.specs.Items.{byte}
use Rattle.formatting.specs.Pages.{Follows}
use Rattle.formatting.proofs.bytes.take_pairs.Given as goal

abbrev pub invariant-loop-i : goal.invariant-loop-i
invariant-loop-i l =
    (l.i ≤ length l.digits) × (all_hex (drop l.i l.digits) ≡ true) × ((u : List ℕ) × (u ++ pairs_of (drop l.i l.digits) ≡ pairs_of l.digits) × Follows (map byte u) l.initial.p l.initial.line l.initial.buffer l.p l.line l.buffer)

abbrev pub decreases-loop-i : goal.decreases-loop-i
decreases-loop-i l = length l.digits - l.i
