use Prim.Native.Nat.{◌≤◌, ◌+◌, ◌*◌}
use mathlib.Core.Path.{◌≡◌}
use lib.ListN.{length, drop}
use Rattle.escaping.specs.Escape.{escape_bytes}
use Rattle.escaping.proofs.blocks.block_length.Given as goal

abbrev pub invariant-loop-b : goal.invariant-loop-b
invariant-loop-b l = (l.n ≤ 5 * l.b-index) × (length (escape_bytes l.delimiters.bytes l.block) ≡ l.n + length (escape_bytes l.delimiters.bytes (drop l.b-index l.block)))
