use Prim.Native.Nat.{◌≤◌, ◌+◌, ◌*◌}
use mathlib.Core.Path.{◌≡◌}
use lib.ListN.{length, drop}
use Rattle.escaping.specs.Escape.{escape_bytes}
use Rattle.escaping.proofs.writing.is_enough.Given as goal

abbrev pub invariant-loop-block : goal.invariant-loop-block
invariant-loop-block l = (l.n ≤ l.room) × (length (escape_bytes l.delimiters.bytes l.text) ≡ l.n + length (escape_bytes l.delimiters.bytes (drop (l.block-index * 32) l.text)))
