-- `answering::names::put_names` meets its contract: each name takes four bytes, and there are at most 64.
use Prim.Native.Nat.{◌+◌, ◌*◌, ◌≤◌}
use mathlib.Core.Path.{◌≡◌}
use lib.ListN.{length}
use Rattle.answering.proofs.names.put_names.Given as goal

abbrev pub invariant-loop-name : goal.invariant-loop-name
invariant-loop-name l = (length l.others ≤ 63) × (length l.answer ≡ length l.fn.answer + 4 * l.name-index)
