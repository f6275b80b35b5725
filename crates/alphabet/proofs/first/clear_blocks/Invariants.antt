use mathlib.Core.Bool.{Bool}
use Prim.Native.Nat.{ℕ, ◌*◌, ◌≤◌}
use Rattle.std.specs.Fn.{FnReturnsAt}
use Rattle.alphabet.specs.Lists.{first, Clears}
use Rattle.alphabet.proofs.first.clear_blocks.Given as goal

abbrev pub invariant-loop-i : goal.invariant-loop-i
invariant-loop-i g l = (sought : ℕ → Bool) → Clears (FnReturnsAt g.F.Fn l.is_clear) g.row.N sought → l.i * g.row.N ≤ first sought l.fn.bytes
