use Prim.Native.Nat.{◌*◌}
use mathlib.Core.Path.{◌≡◌}
use lib.ListN.{length}
use Rattle.ends.specs.Ends.{Reached}
use Rattle.ends.proofs.note.Given as goal

abbrev pub invariant-loop-i : goal.invariant-loop-i
invariant-loop-i l = (length l.ends ≡ 16) × Reached l.separator l.bytes l.count (l.i * 8) l.ends
