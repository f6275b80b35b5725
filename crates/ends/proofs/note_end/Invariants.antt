use mathlib.Core.Path.{◌≡◌}
use lib.ListN.{length}
use Rattle.ends.specs.Ends.{Reached}
use Rattle.ends.proofs.note_end.Given as goal

abbrev pub invariant-loop-k : goal.invariant-loop-k
invariant-loop-k l = (length l.ends ≡ 16) × Reached l.separator l.bytes l.k (length l.bytes) l.ends
