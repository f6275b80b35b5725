use Prim.Native.Nat.{◌≤◌}
use mathlib.Core.Path.{◌≡◌}
use lib.ListN.{length}
use Rattle.ends.proofs.NoteLaws.{Left}
use Rattle.ends.proofs.note_word.Given as goal

abbrev pub invariant-loop-found : goal.invariant-loop-found
invariant-loop-found l =
    (length l.ends ≡ 16) × (l.count ≤ 16) × Left l.separator l.bytes l.count l.place l.found l.ends

abbrev pub decreases-loop-found : goal.decreases-loop-found
decreases-loop-found l = l.found
