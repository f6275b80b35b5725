use Prim.Native.Nat.{◌≤◌}
use mathlib.Core.Path.{◌≡◌}
use lib.ListN.{length}
use Rattle.structure.specs.Engine.{entry, join, gathered}
use Rattle.structure.proofs.walking.step.Given as goal

abbrev pub invariant-loop-rest : goal.invariant-loop-rest
invariant-loop-rest l =
    (l.rest ≤ l.places) × (join (entry l.next l.ends) (gathered l.rows.names.now l.rows.follow.now l.rows.last l.rest l.name (length l.rows.names.now)) ≡ gathered l.rows.names.now l.rows.follow.now l.rows.last l.places l.name (length l.rows.names.now))

abbrev pub decreases-loop-rest : goal.decreases-loop-rest
decreases-loop-rest l = l.rest
