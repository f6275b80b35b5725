use mathlib.Core.Path.{◌≡◌}
use Rattle.fault.specs.Faults.{name_list}
use Rattle.structure.specs.Engine.{listing}
use Rattle.structure.proofs.listing.names_at.Given as goal

abbrev pub invariant-loop-place : goal.invariant-loop-place
invariant-loop-place l = l.listed ≡ name_list (listing l.names l.places l.place)
