use Rattle.element.specs.Ends.{OnTheWay}
use Rattle.element.proofs.walking.field_start.Given as goal

abbrev pub invariant-loop-i : goal.invariant-loop-i
invariant-loop-i l = OnTheWay l.separator l.message l.start l.index l.i l.left
