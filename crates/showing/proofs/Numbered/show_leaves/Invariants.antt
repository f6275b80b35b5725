-- Rests on the rows that are left: one fewer at each turn.
use Rattle.std.proofs.Common.{length}
use Rattle.showing.proofs.Numbered.show_leaves.Given as goal

abbrev pub decreases-loop-row : goal.decreases-loop-row
decreases-loop-row l = length l.rest
