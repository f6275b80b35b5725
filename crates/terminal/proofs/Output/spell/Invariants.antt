-- Rests on the bytes that are left: each turn passes at least one of them.
use Rattle.std.proofs.Common.{length}
use Rattle.terminal.proofs.Output.spell.Given as goal

abbrev pub decreases-loop-rest : goal.decreases-loop-rest
decreases-loop-rest g l = length l.rest
