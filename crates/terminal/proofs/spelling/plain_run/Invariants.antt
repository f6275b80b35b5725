use Rattle.std.proofs.Common.{◌≤◌, not}
use Rattle.alphabet.specs.Lists.{first}
use Rattle.terminal.proofs.spelling.plain_run.Given as goal

abbrev pub invariant-loop-i : goal.invariant-loop-i
invariant-loop-i g l = l.i ≤ first (λ b. not (g.S.Spelling.plain b)) l.bytes
