use mathlib.Core.Path.{◌≡◌}
use lib.Dec.{leb}
use Rattle.alphabet.specs.Lists.{find}
use Rattle.alphabet.proofs.bytes.is_without.Given as goal

abbrev pub invariant-loop-byte : goal.invariant-loop-byte
invariant-loop-byte l = l.without ≡ leb l.byte-index (find l.b l.bytes)
