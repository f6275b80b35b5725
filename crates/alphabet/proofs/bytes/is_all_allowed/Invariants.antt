use mathlib.Core.Path.{◌≡◌}
use mathlib.Core.Bool.{◌&&◌}
use lib.Dec.{leb}
use Rattle.alphabet.specs.Bytes.{not_allowed}
use Rattle.alphabet.specs.Lists.{first}
use Rattle.alphabet.proofs.bytes.is_all_allowed.Given as goal

abbrev pub invariant-loop-byte : goal.invariant-loop-byte
invariant-loop-byte l = (leb 32 l.least && leb l.most 222) ≡ leb l.byte-index (first not_allowed l.bytes)
