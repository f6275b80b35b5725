use Prim.Native.Nat.{◌+◌}
use mathlib.Core.Path.{◌≡◌}
use lib.ListN.{drop}
use Rattle.alphabet.specs.Lists.{first}
use Rattle.alphabet.specs.Delimiters.{wrong, places, first_wrong_delimiter}
use Rattle.alphabet.proofs.delimiters.first_wrong_delimiter.Given as goal

abbrev pub invariant-loop-i : goal.invariant-loop-i
invariant-loop-i l = first_wrong_delimiter l.b-items ≡ l.i + first (wrong l.b-items) (drop l.i places)
