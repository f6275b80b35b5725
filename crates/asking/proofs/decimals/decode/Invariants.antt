use Prim.Native.Nat.{◌^◌, ◌<◌}
use mathlib.Core.Path.{◌≡◌}
use lib.ListN.{drop}
use Rattle.asking.specs.Decimals.{held}
use Rattle.asking.proofs.decimals.decode.Given as goal

abbrev pub invariant-loop-byte : goal.invariant-loop-byte
invariant-loop-byte l = (l.value < 2 ^ 64) × (held 0 l.word ≡ held l.value (drop l.byte-index l.word))
