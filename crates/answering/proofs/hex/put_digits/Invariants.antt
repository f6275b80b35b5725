use Prim.Native.Nat.{◌*◌}
use mathlib.Core.Path.{◌≡◌}
use mathlib.Core.List.{◌++◌}
use lib.ListN.{length, take, drop}
use Rattle.answering.specs.Hex.{hexed}
use Rattle.answering.proofs.hex.put_digits.Given as goal

abbrev pub invariant-loop-place : goal.invariant-loop-place
invariant-loop-place l =
    (length l.buffer ≡ length l.initial.buffer) × (hexed l.said ≡ take (2 * l.place) l.buffer ++ hexed (drop l.place l.said))
