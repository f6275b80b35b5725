use Prim.Native.Nat.{◌*◌}
use mathlib.Core.Path.{◌≡◌}
use mathlib.Core.Bool.{true}
use mathlib.Core.List.{◌++◌}
use lib.ListN.{length, take, drop}
use Rattle.alphabet.specs.Hex.{all_hex, pairs_of}
use Rattle.asking.proofs.hex.put_pairs.Given as goal

abbrev pub invariant-loop-place : goal.invariant-loop-place
invariant-loop-place l =
    (length l.buffer ≡ length l.initial.buffer) × (all_hex (drop (2 * l.place) l.word) ≡ true) × (pairs_of l.word ≡ take l.place l.buffer ++ pairs_of (drop (2 * l.place) l.word))
