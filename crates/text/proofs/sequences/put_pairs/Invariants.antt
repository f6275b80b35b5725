use Prim.Native.Nat.{◌≤◌, ◌-◌}
use lib.ListN.{length, take, drop}
use mathlib.Core.Path.{◌≡◌}
use mathlib.Core.List.{◌++◌}
use mathlib.Core.Bool.{true}
use Rattle.alphabet.specs.Hex.{all_hex, pairs_of}
use Rattle.alphabet.proofs.FillingLaws.{Filling}
use Rattle.text.proofs.sequences.put_pairs.Given as goal

abbrev pub invariant-loop-i : goal.invariant-loop-i
invariant-loop-i l = (l.i ≤ length l.digits) × (all_hex (drop l.i l.digits) ≡ true) × Filling (take l.at l.initial.buffer ++ pairs_of l.digits) l.initial.buffer (pairs_of (drop l.i l.digits)) l.buffer l.place

abbrev pub decreases-loop-i : goal.decreases-loop-i
decreases-loop-i l = length l.digits - l.i
