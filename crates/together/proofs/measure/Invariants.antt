use Prim.Native.Nat.{◌≤◌, ◌+◌}
use mathlib.Core.Path.{◌≡◌}
use mathlib.Core.List.{map}
use lib.ListN.{length, drop}
use Rattle.together.specs.Together.{together}
use Rattle.together.proofs.measure.Given as goal

abbrev pub invariant-loop-piece : goal.invariant-loop-piece
invariant-loop-piece l = (l.n ≤ l.room) × (length (together (map (λ x. x.now) l.pieces)) ≡ l.n + length (together (map (λ x. x.now) (drop l.piece-index l.pieces))))
