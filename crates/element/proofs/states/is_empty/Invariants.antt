use Prim.Native.Nat.{ℕ, ◌≤◌, ◌+◌}
use mathlib.Core.Path.{◌≡◌}
use mathlib.Core.Bool.{Bool, not, ◌||◌}
use lib.Dec.{eqb}
use lib.ListN.{length, drop}
use Rattle.alphabet.specs.Lists.{first}
use Rattle.element.proofs.states.is_empty.Given as goal

-- a byte that is none of the three separators
abbrev pub other : ℕ → ℕ → ℕ → ℕ → Bool
other component repetition subcomponent b = not (eqb b component || (eqb b repetition || eqb b subcomponent))

abbrev pub invariant-loop-b : goal.invariant-loop-b
invariant-loop-b l =
    (l.b-index ≤ length l.bytes) × (first (other l.component l.repetition l.subcomponent) l.bytes ≡ l.b-index + first (other l.component l.repetition l.subcomponent) (drop l.b-index l.bytes))
