-- "A structure has at most 64 places where a segment name stands": each that is listed has, which is computed. Assumes nothing.
use mathlib.Core.List.{List, [], ◌∷◌}
use Prim.Native.Nat.{◌≤◌}
use native.Mathlib.Omega.{arith}
use Rattle.structure.specs.Shapes.{size}
use Rattle.structure.specs.Structures.{ListedStructure, built_in}

-- what holds of each structure of a book
abbrev pub EachListed : (ListedStructure → Type 0) → List ListedStructure → Type 0
EachListed P [] = Unit {0}
EachListed P (x ∷ book) = P x × EachListed P book

pub at_most_64 : EachListed (λ (x : ListedStructure). size x.shape ≤ 64) built_in
unfolding built_in
at_most_64 = (omega arith, (omega arith, (omega arith, (omega arith, (omega arith, (omega arith, tt))))))
