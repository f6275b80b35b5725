-- What it is to be one of a message's leaves, said by a lookup: so that the list of all leaves, which splits level by
-- level, is not its own meaning.
use Rattle.std.specs.Prelude.{◌≡◌, List, [], ◌∷◌, ℕ, ◌+◌, ◌≤◌, Ok}
use Rattle.element.specs.Finding.{found}
use Rattle.element.specs.declared.states.State.TheVariants.{Absent}
use Rattle.leaves.specs.Leaves.{Leaf}

-- l is one of a list
pub data In (l : Leaf) : List Leaf → Type 0 where
  here : {ls : List Leaf} → In l (l ∷ ls)
  there : {k : Leaf} {ls : List Leaf} → In l ls → In l (k ∷ ls)

-- its address goes down to the subcomponent, and a lookup there is not refused, finds the leaf's element, and does not
-- find it absent
pub record FoundAt (m : List ℕ) (l : Leaf) : Type 0 where
  pub full : 1 ≤ l.address.subcomponent
  pub looked_up : found m l.address ≡ Ok l.element
  pub not_absent : l.element.state ≡ Absent → ⊥

-- none begins before `from`, and each begins behind the place where the one before it does: they stand in the message's
-- own order, and none stands twice
abbrev pub Rising : ℕ → List Leaf → Type 0
Rising from [] = Unit {0}
Rising from (l ∷ ls) = (from ≤ l.element.start) × Rising (l.element.start + 1) ls
