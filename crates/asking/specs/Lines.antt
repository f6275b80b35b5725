-- What is gathered of a line. Assumes nothing.
use Rattle.std.specs.Prelude.{ℕ, ◌<◌, ◌≡◌, List, length, Option, Some, None}

-- the bytes of the line are gathered, or they are more than there is room for
abbrev pub Gathered : ℕ → Option (List ℕ) → List ℕ → Type 0
Gathered room (Some gathered) bytes = gathered ≡ bytes
Gathered room None bytes = room < length bytes
