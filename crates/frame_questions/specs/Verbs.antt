-- The verbs of the questions about frames. Assumes nothing.
use Rattle.std.specs.Prelude.{ℕ, List}
use Rattle.alphabet.specs.Bytes.{ascii}

-- `frame` and `frames`
pub data Verb : List ℕ → Type 0 where
  frame : Verb (ascii "frame")
  frames : Verb (ascii "frames")
