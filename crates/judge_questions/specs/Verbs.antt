-- The verbs of the questions that ask for a judgement of a whole message. Assumes nothing.
use Rattle.std.specs.Prelude.{ℕ, List}
use Rattle.alphabet.specs.Bytes.{ascii}

-- `structure` and `verdict`
pub data Verb : List ℕ → Type 0 where
  structure : Verb (ascii "structure")
  verdict : Verb (ascii "verdict")
