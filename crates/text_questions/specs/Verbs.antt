-- The verbs of the questions that write a text into a buffer. Assumes nothing.
use Rattle.std.specs.Prelude.{ℕ, List}
use Rattle.alphabet.specs.Bytes.{ascii}

-- `escape`, `unescape` and `format`
pub data Verb : List ℕ → Type 0 where
  escape : Verb (ascii "escape")
  unescape : Verb (ascii "unescape")
  format : Verb (ascii "format")
