-- The verbs of the questions about an element. Assumes nothing.
use Rattle.std.specs.Prelude.{ℕ, List}
use Rattle.alphabet.specs.Bytes.{ascii}

-- `find`, `nm`, `si`, `dt`, `tm` and `ts`
pub data Verb : List ℕ → Type 0 where
  find : Verb (ascii "find")
  nm : Verb (ascii "nm")
  si : Verb (ascii "si")
  dt : Verb (ascii "dt")
  tm : Verb (ascii "tm")
  ts : Verb (ascii "ts")
