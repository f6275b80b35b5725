-- What a word of a line is: what stands between two spaces, or between a space and an end of the line. Assumes nothing.
use Rattle.std.specs.Prelude.{ℕ, List}
use Rattle.alphabet.specs.Parts.{split}

-- the words of a line, each space an end of one and the beginning of the next
abbrev pub words : List ℕ → List (List ℕ)
words = split 32
