-- Bytes as one number, and the bits of it that say which bytes are sought.
use Rattle.std.specs.Prelude.{ℕ, ◌+◌, ◌*◌, List, [], ◌∷◌, Bool, cond}
use Rattle.std.specs.Int.Bits.{bit_and, bit_or, bit_xor}

-- bytes as one number, the first of them the lowest
unfoldable pub word_of : List ℕ → ℕ
word_of [] = 0
word_of (b ∷ l) = word_of l * 256 + b

-- of the bits `highs`, those of the digits in which two numbers differ, where `sevens` are the bits below them
abbrev pub unlike : ℕ → ℕ → ℕ → ℕ → ℕ
unlike word other sevens highs = bit_and (bit_or (bit_and (bit_xor word other) sevens + sevens) (bit_xor word other)) highs

-- of a word of eight bytes, the highest bit of each that is not b
abbrev pub other_than : ℕ → ℕ → ℕ
other_than word b = unlike word (b * 0x0101010101010101) 0x7F7F7F7F7F7F7F7F 0x8080808080808080

-- the highest bit of each byte that passes the test, and no other bit
unfoldable pub marks : (ℕ → Bool) → List ℕ → ℕ
marks test [] = 0
marks test (b ∷ l) = marks test l * 256 + cond (test b) 128 0
