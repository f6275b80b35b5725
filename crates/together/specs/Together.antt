-- Bytes that are put together of pieces, and what is left in a buffer that is lent for them. A text that is written
-- "fills the front of its buffer", "the bytes behind it stay".
use Rattle.std.specs.Prelude.{ℕ, List, [], ◌∷◌, ◌++◌, cond, leb, ltb, length}
use Rattle.alphabet.specs.Filling.{over}

-- pieces that stand one behind another
unfoldable pub together : List (List ℕ) → List ℕ
together [] = []
together (p ∷ ps) = p ++ together ps

-- the smaller of two lengths
abbrev pub least : ℕ → ℕ → ℕ
least a b = cond (ltb a b) a b

-- the buffer d with w over its front, where w has at most `room` bytes; else as it was
unfoldable pub fitted : (room : ℕ) (w d : List ℕ) → List ℕ
fitted room w d = cond (leb (length w) room) (over w d) d
