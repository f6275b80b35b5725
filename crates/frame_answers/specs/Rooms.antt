-- The room that an answer about frames needs. Assumes nothing.
use Rattle.std.specs.Prelude.{ℕ}

-- the end of an answer: three numbers of at most 21 bytes each, the largest buffer at two digits a byte or `-`, and the
-- line's end
abbrev pub ending : ℕ
ending = 131140
