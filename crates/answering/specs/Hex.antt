-- The word that an answer says bytes by. Assumes nothing.
use Rattle.std.specs.Prelude.{ℕ, ◌+◌, ◌/◌, ◌%◌, cond, List, [], ◌∷◌, ltb}

-- the lower-case hex digit of a number below 16
abbrev pub hex_digit : ℕ → ℕ
hex_digit n = cond (ltb n 10) (n + 48) (n + 87)

-- bytes as pairs of lower-case hex digits
unfoldable pub hexed : List ℕ → List ℕ
hexed [] = []
hexed (b ∷ r) = hex_digit (b / 16) ∷ hex_digit (b % 16) ∷ hexed r
