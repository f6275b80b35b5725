-- Two numbers by which it is told of many bytes at once whether they may stand in a message. Nobody has to believe
-- these: they serve private functions alone.
use Rattle.std.specs.Prelude.{ℕ, ◌+◌, ◌-◌, cond, eqb, ltb}
use Rattle.alphabet.specs.Bytes.{carriage_return}

-- 32 or more for CR and for the bytes from 32 on
abbrev pub height_of : ℕ → ℕ
height_of b = cond (eqb b carriage_return) 255 b

-- over 222 for the bytes from 127 to 159
abbrev pub turned_of : ℕ → ℕ
turned_of b = cond (ltb b 160) (b + 96) (b - 160)
