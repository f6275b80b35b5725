-- What stands in a string of JSON for a byte.
use Rattle.std.specs.Prelude.{ℕ, ◌/◌, ◌%◌, List, [], ◌∷◌, Bool, not, cond, ◌&&◌, ◌||◌, eqb}
use Rattle.alphabet.specs.Bytes.{from_to, hex_digit}

-- a quote, which ends a string, and a backslash, which begins an escape
abbrev pub quoted : ℕ → Bool
quoted b = eqb b 34 || eqb b 92

-- printable ASCII, but for these two
abbrev pub plain : ℕ → Bool
plain b = from_to 32 126 b && not (quoted b)

abbrev pub not_plain : ℕ → Bool
not_plain b = not (plain b)

-- a backslash and the byte itself for these two; else `\u00` and two capital hex digits
abbrev pub escaped : ℕ → List ℕ
escaped b = cond (quoted b) (92 ∷ b ∷ []) (92 ∷ 117 ∷ 48 ∷ 48 ∷ hex_digit (b / 16 % 16) ∷ hex_digit (b % 16) ∷ [])
