-- A number as it is written: in digits, the fewest that say it. `decimal` of alphabet reads it back, which
-- crates/laws/proofs/NumeralReads.antt shows.
use Rattle.std.specs.Prelude.{ℕ, zero, suc, ◌+◌, ◌/◌, ◌%◌, List, [], ◌∷◌, ◌++◌, cond, ltb}
use Rattle.alphabet.specs.Bytes.{byte_of}

-- the last digit says what is left of tens; before it stand the digits of the tens, where there are any. `most` is how
-- many digits there can be
unfoldable pub digits_of : (most n : ℕ) → List ℕ
digits_of zero n = []
digits_of (suc most) n = cond (ltb n 10) [] (digits_of most (n / 10)) ++ ((byte_of "0" + n % 10) ∷ [])

-- n has at most n + 1 digits, since it is less than 10 to the n
abbrev pub numeral : ℕ → List ℕ
numeral n = digits_of (suc n) n
