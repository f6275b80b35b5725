-- Digits, and the number that they say, for every width.
use Rattle.std.specs.Prelude.{ℕ, ◌+◌, ◌-◌, ◌*◌, List, [], ◌∷◌, Bool, true, ◌&&◌}
use Rattle.alphabet.specs.Bytes.{byte_of, digit}

-- digits and nothing else
unfoldable pub all_digits : List ℕ → Bool
all_digits [] = true
all_digits (d ∷ r) = digit d && all_digits r

-- the number that is written by the digits of n and those that follow
unfoldable pub counted : ℕ → List ℕ → ℕ
counted n [] = n
counted n (d ∷ r) = counted (n * 10 + (d - byte_of "0")) r

-- the number that digits say
abbrev pub decimal : List ℕ → ℕ
decimal digits = counted 0 digits
