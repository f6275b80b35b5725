-- What the contracts of the quick look say; nobody has to believe these.
use Rattle.std.specs.Prelude.{ℕ, ◌<◌, ◌≤◌, ◌≡◌, List, [], ◌∷◌, Bool, true, not, ◌&&◌, eqb, length, get_or}
use Rattle.alphabet.specs.Bytes.{byte_of}
use Rattle.alphabet.specs.Delimiters.{permitted}

-- all five delimiters are permitted, as those of a message that was read are
abbrev pub Permitted : List ℕ → Type 0
Permitted ds = (i : ℕ) → i < 5 → permitted (get_or ds i 0) ≡ true

-- a byte that is no delimiter, whatever these are, and no quote
abbrev pub plain_byte : ℕ → Bool
plain_byte b = not (permitted b) && not (eqb b (byte_of "\""))

unfoldable pub all_plain : List ℕ → Bool
all_plain [] = true
all_plain (b ∷ r) = plain_byte b && all_plain r

-- some bytes, and all of them plain
abbrev pub Plain : List ℕ → Type 0
Plain l = (1 ≤ length l) × (all_plain l ≡ true)
