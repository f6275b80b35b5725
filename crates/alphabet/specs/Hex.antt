-- Pairs of hex digits, and the bytes that they say.
use Rattle.std.specs.Prelude.{ℕ, ◌+◌, ◌*◌, List, [], ◌∷◌, Bool, true, false, ◌&&◌, ltb}
use Rattle.alphabet.specs.Bytes.{hex_of}

-- "pairs of hex digits of either case", no pair among them too
unfoldable pub all_hex : List ℕ → Bool
all_hex [] = true
all_hex (a ∷ []) = false
all_hex (a ∷ b ∷ r) = (ltb (hex_of a) 16 && ltb (hex_of b) 16) && all_hex r

-- the bytes that pairs of hex digits say
unfoldable pub pairs_of : List ℕ → List ℕ
pairs_of [] = []
pairs_of (a ∷ []) = []
pairs_of (a ∷ b ∷ r) = (hex_of a * 16 + hex_of b) ∷ pairs_of r
