-- The bytes that a word of a question says. Assumes nothing.
use Rattle.std.specs.Prelude.{ℕ, cond, List, [], ◌∷◌, eqb, leb, length, Option, Some, None}
use Rattle.alphabet.specs.Hex.{all_hex, pairs_of}

-- what a word says: bytes, or nothing. `-` says no bytes, and pairs of digits a byte each. An empty word says nothing
unfoldable pub said : List ℕ → Option (List ℕ)
said [] = None
said (a ∷ []) = cond (eqb a 45) (Some []) None
said (a ∷ b ∷ r) = cond (all_hex (a ∷ b ∷ r)) (Some (pairs_of (a ∷ b ∷ r))) None

-- more bytes than there is room for are as good as nothing
unfoldable pub fitting : ℕ → Option (List ℕ) → Option (List ℕ)
fitting room (Some xs) = cond (leb (length xs) room) (Some xs) None
fitting room None = None
