-- What is printed for a byte.
use Rattle.std.specs.Prelude.{ℕ, ◌/◌, ◌%◌, ◌≤◌, List, [], ◌∷◌, Bool, not, ◌&&◌, eqb}
use Rattle.alphabet.specs.Bytes.{from_to, hex_digit}

-- printable ASCII, but for the opening brace
abbrev pub plain : ℕ → Bool
plain b = from_to 32 126 b && not (eqb b 123)

abbrev pub not_plain : ℕ → Bool
not_plain b = not (plain b)

-- a brace, two capital hex digits, a brace
abbrev pub in_braces : ℕ → List ℕ
in_braces b = 123 ∷ hex_digit (b / 16 % 16) ∷ hex_digit (b % 16) ∷ 125 ∷ []

-- printable ASCII
abbrev pub Visible : ℕ → Type 0
Visible b = (32 ≤ b) × (b ≤ 126)

abbrev pub AllVisible : List ℕ → Type 0
AllVisible [] = Unit {0}
AllVisible (b ∷ others) = Visible b × AllVisible others
