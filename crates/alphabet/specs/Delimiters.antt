-- The five delimiters, as a list in the message's order: field, component, repetition, escape, subcomponent.
use Rattle.std.specs.Prelude.{ℕ, List, [], ◌∷◌, Bool, not, ◌&&◌, ◌||◌, get_or, ltb, eqb}
use Rattle.alphabet.specs.Bytes.{byte_of, from_to}
use Rattle.alphabet.specs.Lists.{first, find}

-- "ASCII punctuation (0x21-2F, 3A-40, 5B-60, 7B-7E)"
abbrev pub punctuation : ℕ → Bool
punctuation b = from_to 33 47 b || (from_to 58 64 b || (from_to 91 96 b || from_to 123 126 b))

-- "none of `"` `+` `-` `.`"
abbrev pub never_delimiter : ℕ → Bool
never_delimiter b = eqb b (byte_of "\"") || (eqb b (byte_of "+") || (eqb b (byte_of "-") || eqb b (byte_of ".")))

-- "each is ASCII punctuation but none of `"` `+` `-` `.`"
abbrev pub permitted : ℕ → Bool
permitted b = punctuation b && not (never_delimiter b)

-- "not permitted or equal to an earlier one": of the delimiter at place i
abbrev pub wrong : List ℕ → ℕ → Bool
wrong ds i = not (permitted (get_or ds i 0)) || ltb (find (get_or ds i 0) ds) i

-- the places of the five
abbrev pub places : List ℕ
places = 0 ∷ 1 ∷ 2 ∷ 3 ∷ 4 ∷ []

-- number 3, "first delimiter byte not permitted or equal to an earlier one": its place, or 5 where all are right
unfoldable pub first_wrong_delimiter : List ℕ → ℕ
first_wrong_delimiter ds = first (wrong ds) places
