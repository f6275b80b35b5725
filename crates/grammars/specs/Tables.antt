-- The bytes of document 01 as tables that a reader compares with the document at sight: a second saying of the tests in
-- crates/alphabet and crates/reading, to which `TableLaws` holds each of the 256 bytes by computing.
use Rattle.std.specs.Prelude.{ℕ, ◌/◌, ◌%◌, min, List, [], ◌∷◌, ◌++◌, Bool, false, ◌||◌, eqb, get_or}
use Prim.Native.String.{String}
use Rattle.alphabet.specs.Bytes.{ascii}
use Rattle.alphabet.specs.Lists.{find}

-- whether a byte is one of some
unfoldable pub member_of : ℕ → List ℕ → Bool
member_of b [] = false
member_of b (x ∷ l) = eqb b x || member_of b l

-- sixteen rows of sixteen bytes, 00 to FF, one row for each first hex digit; whether the byte is marked there
abbrev pub marked : List String → ℕ → Bool
marked rows b = eqb (get_or (ascii (get_or rows (b / 16) "")) (b % 16) 0) 35

-- "Allowed bytes: CR, 0x20 to 0x7E, 0xA0 to 0xFF"
abbrev pub allowed_bytes : List String
allowed_bytes =
    ".............#.."
    ∷ "................"
    ∷ "################"
    ∷ "################"
    ∷ "################"
    ∷ "################"
    ∷ "################"
    ∷ "###############."
    ∷ "................"
    ∷ "................"
    ∷ "################"
    ∷ "################"
    ∷ "################"
    ∷ "################"
    ∷ "################"
    ∷ "################"
    ∷ []

-- "each is ASCII punctuation (0x21-2F, 3A-40, 5B-60, 7B-7E) but none of `"` `+` `-` `.`"
abbrev pub permitted_delimiters : List ℕ
permitted_delimiters = ascii "!#$%&'()*,/" ++ (ascii ":;<=>?@" ++ (ascii "[\\]^_`" ++ ascii "{|}~"))

-- "a capital and then two capitals or digits"
abbrev pub capitals : List ℕ
capitals = ascii "ABCDEFGHIJKLMNOPQRSTUVWXYZ"

abbrev pub digits : List ℕ
digits = ascii "0123456789"

-- "hex digits of either case": the number of a digit is its place, and 16 is none
abbrev pub hex_digits : List ℕ
hex_digits = ascii "0123456789ABCDEF"

abbrev pub small_hex_digits : List ℕ
small_hex_digits = ascii "0123456789abcdef"

abbrev pub hex_number : ℕ → ℕ
hex_number b = min (find b hex_digits) (find b small_hex_digits)
