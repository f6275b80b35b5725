-- What a byte may be. A byte is a number, and the words are those of document 01, 'Bytes and segments'.
use Rattle.std.specs.Prelude.{ℕ, ◌+◌, ◌-◌, List, [], ◌∷◌, Bool, cond, not, ◌&&◌, ◌||◌, Option, Some, None, length, get_or, leb, ltb, eqb}
use Prim.Native.Char.{code}
use Prim.Native.String.{String}
use Prim.Native.String as S
use Rattle.alphabet.specs.Lists.{among}

-- the bytes of an ASCII text, as the document writes them
abbrev pub ascii : String → List ℕ
ascii S.[] = []
ascii (S.◌∷◌ c s) = code c ∷ ascii s

-- the byte of one character
abbrev pub byte_of : String → ℕ
byte_of s = get_or (ascii s) 0 0

-- at least lo and at most hi
abbrev pub from_to : ℕ → ℕ → ℕ → Bool
from_to lo hi b = leb lo b && leb b hi

-- "CR, 0x0D"
abbrev pub carriage_return : ℕ
carriage_return = 13

-- "0x20 to 0x7E, 0xA0 to 0xFF (printable ISO 8859/1)"
abbrev pub printable : ℕ → Bool
printable b = from_to 32 126 b || from_to 160 255 b

-- "Allowed bytes: CR, 0x20 to 0x7E, 0xA0 to 0xFF"
abbrev pub allowed : ℕ → Bool
allowed b = eqb b carriage_return || printable b

abbrev pub not_allowed : ℕ → Bool
not_allowed b = not (allowed b)

-- where a search for one of five bytes ends; it may end at a byte that is not printable, too
abbrev pub stops : Bool → List ℕ → ℕ → Bool
stops unprintable five b = (unprintable && not (printable b)) || among five b

-- "a capital", "digits": those of ASCII
abbrev pub capital : ℕ → Bool
capital b = from_to (byte_of "A") (byte_of "Z") b

abbrev pub digit : ℕ → Bool
digit b = from_to (byte_of "0") (byte_of "9") b

-- the number that a hex digit of either case says; 16 for any other byte
abbrev pub hex_of : ℕ → ℕ
hex_of b =
    cond (digit b) (b - byte_of "0")
    (cond (from_to (byte_of "A") (byte_of "F") b) (b - byte_of "A" + 10) (cond (from_to (byte_of "a") (byte_of "f") b) (b - byte_of "a" + 10) 16))

-- the same, where it is one
abbrev pub hex_said : ℕ → Option ℕ
hex_said b = cond (ltb (hex_of b) 16) (Some (hex_of b)) None

-- the capital hex digit of a number below 16
abbrev pub hex_digit : ℕ → ℕ
hex_digit n = cond (ltb n 10) (byte_of "0" + n) (byte_of "A" + (n - 10))

-- "null, exactly `""`"
abbrev pub is_null : List ℕ → Bool
is_null bytes = eqb (length bytes) 2 && (eqb (get_or bytes 0 0) (byte_of "\"") && eqb (get_or bytes 1 0) (byte_of "\""))
