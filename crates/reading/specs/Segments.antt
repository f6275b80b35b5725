-- A message's segments and its delimiters, by document 01, 'Bytes and segments'.
use Rattle.std.specs.Prelude.{ℕ, ◌+◌, ◌*◌, List, [], ◌∷◌, Bool, ◌&&◌, ◌||◌, length, get_or, eqb, Option}
use Prim.Native.String.{String}
use Rattle.alphabet.specs.Bytes.{ascii, byte_of, carriage_return, capital, digit}
use Rattle.alphabet.specs.Parts.{split, standing}
use Rattle.alphabet.specs.declared.parts.Part.{Part}

-- all but the last of some parts
unfoldable pub all_but_last : List (List ℕ) → List (List ℕ)
all_but_last [] = []
all_but_last (p ∷ []) = []
all_but_last (p ∷ q ∷ ps) = p ∷ all_but_last (q ∷ ps)

-- "Each segment, the last included, ends with CR": what stands before each CR
unfoldable pub segments : List ℕ → List (List ℕ)
segments m = all_but_last (split carriage_return m)

-- where segment k, from 0, stands; its CR is the byte behind it
unfoldable pub segment_at : List ℕ → ℕ → Option Part
segment_at m k = standing 0 (segments m) k

-- "Byte 3 is the field separator; bytes 4 to 7 are component, repetition, escape and subcomponent separator."
abbrev pub delimiters_of : List ℕ → List ℕ
delimiters_of m = get_or m 3 0 ∷ get_or m 4 0 ∷ get_or m 5 0 ∷ get_or m 6 0 ∷ get_or m 7 0 ∷ []

abbrev pub field_separator : List ℕ → ℕ
field_separator m = get_or m 3 0

-- "a capital and then two capitals or digits"
abbrev pub capital_or_digit : ℕ → Bool
capital_or_digit b = capital b || digit b

-- "A segment's name is three bytes, a capital and then two capitals or digits, followed by the field separator or CR."
-- A segment of fewer than three bytes has none: past its end stands 0, which is neither.
abbrev pub named : ℕ → List ℕ → Bool
named sep s =
    (capital (get_or s 0 0) && (capital_or_digit (get_or s 1 0) && capital_or_digit (get_or s 2 0)))
    && (eqb (length s) 3 || eqb (get_or s 3 0) sep)

-- "Bytes 0 to 2 are `MSH`."
abbrev pub is_header : List ℕ → Bool
is_header s = eqb (get_or s 0 0) (byte_of "M") && (eqb (get_or s 1 0) (byte_of "S") && eqb (get_or s 2 0) (byte_of "H"))

-- "A segment's name is three bytes": as one number, in base 256, so that a list of names is a list of numbers; a byte
-- that is not there counts as 0
unfoldable pub name_of : List ℕ → ℕ
name_of s = (get_or s 0 0 * 256 + get_or s 1 0) * 256 + get_or s 2 0

-- the name that three letters are
abbrev pub name : String → ℕ
name s = (get_or (ascii s) 0 0 * 256 + get_or (ascii s) 1 0) * 256 + get_or (ascii s) 2 0
