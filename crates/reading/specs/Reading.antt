-- Numbers 1 to 8: "Reading checks 1 to 5 in order, then the segments."
use Rattle.std.specs.Prelude.{ℕ, ◌+◌, ◌-◌, List, [], ◌∷◌, Bool, not, ◌&&◌, ◌||◌, length, get_or, leb, ltb, eqb}
use Rattle.alphabet.specs.Answers.{fails_if, in_order, Check}
use Rattle.alphabet.specs.Bytes.{carriage_return, not_allowed}
use Rattle.alphabet.specs.Delimiters.{first_wrong_delimiter}
use Rattle.alphabet.specs.Limits.{message_limit, segment_limit}
use Rattle.alphabet.specs.Lists.{first}
use Rattle.alphabet.specs.declared.answers.Refusal.TheVariants.{Length, Header, Delimiter, NotAllowed, NotEnded, SegmentName, SecondHeader, TooManySegments}
use Rattle.reading.specs.Segments.{segments, delimiters_of, field_separator, named, is_header}

-- 1: "length 0 or over 1,048,576"
abbrev pub length_check : List ℕ → Check
length_check m = fails_if (eqb (length m) 0 || ltb message_limit (length m)) Length 0

-- 2: "under 9 bytes, not `MSH`, or byte 8 wrong"; "Byte 8 is the field separator or CR."
abbrev pub headed : List ℕ → Bool
headed m = leb 9 (length m) && (is_header m && (eqb (get_or m 8 0) (field_separator m) || eqb (get_or m 8 0) carriage_return))

abbrev pub header_check : List ℕ → Check
header_check m = fails_if (not (headed m)) Header 0

-- 3: "first delimiter byte not permitted or equal to an earlier one"; its place counts from the message's start
abbrev pub delimiter_check : List ℕ → Check
delimiter_check m = fails_if (ltb (first_wrong_delimiter (delimiters_of m)) 5) Delimiter (3 + first_wrong_delimiter (delimiters_of m))

-- 4: "first byte not allowed"
abbrev pub byte_check : List ℕ → Check
byte_check m = fails_if (ltb (first not_allowed m) (length m)) NotAllowed (first not_allowed m)

-- 1 to 4, which an acknowledgement asks of the header alone
unfoldable pub opening : List ℕ → Check
opening m = in_order (length_check m ∷ header_check m ∷ delimiter_check m ∷ byte_check m ∷ [])

-- 5: "last byte not CR"; the place is that byte's
abbrev pub end_check : List ℕ → Check
end_check m = fails_if (not (eqb (get_or m (length m - 1) 0) carriage_return)) NotEnded (length m - 1)

-- "8 if it is the 4,097th, 6 bad name, 7 a second MSH", of the segment of number k, from 0, whose first byte stands at
-- `at`
abbrev pub segment_check : ℕ → ℕ → ℕ → List ℕ → Check
segment_check sep k at s =
    in_order
    (fails_if (eqb k segment_limit) TooManySegments at
    ∷ fails_if (not (named sep s)) SegmentName at
    ∷ fails_if (ltb 0 k && is_header s) SecondHeader at
    ∷ [])

-- every segment's check, from the left; each segment is followed by its CR
unfoldable pub segment_checks : ℕ → ℕ → ℕ → List (List ℕ) → List Check
segment_checks sep k at [] = []
segment_checks sep k at (s ∷ rest) = segment_check sep k at s ∷ segment_checks sep (k + 1) (at + length s + 1) rest

-- 6, 7, 8: "leftmost segment"
unfoldable pub segments_check : List ℕ → Check
segments_check m = in_order (segment_checks (field_separator m) 0 0 (segments m))

unfoldable pub reading : List ℕ → Check
reading m = in_order (opening m ∷ end_check m ∷ segments_check m ∷ [])
