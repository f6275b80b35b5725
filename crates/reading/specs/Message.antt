-- What an accepted message is, in document 01's words; `proofs/Accepted.antt` shows that reading accepts exactly these.
use Rattle.std.specs.Prelude.{ℕ, ◌≤◌, ◌<◌, ◌≡◌, List, [], ◌∷◌, ◌++◌, true, false, ◌||◌, length, get_or, eqb}
use Rattle.alphabet.specs.Bytes.{carriage_return, allowed}
use Rattle.alphabet.specs.Delimiters.{first_wrong_delimiter}
use Rattle.alphabet.specs.Limits.{message_limit, segment_limit}
use Rattle.reading.specs.Segments.{segments, delimiters_of, field_separator, named, is_header}

-- segments one after another, each ended by CR
unfoldable pub ended : List (List ℕ) → List ℕ
ended [] = []
ended (s ∷ rest) = s ++ carriage_return ∷ ended rest

-- what checks 1 to 4 ask
pub record Opened (m : List ℕ) : Type 0 where
  -- "A message has 1 to 1,048,576 bytes"
  pub some_bytes : 1 ≤ length m
  pub most_bytes : length m ≤ message_limit
  -- "Bytes 0 to 2 are `MSH`." "Byte 8 is the field separator or CR."
  pub nine_bytes : 9 ≤ length m
  pub header : is_header m ≡ true
  pub byte_eight : (eqb (get_or m 8 0) (field_separator m) || eqb (get_or m 8 0) carriage_return) ≡ true
  -- "the five differ", and each is permitted: none of them is wrong
  pub delimiters_right : first_wrong_delimiter (delimiters_of m) ≡ 5
  -- "Allowed bytes"
  pub all_allowed : (i : ℕ) → i < length m → allowed (get_or m i 0) ≡ true

-- what all checks ask
pub record Message (m : List ℕ) : Type 0 where
  pub opened : Opened m
  -- "Each segment, the last included, ends with CR"
  pub all_ended : ended (segments m) ≡ m
  -- "and 1 to 4,096 segments"
  pub some_segments : 1 ≤ length (segments m)
  pub most_segments : length (segments m) ≤ segment_limit
  -- each segment has a good name
  pub all_named : (k : ℕ) → k < length (segments m) → named (field_separator m) (get_or (segments m) k []) ≡ true
  -- exactly one is MSH, the first: `header` says it of the first
  pub one_header : (k : ℕ) → 0 < k → k < length (segments m) → is_header (get_or (segments m) k []) ≡ false
