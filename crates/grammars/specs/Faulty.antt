-- Which fault of reading a message has, and where it stands, by document 01, 'Numbers given back': each number with its
-- own place, and what was sound before it. "Reading checks 1 to 5 in order, then the segments."
use Rattle.std.specs.Prelude.{ℕ, ◌-◌, ◌≤◌, ◌<◌, ◌≡◌, ◌⊎◌, true, false, List, [], length, get_or, take}
use Rattle.alphabet.specs.Bytes.{carriage_return, allowed, byte_of}
use Rattle.alphabet.specs.Delimiters.{permitted}
use Rattle.alphabet.specs.Limits.{message_limit, segment_limit}
use Rattle.alphabet.specs.declared.answers.Refusal.{Refusal}
use Rattle.alphabet.specs.declared.answers.Refusal.TheVariants.{Length, Header, Delimiter, NotAllowed, NotEnded, SegmentName, SecondHeader, TooManySegments}
use Rattle.reading.specs.Segments.{segments, field_separator, named, is_header}
use Rattle.reading.specs.Message.{ended}

-- "A message has 1 to 1,048,576 bytes"
abbrev pub Sized : List ℕ → Type 0
Sized m = (1 ≤ length m) × (length m ≤ message_limit)

-- "Bytes 0 to 2 are `MSH`." "Byte 8 is the field separator or CR."
pub record Headed (m : List ℕ) : Type 0 where
  pub nine : 9 ≤ length m
  pub name : (get_or m 0 0 ≡ byte_of "M") × (get_or m 1 0 ≡ byte_of "S") × (get_or m 2 0 ≡ byte_of "H")
  pub eight : (get_or m 8 0 ≡ get_or m 3 0) ⊎ (get_or m 8 0 ≡ carriage_return)

-- the delimiter byte at place p, of those that stand from place 3 on: "not permitted or equal to an earlier one"
pub data Wrong (m : List ℕ) (p : ℕ) : Type 0 where
  unlisted : permitted (get_or m p 0) ≡ false → Wrong m p
  again : (q : ℕ) → 3 ≤ q → q < p → get_or m q 0 ≡ get_or m p 0 → Wrong m p

-- "leftmost segment: 8 if it is the 4,097th, 6 bad name, 7 a second MSH": what is wrong with segment k, from 0
pub data BadSegment (m : List ℕ) (k : ℕ) : Refusal → Type 0 where
  one_too_many : k ≡ segment_limit → BadSegment m k TooManySegments
  name : (k ≡ segment_limit → ⊥) → named (field_separator m) (get_or (segments m) k []) ≡ false → BadSegment m k SegmentName
  second : (k ≡ segment_limit → ⊥) → named (field_separator m) (get_or (segments m) k []) ≡ true → 0 < k → is_header (get_or (segments m) k []) ≡ true
      → BadSegment m k SecondHeader

-- the first fault and its place: "a byte offset for 3 to 8 (6 to 8: the segment's first byte), else 0"
pub data Faulty (m : List ℕ) : Refusal → ℕ → Type 0 where
  size : (Sized m → ⊥) → Faulty m Length 0
  header : Sized m → (Headed m → ⊥) → Faulty m Header 0
  delimiter : Sized m → Headed m → (p : ℕ) → 3 ≤ p → p < 8 → Wrong m p → ((q : ℕ) → 3 ≤ q → q < p → Wrong m q → ⊥) → Faulty m Delimiter p
  byte : Sized m → Headed m → ((q : ℕ) → 3 ≤ q → q < 8 → Wrong m q → ⊥) → (p : ℕ) → p < length m → allowed (get_or m p 0) ≡ false
      → ((q : ℕ) → q < p → allowed (get_or m q 0) ≡ true) → Faulty m NotAllowed p
  unended : Sized m → Headed m → ((q : ℕ) → 3 ≤ q → q < 8 → Wrong m q → ⊥) → ((q : ℕ) → q < length m → allowed (get_or m q 0) ≡ true)
      → (get_or m (length m - 1) 0 ≡ carriage_return → ⊥) → Faulty m NotEnded (length m - 1)
  segment : {kind : Refusal} → Sized m → Headed m → ((q : ℕ) → 3 ≤ q → q < 8 → Wrong m q → ⊥) → ((q : ℕ) → q < length m → allowed (get_or m q 0) ≡ true)
      → get_or m (length m - 1) 0 ≡ carriage_return → (k : ℕ) → k < length (segments m) → BadSegment m k kind
      → ((j : ℕ) → j < k → (other : Refusal) → BadSegment m j other → ⊥) → Faulty m kind (length (ended (take k (segments m))))
