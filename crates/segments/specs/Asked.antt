-- A message's segments asked for one by one: "a reading fault, 19", as of an element, or how many there are, or the
-- name of one and where it stands.
use Rattle.std.specs.Prelude.{ℕ, List, [], ◌∷◌, length, get_or, Option, Some, None, Ok, Err}
use Rattle.alphabet.specs.Answers.{Refusable, Check, fails_if, in_order, given}
use Rattle.alphabet.specs.declared.answers.Refusal.{Refusal}
use Rattle.alphabet.specs.declared.parts.Part.{Part}
use Rattle.reading.specs.Segments.{segments, segment_at, name_of}
use Rattle.reading.specs.Reading.{reading}
use Rattle.element.specs.Finding.{is_absent}
use Rattle.segments.specs.declared.Segment.{Segment}

unfoldable pub counting : List ℕ → Refusable ℕ
counting m = given (reading m) (length (segments m))

-- "a reading fault, 19": 19 is "no such segment"
unfoldable pub segment_asked : List ℕ → ℕ → Check
segment_asked m k = in_order (reading m ∷ fails_if (is_absent (segment_at m k)) Refusal.Address 0 ∷ [])

-- the segment of these bytes that stands there; what stands nowhere has no name
abbrev pub segment_in : Option Part → List ℕ → Segment
segment_in None bytes = record { name = 0; start = 0; end = 0 }
segment_in (Some part) bytes = record { name = name_of bytes; start = part.start; end = part.end }

-- the refusal, or the segment
unfoldable pub segment_found : List ℕ → ℕ → Refusable Segment
segment_found m k = given (segment_asked m k) (segment_in (segment_at m k) (get_or (segments m) k []))

-- the segment of an answer; what is refused stands nowhere
abbrev pub segment_given : Refusable Segment → Segment
segment_given (Ok segment) = segment
segment_given (Err fault) = segment_in None []
