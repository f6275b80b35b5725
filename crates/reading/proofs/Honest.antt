-- A message that is refused is refused for a reason: reading fails with a number from 1 to 8 alone. Assumes nothing.
use mathlib.Core.Bool.{not, ◌&&◌, ◌||◌}
use mathlib.Core.List.{List, [], ◌∷◌}
use Prim.Native.Nat.{ℕ, ◌+◌, ◌-◌}
use native.Mathlib.Omega.{arith}
use lib.Dec.{eqb, ltb}
use lib.ListN.{length, get_or}
use Rattle.alphabet.specs.Answers.{fails_if, in_order, passes}
use Rattle.alphabet.specs.Bytes.{carriage_return, not_allowed}
use Rattle.alphabet.specs.Delimiters.{first_wrong_delimiter}
use Rattle.alphabet.specs.Limits.{message_limit, segment_limit}
use Rattle.alphabet.specs.Lists.{first}
use Rattle.alphabet.specs.declared.answers.Refusal.TheVariants.{Length, Header, Delimiter, NotAllowed, NotEnded, SegmentName, SecondHeader, TooManySegments}
use Rattle.alphabet.proofs.CheckLaws.{Numbered, numbered_if, numbered_or}
use Rattle.reading.specs.Segments.{segments, delimiters_of, named, is_header, field_separator}
use Rattle.reading.specs.Reading.{length_check, headed, header_check, delimiter_check, byte_check, opening, end_check, segment_check, segment_checks, segments_check, reading}

opening_numbered : (m : List ℕ) → Numbered 1 8 (opening m)
unfolding opening
opening_numbered m =
    numbered_or 1 8 (length_check m) _ (numbered_if 1 8 (eqb (length m) 0 || ltb message_limit (length m)) Length 0 (omega arith, omega arith))
    (numbered_or 1 8 (header_check m) _ (numbered_if 1 8 (not (headed m)) Header 0 (omega arith, omega arith))
    (numbered_or 1 8 (delimiter_check m) _ (numbered_if 1 8 (ltb (first_wrong_delimiter (delimiters_of m)) 5) Delimiter (3 + first_wrong_delimiter (delimiters_of m)) (omega arith, omega arith))
    (numbered_or 1 8 (byte_check m) passes (numbered_if 1 8 (ltb (first not_allowed m) (length m)) NotAllowed (first not_allowed m) (omega arith, omega arith)) tt)))

segment_numbered : (sep k at : ℕ) (s : List ℕ) → Numbered 1 8 (segment_check sep k at s)
segment_numbered sep k at s =
    numbered_or 1 8 (fails_if (eqb k segment_limit) TooManySegments at) _ (numbered_if 1 8 (eqb k segment_limit) TooManySegments at (omega arith, omega arith))
    (numbered_or 1 8 (fails_if (not (named sep s)) SegmentName at) _ (numbered_if 1 8 (not (named sep s)) SegmentName at (omega arith, omega arith))
    (numbered_or 1 8 (fails_if (ltb 0 k && is_header s) SecondHeader at) passes (numbered_if 1 8 (ltb 0 k && is_header s) SecondHeader at (omega arith, omega arith)) tt))

segments_numbered : (sep k at : ℕ) (ss : List (List ℕ)) → Numbered 1 8 (in_order (segment_checks sep k at ss))
unfolding segment_checks
segments_numbered sep k at [] = tt
segments_numbered sep k at (s ∷ ss) =
    numbered_or 1 8 (segment_check sep k at s) _ (segment_numbered sep k at s) (segments_numbered sep (k + 1) (at + length s + 1) ss)

pub reading_numbered : (m : List ℕ) → Numbered 1 8 (reading m)
unfolding reading segments_check
reading_numbered m =
    numbered_or 1 8 (opening m) _ (opening_numbered m)
    (numbered_or 1 8 (end_check m) _ (numbered_if 1 8 (not (eqb (get_or m (length m - 1) 0) carriage_return)) NotEnded (length m - 1) (omega arith, omega arith))
    (numbered_or 1 8 (segments_check m) passes (segments_numbered (field_separator m) 0 0 (segments m)) tt))
