-- For private functions alone: the header without its CR, and fields of it. `proofs/FieldLaws.antt` shows that its
-- parts are the fields which are `sent`.
use Rattle.std.specs.Prelude.{ℕ, ◌+◌, List, [], ◌∷◌, ◌++◌, Bool, cond, ◌&&◌, eqb, is_ok, length, get_or, take}
use Rattle.alphabet.specs.Bytes.{carriage_return}
use Rattle.alphabet.specs.Lists.{find}
use Rattle.alphabet.specs.Parts.{split}
use Rattle.reading.specs.Segments.{field_separator}
use Rattle.reading.specs.Reading.{opening}
use Rattle.acknowledgement.specs.Acknowledgement.{sent, type_part, present}

-- what stands before the first CR
abbrev pub line_in : List ℕ → List ℕ
line_in m = take (find carriage_return m) m

-- what is known of the header of a message that can be acknowledged: it ends in its only CR, has no fault 1 to 4, and
-- its control ID is present
unfoldable pub is_sound : List ℕ → Bool
is_sound h = eqb (find carriage_return h + 1) (length h) && (is_ok (opening h) && present h (sent h 10))

-- two fields, with the separator behind each
abbrev pub pair : List ℕ → ℕ → List ℕ
pair h f = sent h f ++ field_separator h ∷ (sent h (f + 1) ++ field_separator h ∷ [])

-- a component of a field's first repetition, by its index, from 0
abbrev pub component : List ℕ → List ℕ → ℕ → List ℕ
component h field c = get_or (split (get_or h 4 0) (get_or (split (get_or h 5 0) field) 0 [])) c []

-- component 2 of the sender's type "where that is present"
abbrev pub event : List ℕ → List ℕ
event h = cond (present h (type_part h 2)) (type_part h 2) []
