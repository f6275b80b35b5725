-- From a segment down to a subcomponent, by document 01, 'Elements': "Each level splits the part above it at its own
-- separator".
use Rattle.std.specs.Prelude.{ℕ, zero, suc, ◌+◌, ◌-◌, List, Bool, cond, ◌&&◌, get_or, take, drop, leb, eqb, None, Some, Option}
use Rattle.alphabet.specs.Parts.{part_at, from_to}
use Rattle.alphabet.specs.declared.parts.Part.{Part}
use Rattle.reading.specs.Segments.{delimiters_of, field_separator, segment_at}
use Rattle.element.specs.declared.address.Address.{Address}

-- the bytes of the message from s up to e
abbrev pub between : List ℕ → ℕ → ℕ → List ℕ
between m s e = take (e - s) (drop s m)

-- a part's part, counted from where the whole begins
abbrev pub moved : ℕ → Option Part → Option Part
moved by (Some part) = from_to (by + part.start) (by + part.end)
moved by None = None

-- part k, from 0, of a part of the message: "an absent one [splits] into none"
unfoldable pub part_in : ℕ → List ℕ → Option Part → ℕ → Option Part
part_in sep m None k = None
part_in sep m (Some part) k = moved part.start (part_at sep (between m part.start part.end) k)

-- "Field 1 of MSH is the separator byte, field 2 the four encoding bytes": MSH, the first segment of a message, has its
-- fields counted from the separator itself
abbrev pub header_field : List ℕ → Option Part → ℕ → Option Part
header_field m part f = cond (eqb f 1) (from_to 3 4) (part_in (field_separator m) m part (f - 1))

-- elsewhere part 0 is the name, and field f is part f
unfoldable pub field_in : List ℕ → ℕ → Option Part → ℕ → Option Part
field_in m segment part f = cond (eqb segment 0) (header_field m part f) (part_in (field_separator m) m part f)

abbrev pub field_at : List ℕ → Address → Option Part
field_at m a = field_in m a.segment (segment_at m a.segment) a.field

-- number k, from 1, of a level below a part; "0 means the whole"
unfoldable pub below : ℕ → List ℕ → Option Part → ℕ → Option Part
below sep m part zero = part
below sep m part (suc k) = part_in sep m part k

-- the repetition in the field, the component in that, the subcomponent in that
unfoldable pub repetition_at : List ℕ → Address → Option Part
repetition_at m a = below (get_or (delimiters_of m) 2 0) m (field_at m a) a.repetition

unfoldable pub component_at : List ℕ → Address → Option Part
component_at m a = below (get_or (delimiters_of m) 1 0) m (repetition_at m a) a.component

unfoldable pub subcomponent_at : List ℕ → Address → Option Part
subcomponent_at m a = below (get_or (delimiters_of m) 4 0) m (component_at m a) a.subcomponent

-- MSH-1 and MSH-2 are "neither split further (repetition, component and subcomponent 0 or 1 give the whole, more is
-- absent)"
abbrev pub fixed : ℕ → ℕ → Bool
fixed segment f = eqb segment 0 && leb f 2

unfoldable pub unsplit : Option Part → Address → Option Part
unsplit part a = cond (leb a.repetition 1 && (leb a.component 1 && leb a.subcomponent 1)) part None

-- where an element stands
unfoldable pub element_at : List ℕ → Address → Option Part
element_at m a = cond (fixed a.segment a.field) (unsplit (field_at m a) a) (subcomponent_at m a)
