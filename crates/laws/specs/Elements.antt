-- What document 01, 'Elements', says of an address and of the parts of a segment, a second time: by rules and on lists
-- of parts, so that the definitions that look for an element's place are not their own meaning.
use Rattle.std.specs.Prelude.{◌≡◌, cond, List, [], ◌∷◌, ℕ, ◌+◌, ◌-◌, ◌≤◌, ◌<◌, eqb, length, get_or, take}
use Rattle.alphabet.specs.Parts.{split}
use Rattle.reading.specs.Message.{ended}
use Rattle.reading.specs.Segments.{delimiters_of, field_separator, segments}
use Rattle.element.specs.declared.address.Address.{Address}

-- ---- addresses

-- segment, field, repetition, component and subcomponent
abbrev pub address : ℕ → ℕ → ℕ → ℕ → ℕ → Address
address s f r c u = record { segment = s; field = f; repetition = r; component = c; subcomponent = u }

-- "An element is asked for by segment (from 0), field (from 1), repetition, component, subcomponent (from 1; 0 means
-- the whole, and after a 0 only 0 may stand)."
pub data Asks : Address → Type 0 where
  whole_field : (s f : ℕ) → 1 ≤ f → Asks (address s f 0 0 0)
  whole_repetition : (s f r : ℕ) → 1 ≤ f → 1 ≤ r → Asks (address s f r 0 0)
  whole_component : (s f r c : ℕ) → 1 ≤ f → 1 ≤ r → 1 ≤ c → Asks (address s f r c 0)
  subcomponent : (s f r c u : ℕ) → 1 ≤ f → 1 ≤ r → 1 ≤ c → 1 ≤ u → Asks (address s f r c u)

-- ---- the parts of each level

-- "Each level splits the part above it at its own separator"; "0 means the whole"
abbrev pub level : ℕ → ℕ → List ℕ → List ℕ
level sep number bytes = cond (eqb number 0) bytes (get_or (split sep bytes) (number - 1) [])

abbrev pub segment_bytes : List ℕ → Address → List ℕ
segment_bytes m a = get_or (segments m) a.segment []

-- which part of its segment a field is, from 0: part 0 is the name, and MSH's fields are counted from the separator
-- itself
abbrev pub field_place : Address → ℕ
field_place a = cond (eqb a.segment 0) (a.field - 1) a.field

abbrev pub field_bytes : List ℕ → Address → List ℕ
field_bytes m a = get_or (split (field_separator m) (segment_bytes m a)) (field_place a) []

abbrev pub repetition_bytes : List ℕ → Address → List ℕ
repetition_bytes m a = level (get_or (delimiters_of m) 2 0) a.repetition (field_bytes m a)

abbrev pub component_bytes : List ℕ → Address → List ℕ
component_bytes m a = level (get_or (delimiters_of m) 1 0) a.component (repetition_bytes m a)

-- down to the subcomponent
abbrev pub levels : List ℕ → Address → List ℕ
levels m a = level (get_or (delimiters_of m) 4 0) a.subcomponent (component_bytes m a)

-- ---- where they begin

-- the bytes of some parts, each with the separator behind it
unfoldable pub spanned : List (List ℕ) → ℕ
spanned [] = 0
spanned (p ∷ ps) = length p + 1 + spanned ps

-- "splits the part above it at its own separator": before part k, from 0, stand the parts of lower number, each with
-- its separator
abbrev pub before : ℕ → ℕ → List ℕ → ℕ
before sep k bytes = spanned (take k (split sep bytes))

-- "(from 1; 0 means the whole": the whole begins where the part above does
abbrev pub before_level : ℕ → ℕ → List ℕ → ℕ
before_level sep number bytes = cond (eqb number 0) 0 (before sep (number - 1) bytes)

-- "Each segment, the last included, ends with CR": the segments before this one, each with its CR
abbrev pub segment_start : List ℕ → Address → ℕ
segment_start m a = length (ended (take a.segment (segments m)))

abbrev pub field_start : List ℕ → Address → ℕ
field_start m a = segment_start m a + before (field_separator m) (field_place a) (segment_bytes m a)

abbrev pub repetition_start : List ℕ → Address → ℕ
repetition_start m a = field_start m a + before_level (get_or (delimiters_of m) 2 0) a.repetition (field_bytes m a)

abbrev pub component_start : List ℕ → Address → ℕ
component_start m a = repetition_start m a + before_level (get_or (delimiters_of m) 1 0) a.component (repetition_bytes m a)

-- "the part of the message where it stands": its first byte, and behind it those of `levels`
abbrev pub start_of : List ℕ → Address → ℕ
start_of m a = component_start m a + before_level (get_or (delimiters_of m) 4 0) a.subcomponent (component_bytes m a)

-- ---- past the last part

-- "absent, past the last part": some level has fewer parts than the number asked for. "An absent [part splits] into
-- none": below it all is absent
pub data Past (m : List ℕ) (a : Address) : Type 0 where
  no_field : length (split (field_separator m) (segment_bytes m a)) ≤ field_place a → Past m a
  no_repetition : length (split (get_or (delimiters_of m) 2 0) (field_bytes m a)) < a.repetition → Past m a
  no_component : length (split (get_or (delimiters_of m) 1 0) (repetition_bytes m a)) < a.component → Past m a
  no_subcomponent : length (split (get_or (delimiters_of m) 4 0) (component_bytes m a)) < a.subcomponent → Past m a

-- ---- the first two fields of MSH

-- all fields but MSH-1 and MSH-2
abbrev pub SplitFurther : Address → Type 0
SplitFurther a = a.segment ≡ 0 → 3 ≤ a.field

-- "repetition, component and subcomponent 0 or 1"
abbrev pub NoneBeyondOne : Address → Type 0
NoneBeyondOne a = (a.repetition ≤ 1) × (a.component ≤ 1) × (a.subcomponent ≤ 1)
