-- The answer to a question for an element, by document 01, 'Elements': "Lookup: a reading fault, 19".
use Rattle.std.specs.Prelude.{ℕ, List, [], ◌∷◌, Bool, true, false, cond, ◌&&◌, leb, length, None, Some, Ok, Err, Option}
use Rattle.alphabet.specs.Answers.{Refusable, fails_if, in_order, given, Check}
use Rattle.alphabet.specs.declared.answers.Refusal.{Refusal}
use Rattle.alphabet.specs.declared.parts.Part.{Part}
use Rattle.reading.specs.Segments.{delimiters_of, segment_at}
use Rattle.reading.specs.Reading.{reading}
use Rattle.element.specs.Addresses.{address_check}
use Rattle.element.specs.States.{state_of}
use Rattle.element.specs.Levels.{between, element_at}
use Rattle.element.specs.declared.address.Address.{Address}
use Rattle.element.specs.declared.states.State.{State}
use Rattle.element.specs.declared.Element.{Element}

abbrev pub is_absent : Option Part → Bool
is_absent None = true
is_absent (Some part) = false

-- "a reading fault, 19": 19 is "bad address, or no such segment"
unfoldable pub lookup_check : List ℕ → Address → Check
lookup_check m a = in_order (reading m ∷ address_check a ∷ fails_if (is_absent (segment_at m a.segment)) Refusal.Address 0 ∷ [])

-- an absent element stands nowhere
abbrev pub nowhere : Element
nowhere = record { state = State.Absent; start = 0; end = 0 }

-- the element at a part of the message
abbrev pub element_in : List ℕ → Option Part → Element
element_in m None = nowhere
element_in m (Some part) = record { state = state_of (delimiters_of m) (between m part.start part.end); start = part.start; end = part.end }

unfoldable pub element_of : List ℕ → Address → Element
element_of m a = element_in m (element_at m a)

-- the refusal, or the element
unfoldable pub found : List ℕ → Address → Refusable Element
found m a = given (lookup_check m a) (element_of m a)

-- the element of an answer; what is refused stands nowhere
abbrev pub element_found : Refusable Element → Element
element_found (Ok e) = e
element_found (Err _) = nowhere

-- "shows the part of the message where it stands"
unfoldable pub bytes_at : List ℕ → Element → List ℕ
bytes_at m e = cond (leb e.start e.end && leb e.end (length m)) (between m e.start e.end) []

abbrev pub element_bytes : List ℕ → Address → List ℕ
element_bytes m a = bytes_at m (element_found (found m a))

-- ---- raw, for judges that have read the message already

-- the bytes of a part of the message
abbrev pub part_bytes : List ℕ → Option Part → List ℕ
part_bytes m None = []
part_bytes m (Some part) = between m part.start part.end

-- "raw": the bytes at an address, for which no fault is looked for; none where nothing stands. Four bytes have a field
-- separator
unfoldable pub raw_bytes : List ℕ → Address → List ℕ
raw_bytes m a = cond (leb 4 (length m)) (part_bytes m (element_at m a)) []
