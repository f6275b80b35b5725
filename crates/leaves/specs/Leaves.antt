-- Every leaf of a message: each subcomponent of each component of each repetition of each field of each segment, with
-- its address, its state and where it stands; and these as rows of numbers. "Each level splits the part above it at its
-- own separator", here all of them.
use Rattle.std.specs.Prelude.{ℕ, ◌+◌, ◌/◌, List, [], ◌∷◌, ◌++◌, cond, length, get_or, eqb, ltb, Ok, Err}
use Rattle.alphabet.specs.Answers.{Check, fails_if, in_order}
use Rattle.alphabet.specs.Filling.{over}
use Rattle.alphabet.specs.Parts.{split}
use Rattle.alphabet.specs.declared.answers.Refusal.TheVariants.{NoRoom}
use Rattle.reading.specs.Segments.{segments, delimiters_of}
use Rattle.reading.specs.Reading.{reading}
use Rattle.element.specs.States.{state_of}
use Rattle.element.specs.declared.address.Address.{Address}
use Rattle.element.specs.declared.states.State.{State}
use Rattle.element.specs.declared.Element.{Element}

-- an element that is split no further, and its full address
pub record Leaf : Type 0 where
  pub address : Address
  pub element : Element

abbrev pub addressed : ℕ → ℕ → ℕ → ℕ → ℕ → Address
addressed s f r c u = record { segment = s; field = f; repetition = r; component = c; subcomponent = u }

-- the leaf at an address whose bytes begin at `at`; ds are the delimiters
abbrev pub leaf_at : List ℕ → Address → ℕ → List ℕ → Leaf
leaf_at ds a at bytes = record { address = a; element = record { state = state_of ds bytes; start = at; end = at + length bytes } }

-- the leaves of each of some parts, one after another: the parts have the numbers k, k + 1 and so on, the first begins
-- at `at`, and one byte stands between each and the next
unfoldable pub each : (ℕ → ℕ → List ℕ → List Leaf) → ℕ → ℕ → List (List ℕ) → List Leaf
each inner k at [] = []
each inner k at (p ∷ ps) = inner k at p ++ each inner (k + 1) (at + length p + 1) ps

-- of a component: its subcomponents; of a repetition: those of its components; of a field: those of its repetitions
abbrev pub subcomponent_leaf : List ℕ → ℕ → ℕ → ℕ → ℕ → ℕ → ℕ → List ℕ → List Leaf
subcomponent_leaf ds s f r c u at bytes = leaf_at ds (addressed s f r c u) at bytes ∷ []

unfoldable pub in_component : List ℕ → ℕ → ℕ → ℕ → ℕ → ℕ → List ℕ → List Leaf
in_component ds s f r c at bytes = each (subcomponent_leaf ds s f r c) 1 at (split (get_or ds 4 0) bytes)

unfoldable pub in_repetition : List ℕ → ℕ → ℕ → ℕ → ℕ → List ℕ → List Leaf
in_repetition ds s f r at bytes = each (in_component ds s f r) 1 at (split (get_or ds 1 0) bytes)

unfoldable pub in_field : List ℕ → ℕ → ℕ → ℕ → List ℕ → List Leaf
in_field ds s f at bytes = each (in_repetition ds s f) 1 at (split (get_or ds 2 0) bytes)

-- MSH is counted from the separator itself: behind the name stands field 1, the separator byte, and neither it nor
-- field 2 is split
abbrev pub header_part : List ℕ → ℕ → ℕ → List ℕ → List Leaf
header_part ds f at bytes =
    cond (eqb f 1) (leaf_at ds (addressed 0 1 1 1 1) 3 (get_or ds 0 0 ∷ []) ∷ [])
    (cond (eqb f 2) (leaf_at ds (addressed 0 2 1 1 1) at bytes ∷ []) (in_field ds 0 f at bytes))

-- elsewhere part 0 is the name, which is no leaf, and part f is field f
unfoldable pub in_part : List ℕ → ℕ → ℕ → ℕ → List ℕ → List Leaf
in_part ds s f at bytes = cond (eqb s 0) (header_part ds f at bytes) (cond (eqb f 0) [] (in_field ds s f at bytes))

unfoldable pub in_segment : List ℕ → ℕ → ℕ → List ℕ → List Leaf
in_segment ds s at bytes = each (in_part ds s) (cond (eqb s 0) 1 0) at (split (get_or ds 0 0) bytes)

-- of a message: those of its segments, in its own order
unfoldable pub leaves_of : List ℕ → List Leaf
leaves_of m = each (in_segment (delimiters_of m)) 0 0 (segments m)

-- ---- as numbers

abbrev pub state_number : State → ℕ
state_number State.Absent = 0
state_number State.Empty = 1
state_number State.Null = 2
state_number State.Present = 3

-- "segment, field, repetition, component, subcomponent, state, start, end"
abbrev pub row : Leaf → List ℕ
row l =
    l.address.segment ∷ l.address.field ∷ l.address.repetition ∷ l.address.component ∷ l.address.subcomponent
    ∷ state_number l.element.state ∷ l.element.start ∷ l.element.end ∷ []

unfoldable pub rows : List Leaf → List ℕ
rows [] = []
rows (l ∷ ls) = row l ++ rows ls

-- a reading fault, then 14 where the buffer has not eight numbers for each byte of the message
unfoldable pub listing : List ℕ → ℕ → Check
listing m room = in_order (reading m ∷ fails_if (ltb (room / 8) (length m)) NoRoom 0 ∷ [])

-- the buffer afterwards: the rows fill its front; a refusal writes nothing
abbrev pub filled : Check → List Leaf → List ℕ → List ℕ
filled (Ok _) ls d = over (rows ls) d
filled (Err fault) ls d = d
