-- The four states of an element, by document 01, 'Elements'. The delimiters are the list of the five.
use Rattle.std.specs.Prelude.{ℕ, List, Bool, true, false, cond, not, ◌||◌, length, get_or, eqb}
use Rattle.alphabet.specs.Lists.{first}
use Rattle.alphabet.specs.Bytes.{is_null}
use Rattle.element.specs.declared.states.State.{State}
use Rattle.element.specs.declared.states.State.TheVariants.{Absent, Empty, Null, Present}

-- a component, repetition or subcomponent separator
abbrev pub blank : List ℕ → ℕ → Bool
blank ds b = eqb b (get_or ds 1 0) || (eqb b (get_or ds 2 0) || eqb b (get_or ds 4 0))

-- "empty, no bytes or only component, subcomponent or repetition separators": no byte that is none of them
abbrev pub is_empty : List ℕ → List ℕ → Bool
is_empty ds bytes = eqb (first (λ (b : ℕ). not (blank ds b)) bytes) (length bytes)

-- "null, exactly `""`" is `is_null`; "present, anything else"
unfoldable pub state_of : List ℕ → List ℕ → State
state_of ds bytes = cond (is_null bytes) Null (cond (is_empty ds bytes) Empty Present)

-- whether there is something to read: neither absent nor empty nor null
abbrev pub is_present : State → Bool
is_present Absent = false
is_present Empty = false
is_present Null = false
is_present Present = true
