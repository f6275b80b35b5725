-- What each state says of the bytes of an element that is there, by document 01, 'Elements', without the tests that
-- tell the states apart and without their order. `ds` are the five delimiters as the message has them: field,
-- component, repetition, escape, subcomponent.
use Rattle.std.specs.Prelude.{◌≡◌, List, [], ◌∷◌, ℕ, ◌<◌, length, get_or}
use Rattle.element.specs.declared.states.State.{State}
use Rattle.element.specs.declared.states.State.TheVariants.{Empty, Null, Present}

-- "component, subcomponent or repetition separators"
pub data Separator (ds : List ℕ) (b : ℕ) : Type 0 where
  component : b ≡ get_or ds 1 0 → Separator ds b
  subcomponent : b ≡ get_or ds 4 0 → Separator ds b
  repetition : b ≡ get_or ds 2 0 → Separator ds b

-- "no bytes or only component, subcomponent or repetition separators": each byte that there is
abbrev pub OnlySeparators : List ℕ → List ℕ → Type 0
OnlySeparators ds bytes = (i : ℕ) → i < length bytes → Separator ds (get_or bytes i 0)

-- "exactly `""`"
abbrev pub TwoQuotes : List ℕ → Type 0
TwoQuotes bytes = bytes ≡ 34 ∷ 34 ∷ []

-- exactly one of the three: "null", "empty", "present, anything else"
pub data Means (ds bytes : List ℕ) : State → Type 0 where
  null : TwoQuotes bytes → Means ds bytes Null
  empty : (TwoQuotes bytes → ⊥) → OnlySeparators ds bytes → Means ds bytes Empty
  present : (TwoQuotes bytes → ⊥) → (OnlySeparators ds bytes → ⊥) → Means ds bytes Present
