-- What demand 2 says of the number and the time of an element: "its number or its time"; "an element not present gives
-- its state alone".
use Rattle.std.specs.Prelude.{◌≡◌, Result, Ok, Err}
use Rattle.alphabet.specs.Answers.{Refusable}
use Rattle.alphabet.specs.declared.answers.Fault.{Fault}
use Rattle.alphabet.specs.declared.answers.Refusal.{Refusal}
use Rattle.calendar.specs.declared.figures.Time.{Time}
use Rattle.element.specs.declared.Element.{Element}
use Rattle.element.specs.declared.states.State.{State}
use Rattle.numbers.specs.declared.numerals.Number.{Number}
use Rattle.value.specs.Asked.{Asked}
use Rattle.value.specs.declared.asked.Value.TheVariants.{Absent, Empty, Null, Present}
use Rattle.value.specs.declared.asked.NoValue.TheVariants.{NotFound, NotSaid}

-- the answer of an element that is present: what its bytes spell, or why they spell nothing
abbrev pub said : {T : Type 0} → Result T Refusal → Asked T
said (Ok value) = Ok (Present value)
said (Err kind) = Err (NotSaid kind)

-- the same of a number and of a time, each part by its name
abbrev pub number_said : Result Number Refusal → Asked Number
number_said (Ok n) = Ok (Present (record { value = n.value; decimals = n.decimals }))
number_said (Err kind) = Err (NotSaid kind)

abbrev pub time_said : Result Time Refusal → Asked Time
time_said (Ok t) = Ok (Present (record { date = t.date; clock = t.clock; offset = t.offset }))
time_said (Err kind) = Err (NotSaid kind)

-- the answer of any other: its state alone, or why it was not found
pub data StateAlone {T : Type 0} : Refusable Element → Asked T → Type 0 where
  absent : (e : Element) → e.state ≡ State.Absent → StateAlone (Ok e) (Ok Absent)
  empty : (e : Element) → e.state ≡ State.Empty → StateAlone (Ok e) (Ok Empty)
  null : (e : Element) → e.state ≡ State.Null → StateAlone (Ok e) (Ok Null)
  not_found : (fault : Fault) → StateAlone (Err fault) (Err (NotFound fault))
