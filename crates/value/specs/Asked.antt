-- A number or a time asked of an element: "Asked for its number (NM, SI) or time (DT, TM, TS), an element not present
-- gives its state alone." "Lookup: a reading fault, 19, then 32 or 37."
use Rattle.std.specs.Prelude.{ℕ, List, Result, Ok, Err}
use Rattle.alphabet.specs.Answers.{Refusable, number_of}
use Rattle.alphabet.specs.declared.answers.Fault.{Fault}
use Rattle.alphabet.specs.declared.answers.Refusal.{Refusal}
use Rattle.element.specs.Finding.{found, element_bytes}
use Rattle.element.specs.declared.Element.{Element}
use Rattle.element.specs.declared.address.Address.{Address}
use Rattle.element.specs.declared.states.State.{State}
use Rattle.numbers.specs.Numbers.{nm_read, si_read}
use Rattle.numbers.specs.declared.numerals.Number.{Number}
use Rattle.calendar.specs.declared.figures.Time.{Time}
use Rattle.forms.specs.declared.layouts.Form.TheVariants.{Tm, Ts}
use Rattle.times.specs.Times.{dt_read, time_read}
use Rattle.value.specs.declared.asked.Value.{Value}
use Rattle.value.specs.declared.asked.Value.TheVariants.{Absent, Empty, Null, Present}
use Rattle.value.specs.declared.asked.NoValue.{NoValue}
use Rattle.value.specs.declared.asked.NoValue.TheVariants.{NotFound, NotSaid}

-- what was asked of an element: its state and its value, or why there is no answer
abbrev pub Asked : Type 0 → Type 0
Asked T = Result (Value T) NoValue

-- of an element that is present what its bytes say, and of any other its state alone
abbrev pub value_at : {T : Type 0} → State → Result T Refusal → Asked T
value_at State.Absent read = Ok Absent
value_at State.Empty read = Ok Empty
value_at State.Null read = Ok Null
value_at State.Present (Ok value) = Ok (Present value)
value_at State.Present (Err kind) = Err (NotSaid kind)

-- the same of an element that was looked up
abbrev pub asked_of : {T : Type 0} → Refusable Element → Result T Refusal → Asked T
asked_of (Ok e) read = value_at e.state read
asked_of (Err fault) read = Err (NotFound fault)

abbrev pub nm_found : List ℕ → Address → Asked Number
nm_found m a = asked_of (found m a) (nm_read (element_bytes m a))

abbrev pub si_found : List ℕ → Address → Asked Number
si_found m a = asked_of (found m a) (si_read (element_bytes m a))

abbrev pub dt_found : List ℕ → Address → Asked Time
dt_found m a = asked_of (found m a) (dt_read (element_bytes m a))

abbrev pub tm_found : List ℕ → Address → Asked Time
tm_found m a = asked_of (found m a) (time_read Tm (element_bytes m a))

abbrev pub ts_found : List ℕ → Address → Asked Time
ts_found m a = asked_of (found m a) (time_read Ts (element_bytes m a))

-- why there is no answer, as a refusal and its place
abbrev pub fault_of : NoValue → Fault
fault_of (NotFound fault) = fault
fault_of (NotSaid kind) = record { kind = kind; place = 0 }

-- the number that is given back: 0 where nothing is refused
abbrev pub number_told : {T : Type 0} → Asked T → ℕ
number_told (Ok _) = 0
number_told (Err why) = number_of (fault_of why).kind
