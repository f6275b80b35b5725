-- Elements, numbers, times and segments as C sees them: a refusal by its number in the table, a state and a sign by a
-- number each.
use Rattle.std.specs.Prelude.{ℕ, Option, None, Some, Ok, Err, pos, unwrap_or}
use Rattle.alphabet.specs.Answers.{Refusable, number_of}
use Rattle.element.specs.declared.Element.{Element}
use Rattle.element.specs.declared.address.Address.{Address}
use Rattle.element.specs.declared.states.State.{State}
use Rattle.calendar.specs.Calendar.{no_date, no_clock}
use Rattle.calendar.specs.declared.figures.Date.{Date}
use Rattle.calendar.specs.declared.figures.Fraction.{Fraction}
use Rattle.calendar.specs.declared.figures.Clock.{Clock}
use Rattle.calendar.specs.declared.figures.Offset.{Offset}
use Rattle.calendar.specs.declared.figures.Sign.{Sign}
use Rattle.calendar.specs.declared.figures.Time.{Time}
use Rattle.numbers.specs.declared.numerals.Number.{Number}
use Rattle.value.specs.Asked.{Asked, fault_of}
use Rattle.value.specs.declared.asked.Value.{Value}
use Rattle.value.specs.declared.asked.NoValue.{NoValue}
use Rattle.segments.specs.declared.Segment.{Segment}
use Rattle.seen.specs.declared.segment.CSegment.{CSegment}
use Rattle.seen.specs.declared.elements.CDate.{CDate}
use Rattle.seen.specs.declared.elements.CClock.{CClock}
use Rattle.seen.specs.declared.elements.COffset.{COffset}
use Rattle.seen.specs.declared.elements.CElement.{CElement}
use Rattle.seen.specs.declared.elements.CNumber.{CNumber}
use Rattle.seen.specs.declared.elements.CTime.{CTime}

abbrev pub state_seen : State → ℕ
state_seen State.Absent = 0
state_seen State.Empty = 1
state_seen State.Null = 2
state_seen State.Present = 3

-- no figure of a time is as large
abbrev pub not_sent : ℕ
not_sent = 18446744073709551615

abbrev pub figure_seen : Option ℕ → ℕ
figure_seen figure = unwrap_or figure not_sent

abbrev pub sign_seen : Sign → ℕ
sign_seen Sign.Plus = 1
sign_seen Sign.Minus = 2

abbrev pub address_of : ℕ → ℕ → ℕ → ℕ → ℕ → Address
address_of s f r c b = record { segment = s; field = f; repetition = r; component = c; subcomponent = b }

-- what is refused stands nowhere
abbrev pub element_seen : Refusable Element → CElement
element_seen (Ok e) = record { number = 0; state = state_seen e.state; place = 0; start = e.start; end = e.end }
element_seen (Err f) = record { number = number_of f.kind; state = state_seen State.Absent; place = f.place; start = 0; end = 0 }

-- ---- an element that was asked for its value

-- the state of a value
abbrev pub value_state : {T : Type 0} → Value T → State
value_state Value.Absent = State.Absent
value_state Value.Empty = State.Empty
value_state Value.Null = State.Null
value_state (Value.Present value) = State.Present

-- where there is no answer: an element that was not found has no state, one whose bytes say no such value is present
abbrev pub no_value_state : NoValue → State
no_value_state (NoValue.NotFound fault) = State.Absent
no_value_state (NoValue.NotSaid kind) = State.Present

abbrev pub state_told : {T : Type 0} → Asked T → State
state_told (Ok value) = value_state value
state_told (Err why) = no_value_state why

-- the refusal's number, 0 for none, and its place
abbrev pub number_told : {T : Type 0} → Asked T → ℕ
number_told (Ok value) = 0
number_told (Err why) = number_of (fault_of why).kind

abbrev pub place_told : {T : Type 0} → Asked T → ℕ
place_told (Ok value) = 0
place_told (Err why) = (fault_of why).place

-- the value that is present
abbrev pub present : {T : Type 0} → Value T → Option T
present Value.Absent = None
present Value.Empty = None
present Value.Null = None
present (Value.Present value) = Some value

abbrev pub said : {T : Type 0} → Asked T → Option T
said (Ok value) = present value
said (Err why) = None

-- "0" and "not sent" stand where there is no value
abbrev pub no_number : Number
no_number = record { value = pos 0; decimals = 0 }

abbrev pub no_time : Time
no_time = record { date = no_date; clock = no_clock; offset = None }

abbrev pub number_shown : Asked Number → Number → CNumber
number_shown f n = record { number = number_told f; state = state_seen (state_told f); place = place_told f; value = n.value; decimals = n.decimals }

abbrev pub number_seen : Asked Number → CNumber
number_seen f = number_shown f (unwrap_or (said f) no_number)

abbrev pub date_seen : Date → CDate
date_seen d = record { year = figure_seen d.year; month = figure_seen d.month; day = figure_seen d.day }

-- the fraction's number and the count of its digits, which is 0 where none was sent
abbrev pub fraction_value : Option Fraction → ℕ
fraction_value None = not_sent
fraction_value (Some f) = f.value

abbrev pub fraction_digits : Option Fraction → ℕ
fraction_digits None = 0
fraction_digits (Some f) = f.digits

abbrev pub clock_seen : Clock → CClock
clock_seen c = record {
  hour = figure_seen c.hour;
  minute = figure_seen c.minute;
  second = figure_seen c.second;
  fraction = fraction_value c.fraction;
  digits = fraction_digits c.fraction;
}

abbrev pub offset_seen : Option Offset → COffset
offset_seen None = record { sign = 0; hours = 0; minutes = 0 }
offset_seen (Some o) = record { sign = sign_seen o.sign; hours = o.hours; minutes = o.minutes }

abbrev pub time_shown : Asked Time → Time → CTime
time_shown f t = record {
  number = number_told f;
  state = state_seen (state_told f);
  place = place_told f;
  date = date_seen t.date;
  clock = clock_seen t.clock;
  offset = offset_seen t.offset;
}

abbrev pub time_seen : Asked Time → CTime
time_seen f = time_shown f (unwrap_or (said f) no_time)

-- ---- segments

abbrev pub segment_seen : Refusable Segment → CSegment
segment_seen (Ok s) = record { number = 0; name = s.name; place = 0; start = s.start; end = s.end }
segment_seen (Err f) = record { number = number_of f.kind; name = 0; place = f.place; start = 0; end = 0 }
