-- DT, TM and TS, by document 01, 'Numbers and times': "A time keeps how much was sent; a month not sent is not month
-- 0."
use Rattle.std.specs.Prelude.{ℕ, ◌+◌, ◌-◌, List, Bool, true, false, cond, ◌&&◌, leb, eqb, length, get_or, take, drop, Option, None, Some, Result, Ok, Err}
use Rattle.alphabet.specs.Bytes.{byte_of}
use Rattle.alphabet.specs.Digits.{decimal}
use Rattle.alphabet.specs.declared.answers.Refusal.{Refusal}
use Rattle.alphabet.specs.declared.answers.Refusal.TheVariants.{BreaksForm}
use Rattle.calendar.specs.Calendar.{no_date, no_clock, valid_time}
use Rattle.calendar.specs.declared.figures.Sign.{Sign}
use Rattle.calendar.specs.declared.figures.Date.{Date}
use Rattle.calendar.specs.declared.figures.Fraction.{Fraction}
use Rattle.calendar.specs.declared.figures.Clock.{Clock}
use Rattle.calendar.specs.declared.figures.Offset.{Offset}
use Rattle.calendar.specs.declared.figures.Time.{Time}
use Rattle.forms.specs.Forms.{dt_form, layout_of, front_of, tail_of, zone_of, time_form}
use Rattle.forms.specs.declared.layouts.Form.{Form}
use Rattle.forms.specs.declared.layouts.Form.TheVariants.{Tm, Ts}

-- ---- what was sent

-- the figure of `width` digits from place `start` on, if they were sent
unfoldable pub figure_at : List ℕ → ℕ → ℕ → Option ℕ
figure_at digits start width =
    cond (leb (start + width) (length digits)) (Some (decimal (take width (drop start digits)))) None

-- "YYYY[MM[DD"
unfoldable pub date_of : List ℕ → Date
date_of digits = record { year = figure_at digits 0 4; month = figure_at digits 4 2; day = figure_at digits 6 2 }

-- "[.S to .SSSS]": the point and the digits behind it, as a number with their count
unfoldable pub fraction_of : List ℕ → Option Fraction
fraction_of tail =
    cond (eqb (length tail) 0) None (Some (record { value = decimal (drop 1 tail); digits = length tail - 1 }))

-- "HH[MM[SS": from place `start` of the digits on
unfoldable pub clock_of : List ℕ → ℕ → List ℕ → Clock
clock_of digits start tail =
    record {
      hour = figure_at digits start 2;
      minute = figure_at digits (start + 2) 2;
      second = figure_at digits (start + 4) 2;
      fraction = fraction_of tail;
    }

-- "[+/-ZZZZ]": the sign, hours and minutes apart
unfoldable pub offset_of : List ℕ → Option Offset
offset_of zone =
    cond (eqb (length zone) 0) None
    (Some (record {
      sign = cond (eqb (get_or zone 0 0) (byte_of "-")) Sign.Minus Sign.Plus;
      hours = decimal (take 2 (drop 1 zone));
      minutes = decimal (take 2 (drop 3 zone));
    }))

-- ---- DT: of its form, and on a day that there is

unfoldable pub dt_time : List ℕ → Time
dt_time l = record { date = date_of l; clock = no_clock; offset = None }

unfoldable pub is_dt : List ℕ → Bool
is_dt l = dt_form l && valid_time (dt_time l)

-- ---- TM and TS: of their form, and of a day, an hour and an offset that there are

abbrev pub date_in : Form → List ℕ → Date
date_in form front = cond (layout_of form).dated (date_of front) no_date

-- the time that front, tail and zone say
abbrev pub parts_time : Form → List ℕ → List ℕ → List ℕ → Time
parts_time form front tail zone =
    record { date = date_in form front; clock = clock_of front (layout_of form).clock tail; offset = offset_of zone }

unfoldable pub time_of : Form → List ℕ → Time
time_of form l = parts_time form (front_of l) (tail_of l) (zone_of l)

unfoldable pub is_time : Form → List ℕ → Bool
is_time form l = time_form form l && valid_time (time_of form l)

abbrev pub is_tm : List ℕ → Bool
is_tm l = is_time Tm l

abbrev pub is_ts : List ℕ → Bool
is_ts l = is_time Ts l

-- ---- what is read

-- the time, or 32: "breaks its type's form"
abbrev pub time_if : Bool → Time → Result Time Refusal
time_if true time = Ok time
time_if false time = Err BreaksForm

unfoldable pub dt_read : List ℕ → Result Time Refusal
dt_read l = time_if (is_dt l) (dt_time l)

unfoldable pub time_read : Form → List ℕ → Result Time Refusal
time_read form l = time_if (is_time form l) (time_of form l)
