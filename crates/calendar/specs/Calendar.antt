-- What was sent of a time, and what may stand there, by document 01, 'Numbers and times': "A time keeps how much was
-- sent; a month not sent is not month 0."
use Rattle.std.specs.Prelude.{ℕ, ◌%◌, Bool, true, cond, not, ◌&&◌, ◌||◌, leb, eqb, Option, None, Some, unwrap_or}
use Rattle.alphabet.specs.Bytes.{from_to}
use Rattle.calendar.specs.declared.figures.Date.{Date}
use Rattle.calendar.specs.declared.figures.Clock.{Clock}
use Rattle.calendar.specs.declared.figures.Offset.{Offset}
use Rattle.calendar.specs.declared.figures.Time.{Time}

-- ---- nothing was sent

abbrev pub no_date : Date
no_date = record { year = None; month = None; day = None }

abbrev pub no_clock : Clock
no_clock = record { hour = None; minute = None; second = None; fraction = None }

-- ---- what may stand there

abbrev pub in_range : ℕ → ℕ → Option ℕ → Bool
in_range least most None = true
in_range least most (Some n) = from_to least most n

abbrev pub number_in : Option ℕ → ℕ
number_in figure = unwrap_or figure 0

-- "Gregorian leap rule"
abbrev pub leap : ℕ → Bool
leap year = eqb (year % 4) 0 && (not (eqb (year % 100) 0) || eqb (year % 400) 0)

abbrev pub days_in : ℕ → ℕ → ℕ
days_in year month =
    cond (eqb month 2) (cond (leap year) 29 28)
    (cond (eqb month 4 || (eqb month 6 || (eqb month 9 || eqb month 11))) 30 31)

-- "Years 0001 to 9999"
unfoldable pub valid_date : Date → Bool
valid_date d =
    in_range 1 9999 d.year
    && (in_range 1 12 d.month && in_range 1 (days_in (number_in d.year) (number_in d.month)) d.day)

-- "hours 00-23, minutes and seconds 00-59"
unfoldable pub valid_clock : Clock → Bool
valid_clock c = in_range 0 23 c.hour && (in_range 0 59 c.minute && in_range 0 59 c.second)

-- "offset hours 00-14 and offset minutes 00-59"
abbrev pub valid_offset : Option Offset → Bool
valid_offset None = true
valid_offset (Some o) = leb o.hours 14 && leb o.minutes 59

abbrev pub valid_time : Time → Bool
valid_time t = valid_date t.date && (valid_clock t.clock && valid_offset t.offset)
