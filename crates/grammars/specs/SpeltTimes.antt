-- What a DT, a TM and a TS are and which time each spells, as a grammar by document 01, 'Numbers and times', so that
-- the readers of times are not their own meaning: each rule puts bytes together from its pieces, and nothing here looks
-- for a place in them.
use Rattle.alphabet.specs.declared.answers.Refusal.{Refusal}
use Rattle.std.specs.Prelude.{ℕ, ◌*◌, ◌≤◌, ◌≡◌, List, [], ◌∷◌, ◌++◌, Some, None, Result, Ok, Err, Option}
use Rattle.alphabet.specs.Bytes.{byte_of}
use Rattle.alphabet.specs.declared.answers.Refusal.TheVariants.{BreaksForm}
use Rattle.calendar.specs.declared.figures.Sign.{Sign}
use Rattle.calendar.specs.declared.figures.Date.{Date}
use Rattle.calendar.specs.declared.figures.Clock.{Clock}
use Rattle.calendar.specs.declared.figures.Offset.{Offset}
use Rattle.calendar.specs.declared.figures.Time.{Time}
use Rattle.grammars.specs.Spelt.{Says}

-- ---- figures

-- `width` digits that say n, from `least` to `most`
abbrev pub Numeral : ℕ → ℕ → ℕ → List ℕ → ℕ → Type 0
Numeral width least most l n = Says width l n × (least ≤ n) × (n ≤ most)

-- "Years 0001 to 9999"
abbrev pub Year : List ℕ → ℕ → Type 0
Year = Numeral 4 1 9999

abbrev pub Month : List ℕ → ℕ → Type 0
Month = Numeral 2 1 12

-- the days of a month that has so many
abbrev pub Day : ℕ → List ℕ → ℕ → Type 0
Day last = Numeral 2 1 last

-- "hours 00-23, minutes and seconds 00-59"
abbrev pub Hour : List ℕ → ℕ → Type 0
Hour = Numeral 2 0 23

abbrev pub Minute : List ℕ → ℕ → Type 0
Minute = Numeral 2 0 59

abbrev pub Second : List ℕ → ℕ → Type 0
Second = Numeral 2 0 59

-- "offset hours 00-14 and offset minutes 00-59"
abbrev pub OffsetHour : List ℕ → ℕ → Type 0
OffsetHour = Numeral 2 0 14

abbrev pub OffsetMinute : List ℕ → ℕ → Type 0
OffsetMinute = Numeral 2 0 59

-- ---- the calendar

-- some number of times d is n
abbrev pub Divides : ℕ → ℕ → Type 0
Divides d n = (times : ℕ) × (times * d ≡ n)

-- "Gregorian leap rule": 4 divides the year, and where 100 does, 400 does too
pub record Leap (year : ℕ) : Type 0 where
  pub fours : Divides 4 year
  pub centuries : Divides 100 year → Divides 400 year

-- each month of a year by its number, and its last day
pub data LastDay (year : ℕ) : ℕ → ℕ → Type 0 where
  january : LastDay year 1 31
  february : (Leap year → ⊥) → LastDay year 2 28
  leap_february : Leap year → LastDay year 2 29
  march : LastDay year 3 31
  april : LastDay year 4 30
  may : LastDay year 5 31
  june : LastDay year 6 30
  july : LastDay year 7 31
  august : LastDay year 8 31
  september : LastDay year 9 30
  october : LastDay year 10 31
  november : LastDay year 11 30
  december : LastDay year 12 31

-- ---- nothing was sent: "a month not sent is not month 0"

abbrev pub date_not_sent : Date
date_not_sent = record { year = None; month = None; day = None }

abbrev pub clock_not_sent : Clock
clock_not_sent = record { hour = None; minute = None; second = None; fraction = None }

-- ---- the pieces of a time: "A time keeps how much was sent"

-- "YYYYMMDD": a whole date, on a day that its month has in its year
pub data SpeltDay : List ℕ → Date → Type 0 where
  day : {yyyy mm dd : List ℕ} {y m d last : ℕ} → Year yyyy y → Month mm m → LastDay y m last → Day last dd d
      → SpeltDay (yyyy ++ (mm ++ dd)) (record { year = Some y; month = Some m; day = Some d })

-- "YYYY[MM[DD]]"
pub data SpeltDate : List ℕ → Date → Type 0 where
  to_year : {yyyy : List ℕ} {y : ℕ} → Year yyyy y → SpeltDate yyyy (record { year = Some y; month = None; day = None })
  to_month : {yyyy mm : List ℕ} {y m : ℕ} → Year yyyy y → Month mm m → SpeltDate (yyyy ++ mm) (record { year = Some y; month = Some m; day = None })
  to_day : {l : List ℕ} {d : Date} → SpeltDay l d → SpeltDate l d

-- "HHMM[SS[.S to .SSSS]]": the fraction is the number behind it with the count of its digits
pub data SpeltMinutes : List ℕ → Clock → Type 0 where
  to_minute : {hh mm : List ℕ} {h m : ℕ} → Hour hh h → Minute mm m
      → SpeltMinutes (hh ++ mm) (record { hour = Some h; minute = Some m; second = None; fraction = None })
  to_second : {hh mm ss : List ℕ} {h m s : ℕ} → Hour hh h → Minute mm m → Second ss s
      → SpeltMinutes (hh ++ (mm ++ ss)) (record { hour = Some h; minute = Some m; second = Some s; fraction = None })
  to_fraction : {hh mm ss behind : List ℕ} {h m s f count : ℕ} → Hour hh h → Minute mm m → Second ss s → Says count behind f → 1 ≤ count → count ≤ 4
      → SpeltMinutes (hh ++ (mm ++ (ss ++ (byte_of "." ∷ behind)))) (record { hour = Some h; minute = Some m; second = Some s; fraction = Some (record { value = f; digits = count }) })

-- "HH[MM[SS[.S to .SSSS]]]"
pub data SpeltClock : List ℕ → Clock → Type 0 where
  to_hour : {hh : List ℕ} {h : ℕ} → Hour hh h → SpeltClock hh (record { hour = Some h; minute = None; second = None; fraction = None })
  beyond : {l : List ℕ} {c : Clock} → SpeltMinutes l c → SpeltClock l c

-- "[+/-ZZZZ]": which of the signs was sent is kept, also before 0000
pub data SpeltOffset : List ℕ → Option Offset → Type 0 where
  nothing : SpeltOffset [] None
  plus : {hh mm : List ℕ} {h m : ℕ} → OffsetHour hh h → OffsetMinute mm m → SpeltOffset (byte_of "+" ∷ (hh ++ mm)) (Some (record { sign = Sign.Plus; hours = h; minutes = m }))
  minus : {hh mm : List ℕ} {h m : ℕ} → OffsetHour hh h → OffsetMinute mm m → SpeltOffset (byte_of "-" ∷ (hh ++ mm)) (Some (record { sign = Sign.Minus; hours = h; minutes = m }))

-- ---- the three types

-- "DT: YYYY[MM[DD]]."
pub data Dt : List ℕ → Time → Type 0 where
  dt : {l : List ℕ} {d : Date} → SpeltDate l d → Dt l (record { date = d; clock = clock_not_sent; offset = None })

-- "TM: HH[MM[SS[.S to .SSSS]]][+/-ZZZZ]."
pub data Tm : List ℕ → Time → Type 0 where
  tm : {l z : List ℕ} {c : Clock} {o : Option Offset} → SpeltClock l c → SpeltOffset z o → Tm (l ++ z) (record { date = date_not_sent; clock = c; offset = o })

-- "TS: YYYY[MM[DD[HHMM[SS[.S to .SSSS]]]]][+/-ZZZZ]." Hours stand behind a day alone, and never without minutes
pub data Ts : List ℕ → Time → Type 0 where
  date_alone : {l z : List ℕ} {d : Date} {o : Option Offset} → SpeltDate l d → SpeltOffset z o → Ts (l ++ z) (record { date = d; clock = clock_not_sent; offset = o })
  date_and_clock : {l k z : List ℕ} {d : Date} {c : Clock} {o : Option Offset} → SpeltDay l d → SpeltMinutes k c → SpeltOffset z o
      → Ts (l ++ (k ++ z)) (record { date = d; clock = c; offset = o })

-- ---- what a reader has to answer: the time that the bytes spell, or that they break their type's form, where they spell none

pub data Answers (Form : List ℕ → Time → Type 0) (l : List ℕ) : Result Time Refusal → Type 0 where
  says : {t : Time} → Form l t → Answers Form l (Ok t)
  breaks : ((t : Time) → Form l t → ⊥) → Answers Form l (Err BreaksForm)

abbrev pub DtSays : List ℕ → Result Time Refusal → Type 0
DtSays = Answers Dt

abbrev pub TmSays : List ℕ → Result Time Refusal → Type 0
TmSays = Answers Tm

abbrev pub TsSays : List ℕ → Result Time Refusal → Type 0
TsSays = Answers Ts
