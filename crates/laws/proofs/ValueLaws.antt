-- What holds of numbers and times by their definitions: the calendar, and the number that digits say. Assumes nothing.
use mathlib.Core.Path.{◌≡◌, refl, sym, ap, ◌∙◌}
use mathlib.Core.List.{List, [], ◌∷◌, ◌++◌}
use mathlib.Core.Bool.{Bool, true, false, cond, ◌&&◌}
use Prim.Native.Nat.{ℕ, ◌+◌, ◌-◌, ◌*◌, ◌≤◌}
use lib.IntN.{pos}
use Rattle.std.specs.Prelude.{Some}
use Rattle.alphabet.specs.Bytes.{from_to}
use Rattle.alphabet.specs.Digits.{counted, decimal}
use Rattle.alphabet.proofs.BoolLaws.{and_both, from_to_lem}
use Rattle.alphabet.proofs.DigitLaws.{counted_append}
use Rattle.numbers.specs.Numbers.{signed}
use Rattle.calendar.specs.Calendar.{in_range, number_in, leap, days_in, valid_date}
use Rattle.calendar.specs.declared.figures.Date.{Date}

-- ---- the calendar

-- the day of a date that is accepted exists in its month and year
pub day_exists : (d : Date) (n : ℕ) → valid_date d ≡ true → d.day ≡ Some n → (1 ≤ n) × (n ≤ days_in (number_in d.year) (number_in d.month))
unfolding valid_date
day_exists d n e q =
    let b = (and_both (in_range 1 12 d.month) _ (and_both (in_range 1 9999 d.year) _ e).1).1 in
    from_to_lem 1 (days_in (number_in d.year) (number_in d.month)) n (ap (in_range 1 (days_in (number_in d.year) (number_in d.month))) (sym q) ∙ b)

pub month_exists : (d : Date) (n : ℕ) → valid_date d ≡ true → d.month ≡ Some n → (1 ≤ n) × (n ≤ 12)
unfolding valid_date
month_exists d n e q =
    let b = (and_both (in_range 1 12 d.month) _ (and_both (in_range 1 9999 d.year) _ e).1).0 in
    from_to_lem 1 12 n (ap (in_range 1 12) (sym q) ∙ b)

-- 29 February exists exactly in the leap years of the Gregorian rule
pub leap_day : (year : ℕ) → valid_date (record { year = Some year; month = Some 2; day = Some 29 }) ≡ (from_to 1 9999 year && leap year)
unfolding valid_date
leap_day year = ap (λ (t : Bool). from_to 1 9999 year && t) (at (leap year))
  where
    at : (t : Bool) → from_to 1 (cond t 29 28) 29 ≡ t
    at true = refl
    at false = refl

-- ---- the number that digits say

-- one digit more is ten times the number and the digit
pub digit_more : (l : List ℕ) (d : ℕ) → decimal (l ++ d ∷ []) ≡ decimal l * 10 + (d - 48)
unfolding counted
digit_more l d = counted_append 0 l (d ∷ [])

-- minus zero is zero
pub minus_zero : signed true 0 ≡ pos 0
minus_zero = refl
