-- Laws of times: a time is of its form and there is such a time; and what is read, case by case. Assumes nothing.
use mathlib.Core.Path.{◌≡◌, ap, ◌∙◌}
use mathlib.Core.List.{List}
use mathlib.Core.Bool.{true, false}
use Rattle.std.specs.Prelude.{None, Err}
use Rattle.alphabet.specs.declared.answers.Refusal.TheVariants.{BreaksForm}
use Rattle.calendar.specs.declared.figures.Date.{Date}
use Rattle.calendar.specs.declared.figures.Time.{Time}
use Prim.Native.Nat.{ℕ}
use Rattle.alphabet.specs.Digits.{all_digits}
use Rattle.alphabet.proofs.BoolLaws.{and_both}
use Rattle.calendar.specs.Calendar.{no_clock, valid_time}
use Rattle.forms.specs.declared.layouts.Form.{Form}
use Rattle.forms.specs.Forms.{dt_form, time_form}
use Rattle.forms.proofs.FormLaws as form
use Rattle.times.specs.Times.{date_of, dt_time, is_dt, time_of, is_time, time_if, dt_read, time_read}

-- a DT has its form, and a TM and a TS have theirs
pub dt_formed : (l : List ℕ) → is_dt l ≡ true → dt_form l ≡ true
unfolding is_dt
dt_formed l e = (and_both (dt_form l) (valid_time (dt_time l)) e).0

pub dt_digits : (l : List ℕ) → is_dt l ≡ true → all_digits l ≡ true
dt_digits l e = form.dt_digits l (dt_formed l e)

pub time_formed : (form : Form) (l : List ℕ) → is_time form l ≡ true → time_form form l ≡ true
unfolding is_time
time_formed form l e = (and_both (time_form form l) (valid_time (time_of form l)) e).0

-- ---- what is read, case by case

pub dt_broken : (l : List ℕ) → dt_form l ≡ false → Err BreaksForm ≡ dt_read l
unfolding dt_read is_dt
dt_broken l e = rw e

pub dt_read_lem : (l : List ℕ) (date : Date) → dt_form l ≡ true → date ≡ date_of l
    → time_if (valid_time (record { date = date; clock = no_clock; offset = None })) (record { date = date; clock = no_clock; offset = None }) ≡ dt_read l
unfolding dt_read is_dt dt_time
dt_read_lem l date e q = ap (λ (d : Date). time_if (valid_time (record { date = d; clock = no_clock; offset = None })) (record { date = d; clock = no_clock; offset = None })) q ∙ rw e

pub time_broken : (form : Form) (l : List ℕ) → time_form form l ≡ false → Err BreaksForm ≡ time_read form l
unfolding time_read is_time
time_broken form l e = rw e

pub time_read_lem : (form : Form) (l : List ℕ) (time : Time) → time_form form l ≡ true → time ≡ time_of form l → time_if (valid_time time) time ≡ time_read form l
unfolding time_read is_time
time_read_lem form l time e q = ap (λ (t : Time). time_if (valid_time t) t) q ∙ rw e
