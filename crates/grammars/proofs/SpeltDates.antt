-- The grammar of dates and the readers' own definitions agree: the calendar, the figures of a date, and DT as a whole. Assumes nothing.
use mathlib.Core.Path.{◌≡◌, refl, sym, ap, subst, ◌∙◌}
use mathlib.Core.List.{List, [], ◌++◌, append_assoc, append-nil}
use mathlib.Core.Bool.{Bool, true, false, not, ◌&&◌, ◌||◌}
use mathlib.Core.Logic.{◌⊎◌, inl, inr}
use Prim.Native.Nat.{ℕ, suc, ◌+◌, ◌*◌, ◌/◌, ◌%◌, ◌≤◌}
use native.Mathlib.Omega.{arith}
use lib.Dec.{leb, eqb}
use lib.ListN.{length, take, drop, length-append, length-drop}
use lib.Seq.{take_all, take-add, take_at, drop-drop, drop-append-add, length-take-le}
use borrow.Author.Tests.{leb-true, leb-false, le-leb, eqb-true, eq-eqb}
use Rattle.std.specs.Prelude.{Some, None}
use Rattle.alphabet.specs.Bytes.{from_to}
use Rattle.alphabet.specs.Digits.{all_digits, decimal}
use Rattle.alphabet.proofs.BoolLaws.{false_true, and_both, both_and, from_to_lem}
use Rattle.alphabet.proofs.DigitLaws.{digits_append, digits_take, digits_drop}
use Rattle.calendar.specs.Calendar.{leap, days_in, valid_date, valid_clock, valid_offset, valid_time, no_clock}
use Rattle.calendar.specs.declared.figures.Date.{Date}
use Rattle.calendar.specs.declared.figures.Time.{Time}
use Rattle.forms.specs.Forms.{dt_length, dt_form}
use Rattle.forms.proofs.FormLaws.{dt_digits, dt_length_lem}
use Rattle.times.specs.Times.{figure_at, date_of, is_dt, dt_time}
use Rattle.times.proofs.FigureLaws.{figure_sent, figure_not}
use Rattle.grammars.specs.Spelt.{Says}
use Rattle.grammars.specs.SpeltTimes.{Leap, LastDay, january, february, leap_february, march, april, may, june, july, august, september, october, november, december, SpeltDay, day, SpeltDate, to_year, to_month, to_day, Dt, dt}
use Rattle.grammars.proofs.SpeltLaws.{says_decimal, decimal_says}
use Rattle.laws.proofs.OneSpelling.{three}

-- ---- the calendar

leap_is : (y : ℕ) → Leap y → leap y ≡ true
leap_is y r =
    let k = r.fours.0 in
    let e = r.fours.1 in
    both_and (eq-eqb (y % 4) 0 (omega arith)) (at (eqb (y % 100) 0) refl)
  where
    at : (t : Bool) → eqb (y % 100) 0 ≡ t → (not t || eqb (y % 400) 0) ≡ true
    at true q =
        let h = eqb-true (y % 100) 0 q in
        let c = r.centuries (y / 100, omega arith) in
        let n = c.0 in
        let m = c.1 in
        eq-eqb (y % 400) 0 (omega arith)
    at false q = refl

is_leap : (y : ℕ) → leap y ≡ true → Leap y
is_leap y e =
    let b = and_both (eqb (y % 4) 0) _ e in
    let four = eqb-true (y % 4) 0 b.0 in
    record { fours = (y / 4, omega arith); centuries = λ h. hundred h.0 h.1 b.1 }
  where
    hundred : (k : ℕ) → k * 100 ≡ y → (not (eqb (y % 100) 0) || eqb (y % 400) 0) ≡ true → (k : ℕ) × (k * 400 ≡ y)
    hundred k h b =
        let c : y % 100 ≡ 0 = omega arith in
        let d = eqb-true (y % 400) 0 (ap (λ (t : Bool). not t || eqb (y % 400) 0) (sym (eq-eqb (y % 100) 0 c)) ∙ b) in
        (y / 400, omega arith)

-- the table of months gives the days that `days_in` has
last_day_is : {y m last : ℕ} → LastDay y m last → days_in y m ≡ last
last_day_is january = refl
last_day_is {y} (february no-leap) = at (leap y) refl
  where
    at : (t : Bool) → leap y ≡ t → days_in y 2 ≡ 28
    at true q = absurd (no-leap (is_leap y q))
    at false q = rw q
last_day_is {y} (leap_february r) = rw (leap_is y r)
last_day_is march = refl
last_day_is april = refl
last_day_is may = refl
last_day_is june = refl
last_day_is july = refl
last_day_is august = refl
last_day_is september = refl
last_day_is october = refl
last_day_is november = refl
last_day_is december = refl

is_last_day : (y m : ℕ) → 1 ≤ m → m ≤ 12 → LastDay y m (days_in y m)
is_last_day y m least most =
    to 11 december (to 10 november (to 9 october (to 8 september (to 7 august (to 6 july (to 5 june (to 4 may (to 3 april (to 2 march (to 1 (second (leap y) refl) (to 0 january (λ h. absurd (omega arith)))))))))))))
    most
  where
    second : (t : Bool) → leap y ≡ t → LastDay y 2 (days_in y 2)
    second true q = rw q (leap_february (is_leap y q))
    second false q = rw q (february (λ r. false_true (sym q ∙ leap_is y r)))

    to : (k : ℕ) → LastDay y (suc k) (days_in y (suc k)) → (m ≤ k → LastDay y m (days_in y m)) → m ≤ suc k → LastDay y m (days_in y m)
    to k last before h = at (leb m k) refl
      where
        at : (t : Bool) → leb m k ≡ t → LastDay y m (days_in y m)
        at true q = before (leb-true m k q)
        at false q =
            let l = leb-false m k q in
            let e : suc k ≡ m = omega arith in
            subst (λ (n : ℕ). LastDay y n (days_in y n)) e last

-- ---- figures

pub within : {least most n : ℕ} → least ≤ n → n ≤ most → from_to least most n ≡ true
within {least} {most} {n} h k = both_and (le-leb least n h) (le-leb n most k)

-- a figure at the front, and one behind so many bytes
pub figure_here : {w n : ℕ} {l : List ℕ} (r : List ℕ) → Says w l n → figure_at (l ++ r) 0 w ≡ Some n
figure_here {w} {n} {l} r s =
    let d = says_decimal s in
    let k = d.1 in
    let a = length-append l r in
    figure_sent (l ++ r) 0 w (omega arith) ∙ ap (λ (x : List ℕ). Some (decimal x)) (take_at l r w k) ∙ ap Some d.2

pub figure_alone : {w n : ℕ} {l : List ℕ} → Says w l n → figure_at l 0 w ≡ Some n
figure_alone {w} {n} {l} s = ap (λ (x : List ℕ). figure_at x 0 w) (sym (append-nil l)) ∙ figure_here [] s

pub figure_past : (a r : List ℕ) (k s w : ℕ) → length a ≡ k → figure_at (a ++ r) (k + s) w ≡ figure_at r s w
figure_past a r k s w e = at (leb (s + w) (length r)) refl
  where
    at : (t : Bool) → leb (s + w) (length r) ≡ t → figure_at (a ++ r) (k + s) w ≡ figure_at r s w
    at true q =
        let h = leb-true (s + w) (length r) q in
        let n = length-append a r in
        let d = ap (λ (i : ℕ). drop (i + s) (a ++ r)) (sym e) ∙ drop-append-add a r s in
        figure_sent (a ++ r) (k + s) w (omega arith) ∙ ap (λ (x : List ℕ). Some (decimal (take w x))) d ∙ sym (figure_sent r s w h)
    at false q =
        let h = leb-false (s + w) (length r) q in
        let n = length-append a r in
        figure_not (a ++ r) (k + s) w (omega arith) ∙ sym (figure_not r s w h)

-- the digits of a figure that was sent say it
pub piece_says : (l : List ℕ) (s w : ℕ) → all_digits l ≡ true → s + w ≤ length l → Says w (take w (drop s l)) (decimal (take w (drop s l)))
piece_says l s w e h =
    let d = length-drop s l in
    subst (λ (k : ℕ). Says k (take w (drop s l)) (decimal (take w (drop s l)))) (length-take-le w (drop s l) (omega arith))
    (decimal_says (take w (drop s l)) (digits_take w (drop s l) (digits_drop s l e)))

-- ---- a whole date, and what may stand behind it

pub record IsDay (l : List ℕ) (d : Date) : Type 0 where
  pub digits : all_digits l ≡ true
  pub long : length l ≡ 8
  pub figures : (r : List ℕ) → date_of (l ++ r) ≡ d
  pub valid : valid_date d ≡ true

pub is_day : {l : List ℕ} {d : Date} → SpeltDay l d → IsDay l d
unfolding date_of valid_date
is_day (day {yyyy} {mm} {dd} {y} {m} {d} year month last days) =
    let a = says_decimal year.0 in
    let b = says_decimal month.0 in
    let c = says_decimal days.0 in
    let a1 = a.1 in
    let b1 = b.1 in
    let c1 = c.1 in
    let n = length-append yyyy (mm ++ dd) in
    let k = length-append mm dd in
    record {
      digits = digits_append yyyy (mm ++ dd) ∙ both_and a.0 (digits_append mm dd ∙ both_and b.0 c.0);
      long = omega arith;
      figures =
          λ r.
          let e = append_assoc yyyy (mm ++ dd) r ∙ ap (λ (x : List ℕ). yyyy ++ x) (append_assoc mm dd r) in
          ap date_of e
          ∙ (λ i. record {
            year = figure_here (mm ++ (dd ++ r)) year.0 i;
            month = (figure_past yyyy (mm ++ (dd ++ r)) 4 0 2 a1 ∙ figure_here (dd ++ r) month.0) i;
            day = (figure_past yyyy (mm ++ (dd ++ r)) 4 2 2 a1 ∙ figure_past mm (dd ++ r) 2 0 2 b1 ∙ figure_here r days.0) i;
          });
      valid = both_and (within year.1 year.2) (both_and (within month.1 month.2) (within days.1 (subst (λ (x : ℕ). d ≤ x) (sym (last_day_is last)) days.2)));
    }

-- eight digits or more whose date is accepted begin with a whole date
front_of_day : (l : List ℕ) → take 8 l ≡ take 4 l ++ (take 2 (drop 4 l) ++ take 2 (drop 6 l))
front_of_day l =
    take-add 4 4 l ∙ ap (λ (x : List ℕ). take 4 l ++ x) (take-add 2 2 (drop 4 l) ∙ ap (λ (x : List ℕ). take 2 (drop 4 l) ++ take 2 x) (drop-drop 2 4 l))

pub day_spells : (l : List ℕ) → all_digits l ≡ true → 8 ≤ length l → valid_date (date_of l) ≡ true → SpeltDay (take 8 l) (date_of l)
unfolding date_of valid_date
day_spells l e h v =
    let y = decimal (take 4 l) in
    let m = decimal (take 2 (drop 4 l)) in
    let d = decimal (take 2 (drop 6 l)) in
    let q : date_of l ≡ record { year = Some y; month = Some m; day = Some d } =
    λ i. record { year = figure_sent l 0 4 (omega arith) i; month = figure_sent l 4 2 (omega arith) i; day = figure_sent l 6 2 (omega arith) i } in
    let w = and_both (from_to 1 9999 y) _ (ap valid_date (sym q) ∙ v) in
    let w1 = and_both (from_to 1 12 m) (from_to 1 (days_in y m) d) w.1 in
    let year = from_to_lem 1 9999 y w.0 in
    let month = from_to_lem 1 12 m w1.0 in
    let days = from_to_lem 1 (days_in y m) d w1.1 in
    let s = day (piece_says l 0 4 e (omega arith), year.0, year.1) (piece_says l 4 2 e (omega arith), month.0, month.1)
    (is_last_day y m month.0 month.1) (piece_says l 6 2 e (omega arith), days.0, days.1) in
    subst (λ (x : List ℕ). SpeltDay x (date_of l)) (sym (front_of_day l)) (subst (SpeltDay _) (sym q) s)

-- ---- a date, as far as it was sent

pub record IsDate (l : List ℕ) (d : Date) : Type 0 where
  pub digits : all_digits l ≡ true
  pub long : dt_length (length l) ≡ true
  pub figures : date_of l ≡ d
  pub valid : valid_date d ≡ true

pub is_date : {l : List ℕ} {d : Date} → SpeltDate l d → IsDate l d
unfolding date_of valid_date
is_date (to_year {yyyy} {y} year) =
    let a = says_decimal year.0 in
    let a1 = a.1 in
    record {
      digits = a.0;
      long = ap dt_length a1;
      figures = λ i. record { year = figure_alone year.0 i; month = figure_not yyyy 4 2 (omega arith) i; day = figure_not yyyy 6 2 (omega arith) i };
      valid = both_and (within year.1 year.2) refl;
    }
is_date (to_month {yyyy} {mm} {y} {m} year month) =
    let a = says_decimal year.0 in
    let b = says_decimal month.0 in
    let a1 = a.1 in
    let b1 = b.1 in
    let n = length-append yyyy mm in
    let k : length (yyyy ++ mm) ≡ 6 = omega arith in
    record {
      digits = digits_append yyyy mm ∙ both_and a.0 b.0;
      long = ap dt_length k;
      figures =
          λ i. record {
            year = figure_here mm year.0 i;
            month = (figure_past yyyy mm 4 0 2 a1 ∙ figure_alone month.0) i;
            day = figure_not (yyyy ++ mm) 6 2 (omega arith) i;
          };
      valid = both_and (within year.1 year.2) (both_and (within month.1 month.2) refl);
    }
is_date (to_day {l} s) =
    let d = is_day s in
    record { digits = d.digits; long = ap dt_length d.long; figures = ap date_of (sym (append-nil l)) ∙ d.figures []; valid = d.valid }

pub date_spells : (l : List ℕ) → all_digits l ≡ true → dt_length (length l) ≡ true → valid_date (date_of l) ≡ true → SpeltDate l (date_of l)
unfolding date_of valid_date
date_spells l e long v = at (three (length l) 4 6 8 long)
  where
    at : (length l ≡ 4) ⊎ ((length l ≡ 6) ⊎ (length l ≡ 8)) → SpeltDate l (date_of l)
    at (inl n) =
        let y = decimal (take 4 l) in
        let q : date_of l ≡ record { year = Some y; month = None; day = None } =
        λ i. record { year = figure_sent l 0 4 (omega arith) i; month = figure_not l 4 2 (omega arith) i; day = figure_not l 6 2 (omega arith) i } in
        let year = from_to_lem 1 9999 y (and_both (from_to 1 9999 y) _ (ap valid_date (sym q) ∙ v)).0 in
        let s = to_year (piece_says l 0 4 e (omega arith), year.0, year.1) in
        subst (λ (x : List ℕ). SpeltDate x (date_of l)) (take_all 4 l (omega arith)) (subst (SpeltDate _) (sym q) s)
    at (inr (inl n)) =
        let y = decimal (take 4 l) in
        let m = decimal (take 2 (drop 4 l)) in
        let q : date_of l ≡ record { year = Some y; month = Some m; day = None } =
        λ i. record { year = figure_sent l 0 4 (omega arith) i; month = figure_sent l 4 2 (omega arith) i; day = figure_not l 6 2 (omega arith) i } in
        let w = and_both (from_to 1 9999 y) _ (ap valid_date (sym q) ∙ v) in
        let year = from_to_lem 1 9999 y w.0 in
        let month = from_to_lem 1 12 m (and_both (from_to 1 12 m) _ w.1).0 in
        let s = to_month (piece_says l 0 4 e (omega arith), year.0, year.1) (piece_says l 4 2 e (omega arith), month.0, month.1) in
        subst (λ (x : List ℕ). SpeltDate x (date_of l)) (sym (take-add 4 2 l) ∙ take_all 6 l (omega arith)) (subst (SpeltDate _) (sym q) s)
    at (inr (inr n)) = to_day (subst (λ (x : List ℕ). SpeltDay x (date_of l)) (take_all 8 l (omega arith)) (day_spells l e (omega arith) v))

-- ---- DT

dt_made : (l : List ℕ) → all_digits l ≡ true → dt_length (length l) ≡ true → dt_form l ≡ true
unfolding dt_form
dt_made l d n = both_and d n

-- a clock and an offset that were not sent are none that there are not
nothing_valid : (valid_clock no_clock && valid_offset None) ≡ true
nothing_valid = unfold valid_clock in refl

pub dt_spelt : {l : List ℕ} {t : Time} → Dt l t → (is_dt l ≡ true) × (dt_time l ≡ t)
unfolding is_dt dt_time
dt_spelt (dt {l} s) =
    let d = is_date s in
    (both_and (dt_made l d.digits d.long) (both_and (ap valid_date d.figures ∙ d.valid) nothing_valid), λ i. record { date = d.figures i; clock = no_clock; offset = None })

pub dt_spells : (l : List ℕ) → is_dt l ≡ true → Dt l (dt_time l)
unfolding is_dt dt_time
dt_spells l e =
    let a = and_both (dt_form l) (valid_time (dt_time l)) e in
    dt (date_spells l (dt_digits l a.0) (dt_length_lem l a.0) (and_both (valid_date (date_of l)) _ a.1).0)
