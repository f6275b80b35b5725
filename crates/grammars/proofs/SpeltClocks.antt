-- The grammar of clocks and offsets and the readers' own definitions agree, piece by piece. Assumes nothing.
use mathlib.Core.Path.{◌≡◌, refl, sym, ap, subst, ◌∙◌}
use mathlib.Core.List.{List, [], ◌∷◌, ◌++◌, append_assoc, append-nil}
use mathlib.Core.Bool.{true, false, ◌&&◌}
use mathlib.Core.Logic.{◌⊎◌, inl, inr}
use Prim.Native.Nat.{ℕ, suc, ◌-◌}
use native.Mathlib.Omega.{arith}
use lib.Dec.{leb, eqb}
use lib.ListN.{length, get_or, take, drop, length-append}
use lib.Seq.{take_all, take-add, take_at, drop_at, drop-drop}
use borrow.Author.Tests.{leb-true, le-leb, eq-eqb}
use Rattle.std.specs.Prelude.{Some, None, Option}
use Rattle.alphabet.specs.Bytes.{from_to}
use Rattle.alphabet.specs.Digits.{all_digits, decimal}
use Rattle.alphabet.proofs.BoolLaws.{false_true, and_both, both_and, from_to_lem}
use Rattle.alphabet.proofs.DigitLaws.{digits_append}
use Rattle.calendar.specs.Calendar.{valid_clock, valid_offset}
use Rattle.calendar.specs.declared.figures.Sign.{Sign}
use Rattle.calendar.specs.declared.figures.Clock.{Clock}
use Rattle.calendar.specs.declared.figures.Offset.{Offset}
use Rattle.forms.specs.Forms.{fraction_form, zone_form}
use Rattle.forms.proofs.FormLaws.{fraction_none, fraction_some, zone_none, zone_some, zone_holds}
use Rattle.times.specs.Times.{figure_at, fraction_of, clock_of, offset_of}
use Rattle.times.proofs.FigureLaws.{figure_sent, figure_not, fraction_not, fraction_sent, offset_not, offset_plus, offset_minus}
use Rattle.grammars.specs.SpeltTimes.{Hour, Minute, Second, OffsetHour, OffsetMinute, SpeltMinutes, to_minute, to_second, to_fraction, SpeltClock, to_hour, SpeltOffset, nothing, plus, minus}
use Rattle.grammars.proofs.SpeltLaws.{says_decimal, decimal_says}
use Rattle.grammars.proofs.SpeltDates.{within, figure_here, figure_alone, figure_past, piece_says}

-- ---- a clock: digits, and from the point on what may stand behind six of them

pub data Tail : List ℕ → Type 0 where
  no_point : Tail []
  point : {r : List ℕ} → all_digits r ≡ true → Tail (46 ∷ r)

pub record IsClock (n : ℕ) (l : List ℕ) (c : Clock) : Type 0 where
  pub front : List ℕ
  pub tail : List ℕ
  pub whole : l ≡ front ++ tail
  pub digits : all_digits front ≡ true
  pub long : length front ≡ n
  pub pointed : Tail tail
  pub formed : fraction_form (eqb n 6) tail ≡ true
  pub figures : clock_of front 0 tail ≡ c
  pub valid : valid_clock c ≡ true

-- digits down to the seconds
record IsSeconds (l : List ℕ) (h m s : ℕ) : Type 0 where
  digits : all_digits l ≡ true
  long : length l ≡ 6
  hour : figure_at l 0 2 ≡ Some h
  minute : figure_at l 2 2 ≡ Some m
  second : figure_at l 4 2 ≡ Some s

is_seconds : {hh mm ss : List ℕ} {h m s : ℕ} → Hour hh h → Minute mm m → Second ss s → IsSeconds (hh ++ (mm ++ ss)) h m s
is_seconds {hh} {mm} {ss} hour minute second =
    let a = says_decimal hour.0 in
    let b = says_decimal minute.0 in
    let c = says_decimal second.0 in
    let a1 = a.1 in
    let b1 = b.1 in
    let c1 = c.1 in
    let n = length-append hh (mm ++ ss) in
    let k = length-append mm ss in
    record {
      digits = digits_append hh (mm ++ ss) ∙ both_and a.0 (digits_append mm ss ∙ both_and b.0 c.0);
      long = omega arith;
      hour = figure_here (mm ++ ss) hour.0;
      minute = figure_past hh (mm ++ ss) 2 0 2 a1 ∙ figure_here ss minute.0;
      second = figure_past hh (mm ++ ss) 2 2 2 a1 ∙ figure_past mm ss 2 0 2 b1 ∙ figure_alone second.0;
    }

pub is_minutes : {l : List ℕ} {c : Clock} → SpeltMinutes l c → IsClock 4 l c ⊎ IsClock 6 l c
unfolding clock_of valid_clock
is_minutes (to_minute {hh} {mm} hour minute) =
    let a = says_decimal hour.0 in
    let b = says_decimal minute.0 in
    let a1 = a.1 in
    let b1 = b.1 in
    let n = length-append hh mm in
    inl (record {
      front = hh ++ mm;
      tail = [];
      whole = sym (append-nil (hh ++ mm));
      digits = digits_append hh mm ∙ both_and a.0 b.0;
      long = omega arith;
      pointed = no_point;
      formed = fraction_none false [] refl;
      figures =
          λ i. record {
            hour = figure_here mm hour.0 i;
            minute = (figure_past hh mm 2 0 2 a1 ∙ figure_alone minute.0) i;
            second = figure_not (hh ++ mm) 4 2 (omega arith) i;
            fraction = fraction_not [] refl i;
          };
      valid = both_and (within hour.1 hour.2) (both_and (within minute.1 minute.2) refl);
    })
is_minutes (to_second {hh} {mm} {ss} hour minute second) =
    let f = is_seconds hour minute second in
    inr (record {
      front = hh ++ (mm ++ ss);
      tail = [];
      whole = sym (append-nil (hh ++ (mm ++ ss)));
      digits = f.digits;
      long = f.long;
      pointed = no_point;
      formed = fraction_none true [] refl;
      figures = λ i. record { hour = f.hour i; minute = f.minute i; second = f.second i; fraction = fraction_not [] refl i };
      valid = both_and (within hour.1 hour.2) (both_and (within minute.1 minute.2) (within second.1 second.2));
    })
is_minutes (to_fraction {hh} {mm} {ss} {behind} {count = count} hour minute second fraction least most) =
    let f = is_seconds hour minute second in
    let d = says_decimal fraction in
    let d1 = d.1 in
    let some : suc (length behind) ≡ 0 → ⊥ = λ z. omega arith in
    let k : suc (length behind) - 1 ≡ count = omega arith in
    inr (record {
      front = hh ++ (mm ++ ss);
      tail = 46 ∷ behind;
      whole = ap (λ (x : List ℕ). hh ++ x) (sym (append_assoc mm ss (46 ∷ behind))) ∙ sym (append_assoc hh (mm ++ ss) (46 ∷ behind));
      digits = f.digits;
      long = f.long;
      pointed = point d.0;
      formed = fraction_some true (46 ∷ behind) some ∙ both_and (within {least = 2} {most = 5} {n = suc (length behind)} (omega arith) (omega arith)) d.0;
      figures =
          λ i. record {
            hour = f.hour i;
            minute = f.minute i;
            second = f.second i;
            fraction = (fraction_sent (46 ∷ behind) some ∙ (λ j. Some (record { value = d.2 j; digits = k j }))) i;
          };
      valid = both_and (within hour.1 hour.2) (both_and (within minute.1 minute.2) (within second.1 second.2));
    })

pub is_hour : {hh : List ℕ} {h : ℕ} → Hour hh h → IsClock 2 hh (record { hour = Some h; minute = None; second = None; fraction = None })
unfolding clock_of valid_clock
is_hour {hh} hour =
    let a = says_decimal hour.0 in
    let a1 = a.1 in
    record {
      front = hh;
      tail = [];
      whole = sym (append-nil hh);
      digits = a.0;
      long = a1;
      pointed = no_point;
      formed = fraction_none false [] refl;
      figures =
          λ i. record {
            hour = figure_alone hour.0 i;
            minute = figure_not hh 2 2 (omega arith) i;
            second = figure_not hh 4 2 (omega arith) i;
            fraction = fraction_not [] refl i;
          };
      valid = both_and (within hour.1 hour.2) refl;
    }

-- ---- and back: digits and what stands from the point on, of the readers' own form

-- no fraction stands behind hours or minutes
pub no_fraction : (b : ℕ) (r : List ℕ) → fraction_form false (b ∷ r) ≡ true → ⊥
no_fraction b r e = false_true (sym (fraction_some false (b ∷ r) (λ z. omega arith)) ∙ e)

pub hour_spells : (f t : List ℕ) → all_digits f ≡ true → length f ≡ 2 → fraction_form false t ≡ true → valid_clock (clock_of f 0 t) ≡ true → SpeltClock (f ++ t) (clock_of f 0 t)
unfolding clock_of valid_clock
hour_spells f [] e n k v =
    let h = decimal (take 2 f) in
    let q : clock_of f 0 [] ≡ record { hour = Some h; minute = None; second = None; fraction = None } =
    λ i. record { hour = figure_sent f 0 2 (omega arith) i; minute = figure_not f 2 2 (omega arith) i; second = figure_not f 4 2 (omega arith) i; fraction = fraction_not [] refl i } in
    let hour = from_to_lem 0 23 h (and_both (from_to 0 23 h) _ (ap valid_clock (sym q) ∙ v)).0 in
    subst (λ (x : List ℕ). SpeltClock x (clock_of f 0 [])) (take_all 2 f (omega arith) ∙ sym (append-nil f))
    (subst (SpeltClock _) (sym q) (to_hour (piece_says f 0 2 e (omega arith), hour.0, hour.1)))
hour_spells f (b ∷ r) e n k v = absurd (no_fraction b r k)

pub minute_spells : (f t : List ℕ) → all_digits f ≡ true → length f ≡ 4 → fraction_form false t ≡ true → valid_clock (clock_of f 0 t) ≡ true → SpeltMinutes (f ++ t) (clock_of f 0 t)
unfolding clock_of valid_clock
minute_spells f [] e n k v =
    let h = decimal (take 2 f) in
    let m = decimal (take 2 (drop 2 f)) in
    let q : clock_of f 0 [] ≡ record { hour = Some h; minute = Some m; second = None; fraction = None } =
    λ i. record { hour = figure_sent f 0 2 (omega arith) i; minute = figure_sent f 2 2 (omega arith) i; second = figure_not f 4 2 (omega arith) i; fraction = fraction_not [] refl i } in
    let w = and_both (from_to 0 23 h) _ (ap valid_clock (sym q) ∙ v) in
    let hour = from_to_lem 0 23 h w.0 in
    let minute = from_to_lem 0 59 m (and_both (from_to 0 59 m) _ w.1).0 in
    subst (λ (x : List ℕ). SpeltMinutes x (clock_of f 0 [])) (sym (take-add 2 2 f) ∙ take_all 4 f (omega arith) ∙ sym (append-nil f))
    (subst (SpeltMinutes _) (sym q) (to_minute (piece_says f 0 2 e (omega arith), hour.0, hour.1) (piece_says f 2 2 e (omega arith), minute.0, minute.1)))
minute_spells f (b ∷ r) e n k v = absurd (no_fraction b r k)

-- six digits are hours, minutes and seconds
six : (f t : List ℕ) → length f ≡ 6 → take 2 f ++ (take 2 (drop 2 f) ++ (take 2 (drop 4 f) ++ t)) ≡ f ++ t
six f t n =
    let a = take 2 f in
    let b = take 2 (drop 2 f) in
    let c = take 2 (drop 4 f) in
    let w : a ++ (b ++ c) ≡ f =
    ap (λ (x : List ℕ). a ++ (b ++ take 2 x)) (sym (drop-drop 2 2 f)) ∙ ap (λ (x : List ℕ). a ++ x) (sym (take-add 2 2 (drop 2 f))) ∙ sym (take-add 2 4 f) ∙ take_all 6 f (omega arith) in
    ap (λ (x : List ℕ). a ++ x) (sym (append_assoc b c t)) ∙ sym (append_assoc a (b ++ c) t) ∙ ap (λ (x : List ℕ). x ++ t) w

pub second_spells : (f t : List ℕ) → all_digits f ≡ true → length f ≡ 6 → fraction_form true t ≡ true → ((length t ≡ 0 → ⊥) → get_or t 0 0 ≡ 46) → valid_clock (clock_of f 0 t) ≡ true
    → SpeltMinutes (f ++ t) (clock_of f 0 t)
unfolding clock_of valid_clock
second_spells f t e n k begins v = at t k begins (both (ap valid_clock (sym (clock t)) ∙ v))
  where
    h : ℕ
    h = decimal (take 2 f)

    m : ℕ
    m = decimal (take 2 (drop 2 f))

    s : ℕ
    s = decimal (take 2 (drop 4 f))

    clock : (t : List ℕ) → clock_of f 0 t ≡ record { hour = Some h; minute = Some m; second = Some s; fraction = fraction_of t }
    clock t = λ i. record { hour = figure_sent f 0 2 (omega arith) i; minute = figure_sent f 2 2 (omega arith) i; second = figure_sent f 4 2 (omega arith) i; fraction = fraction_of t }

    both : (from_to 0 23 h && (from_to 0 59 m && from_to 0 59 s)) ≡ true → Hour (take 2 f) h × Minute (take 2 (drop 2 f)) m × Second (take 2 (drop 4 f)) s
    both w =
        let a = and_both (from_to 0 23 h) _ w in
        let b = and_both (from_to 0 59 m) (from_to 0 59 s) a.1 in
        let x = from_to_lem 0 23 h a.0 in
        let y = from_to_lem 0 59 m b.0 in
        let z = from_to_lem 0 59 s b.1 in
        ((piece_says f 0 2 e (omega arith), x.0, x.1), (piece_says f 2 2 e (omega arith), y.0, y.1), (piece_says f 4 2 e (omega arith), z.0, z.1))

    at : (t : List ℕ) → fraction_form true t ≡ true → ((length t ≡ 0 → ⊥) → get_or t 0 0 ≡ 46) → Hour (take 2 f) h × Minute (take 2 (drop 2 f)) m × Second (take 2 (drop 4 f)) s → SpeltMinutes (f ++ t) (clock_of f 0 t)
    at [] k begins g =
        let q = clock [] ∙ (λ i. record { hour = Some h; minute = Some m; second = Some s; fraction = fraction_not [] refl i }) in
        subst (λ (x : List ℕ). SpeltMinutes x (clock_of f 0 []))
        (ap (λ (x : List ℕ). take 2 f ++ (take 2 (drop 2 f) ++ x)) (sym (append-nil (take 2 (drop 4 f)))) ∙ six f [] n)
        (subst (SpeltMinutes _) (sym q) (to_second g.0 g.1 g.2))
    at (b ∷ r) k begins g =
        let some : suc (length r) ≡ 0 → ⊥ = λ z. omega arith in
        let p : b ≡ 46 = begins some in
        let w = and_both (from_to 2 5 (suc (length r))) (all_digits r) (sym (fraction_some true (b ∷ r) some) ∙ k) in
        let u = from_to_lem 2 5 (suc (length r)) w.0 in
        let u0 = u.0 in
        let u1 = u.1 in
        let j : suc (length r) - 1 ≡ length r = omega arith in
        let q = clock (b ∷ r) ∙ (λ i. record { hour = Some h; minute = Some m; second = Some s; fraction = (fraction_sent (b ∷ r) some ∙ (λ k. Some (record { value = decimal r; digits = j k }))) i }) in
        subst (λ (x : List ℕ). SpeltMinutes x (clock_of f 0 (b ∷ r))) (ap (λ (x : ℕ). take 2 f ++ (take 2 (drop 2 f) ++ (take 2 (drop 4 f) ++ (x ∷ r)))) (sym p) ∙ six f (b ∷ r) n)
        (subst (SpeltMinutes _) (sym q) (to_fraction g.0 g.1 g.2 (decimal_says r w.1) (omega arith) (omega arith)))

-- ---- an offset: nothing, or a sign and four digits

pub data Zone : List ℕ → Type 0 where
  no_sign : Zone []
  plus_sign : {r : List ℕ} → all_digits r ≡ true → Zone (43 ∷ r)
  minus_sign : {r : List ℕ} → all_digits r ≡ true → Zone (45 ∷ r)

pub record IsOffset (z : List ℕ) (o : Option Offset) : Type 0 where
  pub signed : Zone z
  pub formed : zone_form z ≡ true
  pub figures : offset_of z ≡ o
  pub valid : valid_offset o ≡ true

-- what a sign and the digits of hours and minutes are, whichever the sign
record IsFour (b : ℕ) (r : List ℕ) (h m : ℕ) : Type 0 where
  digits : all_digits r ≡ true
  formed : (eqb (length (b ∷ r)) 5 && all_digits r) ≡ true
  hours : decimal (take 2 r) ≡ h
  minutes : decimal (take 2 (drop 2 r)) ≡ m
  valid : (leb h 14 && leb m 59) ≡ true

is_four : (b : ℕ) {hh mm : List ℕ} {h m : ℕ} → OffsetHour hh h → OffsetMinute mm m → IsFour b (hh ++ mm) h m
is_four b {hh} {mm} {h} {m} hour minute =
    let x = says_decimal hour.0 in
    let y = says_decimal minute.0 in
    let x1 = x.1 in
    let y1 = y.1 in
    let n = length-append hh mm in
    let d = digits_append hh mm ∙ both_and x.0 y.0 in
    record {
      digits = d;
      formed = both_and (eq-eqb (suc (length (hh ++ mm))) 5 (omega arith)) d;
      hours = ap decimal (take_at hh mm 2 x1) ∙ x.2;
      minutes = ap (λ (l : List ℕ). decimal (take 2 l)) (drop_at hh mm 2 x1) ∙ ap decimal (take_all 2 mm (omega arith)) ∙ y.2;
      valid = both_and (le-leb h 14 hour.2) (le-leb m 59 minute.2);
    }

pub is_offset : {z : List ℕ} {o : Option Offset} → SpeltOffset z o → IsOffset z o
is_offset nothing = record { signed = no_sign; formed = zone_none [] refl; figures = offset_not [] refl; valid = refl }
is_offset (plus {hh} {mm} hour minute) =
    let f = is_four 43 hour minute in
    let q = offset_plus (43 ∷ (hh ++ mm)) (λ x. omega arith) (λ x. omega arith) ∙ (λ i. Some (record { sign = Sign.Plus; hours = f.hours i; minutes = f.minutes i })) in
    record { signed = plus_sign f.digits; formed = zone_some (43 ∷ (hh ++ mm)) (λ x. omega arith) ∙ f.formed; figures = q; valid = f.valid }
is_offset (minus {hh} {mm} hour minute) =
    let f = is_four 45 hour minute in
    let q = offset_minus (45 ∷ (hh ++ mm)) (λ x. omega arith) refl ∙ (λ i. Some (record { sign = Sign.Minus; hours = f.hours i; minutes = f.minutes i })) in
    record { signed = minus_sign f.digits; formed = zone_some (45 ∷ (hh ++ mm)) (λ x. omega arith) ∙ f.formed; figures = q; valid = f.valid }

pub offset_spells : (z : List ℕ) → zone_form z ≡ true → valid_offset (offset_of z) ≡ true → ((length z ≡ 0 → ⊥) → (get_or z 0 0 ≡ 43) ⊎ (get_or z 0 0 ≡ 45)) → SpeltOffset z (offset_of z)
offset_spells [] e valid sign = subst (SpeltOffset []) (sym (offset_not [] refl)) nothing
offset_spells (b ∷ r) e valid sign = at (sign some)
  where
    some : suc (length r) ≡ 0 → ⊥
    some z = omega arith

    h : ℕ
    h = decimal (take 2 r)

    m : ℕ
    m = decimal (take 2 (drop 2 r))

    digits : all_digits r ≡ true
    digits = (zone_holds (b ∷ r) e).0

    long : suc (length r) ≡ 5
    long = (zone_holds (b ∷ r) e).1 some

    figures : (leb h 14 && leb m 59) ≡ true → OffsetHour (take 2 r) h × OffsetMinute (take 2 (drop 2 r)) m
    figures v =
        let w = and_both (leb h 14) (leb m 59) v in
        let l = long in
        ((piece_says r 0 2 digits (omega arith), omega arith, leb-true h 14 w.0), (piece_says r 2 2 digits (omega arith), omega arith, leb-true m 59 w.1))

    whole : take 2 r ++ take 2 (drop 2 r) ≡ r
    whole = let l = long in sym (take-add 2 2 r) ∙ take_all 4 r (omega arith)

    at : (b ≡ 43) ⊎ (b ≡ 45) → SpeltOffset (b ∷ r) (offset_of (b ∷ r))
    at (inl p) =
        let q = offset_plus (b ∷ r) some (λ x. omega arith) in
        let g = figures (ap valid_offset (sym q) ∙ valid) in
        subst (λ (x : List ℕ). SpeltOffset x (offset_of (b ∷ r))) (λ i. sym p i ∷ whole i) (subst (SpeltOffset _) (sym q) (plus g.0 g.1))
    at (inr p) =
        let q = offset_minus (b ∷ r) some p in
        let g = figures (ap valid_offset (sym q) ∙ valid) in
        subst (λ (x : List ℕ). SpeltOffset x (offset_of (b ∷ r))) (λ i. sym p i ∷ whole i) (subst (SpeltOffset _) (sym q) (minus g.0 g.1))
