-- The grammar of times and the readers' own definitions agree: bytes are a DT, a TM or a TS exactly where they spell a time, and that time is read. Assumes nothing.
use mathlib.Core.Path.{◌≡◌, refl, sym, ap, subst, ◌∙◌}
use mathlib.Core.List.{List, [], ◌∷◌, ◌++◌, append_assoc, append-nil}
use mathlib.Core.Bool.{Bool, true, false, ◌&&◌}
use mathlib.Core.Logic.{◌⊎◌, inl, inr, ⊎_elim}
use Prim.Native.Nat.{ℕ, suc, ◌+◌, ◌≤◌, min}
use native.Mathlib.Nat.{zero-add}
use native.Mathlib.Omega.{arith}
use lib.Dec.{eqb}
use lib.ListN.{length, take, drop, length-append, length-drop, take-append-drop}
use lib.Seq.{take_at, drop_at, length-take-le}
use borrow.Author.Tests.{ne_eqb}
use Rattle.alphabet.specs.declared.answers.Refusal.{Refusal}
use Rattle.std.specs.Prelude.{Result, Ok, Option}
use Rattle.alphabet.specs.Bytes.{digit}
use Rattle.alphabet.specs.Digits.{all_digits}
use Rattle.alphabet.specs.Lists.{first, find}
use Rattle.alphabet.proofs.BoolLaws.{false_true, and_both, both_and}
use Rattle.alphabet.proofs.DigitLaws.{digits_append, digits_drop}
use Rattle.calendar.specs.Calendar.{valid_date, valid_clock, valid_offset, valid_time, no_date, no_clock}
use Rattle.calendar.specs.declared.figures.Date.{Date}
use Rattle.calendar.specs.declared.figures.Clock.{Clock}
use Rattle.calendar.specs.declared.figures.Offset.{Offset}
use Rattle.calendar.specs.declared.figures.Time.{Time}
use Rattle.forms.specs.declared.layouts.Form.{Form}
use Rattle.forms.specs.Forms.{body_of, zone_of, front_of, tail_of, dt_length, layout_of, front_length, fraction_form, zone_form, parts_form, time_form}
use Rattle.forms.proofs.FormLaws.{fraction_none, form_parts}
use Rattle.times.specs.Times.{is_dt, dt_time, date_of, fraction_of, clock_of, offset_of, parts_time, is_time, time_of, time_if, dt_read, time_read}
use Rattle.times.proofs.FigureLaws.{figure_not, fraction_not}
use Rattle.grammars.specs.SpeltTimes.{SpeltMinutes, SpeltClock, to_hour, beyond, SpeltOffset, Dt, Tm, tm, Ts, date_alone, date_and_clock, Answers, says, breaks, DtSays, TmSays, TsSays}
use Rattle.laws.proofs.OneSpelling.{three, five, dt_front, begins, zone_head, dt_most}
use Rattle.grammars.proofs.SpeltDates.{figure_past, IsDay, is_day, day_spells, IsDate, is_date, date_spells, dt_spelt, dt_spells}
use Rattle.grammars.proofs.SpeltClocks.{Tail, no_point, point, IsClock, is_minutes, is_hour, no_fraction, hour_spells, minute_spells, second_spells, Zone, no_sign, plus_sign, minus_sign, IsOffset, is_offset, offset_spells}

-- ---- digits, what stands from the point on and what stands from the sign on are told apart

-- a byte that is no digit stands behind the digits
find_past : (x : ℕ) → digit x ≡ false → (l r : List ℕ) → all_digits l ≡ true → find x (l ++ r) ≡ length l + find x r
unfolding all_digits first
find_past x n [] r e = sym (zero-add (find x r))
find_past x n (d ∷ l) r e =
    let b = and_both (digit d) (all_digits l) e in
    let z : suc (length l + find x r) ≡ suc (length l) + find x r = omega arith in
    rw (ne_eqb x d (λ q. false_true (sym n ∙ ap digit q ∙ b.0))) (ap suc (find_past x n l r b.1) ∙ z)

-- and neither does a sign stand from the point on
tail_past : (x : ℕ) → digit x ≡ false → (x ≡ 46 → ⊥) → {p : List ℕ} → Tail p → (r : List ℕ) → find x (p ++ r) ≡ length p + find x r
unfolding first
tail_past x n m no_point r = sym (zero-add (find x r))
tail_past x n m (point {r = p} e) r =
    let z : suc (length p + find x r) ≡ suc (length p) + find x r = omega arith in
    rw (ne_eqb x 46 m) (ap suc (find_past x n p r e) ∙ z)

point_first : {p : List ℕ} → Tail p → find 46 p ≡ 0
unfolding first
point_first no_point = refl
point_first (point e) = refl

sign_first : {z : List ℕ} → Zone z → min (find 43 z) (find 45 z) ≡ 0
unfolding first
sign_first no_sign = refl
sign_first (plus_sign {r} e) = let q : find 43 (43 ∷ r) ≡ 0 = refl in omega arith
sign_first (minus_sign {r} e) = let q : find 45 (45 ∷ r) ≡ 0 = refl in omega arith

module _ (f p z : List ℕ) (digits : all_digits f ≡ true) (tail : Tail p) (zone : Zone z) where
  behind : (x : ℕ) → digit x ≡ false → (x ≡ 46 → ⊥) → find x ((f ++ p) ++ z) ≡ length (f ++ p) + find x z
  behind x n m =
      let k = length-append f p in
      let a = ap (find x) (append_assoc f p z) ∙ find_past x n f (p ++ z) digits in
      let b = tail_past x n m tail z in
      omega arith

  place : length (f ++ p) ≡ min (find 43 ((f ++ p) ++ z)) (find 45 ((f ++ p) ++ z))
  place =
      let a = behind 43 refl (λ q. omega arith) in
      let b = behind 45 refl (λ q. omega arith) in
      let c = sign_first zone in
      omega arith

  body_is : body_of ((f ++ p) ++ z) ≡ f ++ p
  body_is = take_at (f ++ p) z (min (find 43 ((f ++ p) ++ z)) (find 45 ((f ++ p) ++ z))) place

  zone_is : zone_of ((f ++ p) ++ z) ≡ z
  zone_is = drop_at (f ++ p) z (min (find 43 ((f ++ p) ++ z)) (find 45 ((f ++ p) ++ z))) place

  point_place_lem : length f ≡ find 46 (f ++ p)
  point_place_lem = let a = find_past 46 refl f p digits in let b = point_first tail in omega arith

  front_is : front_of ((f ++ p) ++ z) ≡ f
  front_is = ap (λ (x : List ℕ). take (find 46 x) x) body_is ∙ take_at f p (find 46 (f ++ p)) point_place_lem

  tail_is : tail_of ((f ++ p) ++ z) ≡ p
  tail_is = ap (λ (x : List ℕ). drop (find 46 x) x) body_is ∙ drop_at f p (find 46 (f ++ p)) point_place_lem

-- ---- what is asked of the three

record Holds (form : Form) (f p z : List ℕ) : Type 0 where
  digits : all_digits f ≡ true
  long : front_length form (length f) ≡ true
  tailed : fraction_form (eqb (length f) (layout_of form).seconds) p ≡ true
  zoned : zone_form z ≡ true
  date : valid_date (parts_time form f p z).date ≡ true
  clock : valid_clock (parts_time form f p z).clock ≡ true
  offset : valid_offset (offset_of z) ≡ true

holds : (form : Form) (l : List ℕ) → is_time form l ≡ true → Holds form (front_of l) (tail_of l) (zone_of l)
unfolding is_time time_of
holds form l e =
    let t = parts_time form (front_of l) (tail_of l) (zone_of l) in
    let a = and_both (time_form form l) (valid_time t) e in
    let b = form_parts form l a.0 in
    let v = and_both (valid_date t.date) _ a.1 in
    let w = and_both (valid_clock t.clock) (valid_offset t.offset) v.1 in
    record { digits = b.digits; long = b.long; tailed = b.tailed; zoned = b.zoned; date = v.0; clock = w.0; offset = w.1 }

-- three that hold make a time
made : (form : Form) (f p z : List ℕ) → Tail p → Zone z → Holds form f p z → (is_time form ((f ++ p) ++ z) ≡ true) × (time_of form ((f ++ p) ++ z) ≡ parts_time form f p z)
unfolding is_time time_form time_of
made form f p z tail zone h =
    let a = front_is f p z h.digits tail zone in
    let b = tail_is f p z h.digits tail zone in
    let c = zone_is f p z h.digits tail zone in (
      (λ i. parts_form form (a i) (b i) (c i) && valid_time (parts_time form (a i) (b i) (c i)))
          ∙ both_and (both_and (both_and h.digits h.long) (both_and h.tailed h.zoned)) (both_and h.date (both_and h.clock h.offset)),
      λ i. parts_time form (a i) (b i) (c i),
    )

-- a time is its three parts
together : (l : List ℕ) → (front_of l ++ tail_of l) ++ zone_of l ≡ l
together l = ap (λ (x : List ℕ). x ++ zone_of l) (take-append-drop (find 46 (body_of l)) (body_of l)) ∙ take-append-drop (min (find 43 l) (find 45 l)) l

-- ---- TM

tm_of : (n : ℕ) {l z : List ℕ} {c : Clock} {o : Option Offset} → front_length Form.Tm n ≡ true → IsClock n l c → IsOffset z o
    → (is_time Form.Tm (l ++ z) ≡ true) × (time_of Form.Tm (l ++ z) ≡ record { date = no_date; clock = c; offset = o })
tm_of n {l} {z} {c} {o} h k s =
    let f = k.front in
    let p = k.tail in
    let m = made Form.Tm f p z k.pointed s.signed (record {
      digits = k.digits;
      long = ap (front_length Form.Tm) k.long ∙ h;
      tailed = ap (λ (x : ℕ). fraction_form (eqb x 6) p) k.long ∙ k.formed;
      zoned = s.formed;
      date = nothing_valid;
      clock = ap valid_clock k.figures ∙ k.valid;
      offset = ap valid_offset s.figures ∙ s.valid;
    }) in
    let w = ap (λ (x : List ℕ). x ++ z) k.whole in
    (ap (is_time Form.Tm) w ∙ m.0, ap (time_of Form.Tm) w ∙ m.1 ∙ (λ i. record { date = no_date; clock = k.figures i; offset = s.figures i }))
  where
    nothing_valid : valid_date no_date ≡ true
    nothing_valid = unfold valid_date in refl

pub tm_spelt : {l : List ℕ} {t : Time} → Tm l t → (is_time Form.Tm l ≡ true) × (time_of Form.Tm l ≡ t)
tm_spelt (tm (to_hour h) s) = tm_of 2 refl (is_hour h) (is_offset s)
tm_spelt (tm (beyond m) s) = ⊎_elim (λ k. tm_of 4 refl k (is_offset s)) (λ k. tm_of 6 refl k (is_offset s)) (is_minutes m)

pub tm_spells : (l : List ℕ) → is_time Form.Tm l ≡ true → Tm l (time_of Form.Tm l)
unfolding time_of
tm_spells l e =
    let h = holds Form.Tm l e in
    subst (λ (x : List ℕ). Tm x (time_of Form.Tm l)) (together l) (tm (clock h (three (length (front_of l)) 2 4 6 h.long)) (offset_spells (zone_of l) h.zoned h.offset (zone_head l)))
  where
    f : List ℕ
    f = front_of l

    p : List ℕ
    p = tail_of l

    clock : Holds Form.Tm f p (zone_of l) → (length f ≡ 2) ⊎ ((length f ≡ 4) ⊎ (length f ≡ 6)) → SpeltClock (f ++ p) (clock_of f 0 p)
    clock h (inl n) = hour_spells f p h.digits n (ap (λ (x : ℕ). fraction_form (eqb x 6) p) (sym n) ∙ h.tailed) h.clock
    clock h (inr (inl n)) = beyond (minute_spells f p h.digits n (ap (λ (x : ℕ). fraction_form (eqb x 6) p) (sym n) ∙ h.tailed) h.clock)
    clock h (inr (inr n)) =
        beyond (second_spells f p h.digits n (ap (λ (x : ℕ). fraction_form (eqb x 6) p) (sym n) ∙ h.tailed) (begins 46 (body_of l) (find 46 (body_of l)) refl) h.clock)

-- ---- TS

-- behind a date of at most eight digits no clock was sent
no_clock_lem : (f : List ℕ) → length f ≤ 8 → clock_of f 8 [] ≡ no_clock
unfolding clock_of
no_clock_lem f h =
    λ i. record {
      hour = figure_not f 8 2 (omega arith) i;
      minute = figure_not f 10 2 (omega arith) i;
      second = figure_not f 12 2 (omega arith) i;
      fraction = fraction_not [] refl i;
    }

-- a clock behind a day is read as it is read alone
clock_past : (a f p : List ℕ) → length a ≡ 8 → clock_of (a ++ f) 8 p ≡ clock_of f 0 p
unfolding clock_of
clock_past a f p n =
    λ i. record {
      hour = figure_past a f 8 0 2 n i;
      minute = figure_past a f 8 2 2 n i;
      second = figure_past a f 8 4 2 n i;
      fraction = fraction_of p;
    }

date_most : (l : List ℕ) → dt_length (length l) ≡ true → length l ≤ 8
date_most l e = dt_most (length l) (three (length l) 4 6 8 e)

ts_date : {l z : List ℕ} {d : Date} {o : Option Offset} → IsDate l d → IsOffset z o → (is_time Form.Ts (l ++ z) ≡ true) × (time_of Form.Ts (l ++ z) ≡ record { date = d; clock = no_clock; offset = o })
ts_date {l} {z} k s =
    let c = no_clock_lem l (date_most l k.long) in
    let m = made Form.Ts l [] z no_point s.signed (record {
      digits = k.digits;
      long = dt_front (length l) k.long;
      tailed = fraction_none (eqb (length l) 14) [] refl;
      zoned = s.formed;
      date = ap valid_date k.figures ∙ k.valid;
      clock = ap valid_clock c ∙ nothing_valid;
      offset = ap valid_offset s.figures ∙ s.valid;
    }) in
    let w = ap (λ (x : List ℕ). x ++ z) (sym (append-nil l)) in
    (ap (is_time Form.Ts) w ∙ m.0, ap (time_of Form.Ts) w ∙ m.1 ∙ (λ i. record { date = k.figures i; clock = c i; offset = s.figures i }))
  where
    nothing_valid : valid_clock no_clock ≡ true
    nothing_valid = unfold valid_clock in refl

ts_clock : (n : ℕ) {a l z : List ℕ} {d : Date} {c : Clock} {o : Option Offset} → front_length Form.Ts (8 + n) ≡ true → eqb (8 + n) 14 ≡ eqb n 6 → IsDay a d → IsClock n l c → IsOffset z o
    → (is_time Form.Ts (a ++ (l ++ z)) ≡ true) × (time_of Form.Ts (a ++ (l ++ z)) ≡ record { date = d; clock = c; offset = o })
ts_clock n {a} {l} {z} h g j k s =
    let f = k.front in
    let p = k.tail in
    let b = length-append a f in
    let j1 = j.long in
    let k1 = k.long in
    let long : length (a ++ f) ≡ 8 + n = omega arith in
    let c = clock_past a f p j1 ∙ k.figures in
    let m = made Form.Ts (a ++ f) p z k.pointed s.signed (record {
      digits = digits_append a f ∙ both_and j.digits k.digits;
      long = ap (front_length Form.Ts) long ∙ h;
      tailed = ap (λ (x : ℕ). fraction_form (eqb x 14) p) long ∙ ap (λ (t : Bool). fraction_form t p) g ∙ k.formed;
      zoned = s.formed;
      date = ap valid_date (j.figures f) ∙ j.valid;
      clock = ap valid_clock c ∙ k.valid;
      offset = ap valid_offset s.figures ∙ s.valid;
    }) in
    let w : a ++ (l ++ z) ≡ ((a ++ f) ++ p) ++ z =
    sym (append_assoc a l z) ∙ ap (λ (x : List ℕ). (a ++ x) ++ z) k.whole ∙ ap (λ (x : List ℕ). x ++ z) (sym (append_assoc a f p)) in
    (ap (is_time Form.Ts) w ∙ m.0, ap (time_of Form.Ts) w ∙ m.1 ∙ (λ i. record { date = j.figures f i; clock = c i; offset = s.figures i }))

pub ts_spelt : {l : List ℕ} {t : Time} → Ts l t → (is_time Form.Ts l ≡ true) × (time_of Form.Ts l ≡ t)
ts_spelt (date_alone d s) = ts_date (is_date d) (is_offset s)
ts_spelt (date_and_clock d m s) =
    ⊎_elim (λ k. ts_clock 4 refl refl (is_day d) k (is_offset s)) (λ k. ts_clock 6 refl refl (is_day d) k (is_offset s)) (is_minutes m)

-- a date alone: no fraction stands behind it
date_alone_spells : (f p z : List ℕ) → dt_length (length f) ≡ true → Holds Form.Ts f p z → SpeltOffset z (offset_of z)
    → Ts ((f ++ p) ++ z) (record { date = date_of f; clock = clock_of f 8 p; offset = offset_of z })
date_alone_spells f [] z n h s =
    subst (λ (x : List ℕ). Ts (x ++ z) (record { date = date_of f; clock = clock_of f 8 []; offset = offset_of z })) (sym (append-nil f))
    (subst (λ (c : Clock). Ts (f ++ z) (record { date = date_of f; clock = c; offset = offset_of z })) (sym (no_clock_lem f (date_most f n)))
    (date_alone (date_spells f h.digits n h.date) s))
date_alone_spells f (b ∷ p) z n h s =
    let m = date_most f n in
    let q = ne_eqb (length f) 14 (λ x. omega arith) in
    absurd (no_fraction b p (ap (λ (t : Bool). fraction_form t (b ∷ p)) (sym q) ∙ h.tailed))

-- a day and a clock behind it
day_and_clock_spells : (f p z : List ℕ) → 8 ≤ length f → Holds Form.Ts f p z
    → (valid_clock (clock_of (drop 8 f) 0 p) ≡ true → SpeltMinutes (drop 8 f ++ p) (clock_of (drop 8 f) 0 p)) → SpeltOffset z (offset_of z)
    → Ts ((f ++ p) ++ z) (record { date = date_of f; clock = clock_of f 8 p; offset = offset_of z })
day_and_clock_spells f p z n h minutes s =
    let a = take 8 f in
    let g = drop 8 f in
    let e = take-append-drop 8 f in
    let c = ap (λ (x : List ℕ). clock_of x 8 p) (sym e) ∙ clock_past a g p (length-take-le 8 f n) in
    let w = sym (append_assoc a (g ++ p) z) ∙ ap (λ (x : List ℕ). x ++ z) (sym (append_assoc a g p) ∙ ap (λ (x : List ℕ). x ++ p) e) in
    subst (λ (x : List ℕ). Ts x (record { date = date_of f; clock = clock_of f 8 p; offset = offset_of z })) w
    (subst (λ (x : Clock). Ts (a ++ ((g ++ p) ++ z)) (record { date = date_of f; clock = x; offset = offset_of z })) (sym c)
    (date_and_clock (day_spells f h.digits n h.date) (minutes (ap valid_clock (sym c) ∙ h.clock)) s))

pub ts_spells : (l : List ℕ) → is_time Form.Ts l ≡ true → Ts l (time_of Form.Ts l)
unfolding time_of
ts_spells l e = subst (λ (x : List ℕ). Ts x (time_of Form.Ts l)) (together l) (at (five (length f) h.long))
  where
    f : List ℕ
    f = front_of l

    p : List ℕ
    p = tail_of l

    z : List ℕ
    z = zone_of l

    h : Holds Form.Ts f p z
    h = holds Form.Ts l e

    s : SpeltOffset z (offset_of z)
    s = offset_spells z h.zoned h.offset (zone_head l)

    clocked : (length f ≡ 12) ⊎ (length f ≡ 14) → Ts ((f ++ p) ++ z) (time_of Form.Ts l)
    clocked (inl n) =
        let m = length-drop 8 f in
        day_and_clock_spells f p z (omega arith) h
        (minute_spells (drop 8 f) p (digits_drop 8 f h.digits) (omega arith) (ap (λ (x : ℕ). fraction_form (eqb x 14) p) (sym n) ∙ h.tailed)) s
    clocked (inr n) =
        let m = length-drop 8 f in
        day_and_clock_spells f p z (omega arith) h
        (second_spells (drop 8 f) p (digits_drop 8 f h.digits) (omega arith) (ap (λ (x : ℕ). fraction_form (eqb x 14) p) (sym n) ∙ h.tailed) (begins 46 (body_of l) (find 46 (body_of l)) refl)) s

    at : (dt_length (length f) ≡ true) ⊎ ((length f ≡ 12) ⊎ (length f ≡ 14)) → Ts ((f ++ p) ++ z) (time_of Form.Ts l)
    at (inl n) = date_alone_spells f p z n h s
    at (inr n) = clocked n

-- ---- what is read

-- a reader that takes exactly the bytes of a form, with the time that they spell, gives the one answer that there is
module _ (Spelt : List ℕ → Time → Type 0) (l : List ℕ) (test : Bool) (time : Time) (spelt : (t : Time) → Spelt l t → (test ≡ true) × (time ≡ t)) where
  said : (test ≡ true → Spelt l time) → Answers Spelt l (time_if test time)
  said spells = at test refl
    where
      at : (t : Bool) → test ≡ t → Answers Spelt l (time_if t time)
      at true e = says (spells e)
      at false e = breaks (λ t s. false_true (sym e ∙ (spelt t s).0))

  once : {r s : Result Time Refusal} → Answers Spelt l r → Answers Spelt l s → r ≡ s
  once (says {t} a) (says {t = u} b) = λ i. Ok ((sym (spelt t a).1 ∙ (spelt u b).1) i)
  once (says {t} a) (breaks b) = absurd (b t a)
  once (breaks a) (says {t} b) = absurd (a t b)
  once (breaks a) (breaks b) = refl

pub dt_said : (l : List ℕ) → DtSays l (dt_read l)
unfolding dt_read
dt_said l = said Dt l (is_dt l) (dt_time l) (λ t s. dt_spelt s) (dt_spells l)

pub dt_once : {l : List ℕ} {r s : Result Time Refusal} → DtSays l r → DtSays l s → r ≡ s
dt_once {l} a b = once Dt l (is_dt l) (dt_time l) (λ t s. dt_spelt s) a b

pub tm_said : (l : List ℕ) → TmSays l (time_read Form.Tm l)
unfolding time_read
tm_said l = said Tm l (is_time Form.Tm l) (time_of Form.Tm l) (λ t s. tm_spelt s) (tm_spells l)

pub tm_once : {l : List ℕ} {r s : Result Time Refusal} → TmSays l r → TmSays l s → r ≡ s
tm_once {l} a b = once Tm l (is_time Form.Tm l) (time_of Form.Tm l) (λ t s. tm_spelt s) a b

pub ts_said : (l : List ℕ) → TsSays l (time_read Form.Ts l)
unfolding time_read
ts_said l = said Ts l (is_time Form.Ts l) (time_of Form.Ts l) (λ t s. ts_spelt s) (ts_spells l)

pub ts_once : {l : List ℕ} {r s : Result Time Refusal} → TsSays l r → TsSays l s → r ≡ s
ts_once {l} a b = once Ts l (is_time Form.Ts l) (time_of Form.Ts l) (λ t s. ts_spelt s) a b
