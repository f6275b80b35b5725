-- A time was written in one way only: two TS, or two TM, that say the same time are the same bytes. So what was sent can be told from the time, and
-- different spellings of how much was sent give different times. Assumes nothing.
use mathlib.Core.Path.{◌≡◌, refl, sym, ap, ◌∙◌}
use mathlib.Core.List.{List, [], ◌∷◌, ◌++◌}
use mathlib.Core.Bool.{Bool, true, false, cond, ◌||◌}
use mathlib.Core.Logic.{◌⊎◌, inl, inr, ⊎_elim}
use Prim.Native.Nat.{ℕ, suc, ◌+◌, ◌-◌, ◌≤◌, ◌<◌, min}
use native.Mathlib.Omega.{arith}
use lib.Dec.{leb, eqb}
use lib.ListN.{length, get_or, take, drop, length-drop, take-append-drop}
use lib.Seq.{take-add, take_all, length-take-le, get_or-drop}
use borrow.Author.Tests.{leb-true, leb-false, ne_eqb}
use Rattle.std.specs.Prelude.{Some, None, Option}
use Rattle.alphabet.specs.Digits.{all_digits, decimal}
use Rattle.alphabet.specs.Lists.{find}
use Rattle.alphabet.proofs.BoolLaws.{false_true}
use Rattle.alphabet.proofs.DigitLaws.{digits_same, digits_take, digits_drop}
use Rattle.alphabet.proofs.ListLaws.{find_is}
use Rattle.forms.specs.declared.layouts.Form.{Form}
use Rattle.forms.specs.declared.layouts.Form.TheVariants.{Tm, Ts}
use Rattle.forms.specs.Forms.{one_of, dt_length, front_length, body_of, zone_of, front_of, tail_of, time_form}
use Rattle.forms.proofs.FormLaws.{one_of_lem, dt_length_lem, front_digits, front_length_lem, tail_holds, zone_held}
use Rattle.times.specs.Times.{is_dt, dt_time, figure_at, date_of, fraction_of, clock_of, offset_of, is_time, time_of}
use Rattle.calendar.specs.declared.figures.Date.{Date}
use Rattle.calendar.specs.declared.figures.Clock.{Clock}
use Rattle.calendar.specs.declared.figures.Sign.{Sign}
use Rattle.calendar.specs.declared.figures.Fraction.{Fraction}
use Rattle.calendar.specs.declared.figures.Offset.{Offset}
use Rattle.calendar.specs.declared.figures.Time.{Time}
use Rattle.times.proofs.FigureLaws.{figure_sent, figure_not, fraction_not, fraction_sent, offset_not}
use Rattle.times.proofs.TimeLaws.{dt_formed, dt_digits, time_formed}

-- ---- the front, figure by figure

sent_number : {m n : ℕ} → Some m ≡ Some n → m ≡ n
sent_number q = cc

never : {A : Type 0} {x : A} → Some x ≡ None → ⊥
never q = let z : ◌≡◌ {A = ℕ} 0 1 = cc in omega arith

module _ (l l' : List ℕ) (e : all_digits l ≡ true) (e' : all_digits l' ≡ true) where
  -- a figure that both sent alike is written alike
  figure_same : (s w : ℕ) → figure_at l s w ≡ figure_at l' s w → s + w ≤ length l → s + w ≤ length l' → take w (drop s l) ≡ take w (drop s l')
  figure_same s w q h h' =
      let d = length-drop s l in
      let d' = length-drop s l' in
      let n = length-take-le w (drop s l) (omega arith) in
      let n' = length-take-le w (drop s l') (omega arith) in
      let k = sent_number (sym (figure_sent l s w h) ∙ q ∙ figure_sent l' s w h') in
      (digits_same 0 0 (take w (drop s l)) (take w (drop s l')) (digits_take w (drop s l) (digits_drop s l e)) (digits_take w (drop s l') (digits_drop s l' e')) (omega arith) k).1

  -- both are written alike up to s + w, if they are up to s and neither ends between
  step : (s w : ℕ) → (length l < s + w → length l ≤ s) → (length l' < s + w → length l' ≤ s) → figure_at l s w ≡ figure_at l' s w → take s l ≡ take s l'
      → take (s + w) l ≡ take (s + w) l'
  step s w g g' q p = at (leb (s + w) (length l)) refl (leb (s + w) (length l')) refl
    where
      at : (t : Bool) → leb (s + w) (length l) ≡ t → (u : Bool) → leb (s + w) (length l') ≡ u → take (s + w) l ≡ take (s + w) l'
      at true a true b =
          let f = figure_same s w q (leb-true (s + w) (length l) a) (leb-true (s + w) (length l') b) in
          take-add s w l ∙ ap (λ (x : List ℕ). x ++ take w (drop s l)) p ∙ ap (λ (x : List ℕ). take s l' ++ x) f ∙ sym (take-add s w l')
      at true a false b = absurd (never (sym (figure_sent l s w (leb-true (s + w) (length l) a)) ∙ q ∙ figure_not l' s w (leb-false (s + w) (length l') b)))
      at false a true b = absurd (never (sym (figure_sent l' s w (leb-true (s + w) (length l') b)) ∙ sym q ∙ figure_not l s w (leb-false (s + w) (length l) a)))
      at false a false b =
          let h = g (leb-false (s + w) (length l) a) in
          let h' = g' (leb-false (s + w) (length l') b) in
          take_all (s + w) l (omega arith) ∙ sym (take_all s l h) ∙ p ∙ take_all s l' h' ∙ sym (take_all (s + w) l' (omega arith))

-- ---- how long the front is

pub or_cases : (x y : Bool) → (x || y) ≡ true → (x ≡ true) ⊎ (y ≡ true)
or_cases true y e = inl refl
or_cases false y e = inr e

pub three : (n a b c : ℕ) → one_of (a ∷ b ∷ c ∷ []) n ≡ true → (n ≡ a) ⊎ ((n ≡ b) ⊎ (n ≡ c))
three n a b c e =
    ⊎_elim inl
    (λ p. ⊎_elim (λ q. inr (inl q)) (λ q. ⊎_elim (λ r. inr (inr r)) false_true (one_of_lem c [] n q)) (one_of_lem b (c ∷ []) n p))
    (one_of_lem a (b ∷ c ∷ []) n e)

-- a front of a TS is as long as a DT, or twelve or fourteen digits long
pub five : (n : ℕ) → front_length Ts n ≡ true → (dt_length n ≡ true) ⊎ ((n ≡ 12) ⊎ (n ≡ 14))
five n e =
    ⊎_elim (λ a. inl (ap dt_length a))
    (λ p. ⊎_elim (λ a. inl (ap dt_length a))
    (λ q. ⊎_elim (λ a. inl (ap dt_length a)) (λ r. inr (⊎_elim inl (λ t. ⊎_elim inr false_true (one_of_lem 14 [] n t)) (one_of_lem 12 (14 ∷ []) n r))) (one_of_lem 8 (12 ∷ 14 ∷ []) n q))
    (one_of_lem 6 (8 ∷ 12 ∷ 14 ∷ []) n p))
    (one_of_lem 4 (6 ∷ 8 ∷ 12 ∷ 14 ∷ []) n e)

pub dt_front : (n : ℕ) → dt_length n ≡ true → front_length Ts n ≡ true
dt_front n e = ⊎_elim (λ a. ap (front_length Ts) a) (λ p. ⊎_elim (λ a. ap (front_length Ts) a) (λ a. ap (front_length Ts) a) p) (three n 4 6 8 e)

-- no front ends between the places where its figures begin
pub record Gaps (n : ℕ) : Type 0 where
  pub year : n < 0 + 4 → n ≤ 0
  pub month : n < 4 + 2 → n ≤ 4
  pub day : n < 6 + 2 → n ≤ 6
  pub hour : n < 8 + 2 → n ≤ 8
  pub minute : n < 10 + 2 → n ≤ 10
  pub second : n < 12 + 2 → n ≤ 12
  pub most : n ≤ 14

gaps_at : (n : ℕ) → (n ≡ 4) ⊎ ((n ≡ 6) ⊎ ((n ≡ 8) ⊎ ((n ≡ 12) ⊎ (n ≡ 14)))) → Gaps n
gaps_at n (inl e) = record { year = λ h. omega arith; month = λ h. omega arith; day = λ h. omega arith; hour = λ h. omega arith; minute = λ h. omega arith; second = λ h. omega arith; most = omega arith }
gaps_at n (inr (inl e)) = record { year = λ h. omega arith; month = λ h. omega arith; day = λ h. omega arith; hour = λ h. omega arith; minute = λ h. omega arith; second = λ h. omega arith; most = omega arith }
gaps_at n (inr (inr (inl e))) = record { year = λ h. omega arith; month = λ h. omega arith; day = λ h. omega arith; hour = λ h. omega arith; minute = λ h. omega arith; second = λ h. omega arith; most = omega arith }
gaps_at n (inr (inr (inr (inl e)))) = record { year = λ h. omega arith; month = λ h. omega arith; day = λ h. omega arith; hour = λ h. omega arith; minute = λ h. omega arith; second = λ h. omega arith; most = omega arith }
gaps_at n (inr (inr (inr (inr e)))) = record { year = λ h. omega arith; month = λ h. omega arith; day = λ h. omega arith; hour = λ h. omega arith; minute = λ h. omega arith; second = λ h. omega arith; most = omega arith }

dt_gaps : (n : ℕ) → dt_length n ≡ true → Gaps n
dt_gaps n e = gaps_at n (⊎_elim inl (λ q. ⊎_elim (λ r. inr (inl r)) (λ r. inr (inr (inl r))) q) (three n 4 6 8 e))

dated_gaps : (n : ℕ) → front_length Ts n ≡ true → Gaps n
dated_gaps n e = ⊎_elim (dt_gaps n) (λ p. gaps_at n (inr (inr (inr p)))) (five n e)

pub record ClockGaps (n : ℕ) : Type 0 where
  pub hour : n < 0 + 2 → n ≤ 0
  pub minute : n < 2 + 2 → n ≤ 2
  pub second : n < 4 + 2 → n ≤ 4
  pub most : n ≤ 6

clock_gaps_at : (n : ℕ) → (n ≡ 2) ⊎ ((n ≡ 4) ⊎ (n ≡ 6)) → ClockGaps n
clock_gaps_at n (inl e) = record { hour = λ h. omega arith; minute = λ h. omega arith; second = λ h. omega arith; most = omega arith }
clock_gaps_at n (inr (inl e)) = record { hour = λ h. omega arith; minute = λ h. omega arith; second = λ h. omega arith; most = omega arith }
clock_gaps_at n (inr (inr e)) = record { hour = λ h. omega arith; minute = λ h. omega arith; second = λ h. omega arith; most = omega arith }

-- ---- the front is told by the date and the clock

module _ (l l' t t' : List ℕ) (e : all_digits l ≡ true) (e' : all_digits l' ≡ true) where
  dated_front : front_length Ts (length l) ≡ true → front_length Ts (length l') ≡ true → date_of l ≡ date_of l' → clock_of l 8 t ≡ clock_of l' 8 t' → l ≡ l'
  unfolding date_of clock_of
  dated_front f f' d c =
      let g = dated_gaps (length l) f in
      let g' = dated_gaps (length l') f' in
      let a = step l l' e e' 0 4 g.year g'.year (ap (λ (x : Date). x.year) d) refl in
      let a2 = step l l' e e' 4 2 g.month g'.month (ap (λ (x : Date). x.month) d) a in
      let a3 = step l l' e e' 6 2 g.day g'.day (ap (λ (x : Date). x.day) d) a2 in
      let a4 = step l l' e e' 8 2 g.hour g'.hour (ap (λ (x : Clock). x.hour) c) a3 in
      let a5 = step l l' e e' 10 2 g.minute g'.minute (ap (λ (x : Clock). x.minute) c) a4 in
      let a6 = step l l' e e' 12 2 g.second g'.second (ap (λ (x : Clock). x.second) c) a5 in
      sym (take_all 14 l g.most) ∙ a6 ∙ take_all 14 l' g'.most

  clock_front : front_length Tm (length l) ≡ true → front_length Tm (length l') ≡ true → clock_of l 0 t ≡ clock_of l' 0 t' → l ≡ l'
  unfolding clock_of
  clock_front f f' c =
      let g = clock_gaps_at (length l) (three (length l) 2 4 6 f) in
      let g' = clock_gaps_at (length l') (three (length l') 2 4 6 f') in
      let a = step l l' e e' 0 2 g.hour g'.hour (ap (λ (x : Clock). x.hour) c) refl in
      let a2 = step l l' e e' 2 2 g.minute g'.minute (ap (λ (x : Clock). x.minute) c) a in
      let a3 = step l l' e e' 4 2 g.second g'.second (ap (λ (x : Clock). x.second) c) a2 in
      sym (take_all 6 l g.most) ∙ a3 ∙ take_all 6 l' g'.most

-- ---- the tail is told by the fraction, its number and its count of digits

fraction_value : Option Fraction → ℕ
fraction_value (Some f) = f.value
fraction_value None = 0

fraction_digits : Option Fraction → ℕ
fraction_digits (Some f) = f.digits
fraction_digits None = 0

tail_same : (t t' : List ℕ) → all_digits (drop 1 t) ≡ true → all_digits (drop 1 t') ≡ true → ((length t ≡ 0 → ⊥) → get_or t 0 0 ≡ 46) → ((length t' ≡ 0 → ⊥) → get_or t' 0 0 ≡ 46)
    → fraction_of t ≡ fraction_of t' → t ≡ t'
unfolding fraction_value fraction_digits
tail_same [] [] d d' h h' q = refl
tail_same [] (b ∷ r) d d' h h' q = absurd (never (sym (fraction_sent (b ∷ r) (λ z. omega arith)) ∙ sym q ∙ fraction_not [] refl))
tail_same (b ∷ r) [] d d' h h' q = absurd (never (sym (fraction_sent (b ∷ r) (λ z. omega arith)) ∙ q ∙ fraction_not [] refl))
tail_same (b ∷ r) (b' ∷ r') d d' h h' q =
    let e = sym (fraction_sent (b ∷ r) (λ z. omega arith)) ∙ q ∙ fraction_sent (b' ∷ r') (λ z. omega arith) in
    let k = ap fraction_value e in
    let n = ap fraction_digits e in
    let s = (digits_same 0 0 r r' d d' (omega arith) k).1 in
    let x : b ≡ 46 = h (λ z. omega arith) in
    let x' : b' ≡ 46 = h' (λ z. omega arith) in
    cc

-- ---- the zone is told by the offset

-- a sign and four digits, of which the two pairs are the same
four_same : (r r' : List ℕ) → length r ≡ 4 → length r' ≡ 4 → all_digits r ≡ true → all_digits r' ≡ true → decimal (take 2 r) ≡ decimal (take 2 r') → decimal (take 2 (drop 2 r)) ≡ decimal (take 2 (drop 2 r')) → r ≡ r'
four_same r r' n n' d d' a b =
    let k = length-drop 2 r in
    let k' = length-drop 2 r' in
    let i = length-take-le 2 r (omega arith) in
    let i' = length-take-le 2 r' (omega arith) in
    let j = length-take-le 2 (drop 2 r) (omega arith) in
    let j' = length-take-le 2 (drop 2 r') (omega arith) in
    let x = (digits_same 0 0 (take 2 r) (take 2 r') (digits_take 2 r d) (digits_take 2 r' d') (omega arith) a).1 in
    let y = (digits_same 0 0 (take 2 (drop 2 r)) (take 2 (drop 2 r')) (digits_take 2 (drop 2 r) (digits_drop 2 r d)) (digits_take 2 (drop 2 r') (digits_drop 2 r' d')) (omega arith) b).1 in
    let w = sym (take_all 4 r (omega arith)) ∙ take-add 2 2 r in
    w ∙ ap (λ (z : List ℕ). z ++ take 2 (drop 2 r)) x ∙ ap (λ (z : List ℕ). take 2 r' ++ z) y ∙ sym (take-add 2 2 r') ∙ take_all 4 r' (omega arith)

-- what an offset says, where there is one
sign_in : Option Offset → Sign
sign_in (Some o) = o.sign
sign_in None = Sign.Plus

hours_in : Option Offset → ℕ
hours_in (Some o) = o.hours
hours_in None = 0

minutes_in : Option Offset → ℕ
minutes_in (Some o) = o.minutes
minutes_in None = 0

module _ (z : List ℕ) (h : length z ≡ 0 → ⊥) where
  -- a zone that is there says an offset
  some_offset : offset_of z ≡ None → ⊥
  unfolding offset_of
  some_offset e = never (let q : cond (eqb (length z) 0) None _ ≡ None = e in rw (ne_eqb (length z) 0 h) at q)

  sign_of : sign_in (offset_of z) ≡ cond (eqb (get_or z 0 0) 45) Sign.Minus Sign.Plus
  unfolding offset_of sign_in
  sign_of = rw (ne_eqb (length z) 0 h)

  hours_of : hours_in (offset_of z) ≡ decimal (take 2 (drop 1 z))
  unfolding offset_of hours_in
  hours_of = rw (ne_eqb (length z) 0 h)

  minutes_of : minutes_in (offset_of z) ≡ decimal (take 2 (drop 3 z))
  unfolding offset_of minutes_in
  minutes_of = rw (ne_eqb (length z) 0 h)

head_same : (b b' : ℕ) → (b ≡ 43) ⊎ (b ≡ 45) → (b' ≡ 43) ⊎ (b' ≡ 45) → cond (eqb b 45) Sign.Minus Sign.Plus ≡ cond (eqb b' 45) Sign.Minus Sign.Plus → b ≡ b'
head_same b b' (inl p) (inl p') q = p ∙ sym p'
head_same b b' (inr p) (inr p') q = p ∙ sym p'
head_same b b' (inl p) (inr p') q = absurd (let r : Sign.Plus ≡ Sign.Minus = rw (p, p') at q in let z : ◌≡◌ {A = ℕ} 0 1 = cc in omega arith)
head_same b b' (inr p) (inl p') q = absurd (let r : Sign.Minus ≡ Sign.Plus = rw (p, p') at q in let z : ◌≡◌ {A = ℕ} 0 1 = cc in omega arith)

zone_same : (z z' : List ℕ) → all_digits (drop 1 z) ≡ true → all_digits (drop 1 z') ≡ true → ((length z ≡ 0 → ⊥) → length z ≡ 5) → ((length z' ≡ 0 → ⊥) → length z' ≡ 5)
    → ((length z ≡ 0 → ⊥) → (get_or z 0 0 ≡ 43) ⊎ (get_or z 0 0 ≡ 45)) → ((length z' ≡ 0 → ⊥) → (get_or z' 0 0 ≡ 43) ⊎ (get_or z' 0 0 ≡ 45)) → offset_of z ≡ offset_of z' → z ≡ z'
zone_same [] [] d d' n n' h h' q = refl
zone_same [] (b ∷ r) d d' n n' h h' q =
    absurd (some_offset (b ∷ r) (λ x. omega arith) (sym q ∙ offset_not [] refl))
zone_same (b ∷ r) [] d d' n n' h h' q =
    absurd (some_offset (b ∷ r) (λ x. omega arith) (q ∙ offset_not [] refl))
zone_same (b ∷ r) (b' ∷ r') d d' n n' h h' q =
    let some : suc (length r) ≡ 0 → ⊥ = λ x. omega arith in
    let some' : suc (length r') ≡ 0 → ⊥ = λ x. omega arith in
    let k = n some in
    let k' = n' some' in
    let s = head_same b b' (h some) (h' some') (sym (sign_of (b ∷ r) some) ∙ ap sign_in q ∙ sign_of (b' ∷ r') some') in
    let x = sym (hours_of (b ∷ r) some) ∙ ap hours_in q ∙ hours_of (b' ∷ r') some' in
    let y = sym (minutes_of (b ∷ r) some) ∙ ap minutes_in q ∙ minutes_of (b' ∷ r') some' in
    let f = four_same r r' (omega arith) (omega arith) d d' x y in
    cc

-- ---- what a tail and a zone begin with

behind : (n p : ℕ) → (n - p ≡ 0 → ⊥) → p < n
behind n p h = at (leb n p) refl
  where
    at : (t : Bool) → leb n p ≡ t → p < n
    at true e = let l = leb-true n p e in absurd (h (omega arith))
    at false e = leb-false n p e

-- what is left of a list from the place of a byte on, if anything is, begins with that byte
pub begins : (b : ℕ) (l : List ℕ) (p : ℕ) → p ≡ find b l → (length (drop p l) ≡ 0 → ⊥) → get_or (drop p l) 0 0 ≡ b
begins b l p e h =
    let n = length-drop p l in
    let k = behind (length l) p (λ z. h (n ∙ z)) in
    let i : p + 0 ≡ find b l = omega arith in
    get_or-drop p l 0 0 ∙ ap (λ (j : ℕ). get_or l j 0) i ∙ find_is b l (omega arith)

pub zone_head : (l : List ℕ) → (length (zone_of l) ≡ 0 → ⊥) → (get_or (zone_of l) 0 0 ≡ 43) ⊎ (get_or (zone_of l) 0 0 ≡ 45)
zone_head l h = at (leb (find 43 l) (find 45 l)) refl
  where
    at : (t : Bool) → leb (find 43 l) (find 45 l) ≡ t → (get_or (zone_of l) 0 0 ≡ 43) ⊎ (get_or (zone_of l) 0 0 ≡ 45)
    at true e = let k = leb-true (find 43 l) (find 45 l) e in inl (begins 43 l (min (find 43 l) (find 45 l)) (omega arith) h)
    at false e = let k = leb-false (find 43 l) (find 45 l) e in inr (begins 45 l (min (find 43 l) (find 45 l)) (omega arith) h)

-- ---- the whole

module _ (form : Form) (a b : List ℕ) (e : time_form form a ≡ true) (f : time_form form b ≡ true) (q : time_of form a ≡ time_of form b) where
  tails : tail_of a ≡ tail_of b
  unfolding time_of clock_of
  tails =
      tail_same (tail_of a) (tail_of b) (tail_holds form a e).0 (tail_holds form b f).0 (begins 46 (body_of a) (find 46 (body_of a)) refl) (begins 46 (body_of b) (find 46 (body_of b)) refl)
      (ap (λ (t : Time). t.clock.fraction) q)

  zones : zone_of a ≡ zone_of b
  unfolding time_of
  zones =
      zone_same (zone_of a) (zone_of b) (zone_held form a e).0 (zone_held form b f).0 (zone_held form a e).1 (zone_held form b f).1 (zone_head a) (zone_head b)
      (ap (λ (t : Time). t.offset) q)

  -- the front, the tail and the zone are all there is
  together : front_of a ≡ front_of b → a ≡ b
  together p =
      let body = sym (take-append-drop (find 46 (body_of a)) (body_of a)) ∙ ap (λ (x : List ℕ). x ++ tail_of a) p ∙ ap (λ (x : List ℕ). front_of b ++ x) tails ∙ take-append-drop (find 46 (body_of b)) (body_of b) in
      sym (take-append-drop (min (find 43 a) (find 45 a)) a) ∙ ap (λ (x : List ℕ). x ++ zone_of a) body ∙ ap (λ (x : List ℕ). body_of b ++ x) zones
      ∙ take-append-drop (min (find 43 b) (find 45 b)) b

pub one_spelling : (form : Form) (a b : List ℕ) → is_time form a ≡ true → is_time form b ≡ true → time_of form a ≡ time_of form b → a ≡ b
unfolding time_of
one_spelling Ts a b e f q =
    let e1 = time_formed Ts a e in
    let f1 = time_formed Ts b f in
    together Ts a b e1 f1 q
    (dated_front (front_of a) (front_of b) (tail_of a) (tail_of b) (front_digits Ts a e1) (front_digits Ts b f1) (front_length_lem Ts a e1) (front_length_lem Ts b f1)
    (ap (λ (t : Time). t.date) q) (ap (λ (t : Time). t.clock) q))
one_spelling Tm a b e f q =
    let e1 = time_formed Tm a e in
    let f1 = time_formed Tm b f in
    together Tm a b e1 f1 q
    (clock_front (front_of a) (front_of b) (tail_of a) (tail_of b) (front_digits Tm a e1) (front_digits Tm b f1) (front_length_lem Tm a e1) (front_length_lem Tm b f1)
    (ap (λ (t : Time). t.clock) q))

-- and the same of a DT
pub dt_most : (n : ℕ) → (n ≡ 4) ⊎ ((n ≡ 6) ⊎ (n ≡ 8)) → n ≤ 8
dt_most n (inl e) = omega arith
dt_most n (inr (inl e)) = omega arith
dt_most n (inr (inr e)) = omega arith

pub one_dt_spelling : (a b : List ℕ) → is_dt a ≡ true → is_dt b ≡ true → dt_time a ≡ dt_time b → a ≡ b
unfolding dt_time date_of
one_dt_spelling a b e f q =
    let d = ap (λ (t : Time). t.date) q in
    let x = dt_digits a e in
    let y = dt_digits b f in
    let g = dt_gaps (length a) (dt_length_lem a (dt_formed a e)) in
    let g' = dt_gaps (length b) (dt_length_lem b (dt_formed b f)) in
    let m = dt_most (length a) (three (length a) 4 6 8 (dt_length_lem a (dt_formed a e))) in
    let m' = dt_most (length b) (three (length b) 4 6 8 (dt_length_lem b (dt_formed b f))) in
    let s = step a b x y 0 4 g.year g'.year (ap (λ (z : Date). z.year) d) refl in
    let s2 = step a b x y 4 2 g.month g'.month (ap (λ (z : Date). z.month) d) s in
    let s3 = step a b x y 6 2 g.day g'.day (ap (λ (z : Date). z.day) d) s2 in
    sym (take_all 8 a m) ∙ s3 ∙ take_all 8 b m'
