-- Laws of judging a time with no time made of it: two digits and their number, digits looked at together, and what is judged part by part. Assumes nothing.
use Rattle.std.specs.List.{fold}
use mathlib.Core.Path.{◌≡◌, refl, sym, ap, ap₂, subst, ◌∙◌}
use mathlib.Core.List.{List, [], ◌∷◌}
use mathlib.Core.Bool.{Bool, true, false, cond, ◌&&◌}
use Prim.Native.Nat.{ℕ, zero, suc, ◌+◌, ◌-◌, ◌*◌, ◌≤◌}
use native.Mathlib.Omega.{arith}
use lib.ListN.{length, get_or, take, drop, drop_of_length-le}
use lib.Seq.{drop-drop, length-take-le, take_all}
use Rattle.alphabet.specs.Bytes.{digit}
use Rattle.alphabet.specs.Digits.{all_digits, counted, decimal}
use Rattle.alphabet.proofs.BoolLaws.{false_true, and_both, both_and, from_to_lem}
use Rattle.alphabet.proofs.DigitLaws.{digits_take, digits_drop}
use Rattle.alphabet.proofs.ListLaws.{drop_next}
use lib.Dec.{ltb, eqb}
use Rattle.calendar.specs.Calendar.{valid_date, valid_clock, valid_offset, valid_time}
use Rattle.numbers.specs.Numbers.{is_sign}
use Rattle.forms.specs.declared.layouts.Form.{Form}
use Rattle.forms.specs.declared.layouts.Form.TheVariants.{Ts}
use Rattle.forms.specs.Forms.{dt_length, dt_form, layout_of, front_length, front_of, tail_of, zone_of, fraction_form, zone_form, parts_form, time_form}
use Rattle.forms.specs.Places.{sign_place, point_place, body_at, front_at, tail_at, zone_at}
use Rattle.forms.proofs.FormLaws.{fraction_none}
use Rattle.forms.proofs.PlaceLaws.{same_parts, placed_form}
use Rattle.times.specs.Times.{date_of, date_in, clock_of, offset_of, dt_time, is_dt, parts_time, time_of, is_time}
use Rattle.times.specs.Judged.{front_judged, zone_judged}

-- ---- two digits

two_are : (l : List ℕ) (p : ℕ) → p + 2 ≤ length l → take 2 (drop p l) ≡ get_or l p 0 ∷ get_or l (p + 1) 0 ∷ []
two_are l p h = ap (take 2) (drop_next l p (omega arith) ∙ ap (λ (r : List ℕ). get_or l p 0 ∷ r) (drop_next l (p + 1) (omega arith)))

pub record Two (a b n : ℕ) : Type 0 where
  pub tens_least : 48 ≤ a
  pub tens_most : a ≤ 57
  pub ones_least : 48 ≤ b
  pub ones_most : b ≤ 57
  pub said : a * 10 + b - 528 ≡ n

two_of : (a b : ℕ) → all_digits (a ∷ b ∷ []) ≡ true → Two a b (decimal (a ∷ b ∷ []))
unfolding all_digits counted
two_of a b e =
    let x = and_both (digit a) (digit b && true) e in
    let y = and_both (digit b) true x.1 in
    let f = from_to_lem 48 57 a x.0 in
    let g = from_to_lem 48 57 b y.0 in
    let f0 = f.0 in
    let f1 = f.1 in
    let g0 = g.0 in
    let g1 = g.1 in
    record { tens_least = f0; tens_most = f1; ones_least = g0; ones_most = g1; said = omega arith }

pub two_told : (l : List ℕ) (p : ℕ) → all_digits (take 2 (drop p l)) ≡ true → p + 2 ≤ length l → Two (get_or l p 0) (get_or l (p + 1) 0) (decimal (take 2 (drop p l)))
two_told l p e h =
    let q = two_are l p h in
    subst (λ (m : List ℕ). Two (get_or l p 0) (get_or l (p + 1) 0) (decimal m)) (sym q) (two_of (get_or l p 0) (get_or l (p + 1) 0) (ap all_digits (sym q) ∙ e))

-- two of some digits are digits
pub two_digits : (l : List ℕ) (p : ℕ) → all_digits l ≡ true → all_digits (take 2 (drop p l)) ≡ true
two_digits l p e = digits_take 2 (drop p l) (digits_drop p l e)

-- two of the digits behind a zone's sign are digits
pub zone_digits : (l : List ℕ) → all_digits (drop 1 l) ≡ true → (all_digits (take 2 (drop 1 l)) ≡ true) × (all_digits (take 2 (drop 3 l)) ≡ true)
zone_digits l e = (
  digits_take 2 (drop 1 l) e,
  digits_take 2 (drop 3 l) (ap all_digits (sym (drop-drop 2 1 l)) ∙ digits_drop 2 (drop 1 l) e),
)

-- four digits are twice two
pub year_said : (l : List ℕ) → 4 ≤ length l → decimal (take 2 (drop 0 l)) * 100 + decimal (take 2 (drop 2 l)) ≡ decimal (take 4 (drop 0 l))
unfolding counted
year_said [] h = absurd (omega arith)
year_said (a ∷ []) h = absurd (omega arith)
year_said (a ∷ b ∷ []) h = absurd (omega arith)
year_said (a ∷ b ∷ c ∷ []) h = absurd (omega arith)
year_said (a ∷ b ∷ c ∷ d ∷ r) h = omega arith

pub two_below : (l : List ℕ) (p : ℕ) → all_digits l ≡ true → p + 2 ≤ length l → decimal (take 2 (drop p l)) ≤ 99
two_below l p e h =
    let t = two_told l p (two_digits l p e) h in
    let a = t.tens_most in
    let b = t.ones_most in
    let s = t.said in
    omega arith

-- ---- digits looked at together

folded : (t : Bool) (l : List ℕ) → fold (λ (all : Bool) (b : ℕ). all && digit b) t l ≡ (t && all_digits l)
unfolding all_digits
folded t [] = and_true t
  where
    and_true : (t : Bool) → t ≡ (t && true)
    and_true true = refl
    and_true false = refl
folded t (d ∷ r) = folded (t && digit d) r ∙ grouped t (digit d) (all_digits r)
  where
    grouped : (a b c : Bool) → ((a && b) && c) ≡ (a && (b && c))
    grouped true b c = refl
    grouped false b c = refl

pub digits_folded : (l : List ℕ) → fold (λ (all : Bool) (b : ℕ). all && digit b) true l ≡ all_digits l
digits_folded l = folded true l

whole : (n : ℕ) (l : List ℕ) → all_digits (take n l) ≡ true → all_digits (drop n l) ≡ true → all_digits l ≡ true
unfolding all_digits
whole zero l e f = f
whole (suc n) [] e f = refl
whole (suc n) (x ∷ r) e f =
    let b = and_both (digit x) (all_digits (take n r)) e in
    rw b.0 (whole n r b.1 f)

module _ (l : List ℕ) (n : ℕ) where
  pub first_block : all_digits (take n l) ≡ false → false ≡ all_digits l
  first_block e = at (all_digits l) refl
    where
      at : (t : Bool) → all_digits l ≡ t → false ≡ t
      at true q = absurd (false_true (sym e ∙ digits_take n l q))
      at false q = refl

  pub last_block : (k : ℕ) → k ≤ n → all_digits (take n l) ≡ true → all_digits (drop k l) ≡ all_digits l
  last_block k h e = at (all_digits l) (all_digits (drop k l)) refl refl
    where
      at : (t u : Bool) → all_digits l ≡ t → all_digits (drop k l) ≡ u → all_digits (drop k l) ≡ all_digits l
      at true u p q = digits_drop k l p ∙ sym p
      at false false p q = q ∙ sym p
      at false true p q =
          let m : k + (n - k) ≡ n = omega arith in
          let d = subst (λ (j : List ℕ). all_digits j ≡ true) (drop-drop (n - k) k l ∙ ap (λ (i : ℕ). drop i l) m) (digits_drop (n - k) (drop k l) q) in
          absurd (false_true (sym p ∙ whole n l e d))

-- ---- part by part

pub regrouped : (x y z e f g : Bool) → ((x && (e && f)) && (y && (z && g))) ≡ ((x && (y && z)) && (e && (f && g)))
regrouped false y z e f g = refl
regrouped true false z false f g = refl
regrouped true false z true false g = refl
regrouped true false z true true g = refl
regrouped true true false false f g = refl
regrouped true true false true false g = refl
regrouped true true false true true g = refl
regrouped true true true false f g = refl
regrouped true true true true f g = refl

module _ (form : Form) (l : List ℕ) where
  abbrev f : List ℕ
  f = front_at form l

  abbrev t : List ℕ
  t = tail_at form l

  abbrev z : List ℕ
  z = zone_at l

  abbrev fraction : Bool
  fraction = fraction_form (eqb (length f) (layout_of form).seconds) t

  placed_time : (parts_form form f t z && valid_time (parts_time form f t z)) ≡ is_time form l
  unfolding is_time time_of
  placed_time = at (parts_form form f t z) refl
    where
      at : (b : Bool) → parts_form form f t z ≡ b → (parts_form form f t z && valid_time (parts_time form f t z)) ≡ (time_form form l && valid_time (parts_time form (front_of l) (tail_of l) (zone_of l)))
      at true q =
          let s = same_parts form l q in
          ap₂ ◌&&◌ (placed_form form l) (λ i. valid_time (parts_time form (s.0 i) (s.1 i) (s.2 i)))
      at false q = rw (q, sym (placed_form form l) ∙ q)

  pub judged : (front_judged form f && (fraction && zone_judged z)) ≡ is_time form l
  unfolding valid_clock clock_of
  judged =
      regrouped (all_digits f && front_length form (length f)) fraction (zone_form z) (valid_date (date_in form f)) (valid_clock (clock_of f (layout_of form).clock t)) (valid_offset (offset_of z))
      ∙ placed_time

pub dt_judged : (l : List ℕ) → ((all_digits l && dt_length (length l)) && valid_date (date_of l)) ≡ is_dt l
unfolding is_dt dt_form dt_time valid_clock
dt_judged l = ap (λ (b : Bool). (all_digits l && dt_length (length l)) && b) (end (valid_date (date_of l)))
  where
    end : (b : Bool) → b ≡ (b && true)
    end true = refl
    end false = refl

-- ---- a TS with seconds and a zone: its parts stand at fixed places

module _ (l : List ℕ) (n : length l ≡ 19) (s : is_sign (get_or l 14 0) ≡ true) where
  usual_sign : sign_place l ≡ 14
  usual_sign = rw (n, s)

  usual_length : length (take 14 l) ≡ 14
  usual_length = length-take-le 14 l (omega arith)

  usual_body : body_at l ≡ take 14 l
  usual_body = ap (λ (k : ℕ). take k l) usual_sign

  usual_point : point_place 14 (take 14 l) ≡ 14
  usual_point = ap (λ (k : ℕ). cond (ltb 14 k && eqb (get_or (take 14 l) 14 0) 46) 14 k) usual_length

  usual_front : front_at Ts l ≡ take 14 l
  usual_front =
      let h : length (take 14 l) ≤ 14 = let k = usual_length in omega arith in
      ap (λ (b : List ℕ). take (point_place 14 b) b) usual_body ∙ ap (λ (k : ℕ). take k (take 14 l)) usual_point ∙ take_all 14 (take 14 l) h

  usual_tail : tail_at Ts l ≡ []
  usual_tail =
      let h : length (take 14 l) ≤ 14 = let k = usual_length in omega arith in
      ap (λ (b : List ℕ). drop (point_place 14 b) b) usual_body ∙ ap (λ (k : ℕ). drop k (take 14 l)) usual_point ∙ drop_of_length-le (take 14 l) h

  pub usual_ts : all_digits (take 14 l) ≡ true → (valid_date (date_of (take 14 l)) && valid_clock (clock_of (take 14 l) 8 [])) ≡ true → zone_judged (drop 14 l) ≡ true → is_time Ts l ≡ true
  usual_ts d e z =
      let long : front_length Ts (length (take 14 l)) ≡ true = ap (front_length Ts) usual_length in
      sym (judged Ts l)
      ∙ both_and (ap (front_judged Ts) usual_front ∙ both_and (both_and d long) e)
      (both_and (fraction_none _ _ (ap length usual_tail)) (ap (λ (k : ℕ). zone_judged (drop k l)) usual_sign ∙ z))
