-- How DT, TM and TS are written, by document 01, 'Numbers and times': how many digits stand in front, behind a point
-- and behind a sign. Whether there is such a day or such an hour is no matter of the form.
use Rattle.std.specs.Prelude.{ℕ, min, List, [], ◌∷◌, Bool, true, false, ◌&&◌, ◌||◌, eqb, length, take, drop}
use Rattle.alphabet.specs.Bytes.{from_to, byte_of}
use Rattle.alphabet.specs.Digits.{all_digits}
use Rattle.alphabet.specs.Lists.{find}
use Rattle.numbers.specs.Numbers.{before_point}
use Rattle.forms.specs.declared.layouts.Form.{Form}
use Rattle.forms.specs.declared.layouts.Form.TheVariants.{Tm, Ts}

-- n is one of the list
abbrev pub one_of : List ℕ → ℕ → Bool
one_of [] n = false
one_of (x ∷ l) n = eqb n x || one_of l n

-- ---- DT: "YYYY[MM[DD]]"

abbrev pub dt_length : ℕ → Bool
dt_length = one_of (4 ∷ 6 ∷ 8 ∷ [])

unfoldable pub dt_form : List ℕ → Bool
dt_form l = all_digits l && dt_length (length l)

-- ---- TM and TS

-- what a line of the document says of the digits in front: behind how many of them it may stop, how many there are down
-- to the seconds, behind how many the clock begins, and whether a date stands before it
pub record Layout : Type 0 where
  pub stops : List ℕ
  pub seconds : ℕ
  pub clock : ℕ
  pub dated : Bool

abbrev pub layout_of : Form → Layout
-- TM: "HH[MM[SS[.S to .SSSS]]][+/-ZZZZ]"
layout_of Tm = record { stops = 2 ∷ 4 ∷ 6 ∷ []; seconds = 6; clock = 0; dated = false }
-- TS: "YYYY[MM[DD[HHMM[SS[.S to .SSSS]]]]][+/-ZZZZ]"
layout_of Ts = record { stops = 4 ∷ 6 ∷ 8 ∷ 12 ∷ 14 ∷ []; seconds = 14; clock = 8; dated = true }

-- the zone is what stands from the first sign on, the tail what stands from the point on before it, the front what
-- stands before both
abbrev pub first_sign : List ℕ → ℕ
first_sign l = min (find (byte_of "+") l) (find (byte_of "-") l)

abbrev pub body_of : List ℕ → List ℕ
body_of l = take (first_sign l) l

abbrev pub zone_of : List ℕ → List ℕ
zone_of l = drop (first_sign l) l

abbrev pub front_of : List ℕ → List ℕ
front_of l = before_point (body_of l)

abbrev pub tail_of : List ℕ → List ℕ
tail_of l = drop (find (byte_of ".") (body_of l)) (body_of l)

abbrev pub front_length : Form → ℕ → Bool
front_length form = one_of (layout_of form).stops

-- "[.S to .SSSS]": a fraction stands behind seconds alone, and has one to four digits
unfoldable pub fraction_form : Bool → List ℕ → Bool
fraction_form seconds tail = eqb (length tail) 0 || ((seconds && from_to 2 5 (length tail)) && all_digits (drop 1 tail))

-- "[+/-ZZZZ]"
unfoldable pub zone_form : List ℕ → Bool
zone_form zone = eqb (length zone) 0 || (eqb (length zone) 5 && all_digits (drop 1 zone))

-- front, tail and zone, each of its own form
abbrev pub parts_form : Form → List ℕ → List ℕ → List ℕ → Bool
parts_form form front tail zone =
    (all_digits front && front_length form (length front))
    && (fraction_form (eqb (length front) (layout_of form).seconds) tail && zone_form zone)

unfoldable pub time_form : Form → List ℕ → Bool
time_form form l = parts_form form (front_of l) (tail_of l) (zone_of l)
