-- The bytes of a number and of a time are digits, signs and points, and nothing else; so none of them is a delimiter. Assumes nothing.
use mathlib.Core.Path.{◌≡◌, refl, sym, ap, ap₂, ◌∙◌, subst}
use mathlib.Core.Logic.{◌⊎◌, inl, inr}
use mathlib.Core.Bool.{Bool, true, false, cond, not, ◌||◌}
use mathlib.Core.List.{List, [], ◌∷◌}
use Prim.Native.Nat.{ℕ, ◌≤◌, ◌<◌, min}
use native.Mathlib.Decide.{dec_lt}
use native.Mathlib.Omega.{arith}
use lib.Dec.{leb, eqb}
use lib.ListN.{length, get_or, drop, drop_of_length-le, length-drop, take-append-drop}
use lib.Seq.{drop-drop}
use borrow.Author.Tests.{eqb-true, ltb-false, le-leb, lt-leb}
use Rattle.alphabet.specs.Bytes.{digit}
use Rattle.alphabet.specs.Digits.{all_digits}
use Rattle.alphabet.specs.Delimiters.{permitted}
use Rattle.alphabet.specs.Lists.{find}
use Rattle.alphabet.proofs.BoolLaws.{and_both, from_to_lem}
use Rattle.alphabet.proofs.ListLaws.{drop_next, find_is}
use Rattle.laws.proofs.EachLaws.{Each, each_append, at_each}
use Rattle.numbers.specs.Numbers.{some_digits, unsigned, before_point, has_point, fraction, nm_form, is_si}
use Rattle.forms.specs.declared.layouts.Form.{Form}
use Rattle.forms.specs.Forms.{body_of, zone_of, front_of, tail_of}
use Rattle.forms.proofs.FormLaws.{front_digits, tail_holds, zone_held}
use Rattle.times.specs.Times.{is_dt, is_time}
use Rattle.acknowledgement.specs.Acknowledgement.{version}
use Rattle.times.proofs.TimeLaws.{dt_digits, time_formed}

module _ (P : ℕ → Type 0) (digits : (b : ℕ) → digit b ≡ true → P b) where
  digits_each : (l : List ℕ) → all_digits l ≡ true → Each P l
  unfolding Each all_digits
  digits_each [] e = tt
  digits_each (d ∷ l) e = let b = and_both (digit d) (all_digits l) e in (digits d b.0, digits_each l b.1)

  -- one byte, where there is one, and digits behind it
  sign_each : (x : List ℕ) → (1 ≤ length x → P (get_or x 0 0)) → all_digits (drop 1 x) ≡ true → Each P x
  unfolding Each
  sign_each [] h e = tt
  sign_each (b ∷ x) h e = (h (omega arith), digits_each x e)

  from : (l : List ℕ) (i : ℕ) → (i < length l → P (get_or l i 0)) → 1 ≤ length (drop i l) → P (get_or (drop i l) 0 0)
  from l i h k =
      let n = length-drop i l in
      let j : i < length l = omega arith in
      subst P (sym (ap (λ (x : List ℕ). get_or x 0 0) (drop_next l i j))) (h j)

  pub time_each : P 43 → P 45 → P 46 → (form : Form) (l : List ℕ) → is_time form l ≡ true → Each P l
  time_each plus minus point form l e =
      let f = time_formed form l e in
      let body = body_of l in
      let front = digits_each (front_of l) (front_digits form l f) in
      let tail = sign_each (tail_of l) (from body (find 46 body) (λ h. subst P (sym (find_is 46 body h)) point)) (tail_holds form l f).0 in
      let zone = sign_each (zone_of l) (from l (min (find 43 l) (find 45 l)) sign) (zone_held form l f).0 in
      subst (Each P) (take-append-drop (min (find 43 l) (find 45 l)) l)
      (each_append P body (zone_of l) (subst (Each P) (take-append-drop (find 46 body) body) (each_append P (front_of l) (tail_of l) front tail)) zone)
    where
      sign : min (find 43 l) (find 45 l) < length l → P (get_or l (min (find 43 l) (find 45 l)) 0)
      sign h = go (dec_lt (find 45 l) (find 43 l))
        where
          go : Dec (find 45 l < find 43 l) → P (get_or l (min (find 43 l) (find 45 l)) 0)
          go (yes d) =
              let n : min (find 43 l) (find 45 l) ≡ find 45 l = omega arith in
              subst P (sym (ap (λ (i : ℕ). get_or l i 0) n ∙ find_is 45 l (omega arith))) minus
          go (no d) =
              let n : min (find 43 l) (find 45 l) ≡ find 43 l = omega arith in
              subst P (sym (ap (λ (i : ℕ). get_or l i 0) n ∙ find_is 43 l (omega arith))) plus

  -- what stands from the point on: nothing, or the point and digits
  point_each : P 46 → (u : List ℕ) → (has_point u ≡ false) ⊎ (some_digits (fraction u) ≡ true) → Each P (drop (find 46 u) u)
  point_each point u (inl e) = subst (Each P) (sym (drop_of_length-le u (ltb-false (find 46 u) (length u) e))) nothing
    where
      nothing : Each P []
      nothing = at_each P [] (λ i h. absurd (omega arith))
  point_each point u (inr e) =
      let f = find 46 u in
      let d = (and_both (leb 1 (length (fraction u))) (all_digits (fraction u)) e).1 in
      sign_each (drop f u) (from u f (λ h. subst P (sym (find_is 46 u h)) point)) (ap all_digits (drop-drop 1 f u) ∙ d)

  unsigned_each : P 46 → (l : List ℕ) → nm_form l ≡ true → Each P (unsigned l)
  unfolding nm_form
  unsigned_each point l e =
      let u = unsigned l in
      let b = and_both (some_digits (before_point u)) (not (has_point u) || some_digits (fraction u)) e in
      let digits-before = (and_both (leb 1 (length (before_point u))) (all_digits (before_point u)) b.0).1 in
      subst (Each P) (take-append-drop (find 46 u) u)
      (each_append P (before_point u) (drop (find 46 u) u) (digits_each (before_point u) digits-before) (point_each point u (either (has_point u) (some_digits (fraction u)) b.1)))
    where
      either : (x y : Bool) → (not x || y) ≡ true → (x ≡ false) ⊎ (y ≡ true)
      either true y q = inr q
      either false y q = inl refl

  pub number_each : P 43 → P 45 → P 46 → (l : List ℕ) → nm_form l ≡ true → Each P l
  unfolding unsigned Each
  number_each plus minus point l e = at l (eqb (get_or l 0 0) 43) refl (eqb (get_or l 0 0) 45) refl (unsigned_each point l e)
    where
      at : (l : List ℕ) (t : Bool) → eqb (get_or l 0 0) 43 ≡ t → (u : Bool) → eqb (get_or l 0 0) 45 ≡ u → Each P (cond (eqb (get_or l 0 0) 43 || eqb (get_or l 0 0) 45) (drop 1 l) l) → Each P l
      at [] t p u q h = tt
      at (b ∷ r) true p u q h = (subst P (sym (eqb-true b 43 p)) plus, subst (λ (x : Bool). Each P (cond (x || eqb b 45) r (b ∷ r))) p h)
      at (b ∷ r) false p true q h = (subst P (sym (eqb-true b 45 q)) minus, subst (λ (x : Bool). Each P (cond x r (b ∷ r))) (ap₂ ◌||◌ p q) h)
      at (b ∷ r) false p false q h = subst (λ (x : Bool). Each P (cond x r (b ∷ r))) (ap₂ ◌||◌ p q) h

-- ---- "So no byte of a number, a time or `2.4` is a delimiter."

-- a byte that no delimiter can be
abbrev pub NoDelimiter : ℕ → Type 0
NoDelimiter b = permitted b ≡ false

pub digit_none : (b : ℕ) → digit b ≡ true → NoDelimiter b
digit_none b e =
    let d = from_to_lem 48 57 b e in
    rw (le-leb 33 b (omega arith), lt-leb b 47 (omega arith)) (rw (lt-leb 58 b (omega arith), lt-leb 91 b (omega arith), lt-leb 123 b (omega arith)))

pub number_no_delimiter : (l : List ℕ) → nm_form l ≡ true → Each NoDelimiter l
number_no_delimiter l e = number_each NoDelimiter digit_none refl refl refl l e

pub time_no_delimiter : (form : Form) (l : List ℕ) → is_time form l ≡ true → Each NoDelimiter l
time_no_delimiter form l e = time_each NoDelimiter digit_none refl refl refl form l e

-- an SI and a DT are digits
digits_no_delimiter : (l : List ℕ) → all_digits l ≡ true → Each NoDelimiter l
digits_no_delimiter l e = digits_each NoDelimiter digit_none l e

pub si_no_delimiter : (l : List ℕ) → is_si l ≡ true → Each NoDelimiter l
unfolding is_si
si_no_delimiter l e = digits_no_delimiter l (and_both (leb 1 (length l)) (all_digits l) (and_both (some_digits l) (leb (length l) 4) e).0).1

pub dt_no_delimiter : (l : List ℕ) → is_dt l ≡ true → Each NoDelimiter l
dt_no_delimiter l e = digits_no_delimiter l (dt_digits l e)

pub version_no_delimiter : Each NoDelimiter version
unfolding Each
version_no_delimiter = (refl, (refl, (refl, tt)))
