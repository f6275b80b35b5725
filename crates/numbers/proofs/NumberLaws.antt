-- Laws of NM and SI: what a check that passes says of the digits, and how large the number can be. Assumes nothing.
use mathlib.Core.Path.{◌≡◌, refl, sym, ap, subst, ◌∙◌}
use mathlib.Core.List.{List, [], ◌∷◌}
use Rattle.std.specs.Prelude.{Ok, Err}
use Rattle.std.specs.Bool.{MatchBool}
use Rattle.std.specs.List.{AllWithin, HoldsAt}
use mathlib.Core.Bool.{Bool, true, false, not, ◌&&◌, ◌||◌}
use Prim.Native.Nat.{ℕ, zero, suc, ◌+◌, ◌^◌, ◌≤◌, ◌<◌}
use native.Mathlib.Nat.{one-mul, pow-le-pow_right, lt_of_lt_of_le}
use native.Mathlib.Omega.{arith}
use lib.Dec.{leb, ltb, eqb, lit<, lit≤}
use lib.IntN.{pos, neg_ℤ}
use lib.Signed.{mag}
use lib.ListN.{length, get_or, take, drop, drop_of_length-le, length-drop, length-append}
use lib.Seq.{length-take-le, get_or-take}
use mir.Syntax.{w64}
use mir.Val.{SFits}
use borrow.Author.Rules.{sfits_of}
use borrow.Author.Tests.{le-leb, le-ltb, lt-ltb, ltb-false, leb-true, not-false, eq-eqb, ne_eqb}
use native.Mathlib.Decide.{dec_lt}
use mathlib.Core.Logic.{⊎_elim}
use Rattle.alphabet.specs.Answers.{passes, fails_if}
use Rattle.alphabet.specs.declared.answers.Fault.{Fault}
use Rattle.alphabet.specs.Bytes.{digit}
use Rattle.alphabet.specs.Digits.{all_digits, counted, decimal}
use Rattle.alphabet.specs.Lists.{find}
use Rattle.alphabet.specs.declared.answers.Refusal.TheVariants.{BreaksForm, ValueTooLong}
use Rattle.alphabet.proofs.BoolLaws.{and_both, both_and, false_true}
use Rattle.alphabet.proofs.CheckLaws.{both_pass, passes_not}
use Rattle.alphabet.proofs.DigitLaws.{counted_append, counted_below, digits_append, digits_drop, digits_end, digits_next, digits_not}
use Rattle.alphabet.proofs.ListLaws.{first_le, first_none, first_passes, first_reached}
use Rattle.numbers.specs.Plain.{Leads, PlainNumber}
use Rattle.numbers.specs.Numbers.{some_digits, is_sign, unsigned, before_point, has_point, fraction, nm_form, nm_digits, most_digits, nm_check, signed, is_negative, nm_value, nm_read, is_si, si_value, si_read}

-- ---- digits

-- a list of which each byte is a digit
digits_from : (l : List ℕ) (count i : ℕ) → length l ≤ i + count → ((j : ℕ) → i ≤ j → j < length l → digit (get_or l j 0) ≡ true) → all_digits (drop i l) ≡ true
digits_from l zero i h d = digits_end l i (omega arith)
digits_from l (suc count) i h d = at (digits_from l count (i + 1) (omega arith) (λ j a b. d j (omega arith) b)) (dec_lt i (length l))
  where
    at : all_digits (drop (i + 1) l) ≡ true → Dec (i < length l) → all_digits (drop i l) ≡ true
    at later (yes g) = digits_next l i g (d i (omega arith) g) ∙ later
    at later (no g) = digits_end l i (omega arith)

-- what a look at each byte tells: all are digits, or one is none
pub all_told : (r : Bool) (l : List ℕ) → MatchBool r (AllWithin (λ b. digit b ≡ true) l 0 (length l)) ((i : ℕ) × (i < length l) × HoldsAt (λ b. digit b ≡ false) l i) → r ≡ all_digits l
all_told true l h = sym (digits_from l (length l) 0 (omega arith) (λ j a b. h j 0 a b))
all_told false l h = at (all_digits l) refl
  where
    at : (t : Bool) → all_digits l ≡ t → false ≡ t
    at true q = absurd (false_true (sym (digits_not l h.0 h.1 (h.2 0)) ∙ digits_drop h.0 l q))
    at false q = refl

-- ---- the sign

pub unsigned_drop : (l : List ℕ) → is_sign (get_or l 0 0) ≡ true → unsigned l ≡ drop 1 l
unfolding unsigned
unsigned_drop l e = rw e

pub unsigned_same : (l : List ℕ) → is_sign (get_or l 0 0) ≡ false → unsigned l ≡ l
unfolding unsigned
unsigned_same l e = rw e

pub unsigned_none : (l : List ℕ) → length l ≡ 0 → unsigned l ≡ l
unfolding unsigned
unsigned_none [] h = refl
unsigned_none (b ∷ r) h = absurd (omega arith)

-- ---- the parts

pub point_within : (l : List ℕ) → find 46 l ≤ length l
point_within = first_le (eqb 46)

pub point_length : (l : List ℕ) → length (before_point l) ≡ find 46 l
point_length l = length-take-le (find 46 l) l (point_within l)

-- an NM that passes: digits before and behind the point, at most so many
pub nm_form_lem : (l : List ℕ) → nm_check l ≡ passes → nm_form l ≡ true
unfolding nm_check
nm_form_lem l e = not-false (nm_form l) (passes_not _ BreaksForm 0 (both_pass (fails_if (not (nm_form l)) BreaksForm 0) _ e).0)

pub nm_short : (l : List ℕ) → nm_check l ≡ passes → length (nm_digits l) ≤ most_digits
unfolding nm_check
nm_short l e =
    ltb-false most_digits (length (nm_digits l))
    (passes_not _ ValueTooLong 0 (both_pass (fails_if (ltb most_digits (length (nm_digits l))) ValueTooLong 0) passes (both_pass (fails_if (not (nm_form l)) BreaksForm 0) _ e).1).0)

pub nm_before : (l : List ℕ) → nm_check l ≡ passes → all_digits (before_point (unsigned l)) ≡ true
unfolding nm_form
nm_before l e = (and_both (leb 1 (length (before_point (unsigned l)))) (all_digits (before_point (unsigned l))) (and_both (some_digits (before_point (unsigned l))) _ (nm_form_lem l e)).0).1

fraction_digits : (l : List ℕ) → (not (has_point l) || some_digits (fraction l)) ≡ true → all_digits (fraction l) ≡ true
unfolding all_digits
fraction_digits l e = at (has_point l) refl e
  where
    at : (t : Bool) → has_point l ≡ t → (not t || some_digits (fraction l)) ≡ true → all_digits (fraction l) ≡ true
    at true q e = (and_both (leb 1 (length (fraction l))) (all_digits (fraction l)) e).1
    at false q e =
        let h = ltb-false (find 46 l) (length l) q in
        let k : length l ≤ find 46 l + 1 = omega arith in
        rw (drop_of_length-le l k)

pub nm_fraction : (l : List ℕ) → nm_check l ≡ passes → all_digits (fraction (unsigned l)) ≡ true
unfolding nm_form
nm_fraction l e = fraction_digits (unsigned l) (and_both (some_digits (before_point (unsigned l))) _ (nm_form_lem l e)).1

-- ---- a number that is seen at once to be one

leading : (l : List ℕ) (n : ℕ) → Leads l n → all_digits (take n l) ≡ true
leading l n d =
    let i = d.inside in
    let s = length-take-le n l i in
    digits_from (take n l) n 0 (omega arith) (λ j a b. ap digit (get_or-take n l j 0 (omega arith)) ∙ d.digits j (omega arith))

-- a digit is no point
no_point : (b : ℕ) → digit b ≡ true → eqb 46 b ≡ false
no_point b e = ne_eqb 46 b (λ q. let d = leb-true 48 b (and_both (leb 48 b) (leb b 57) e).0 in omega arith)

module _ (l : List ℕ) (n : ℕ) (d : Leads l n) where
  -- all are digits: there is no point
  find_none : n ≡ length l → find 46 l ≡ length l
  find_none e = first_none (eqb 46) l (λ i h. no_point (get_or l i 0) (d.digits i (omega arith)))

  -- the point stands behind the digits
  find_point : n < length l → get_or l n 0 ≡ 46 → find 46 l ≡ n
  find_point h e = first_reached (eqb 46) l n h (at (dec_lt (find 46 l) n)) (eq-eqb 46 (get_or l n 0) (sym e))
    where
      at : Dec (find 46 l < n) → n ≤ find 46 l
      at (yes g) = absurd (false_true (sym (no_point (get_or l (find 46 l) 0) (d.digits (find 46 l) g)) ∙ first_passes (eqb 46) l (omega arith)))
      at (no g) = omega arith

-- its form is that of an NM, and it has few digits
module _ (l : List ℕ) (p : PlainNumber (unsigned l)) where
  abbrev u : List ℕ
  u = unsigned l

  point : find 46 u ≡ p.before
  point =
      ⊎_elim
      (λ e. find_none u p.before p.leads e ∙ sym e)
      (λ w. find_point u p.before p.leads w.0 w.1)
      p.behind

  some_before : some_digits (before_point u) ≡ true
  some_before =
      let n = point_length u in
      let s = p.some in
      let f = point in
      both_and (le-leb 1 (length (before_point u)) (omega arith)) (ap (λ (k : ℕ). all_digits (take k u)) point ∙ leading u p.before p.leads)

  some_behind : (not (has_point u) || some_digits (fraction u)) ≡ true
  some_behind =
      let f = point in
      ⊎_elim
      (λ e. ap (λ (t : Bool). not t || some_digits (fraction u)) (le-ltb (find 46 u) (length u) (omega arith)))
      (λ w.
      let h = w.0 in
      ap (λ (t : Bool). not t || some_digits (fraction u)) (lt-ltb (find 46 u) (length u) (omega arith)) ∙ ap (λ (k : ℕ). some_digits (drop (k + 1) u)) point ∙ w.2)
      p.behind

  plain_form : nm_form l ≡ true
  unfolding nm_form
  plain_form = both_and some_before some_behind

  plain_short : length (nm_digits l) ≤ most_digits
  plain_short =
      let s = p.short in
      let n = point_length u in
      let d = length-drop (find 46 u + 1) u in
      let a = length-append (before_point u) (fraction u) in
      let f = first_le (eqb 46) u in
      omega arith

  pub plain_passes : nm_check l ≡ passes
  unfolding nm_check
  plain_passes = rw (plain_form, le-ltb most_digits (length (nm_digits l)) plain_short)

-- ---- how large

-- k digits, at most 18, say less than 10 ^ 18
pub short_below : (l : List ℕ) → all_digits l ≡ true → length l ≤ 18 → decimal l < 10 ^ 18
short_below l e h = lt_of_lt_of_le (counted_below 0 l e) (rw (one-mul (10 ^ length l)) (pow-le-pow_right (omega arith) h))

pub nm_below : (l : List ℕ) → nm_check l ≡ passes → counted (decimal (before_point (unsigned l))) (fraction (unsigned l)) < 10 ^ 18
nm_below l e =
    let both : (all_digits (before_point (unsigned l)) && all_digits (fraction (unsigned l))) ≡ true = both_and (nm_before l e) (nm_fraction l e) in
    let d = digits_append (before_point (unsigned l)) (fraction (unsigned l)) ∙ both in
    let b = short_below (nm_digits l) d (nm_short l e) in
    rw (counted_append 0 (before_point (unsigned l)) (fraction (unsigned l))) at b

-- ---- the sign applied

minus_small : (n : ℕ) → n < 10 ^ 18 → mag (neg_ℤ (pos n)) < 2 ^ 63
minus_small zero h = lit< tt
minus_small (suc n) h = let l : 10 ^ 18 < 2 ^ 63 = lit< tt in omega arith

pub signed_fits : (negative : Bool) (n : ℕ) → n < 10 ^ 18 → SFits w64 (signed negative n)
signed_fits true n h = sfits_of (minus_small n h)
signed_fits false n h = sfits_of (lt_of_lt_of_le h (lit≤ tt))

-- the value of an NM that passes, from its parts, and that it fits
pub nm_value_lem : (l : List ℕ) → nm_value l ≡ signed (is_negative l) (counted (decimal (before_point (unsigned l))) (fraction (unsigned l)))
unfolding nm_value
nm_value_lem l = ap (signed (is_negative l)) (counted_append 0 (before_point (unsigned l)) (fraction (unsigned l)))

pub nm_fits : (l : List ℕ) → nm_check l ≡ passes → SFits w64 (nm_value l)
nm_fits l e = subst (SFits w64) (sym (nm_value_lem l)) (signed_fits (is_negative l) _ (nm_below l e))

-- ---- what is read, case by case

pub nm_read_lem : (l : List ℕ) → nm_check l ≡ passes → nm_read l ≡ Ok (record { value = nm_value l; decimals = length (fraction (unsigned l)) })
unfolding nm_read
nm_read_lem l e = rw e

pub nm_refused : (l : List ℕ) (f : Fault) → nm_check l ≡ Err f → nm_read l ≡ Err f.kind
unfolding nm_read
nm_refused l f e = rw e

pub si_read_lem : (l : List ℕ) → is_si l ≡ true → si_read l ≡ Ok (record { value = pos (decimal l); decimals = 0 })
unfolding si_read
si_read_lem l e = rw e

pub si_refused : (l : List ℕ) → is_si l ≡ false → si_read l ≡ Err BreaksForm
unfolding si_read
si_refused l e = rw e

pub si_value_lem : (l : List ℕ) → is_si l ≡ true → si_value l ≡ decimal l
unfolding si_value
si_value_lem l e = rw e

pub si_none : (l : List ℕ) → is_si l ≡ false → si_value l ≡ 0
unfolding si_value
si_none l e = rw e

-- up to four digits say what they say as an SI; none of them say 0
pub si_of_digits : (l : List ℕ) → all_digits l ≡ true → length l ≤ 4 → si_value l ≡ decimal l
unfolding is_si si_value counted
si_of_digits [] e most = refl
si_of_digits (d ∷ r) e most =
    si_value_lem (d ∷ r) (both_and (both_and (le-leb 1 (length (d ∷ r)) (omega arith)) e) (le-leb (length (d ∷ r)) 4 most))

pub si_digits : (l : List ℕ) → is_si l ≡ true → (all_digits l ≡ true) × (decimal l < 10 ^ 18)
unfolding is_si
si_digits l e =
    let b = and_both (some_digits l) (leb (length l) 4) e in
    let d = (and_both (leb 1 (length l)) (all_digits l) b.0).1 in
    let n = leb-true (length l) 4 b.1 in
    (d, short_below l d (omega arith))
