-- Laws of the forms of times: what a form that holds says of the front, the tail and the zone. Assumes nothing.
use mathlib.Core.Path.{◌≡◌, refl}
use mathlib.Core.List.{List, [], ◌∷◌}
use mathlib.Core.Bool.{Bool, true, false, ◌&&◌, ◌||◌}
use mathlib.Core.Logic.{◌⊎◌, inl, inr}
use Prim.Native.Nat.{ℕ, ◌≤◌}
use native.Mathlib.Omega.{arith}
use lib.Dec.{eqb}
use lib.ListN.{length, drop}
use borrow.Author.Tests.{eqb-true, eq-eqb, ne_eqb}
use Rattle.alphabet.specs.Bytes.{from_to}
use Rattle.alphabet.specs.Digits.{all_digits}
use Rattle.alphabet.proofs.BoolLaws.{and_both, from_to_lem}
use Rattle.forms.specs.declared.layouts.Form.{Form}
use Rattle.forms.specs.Forms.{one_of, dt_length, dt_form, layout_of, front_of, tail_of, zone_of, front_length, fraction_form, zone_form, parts_form, time_form}

-- ---- one of a list

pub one_of_lem : (x : ℕ) (l : List ℕ) (n : ℕ) → one_of (x ∷ l) n ≡ true → (n ≡ x) ⊎ (one_of l n ≡ true)
one_of_lem x l n e = at (eqb n x) refl e
  where
    at : (t : Bool) → eqb n x ≡ t → (t || one_of l n) ≡ true → (n ≡ x) ⊎ (one_of l n ≡ true)
    at true q e = inl (eqb-true n x q)
    at false q e = inr e

-- ---- DT

pub dt_digits : (l : List ℕ) → dt_form l ≡ true → all_digits l ≡ true
unfolding dt_form
dt_digits l e = (and_both (all_digits l) (dt_length (length l)) e).0

pub dt_length_lem : (l : List ℕ) → dt_form l ≡ true → dt_length (length l) ≡ true
unfolding dt_form
dt_length_lem l e = (and_both (all_digits l) (dt_length (length l)) e).1

-- ---- the fraction

none_digits : (l : List ℕ) → length l ≡ 0 → all_digits (drop 1 l) ≡ true
unfolding all_digits
none_digits [] h = refl
none_digits (b ∷ r) h = absurd (omega arith)

pub fraction_none : (seconds : Bool) (tail : List ℕ) → length tail ≡ 0 → fraction_form seconds tail ≡ true
unfolding fraction_form
fraction_none seconds tail h = rw (eq-eqb (length tail) 0 h)

pub fraction_some : (seconds : Bool) (tail : List ℕ) → (length tail ≡ 0 → ⊥)
    → fraction_form seconds tail ≡ ((seconds && from_to 2 5 (length tail)) && all_digits (drop 1 tail))
unfolding fraction_form
fraction_some seconds tail h = rw (ne_eqb (length tail) 0 h)

pub fraction_holds : (seconds : Bool) (tail : List ℕ) → fraction_form seconds tail ≡ true → (all_digits (drop 1 tail) ≡ true) × (length tail ≤ 5)
unfolding fraction_form
fraction_holds seconds tail e = at (eqb (length tail) 0) refl e
  where
    at : (t : Bool) → eqb (length tail) 0 ≡ t → (t || ((seconds && from_to 2 5 (length tail)) && all_digits (drop 1 tail))) ≡ true
        → (all_digits (drop 1 tail) ≡ true) × (length tail ≤ 5)
    at true q e = let h = eqb-true (length tail) 0 q in (none_digits tail h, omega arith)
    at false q e =
        let b = and_both (seconds && from_to 2 5 (length tail)) (all_digits (drop 1 tail)) e in
        (b.1, (from_to_lem 2 5 (length tail) (and_both seconds (from_to 2 5 (length tail)) b.0).1).1)

-- ---- the zone

pub zone_none : (zone : List ℕ) → length zone ≡ 0 → zone_form zone ≡ true
unfolding zone_form
zone_none zone h = rw (eq-eqb (length zone) 0 h)

pub zone_some : (zone : List ℕ) → (length zone ≡ 0 → ⊥) → zone_form zone ≡ (eqb (length zone) 5 && all_digits (drop 1 zone))
unfolding zone_form
zone_some zone h = rw (ne_eqb (length zone) 0 h)

pub zone_holds : (zone : List ℕ) → zone_form zone ≡ true → (all_digits (drop 1 zone) ≡ true) × ((length zone ≡ 0 → ⊥) → length zone ≡ 5)
unfolding zone_form
zone_holds zone e = at (eqb (length zone) 0) refl e
  where
    at : (t : Bool) → eqb (length zone) 0 ≡ t → (t || (eqb (length zone) 5 && all_digits (drop 1 zone))) ≡ true
        → (all_digits (drop 1 zone) ≡ true) × ((length zone ≡ 0 → ⊥) → length zone ≡ 5)
    at true q e = let h = eqb-true (length zone) 0 q in (none_digits zone h, λ n. absurd (n h))
    at false q e = let b = and_both (eqb (length zone) 5) (all_digits (drop 1 zone)) e in (b.1, λ n. eqb-true (length zone) 5 b.0)

-- ---- the three parts

pub record Formed (form : Form) (front tail zone : List ℕ) : Type 0 where
  pub digits : all_digits front ≡ true
  pub long : front_length form (length front) ≡ true
  pub tailed : fraction_form (eqb (length front) (layout_of form).seconds) tail ≡ true
  pub zoned : zone_form zone ≡ true

pub formed : (form : Form) (front tail zone : List ℕ) → parts_form form front tail zone ≡ true → Formed form front tail zone
formed form front tail zone e =
    let a = and_both (all_digits front && front_length form (length front)) _ e in
    let b = and_both (all_digits front) (front_length form (length front)) a.0 in
    let c = and_both (fraction_form (eqb (length front) (layout_of form).seconds) tail) (zone_form zone) a.1 in
    record { digits = b.0; long = b.1; tailed = c.0; zoned = c.1 }

module _ (form : Form) (l : List ℕ) (e : time_form form l ≡ true) where
  pub form_parts : Formed form (front_of l) (tail_of l) (zone_of l)
  unfolding time_form
  form_parts = formed form (front_of l) (tail_of l) (zone_of l) e

  pub front_digits : all_digits (front_of l) ≡ true
  front_digits = form_parts.digits

  pub front_length_lem : front_length form (length (front_of l)) ≡ true
  front_length_lem = form_parts.long

  pub tail_holds : (all_digits (drop 1 (tail_of l)) ≡ true) × (length (tail_of l) ≤ 5)
  tail_holds = fraction_holds (eqb (length (front_of l)) (layout_of form).seconds) (tail_of l) form_parts.tailed

  pub zone_held : (all_digits (drop 1 (zone_of l)) ≡ true) × ((length (zone_of l) ≡ 0 → ⊥) → length (zone_of l) ≡ 5)
  zone_held = zone_holds (zone_of l) form_parts.zoned
