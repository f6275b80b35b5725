-- Rests on the laws of an NM that passes: digits, and few enough.
use Prim.Native.Nat.{◌<◌, ◌^◌}
use mathlib.Core.Path.{◌≡◌, sym, ap, subst, ◌∙◌}
use mathlib.Core.List.{List}
use lib.Dec.{eqb, lit<}
use Prim.Native.Nat.{ℕ}
use mir.Syntax.{w64}
use mir.Val.{SFits}
use mir.Facts.{to_z-of_z}
use Rattle.alphabet.proofs.DigitLaws.{counted_least}
use Rattle.alphabet.specs.Digits.{all_digits, counted, decimal}
use Rattle.numbers.specs.Numbers.{unsigned, before_point, fraction, signed}
use Rattle.numbers.proofs.NumberLaws.{nm_before, nm_fraction, nm_below, nm_value_lem, nm_fits}
use native.Mathlib.Omega.{arith}
use Rattle.numbers.proofs.numerals.nm_value.Goals.{After-before_point, After-count_on-before, After-count_on-number, After-fraction_of}
use Rattle.numbers.proofs.numerals.nm_value.Goals as goal

-- the parts that the calls gave, in the bytes handed in
whole_is : (c : After-before_point) → c.before_point.result.now ≡ before_point (unsigned c.args.bytes.now)
whole_is c = c.before_point.ensures ∙ ap before_point c.without_sign-body.ensures

count-is : (c : After-count_on-before) → c.count_on-before.result ≡ decimal (before_point (unsigned c.args.bytes.now))
count-is c = c.count_on-before.ensures ∙ ap (λ (l : List ℕ). counted 0 l) (whole_is (goal.at.After-count_on-before c).After-before_point)

fraction-is : (c : After-fraction_of) → c.fraction_of.result.now ≡ fraction (unsigned c.args.bytes.now)
fraction-is c = c.fraction_of.ensures ∙ ap fraction c.without_sign-body.ensures

number_is : (c : After-count_on-number) → c.count_on-number.result ≡ counted (decimal (before_point (unsigned c.args.bytes.now))) (fraction (unsigned c.args.bytes.now))
number_is c = c.count_on-number.ensures ∙ ap (counted _) (fraction-is (goal.at.After-count_on-number c).After-fraction_of) ∙ ap (λ (n : ℕ). counted n (fraction (unsigned c.args.bytes.now))) (count-is (goal.at.After-count_on-number c).After-count_on-before)

pub count_on-before-requires-clause-bytes_value : goal.count_on-before-requires-clause-bytes_value
count_on-before-requires-clause-bytes_value c =
    let l = c.args.bytes.now in
    let w = whole_is c in
    let b = nm_below l c.requires in
    let m = counted_least (decimal (before_point (unsigned l))) (fraction (unsigned l)) in
    let e = ap (λ (l : List ℕ). counted 0 l) w in
    let k : 10 ^ 18 < 2 ^ 64 = lit< tt in ap all_digits w ∙ nm_before l c.requires

pub count_on-before-requires-clause-bytes_bound : goal.count_on-before-requires-clause-bytes_bound
count_on-before-requires-clause-bytes_bound c =
    let l = c.args.bytes.now in
    let w = whole_is c in
    let b = nm_below l c.requires in
    let m = counted_least (decimal (before_point (unsigned l))) (fraction (unsigned l)) in
    let e = ap (λ (l : List ℕ). counted 0 l) w in
    let k : 10 ^ 18 < 2 ^ 64 = lit< tt in omega arith

pub count_on-number-requires-clause-bytes_value : goal.count_on-number-requires-clause-bytes_value
count_on-number-requires-clause-bytes_value c =
    let l = c.args.bytes.now in
    let f = fraction-is c in
    let b = nm_below l c.requires in
    let e = ap (counted c.count_on-before.result) f ∙ ap (λ (n : ℕ). counted n (fraction (unsigned l))) (count-is (goal.at.count_on-number-requires-clause-bytes_value c).After-count_on-before) in
    let k : 10 ^ 18 < 2 ^ 64 = lit< tt in ap all_digits f ∙ nm_fraction l c.requires

pub count_on-number-requires-clause-bytes_bound : goal.count_on-number-requires-clause-bytes_bound
count_on-number-requires-clause-bytes_bound c =
    let l = c.args.bytes.now in
    let f = fraction-is c in
    let b = nm_below l c.requires in
    let e = ap (counted c.count_on-before.result) f ∙ ap (λ (n : ℕ). counted n (fraction (unsigned l))) (count-is (goal.at.count_on-number-requires-clause-bytes_bound c).After-count_on-before) in
    let k : 10 ^ 18 < 2 ^ 64 = lit< tt in omega arith

pub signed_number-requires : goal.signed_number-requires
signed_number-requires c =
    let e = number_is (goal.at.signed_number-requires c).After-count_on-number in
    let b = nm_below c.args.bytes.now c.requires in
    omega arith

pub returns : goal.returns
returns c =
    let l = c.args.bytes.now in
    let e = c.signed_number.ensures ∙ ap (λ (n : ℕ). signed (eqb c.byte_at-negative.result 45) n) (number_is (goal.at.returns c).After-count_on-number)
    ∙ ap (λ (b : ℕ). signed (eqb b 45) (counted (decimal (before_point (unsigned l))) (fraction (unsigned l)))) c.byte_at-negative.ensures ∙ sym (nm_value_lem l) in
    to_z-of_z (subst (SFits w64) (sym e) (nm_fits l c.requires)) ∙ e
