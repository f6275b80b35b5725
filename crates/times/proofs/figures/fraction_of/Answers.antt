-- Rests on the laws of a fraction, case by case.
use mathlib.Core.List.{List, ◌∷◌}
use mathlib.Core.Path.{◌≡◌, sym, ap, ◌∙◌}
use Prim.Native.Nat.{ℕ, ◌+◌, ◌-◌}
use lib.ListN.{length, drop}
use native.Mathlib.Omega.{arith}
use Rattle.std.specs.Prelude.{Some}
use Rattle.alphabet.specs.Digits.{all_digits, decimal}
use Rattle.numbers.proofs.NumberLaws.{si_of_digits}
use Rattle.times.specs.Times.{fraction_of}
use Rattle.times.proofs.FigureLaws.{fraction_sent}
use Rattle.times.proofs.figures.fraction_of.Goals as goal

pub returns : goal.returns
returns c =
    let d = c.in_ok-digits.digits.now in
    let whole = c.in_ok-digits.field-0-0.now ∷ d in
    let e = c.in_ok-digits.ensures.cases.0 in
    let most = c.requires.1 in
    let n : length c.args.tail.now ≡ length d + 1 = ap length e ∙ omega arith in
    let k : length d ≡ length whole - 1 = omega arith in
    let v = c.si_value.ensures ∙ si_of_digits d (ap (λ (l : List ℕ). all_digits (drop 1 l)) (sym e) ∙ c.requires.0) (omega arith) in
    ap (λ (n : ℕ). Some (record { value = n; digits = length d })) v
    ∙ ap (λ (n : ℕ). Some (record { value = decimal d; digits = n })) k
    ∙ sym (fraction_sent whole (λ q. absurd (omega arith)))
    ∙ ap fraction_of (sym e)
