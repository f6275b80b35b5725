-- Rests on the laws of what is read, case by case.
use Prim.Native.Nat.{◌<◌, ◌^◌}
use lib.Dec.{lit<}
use lib.IntN.{ℤ, pos}
use mathlib.Core.Bool.{false, true}
use mathlib.Core.Path.{◌≡◌, sym, ap, subst, ◌∙◌}
use mir.Syntax.{w64}
use mir.Val.{SFits}
use mir.Facts.{to_z-of_z}
use native.Mathlib.Omega.{arith}
use Rattle.std.specs.Prelude.{Ok}
use Rattle.numbers.specs.Numbers.{is_si}
use Rattle.numbers.proofs.NumberLaws.{si_read_lem, si_refused, si_digits, signed_fits}
use Rattle.numbers.proofs.numerals.read_si.Goals.{Else-not-is_si}
use Rattle.numbers.proofs.numerals.read_si.Goals as goal

is : (c : Else-not-is_si) → is_si c.args.bytes.now ≡ true
is c = sym c.is_si.ensures ∙ c.if-not-is_si.false

pub returns-then-not-is_si : goal.returns-then-not-is_si
returns-then-not-is_si c = sym (si_refused c.args.bytes.now (sym c.is_si.ensures ∙ c.if-not-is_si.true))

pub count_on-requires-clause-bytes_value : goal.count_on-requires-clause-bytes_value
count_on-requires-clause-bytes_value c = (si_digits c.args.bytes.now (is c)).0

pub count_on-requires-clause-bytes_bound : goal.count_on-requires-clause-bytes_bound
count_on-requires-clause-bytes_bound c =
    let b = (si_digits c.args.bytes.now (is c)).1 in
    let k : 10 ^ 18 < 2 ^ 64 = lit< tt in omega arith

pub signed_number-value-requires : goal.signed_number-value-requires
signed_number-value-requires c =
    let b = (si_digits c.args.bytes.now (is (goal.at.signed_number-value-requires c).Else-not-is_si)).1 in
    omega (arith, c.count_on.ensures)

pub returns : goal.returns
returns c =
    let l = c.args.bytes.now in
    let t = is (goal.at.returns c).Else-not-is_si in
    let e = c.signed_number-value.ensures ∙ ap pos c.count_on.ensures in
    let f = subst (SFits w64) (sym e) (signed_fits false _ (si_digits l t).1) in
    ap (λ (z : ℤ). Ok (record { value = z; decimals = 0 })) (to_z-of_z f ∙ e) ∙ sym (si_read_lem l t)
