-- Rests on the laws of what an SI says, case by case.
use Prim.Native.Nat.{◌<◌, ◌^◌}
use lib.Dec.{lit<}
use mathlib.Core.Bool.{true}
use mathlib.Core.Path.{◌≡◌, sym, ◌∙◌}
use native.Mathlib.Omega.{arith}
use Rattle.numbers.specs.Numbers.{is_si}
use Rattle.numbers.proofs.NumberLaws.{si_value_lem, si_none, si_digits}
use Rattle.numbers.proofs.numerals.si_value.Goals.{Else-not-is_si}
use Rattle.numbers.proofs.numerals.si_value.Goals as goal

is : (c : Else-not-is_si) → is_si c.args.bytes.now ≡ true
is c = sym c.is_si.ensures ∙ c.if-not-is_si.false

pub count_on-requires-clause-bytes_value : goal.count_on-requires-clause-bytes_value
count_on-requires-clause-bytes_value c = (si_digits c.args.bytes.now (is c)).0

pub count_on-requires-clause-bytes_bound : goal.count_on-requires-clause-bytes_bound
count_on-requires-clause-bytes_bound c =
    let b = (si_digits c.args.bytes.now (is c)).1 in
    let k : 10 ^ 18 < 2 ^ 64 = lit< tt in omega arith

pub returns : goal.returns
returns c = c.count_on.ensures ∙ sym (si_value_lem c.args.bytes.now (is (goal.at.returns c).Else-not-is_si))

pub returns-then-not-is_si : goal.returns-then-not-is_si
returns-then-not-is_si c = sym (si_none c.args.bytes.now (sym c.is_si.ensures ∙ c.if-not-is_si.true))
