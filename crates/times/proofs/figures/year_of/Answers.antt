-- Rests on what two digits say.
use native.Mathlib.Omega.{arith}
use Rattle.times.proofs.JudgeLaws.{two_digits, two_below}
use Rattle.times.proofs.figures.year_of.Goals as goal

pub two_digits-requires : goal.two_digits-requires
two_digits-requires c = let h = c.if-digits-lt4.false in (two_digits c.args.digits.now 0 c.requires, omega arith)

pub two_digits-requires-2 : goal.two_digits-requires-2
two_digits-requires-2 c = (two_digits c.args.digits.now 2 c.requires, c.if-digits-lt4.false)

pub overflow_mul-result : goal.overflow_mul-result
overflow_mul-result c =
    let h = c.if-digits-lt4.false in
    let b = two_below c.args.digits.now 0 c.requires (omega arith) in
    omega (arith, c.two_digits.ensures)

pub overflow_add-result : goal.overflow_add-result
overflow_add-result c =
    let h = c.if-digits-lt4.false in
    let a = two_below c.args.digits.now 0 c.requires (omega arith) in
    let b = two_below c.args.digits.now 2 c.requires h in
    omega (arith, c.two_digits.ensures, c.two_digits-2.ensures)
