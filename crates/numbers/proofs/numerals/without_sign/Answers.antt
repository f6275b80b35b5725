-- Rests on the laws of the sign.
use mathlib.Core.List.{◌∷◌}
use mathlib.Core.Path.{sym, ap, ◌∙◌}
use Rattle.numbers.specs.Numbers.{unsigned}
use Rattle.numbers.proofs.NumberLaws.{unsigned_none, unsigned_drop, unsigned_same}
use Rattle.numbers.proofs.numerals.without_sign.Goals as goal

pub returns-in_default : goal.returns-in_default
returns-in_default c = sym (unsigned_none c.args.bytes.now c.in_default.ensures.cases)

pub returns-then-sign : goal.returns-then-sign
returns-then-sign c =
    let e = c.in-Some.ensures.cases.0 in
    sym (ap unsigned e ∙ unsigned_drop (c.in-Some.first.now ∷ c.in-Some.body.now) c.if-sign.true)

pub returns-else-sign : goal.returns-else-sign
returns-else-sign c =
    let e = c.in-Some.ensures.cases.0 in
    e ∙ sym (ap unsigned e ∙ unsigned_same (c.in-Some.first.now ∷ c.in-Some.body.now) c.if-sign.false)
