-- Rests on its tests.
use mathlib.Core.Path.{◌≡◌}
use Prim.Native.Nat.{◌-◌}
use lib.Dec.{ltb, leb}
use native.Mathlib.Omega.{arith}
use borrow.Author.Tests.{ltb-false, leb-false}
use Rattle.alphabet.proofs.BoolLaws.{or_neither}
use Rattle.fields.proofs.PlainLaws.{some_one}
use Rattle.fields.proofs.plain.index_in.Goals as goal

pub returns : goal.returns
returns c = λ index q.
    let a = c.args in
    let e : a.field - a.base ≡ index = some_one q in
    let w = or_neither (ltb a.most (a.field - a.base)) (leb 16 (a.field - a.base)) c.if-most-index.false in
    let l = ltb-false a.most (a.field - a.base) w.0 in
    let r = leb-false 16 (a.field - a.base) w.1 in
    record { counted = omega arith; split_on = omega arith; noted = omega arith; room = omega arith }
