-- Rests on the definition, case by case.
use mathlib.Core.Path.{◌≡◌, sym, ap, ◌∙◌}
use mathlib.Core.Bool.{Bool, cond}
use Prim.Native.Nat.{◌-◌}
use borrow.Author.Tests.{eq-eqb, ne_eqb}
use native.Mathlib.Omega.{arith}
use Rattle.fields.proofs.walk.index_of.Goals as goal

pub returns-then-number-ne0 : goal.returns-then-number-ne0
returns-then-number-ne0 c = let a = c.args in sym (ap (λ (t : Bool). cond t (a.field - 1) a.field) (ne_eqb a.number 0 c.if-number-ne0.true))

pub returns-then-field-eq0 : goal.returns-then-field-eq0
returns-then-field-eq0 c =
    let a = c.args in
    let e = c.if-field-eq0.true in
    let z : a.field - 1 ≡ 0 = omega arith in
    sym (ap (λ (t : Bool). cond t (a.field - 1) a.field) (eq-eqb a.number 0 c.if-number-ne0.false) ∙ z)

pub returns : goal.returns
returns c = let a = c.args in sym (ap (λ (t : Bool). cond t (a.field - 1) a.field) (eq-eqb a.number 0 c.if-number-ne0.false))

pub overflow_sub-result : goal.overflow_sub-result
overflow_sub-result c = let e = c.if-field-eq0.false in omega (arith, e)
