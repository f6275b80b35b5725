-- Each return is a case of `moved`.
use Prim.Native.Nat.{◌+◌, ◌-◌}
use mathlib.Core.Bool.{Bool, cond}
use mathlib.Core.Path.{sym, ap}
use native.Mathlib.Omega.{arith}
use Rattle.formatting.proofs.OrderLaws.{fits_back, fits_on}
use Rattle.formatting.proofs.orders.moved_by.Goals as goal

pub overflow_sub-result : goal.overflow_sub-result
overflow_sub-result c = fits_back _ _ c.requires c.if-a.true

pub returns-then-a : goal.returns-then-a
returns-then-a c = let a = c.args in ap (λ (b : Bool). cond b (a.margin - a.a.size) (a.margin + a.a.size)) (sym c.if-a.true)

pub overflow_add-result : goal.overflow_add-result
overflow_add-result c = let h = fits_on c.args.margin c.args.a c.requires c.if-a.false in omega arith

pub returns : goal.returns
returns c = let a = c.args in ap (λ (b : Bool). cond b (a.margin - a.a.size) (a.margin + a.a.size)) (sym c.if-a.false)
