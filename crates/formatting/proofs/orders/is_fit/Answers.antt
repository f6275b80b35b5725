-- Each return is a case of `fits`.
use mathlib.Core.Path.{sym}
use native.Mathlib.Omega.{arith}
use Rattle.formatting.proofs.OrderLaws.{fits_wide, fits_small}
use Rattle.formatting.proofs.orders.is_fit.Goals as goal

pub returns-then-a-gt-WIDTH : goal.returns-then-a-gt-WIDTH
returns-then-a-gt-WIDTH c = let a = c.args in sym (fits_wide a.margin a.a c.if-a-gt-WIDTH.true)

pub returns : goal.returns
returns c = let a = c.args in sym (fits_small a.margin a.a (omega arith))
