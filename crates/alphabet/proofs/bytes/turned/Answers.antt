-- Rests on the definition, case by case.
use mathlib.Core.Path.{sym, ap}
use mathlib.Core.Bool.{Bool, cond}
use Prim.Native.Nat.{◌+◌, ◌-◌}
use borrow.Author.Tests.{lt-ltb, le-ltb}
use native.Mathlib.Omega.{arith}
use Rattle.alphabet.proofs.bytes.turned.Goals as goal

pub returns-then-b-lt160 : goal.returns-then-b-lt160
returns-then-b-lt160 c = let a = c.args in sym (ap (λ (t : Bool). cond t (a.b + 96) (a.b - 160)) (lt-ltb a.b 160 (omega (arith, c.if-b-lt160.true))))

pub returns-else-b-lt160 : goal.returns-else-b-lt160
returns-else-b-lt160 c = let a = c.args in sym (ap (λ (t : Bool). cond t (a.b + 96) (a.b - 160)) (le-ltb a.b 160 (omega (arith, c.if-b-lt160.false))))
