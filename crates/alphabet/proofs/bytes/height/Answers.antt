-- Rests on the definition, case by case.
use mathlib.Core.Path.{sym, ap}
use mathlib.Core.Bool.{Bool, cond}
use borrow.Author.Tests.{eq-eqb, ne_eqb}
use Rattle.alphabet.specs.Bytes.{carriage_return}
use Rattle.alphabet.proofs.bytes.height.Goals as goal

pub returns-then-b-eq-CARRIAGE_RETURN : goal.returns-then-b-eq-CARRIAGE_RETURN
returns-then-b-eq-CARRIAGE_RETURN c = let a = c.args in sym (ap (λ (t : Bool). cond t 255 a.b) (eq-eqb a.b carriage_return c.if-b-eq-CARRIAGE_RETURN.true))

pub returns-else-b-eq-CARRIAGE_RETURN : goal.returns-else-b-eq-CARRIAGE_RETURN
returns-else-b-eq-CARRIAGE_RETURN c = let a = c.args in sym (ap (λ (t : Bool). cond t 255 a.b) (ne_eqb a.b carriage_return c.if-b-eq-CARRIAGE_RETURN.false))
