-- Rests on the test of the number, either way.
use mathlib.Core.Path.{sym, ap}
use mathlib.Core.Bool.{Bool, cond}
use borrow.Author.Tests.{eq-eqb, ne_eqb}
use Rattle.fields.proofs.plain.base_of.Goals as goal

pub returns-then-number-eq0 : goal.returns-then-number-eq0
returns-then-number-eq0 c = sym (ap (λ (t : Bool). cond t 1 0) (eq-eqb c.args.number 0 c.if-number-eq0.true))

pub returns : goal.returns
returns c = sym (ap (λ (t : Bool). cond t 1 0) (ne_eqb c.args.number 0 c.if-number-eq0.false))
