-- Rests on the definition, by whether the segment is the first.
use borrow.Author.Tests.{eq-eqb, ne_eqb}
use Rattle.fields.proofs.name_of.Goals as goal

pub returns-then-number-eq0 : goal.returns-then-number-eq0
returns-then-number-eq0 c = rw (eq-eqb _ 0 c.if-number-eq0.true)

pub returns : goal.returns
returns c = rw (ne_eqb c.args.number 0 c.if-number-eq0.false) c.name_of.ensures
