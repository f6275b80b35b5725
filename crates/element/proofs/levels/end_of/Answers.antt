-- Rests on the two cases of a level's end.
use Rattle.element.proofs.StartLaws.{end_split}
use Rattle.element.proofs.levels.end_of.Goals as goal

pub returns-else-number-eq0 : goal.returns-else-number-eq0
returns-else-number-eq0 c = let a = c.args in end_split a.separator a.number c.if-number-eq0.false
