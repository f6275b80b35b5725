-- Rests on the laws of a part that is not split, in both cases.
use mathlib.Core.Path.{sym}
use Rattle.std.specs.Prelude.{Some}
use Rattle.element.proofs.LevelLaws.{unsplit_whole, unsplit_more}
use Rattle.element.proofs.levels.header_element.Goals as goal

pub returns-then-whole : goal.returns-then-whole
returns-then-whole c = let a = c.args in sym (unsplit_whole (Some a.field) a.address c.if-whole.true)

pub returns-else-whole : goal.returns-else-whole
returns-else-whole c = let a = c.args in sym (unsplit_more (Some a.field) a.address c.if-whole.false)
