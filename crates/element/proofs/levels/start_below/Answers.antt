-- Rests on the laws of a level below, case by case.
use Rattle.std.specs.Prelude.{Some}
use Rattle.alphabet.specs.Lists.{among}
use Rattle.element.proofs.StartLaws.{start_whole, start_split}
use Rattle.element.proofs.levels.start_below.Goals as goal

pub returns-then-number-eq0 : goal.returns-then-number-eq0
returns-then-number-eq0 c =
    let a = c.args in
    start_whole a.separator (among a.stops) a.message.now (Some a.start) a.number c.if-number-eq0.true

pub returns : goal.returns
returns c =
    let a = c.args in
    start_split a.separator (among a.stops) a.message.now (Some a.start) a.number c.part_start.result c.if-number-eq0.false c.part_start.ensures
