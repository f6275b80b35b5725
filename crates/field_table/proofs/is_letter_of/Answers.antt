-- Rests on the laws of a value of one letter.
use mathlib.Core.Path.{sym}
use Rattle.field_table.proofs.TableLaws.{letter_told, letter_not}
use Rattle.field_table.proofs.is_letter_of.Goals as goal

pub returns-then-bytes-ne1 : goal.returns-then-bytes-ne1
returns-then-bytes-ne1 c = let a = c.args in sym (letter_not a.bytes.now a.letters.now c.if-bytes-ne1.true)

pub returns : goal.returns
returns c =
    let a = c.args in
    letter_told a.bytes.now a.letters.now _ c.if-bytes-ne1.false c.find.ensures
