-- Rests on the laws of a value of two letters.
use Rattle.field_table.proofs.TableLaws.{code_told, code_not}
use Rattle.field_table.proofs.code_of.Goals as goal

pub returns-then-bytes-ne2 : goal.returns-then-bytes-ne2
returns-then-bytes-ne2 c = code_not c.args.bytes.now c.if-bytes-ne2.true

pub returns : goal.returns
returns c =
    code_told c.args.bytes.now _ _ c.if-bytes-ne2.false
    c.wide-first.ensures.0 c.wide-second.ensures.0 c.wide-second.ensures.1
