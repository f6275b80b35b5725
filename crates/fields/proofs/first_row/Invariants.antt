use Rattle.field_table.specs.Table.{rows}
use Rattle.fields.specs.Walk.{NoneBefore}
use Rattle.fields.proofs.first_row.Given as goal

abbrev pub invariant-loop-index : goal.invariant-loop-index
invariant-loop-index l = NoneBefore rows l.name l.index
