use Rattle.field_table.specs.Table.{rows}
use Rattle.fields.specs.Walk.{NoneFrom}
use Rattle.fields.proofs.end_of_rows.Given as goal

abbrev pub invariant-loop-index : goal.invariant-loop-index
invariant-loop-index l = NoneFrom rows l.name l.index

abbrev pub decreases-loop-index : goal.decreases-loop-index
decreases-loop-index l = l.index
