use mathlib.Core.Path.{◌≡◌}
use lib.ListN.{get_or}
use Rattle.field_table.specs.Table.{rows}
use Rattle.fields.specs.Walk.{judged_in, Stands}
use Rattle.fields.proofs.JudgeLaws.{rows_left}
use Rattle.fields.proofs.judge_rows.Given as goal

abbrev pub invariant-loop-index : goal.invariant-loop-index
invariant-loop-index l =
    Stands (get_or l.delimiters.bytes 0 0) l.segment l.cursor × (judged_in rows l.delimiters.bytes l.number l.segment ≡ rows_left rows l.delimiters.bytes l.number l.segment l.index)
