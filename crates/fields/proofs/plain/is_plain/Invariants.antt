use mathlib.Core.Path.{◌≡◌}
use lib.ListN.{get_or}
use Rattle.ends.specs.Ends.{Noted}
use Rattle.rules.specs.Plain.{Permitted}
use Rattle.field_table.specs.Table.{rows}
use Rattle.fields.specs.Judging.{name_at}
use Rattle.fields.specs.Walk.{judged_in}
use Rattle.fields.proofs.JudgeLaws.{rows_left}
use Rattle.fields.proofs.plain.is_plain.Given as goal

abbrev pub invariant-loop-index : goal.invariant-loop-index
invariant-loop-index l =
    Noted (get_or l.delimiters.bytes 0 0) l.segment l.most l.ends
    × (Permitted l.delimiters.bytes → l.name ≡ name_at l.number l.segment → judged_in rows l.delimiters.bytes l.number l.segment ≡ rows_left rows l.delimiters.bytes l.number l.segment l.index)
