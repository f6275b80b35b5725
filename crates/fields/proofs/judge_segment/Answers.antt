-- Rests on the two ways to judge the rows: what is seen at once to be sound has no fault.
use mathlib.Core.Path.{sym}
use Rattle.fields.proofs.judge_segment.Goals as goal

pub returns-then-is_seen_sound : goal.returns-then-is_seen_sound
returns-then-is_seen_sound c =
    sym (c.is_seen_sound.ensures c.if-is_seen_sound.true c.name_of-name.ensures)

pub returns : goal.returns
returns c = c.judge_rows.ensures

pub is_seen_sound-requires : goal.is_seen_sound-requires
is_seen_sound-requires c = (c.first_row-from.ensures, c.end_of_rows-to.ensures)

pub judge_rows-requires : goal.judge_rows-requires
judge_rows-requires c = (c.first_row-from.ensures, c.end_of_rows-to.ensures, c.name_of-name.ensures, c.requires)
