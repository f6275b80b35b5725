-- Rests on where the part of the same index begins, and on the last part being no segment.
use mathlib.Core.Path.{sym, ◌∙◌}
use Rattle.reading.proofs.SegmentLaws.{start_none, start_open, start_ended}
use Rattle.reading.proofs.segments.segment_start.Goals as goal

pub returns-in_err-start : goal.returns-in_err-start
returns-in_err-start c =
    let a = c.args in
    c.from_residual.ensures ∙ start_none a.message.now a.index _ c.line_start.ensures c.in_err-start.was

pub returns-then-is_ended : goal.returns-then-is_ended
returns-then-is_ended c =
    let a = c.args in
    start_ended a.message.now a.index _ c.line_start.ensures _ c.in_ok-start.was (sym c.is_ended.ensures ∙ c.if-is_ended.true)

pub returns-else-is_ended : goal.returns-else-is_ended
returns-else-is_ended c =
    let a = c.args in
    start_open a.message.now a.index _ c.line_start.ensures _ c.in_ok-start.was (sym c.is_ended.ensures ∙ c.if-is_ended.false)
