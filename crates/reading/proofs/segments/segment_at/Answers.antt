-- Rests on where the segment begins: it ends at the next CR.
use mathlib.Core.Path.{sym, ap, ◌∙◌}
use lib.Dec.{eqb}
use Rattle.alphabet.specs.Bytes.{carriage_return}
use Rattle.alphabet.specs.Parts.{ended_by, from_to}
use Rattle.reading.proofs.SegmentLaws.{segment_stands}
use Rattle.reading.proofs.segments.segment_at.Goals as goal

pub returns-in_err-start : goal.returns-in_err-start
returns-in_err-start c =
    let a = c.args in
    c.from_residual.ensures ∙ ap (ended_by (eqb carriage_return) a.message.now) (sym c.in_err-start.was ∙ c.segment_start.ensures) ∙ segment_stands a.message.now a.index

pub returns : goal.returns
returns c =
    let a = c.args in
    ap (from_to c.in_ok-start.start) c.segment_end-end.ensures
    ∙ ap (ended_by (eqb carriage_return) a.message.now) (sym c.in_ok-start.was ∙ c.segment_start.ensures) ∙ segment_stands a.message.now a.index
