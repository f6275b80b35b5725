-- Rests on the laws of the walk: the checks left are those of the segments from `start` on.
use borrow.Author.Rules.{rules}
use Prim.Native.Nat.{◌≤◌, ◌+◌}
use mathlib.Core.Path.{◌≡◌, sym, ap, ◌∙◌}
use lib.Dec.{eqb}
use lib.ListN.{length, drop, length-drop}
use native.Mathlib.Omega.{arith}
use Rattle.alphabet.specs.Answers.{or_else, in_order, Check}
use Rattle.alphabet.specs.Bytes.{carriage_return}
use Rattle.alphabet.proofs.ListLaws.{first_le}
use Rattle.alphabet.proofs.CheckLaws.{passes_or}
use Rattle.reading.specs.Segments.{segments}
use Rattle.reading.specs.Reading.{segments_check}
use Rattle.reading.proofs.SegmentLaws.{checks_walk, checks_over}
use Rattle.reading.proofs.checks.check_segments.Invariants.{left}
use Rattle.reading.proofs.checks.check_segments.Goals.{After-check_segment, After-segment_end-end}
use Rattle.reading.proofs.checks.check_segments.Goals as goal

pub loop-start-init : goal.loop-start-init
unfolding segments_check segments
loop-start-init c = (omega arith, omega arith, rw c.byte_at-separator.ensures)

-- the CR that ends the segment stands at or before the message's end
inside : (c : After-segment_end-end) → c.segment_end-end.result ≤ length c.args.message.now
inside c =
    let m = c.args.message.now in
    let e = c.segment_end-end.ensures in
    let u = first_le (eqb carriage_return) (drop c.loop-start.start m) in
    let n = length-drop c.loop-start.start m in
    omega arith

pub returns-then-end-message : goal.returns-then-end-message
returns-then-end-message c =
    let m = c.args.message.now in
    let e = c.segment_end-end.ensures in
    sym (c.loop-start.invariant.2 ∙ ap in_order (checks_over m c.loop-start.start c.byte_at-separator.result c.loop-start.number (omega arith)))

-- the checks left are this segment's, which the call gave, and those behind it
step : (c : After-check_segment)
    → segments_check c.args.message.now
    ≡ or_else c.check_segment.result (in_order (left c.args.message.now c.byte_at-separator.result (c.loop-start.number + 1) (c.segment_end-end.result + 1)))
step c =
    let m = c.args.message.now in
    let i = inside (goal.at.After-check_segment c).After-segment_end-end in
    let rest = in_order (left m c.byte_at-separator.result (c.loop-start.number + 1) (c.segment_end-end.result + 1)) in
    c.loop-start.invariant.2 ∙ ap in_order (checks_walk m c.loop-start.start c.segment_end-end.result c.segment_end-end.ensures (omega arith) c.byte_at-separator.result c.loop-start.number)
    ∙ ap (λ (x : Check). or_else x rest) (sym c.check_segment.ensures)

pub returns-in_err-check_segment : goal.returns-in_err-check_segment
returns-in_err-check_segment c =
    let s = step (goal.at.returns-in_err-check_segment c).After-check_segment in
    rw (s, c.in_err-check_segment.was) (search rules)

pub loop-start-preserved : goal.loop-start-preserved
loop-start-preserved c =
    let i = inside (goal.at.loop-start-preserved c).After-segment_end-end in
    (omega arith, omega arith, step (goal.at.loop-start-preserved c).After-check_segment ∙ passes_or c.in_ok-check_segment.was _)

pub returns : goal.returns
returns c =
    let m = c.args.message.now in
    sym (c.loop-start.invariant.2 ∙ ap in_order (checks_over m c.loop-start.start c.byte_at-separator.result c.loop-start.number (omega arith)))

pub slice_bounds-check_segment-count : goal.slice_bounds-check_segment-count
slice_bounds-check_segment-count c = omega (arith, c.segment_end-end.ensures)

pub slice_bounds-check_segment-end : goal.slice_bounds-check_segment-end
slice_bounds-check_segment-end c = let i = inside (goal.at.slice_bounds-check_segment-end c).After-segment_end-end in search rules

pub overflow_add-start : goal.overflow_add-start
overflow_add-start c = let i = inside (goal.at.overflow_add-start c).After-segment_end-end in omega arith

pub loop-start-smaller : goal.loop-start-smaller
loop-start-smaller c = let i = inside (goal.at.loop-start-smaller c).After-segment_end-end in omega (arith, c.segment_end-end.ensures)
