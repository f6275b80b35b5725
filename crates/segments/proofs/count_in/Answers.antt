-- Rests on the walk over the segments: those left are the segments from `start` on.
use mathlib.Core.Path.{◌≡◌, refl, ap}
use lib.ListN.{length}
use native.Mathlib.Omega.{arith}
use Rattle.reading.specs.Segments.{segments}
use Rattle.reading.proofs.SegmentLaws.{segments_walk, segments_over}
use Rattle.segments.proofs.count_in.Invariants.{left}
use Rattle.segments.proofs.count_in.Goals as goal

pub loop-count-init : goal.loop-count-init
unfolding segments
loop-count-init c =
    let m = c.args.message.now in
    let n : length (segments m) ≡ left m 0 = refl in
    (omega arith, omega arith, omega arith)

pub returns-then-message-end : goal.returns-then-message-end
returns-then-message-end c =
    let m = c.args.message.now in
    let e = c.segment_end-end.ensures in
    let n = ap length (segments_over m c.loop-count.start (omega arith)) in
    let i = c.loop-count.invariant.2 in
    omega arith

pub loop-count-preserved : goal.loop-count-preserved
loop-count-preserved c =
    let m = c.args.message.now in
    let e = c.segment_end-end.ensures in
    let n = ap length (segments_walk m c.loop-count.start c.segment_end-end.result e (omega arith)) in
    let i = c.loop-count.invariant.2 in
    (omega arith, omega arith, omega arith)

pub overflow_add-count : goal.overflow_add-count
overflow_add-count c = omega (arith, c.segment_end-end.ensures)

pub loop-count-smaller : goal.loop-count-smaller
loop-count-smaller c = omega (arith, c.segment_end-end.ensures)
