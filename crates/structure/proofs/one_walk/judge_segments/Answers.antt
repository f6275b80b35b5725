-- Rests on the laws of the walk: what is left, for the reader and for the structure, is that of the segments from `start` on, at each turn.
use borrow.Author.Rules.{rules}
use Prim.Native.Nat.{ℕ, ◌+◌, ◌^◌, ◌≤◌, ◌<◌}
use mathlib.Core.Path.{◌≡◌, sym, ap, ◌∙◌}
use mathlib.Core.List.{List, ◌∷◌}
use lib.Dec.{eqb}
use lib.ListN.{length, drop, length-drop}
use native.Mathlib.Omega.{arith}
use Rattle.alphabet.specs.Answers.{or_else, in_order, Check}
use Rattle.alphabet.specs.Bytes.{carriage_return}
use Rattle.alphabet.specs.Lists.{find}
use Rattle.alphabet.proofs.CheckLaws.{fails_or, passes_or}
use Rattle.alphabet.proofs.ListLaws.{first_le}
use Rattle.reading.specs.Segments.{segments}
use Rattle.reading.specs.Reading.{segments_check}
use Rattle.reading.proofs.SegmentLaws.{checks_walk, checks_over}
use Rattle.std.proofs.lemmas.Result.{err_from_is_err_and}
use Rattle.structure.specs.SegmentNames.{segment_names}
use Rattle.structure.specs.Engine.{into, resumed}
use Rattle.structure.specs.OneWalk.JudgedAsRead.{faulty, judged}
use Rattle.structure.proofs.SegmentWalk.{names_from, names_all, names_walk, names_over}
use Rattle.structure.proofs.OneWalk.{checks_left}
use Rattle.structure.proofs.one_walk.judge_segments.Invariants.{whole}
use Rattle.structure.proofs.one_walk.judge_segments.Goals.{After-advance-course, After-check_segment, At-loop-end}
use Rattle.structure.proofs.one_walk.judge_segments.Goals as goal

abbrev message : (l : At-loop-end) → List ℕ
message l = l.args.message.now

abbrev names : (l : At-loop-end) → List ℕ
names l = l.args.rows.names.now

abbrev follow : (l : At-loop-end) → List ℕ
follow l = l.args.rows.follow.now

abbrev last : (l : At-loop-end) → ℕ
last l = l.args.rows.last

abbrev separator : (l : At-loop-end) → ℕ
separator l = l.byte_at-separator.result

pub loop-end-init : goal.loop-end-init
unfolding segments_check segments
loop-end-init c =
    let b = c.begin-course in
    let a = c.args in
    let m = a.message.now in (
      omega arith,
      omega arith,
      c.segment_end-end.ensures,
      rw c.byte_at-separator.ensures,
      sym (b.ensures a.rows.names.now a.rows.follow.now a.rows.last (segment_names m)) ∙ ap (resumed a.rows.names.now a.rows.follow.now a.rows.last b.result 0) (names_all m),
    )

fits : (l : At-loop-end) → length (message l) < 2 ^ 64
fits l = search rules

-- a segment ends at or before the message's end
inside : (l : At-loop-end) → (l.loop-end.start ≤ l.loop-end.end) × (l.loop-end.end ≤ length (message l))
inside l =
    let e = l.loop-end.invariant.2 in
    let u = first_le (eqb carriage_return) (drop l.loop-end.start (message l)) in
    let n = length-drop l.loop-end.start (message l) in
    let h = l.loop-end.invariant.0 in
    (omega arith, omega arith)

-- the checks behind this segment
abbrev checks-behind : (l : At-loop-end) → Check
checks-behind l = in_order (checks_left (message l) (separator l) (l.loop-end.number + 1) (l.loop-end.end + 1))

-- ---- a segment
-- the checks left are this segment's, which the call gave, and those behind it
checked : (c : After-check_segment) → segments_check (message (goal.at.After-check_segment c).At-loop-end) ≡ or_else c.check_segment.result (checks-behind (goal.at.After-check_segment c).At-loop-end)
checked c =
    c.loop-end.invariant.3
    ∙ ap in_order (checks_walk (message (goal.at.After-check_segment c).At-loop-end) c.loop-end.start c.loop-end.end c.loop-end.invariant.2 c.loop-end-test.true (separator (goal.at.After-check_segment c).At-loop-end) c.loop-end.number)
    ∙ ap (λ (x : Check). or_else x (checks-behind (goal.at.After-check_segment c).At-loop-end)) (sym c.check_segment.ensures)

abbrev before-end : (c : After-advance-course) → c.loop-end.end < length (message (goal.at.After-advance-course c).At-loop-end)
before-end c = c.loop-end-test.true

-- the names left are this segment's, by which the walk went one on, and those behind it
walked_on : (c : After-advance-course) → whole (message (goal.at.After-advance-course c).At-loop-end) (names (goal.at.After-advance-course c).At-loop-end) (follow (goal.at.After-advance-course c).At-loop-end) (last (goal.at.After-advance-course c).At-loop-end) ≡ resumed (names (goal.at.After-advance-course c).At-loop-end) (follow (goal.at.After-advance-course c).At-loop-end) (last (goal.at.After-advance-course c).At-loop-end) c.advance-course.result (c.loop-end.number + 1) (names_from (message (goal.at.After-advance-course c).At-loop-end) (c.loop-end.end + 1))
walked_on c =
    c.loop-end.invariant.4
    ∙ ap (resumed (names (goal.at.After-advance-course c).At-loop-end) (follow (goal.at.After-advance-course c).At-loop-end) (last (goal.at.After-advance-course c).At-loop-end) c.loop-end.course c.loop-end.number)
    (names_walk (message (goal.at.After-advance-course c).At-loop-end) c.loop-end.start c.loop-end.end c.loop-end.invariant.2 (before-end c)
    ∙ ap (λ (n : ℕ). n ∷ names_from (message (goal.at.After-advance-course c).At-loop-end) (c.loop-end.end + 1)) (sym c.name_of-name.ensures))
    ∙ sym (c.advance-course.ensures (names_from (message (goal.at.After-advance-course c).At-loop-end) (c.loop-end.end + 1)))

-- ---- the needs
pub returns-in_err-check_segment : goal.returns-in_err-check_segment
returns-in_err-check_segment c = λ s t.
    let p = err_from_is_err_and c.from_residual.result c.from_residual.ensures.1 in
    rw (p.1, p.2) (faulty _ _ (checked (goal.at.returns-in_err-check_segment c).After-check_segment ∙ fails_or c.in_err-check_segment.was (checks-behind (goal.at.returns-in_err-check_segment c).At-loop-end)))

pub loop-end-preserved : goal.loop-end-preserved
loop-end-preserved c =
    let i = (inside (goal.at.loop-end-preserved c).At-loop-end).0 in
    let h = c.loop-end.invariant.1 in
    let g = before-end (goal.at.loop-end-preserved c).After-advance-course in (
      omega arith,
      omega arith,
      c.segment_end-end-in-loop-end.ensures,
      checked (goal.at.loop-end-preserved c).After-check_segment ∙ passes_or c.in_ok-check_segment.was (checks-behind (goal.at.loop-end-preserved c).At-loop-end),
      walked_on (goal.at.loop-end-preserved c).After-advance-course,
    )

pub returns : goal.returns
returns c = λ s t.
    let e = c.loop-end.invariant.2 in
    let over : length (message (goal.at.returns c).At-loop-end) ≤ c.loop-end.start + find carriage_return (drop c.loop-end.start (message (goal.at.returns c).At-loop-end)) = omega (arith, c.loop-end-test.false) in
    judged (c.loop-end.invariant.3 ∙ ap in_order (checks_over (message (goal.at.returns c).At-loop-end) c.loop-end.start (separator (goal.at.returns c).At-loop-end) c.loop-end.number over))
    (c.tell.ensures.judges s (follow (goal.at.returns c).At-loop-end) (last (goal.at.returns c).At-loop-end) (into 1) (segment_names (message (goal.at.returns c).At-loop-end)) t
    (c.finish.ensures (names (goal.at.returns c).At-loop-end) (follow (goal.at.returns c).At-loop-end) (last (goal.at.returns c).At-loop-end)
    ∙ sym (c.loop-end.invariant.4 ∙ ap (resumed (names (goal.at.returns c).At-loop-end) (follow (goal.at.returns c).At-loop-end) (last (goal.at.returns c).At-loop-end) c.loop-end.course c.loop-end.number) (names_over (message (goal.at.returns c).At-loop-end) c.loop-end.start over))))

pub slice_bounds-segment-count : goal.slice_bounds-segment-count
slice_bounds-segment-count c = (inside (goal.at.slice_bounds-segment-count c).At-loop-end).0

pub slice_bounds-segment-start : goal.slice_bounds-segment-start
slice_bounds-segment-start c = let i = (inside (goal.at.slice_bounds-segment-start c).At-loop-end).0 in let k = (inside (goal.at.slice_bounds-segment-start c).At-loop-end).1 in search rules

pub slice_bounds-segment-end : goal.slice_bounds-segment-end
slice_bounds-segment-end c = let i = (inside (goal.at.slice_bounds-segment-end c).At-loop-end).0 in let k = (inside (goal.at.slice_bounds-segment-end c).At-loop-end).1 in search rules

pub overflow_add-number : goal.overflow_add-number
overflow_add-number c = let m = fits (goal.at.overflow_add-number c).At-loop-end in let g = before-end c in let i = (inside (goal.at.overflow_add-number c).At-loop-end).0 in let h = c.loop-end.invariant.1 in omega arith

pub overflow_add-start : goal.overflow_add-start
overflow_add-start c = let m = fits (goal.at.overflow_add-start c).At-loop-end in let g = before-end c in omega arith

pub loop-end-smaller : goal.loop-end-smaller
loop-end-smaller c = let g = before-end (goal.at.loop-end-smaller c).After-advance-course in let i = (inside (goal.at.loop-end-smaller c).At-loop-end).0 in omega arith
