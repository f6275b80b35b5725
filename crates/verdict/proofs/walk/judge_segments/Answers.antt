-- Rests on the laws of the walk: what is left, for each judge, is that of the segments from `start` on, at each turn.
use borrow.Author.Rules.{rules}
use Prim.Native.Nat.{ℕ, ◌+◌, ◌-◌, ◌^◌, ◌≤◌, ◌<◌}
use mathlib.Core.Path.{◌≡◌, sym, ap, ◌∙◌, subst}
use mathlib.Core.List.{List, ◌∷◌}
use lib.Dec.{eqb}
use lib.ListN.{length, take, drop, length-drop}
use lib.Seq.{length-take-le}
use native.Mathlib.Omega.{arith}
use Rattle.alphabet.specs.Answers.{or_else, in_order, Check, passes}
use Rattle.alphabet.specs.Bytes.{carriage_return}
use Rattle.alphabet.specs.Lists.{find}
use Rattle.alphabet.proofs.CheckLaws.{fails_or, passes_or}
use Rattle.alphabet.proofs.ListLaws.{first_le}
use Rattle.reading.specs.Segments.{segments}
use Rattle.reading.specs.Reading.{segments_check}
use Rattle.reading.proofs.SegmentLaws.{checks_walk, checks_over}
use Rattle.std.specs.Prelude.{Ok}
use Rattle.std.proofs.lemmas.Result.{err_from_is_err_and}
use Rattle.structure.specs.SegmentNames.{segment_names}
use Rattle.structure.specs.Shapes.{Shape}
use Rattle.structure.specs.Engine.{into, resumed, Tables}
use Rattle.structure.proofs.SegmentWalk.{names_from, names_all, names_walk, names_over}
use Rattle.structure.proofs.OneWalk.{checks_left}
use Rattle.field_table.specs.Table.{rows}
use Rattle.fields.specs.Judging.{Fault, or_fault, fault_answer, judging}
use Rattle.fields.proofs.JudgeLaws.{segments_left, segments_start, segments_none, segment_next}
use Rattle.verdict.specs.Walk.{Decides}
use Rattle.verdict.specs.Walk.Decides.{unread}
use Rattle.verdict.proofs.OneWalk.{or_sound, goes, decides_structure, decides_fields}
use Rattle.verdict.proofs.walk.judge_segments.Invariants.{whole}
use Rattle.verdict.proofs.walk.judge_segments.Goals.{After-check_segment, After-judge_more-found, After-tell, In_ok-tell, At-loop-end}
use Rattle.verdict.proofs.walk.judge_segments.Goals as goal

pub loop-end-init : goal.loop-end-init
unfolding segments_check segments
loop-end-init c =
    let b = c.begin-course in
    let a = c.args in
    let m = a.message.now in (
      omega arith,
      omega arith,
      c.segment_end-end.ensures,
      rw c.byte_at-separator.ensures,
      sym (b.ensures a.rows.names.now a.rows.follow.now a.rows.last (segment_names m)) ∙ ap (resumed a.rows.names.now a.rows.follow.now a.rows.last b.result 0) (names_all m),
      λ e. segments_start rows m,
    )

-- ---- the message
abbrev message : (l : At-loop-end) → List ℕ
message l = l.args.message.now

abbrev names : (l : At-loop-end) → List ℕ
names l = l.args.rows.names.now

abbrev follow : (l : At-loop-end) → List ℕ
follow l = l.args.rows.follow.now

abbrev last : (l : At-loop-end) → ℕ
last l = l.args.rows.last

abbrev separator : (l : At-loop-end) → ℕ
separator l = l.byte_at-separator.result

abbrev ds : (l : At-loop-end) → List ℕ
ds l = l.delimiters_of-delimiters.result.bytes

abbrev segment : (l : At-loop-end) → List ℕ
segment l = take (l.loop-end.end - l.loop-end.start) (drop l.loop-end.start (message l))

fits : (l : At-loop-end) → length (message l) < 2 ^ 64
fits l = search rules

-- a segment ends at or before the message's end
inside : (l : At-loop-end) → (l.loop-end.start ≤ l.loop-end.end) × (l.loop-end.end ≤ length (message l))
inside l =
    let e = l.loop-end.invariant.2 in
    let u = first_le (eqb carriage_return) (drop l.loop-end.start (message l)) in
    let n = length-drop l.loop-end.start (message l) in
    let h = l.loop-end.invariant.0 in
    (omega arith, omega arith)

segment-length : (l : At-loop-end) → length (segment l) ≡ l.loop-end.end - l.loop-end.start
segment-length l =
    let i0 = (inside l).0 in
    let i1 = (inside l).1 in
    let n = length-drop l.loop-end.start (message l) in
    length-take-le (l.loop-end.end - l.loop-end.start) (drop l.loop-end.start (message l)) (omega arith)

-- the checks behind this segment
abbrev checks-behind : (l : At-loop-end) → Check
checks-behind l = in_order (checks_left (message l) (separator l) (l.loop-end.number + 1) (l.loop-end.end + 1))

-- ---- a segment
-- the checks left are this segment's, which the call gave, and those behind it
checked : (c : After-check_segment) → segments_check (message (goal.at.After-check_segment c).At-loop-end) ≡ or_else c.check_segment.result (checks-behind (goal.at.After-check_segment c).At-loop-end)
checked c =
    c.loop-end.invariant.3
    ∙ ap in_order (checks_walk (message (goal.at.After-check_segment c).At-loop-end) c.loop-end.start c.loop-end.end c.loop-end.invariant.2 c.loop-end-test.true (separator (goal.at.After-check_segment c).At-loop-end) c.loop-end.number)
    ∙ ap (λ (x : Check). or_else x (checks-behind (goal.at.After-check_segment c).At-loop-end)) (sym c.check_segment.ensures)

abbrev before-end : (c : After-judge_more-found) → c.loop-end.end < length (message (goal.at.After-judge_more-found c).At-loop-end)
before-end c = c.loop-end-test.true

-- the names left are this segment's, by which the walk went one on, and those behind it
walked_on : (c : After-judge_more-found) → whole (message (goal.at.After-judge_more-found c).At-loop-end) (names (goal.at.After-judge_more-found c).At-loop-end) (follow (goal.at.After-judge_more-found c).At-loop-end) (last (goal.at.After-judge_more-found c).At-loop-end) ≡ resumed (names (goal.at.After-judge_more-found c).At-loop-end) (follow (goal.at.After-judge_more-found c).At-loop-end) (last (goal.at.After-judge_more-found c).At-loop-end) c.advance-course.result (c.loop-end.number + 1) (names_from (message (goal.at.After-judge_more-found c).At-loop-end) (c.loop-end.end + 1))
walked_on c =
    c.loop-end.invariant.4
    ∙ ap (resumed (names (goal.at.After-judge_more-found c).At-loop-end) (follow (goal.at.After-judge_more-found c).At-loop-end) (last (goal.at.After-judge_more-found c).At-loop-end) c.loop-end.course c.loop-end.number)
    (names_walk (message (goal.at.After-judge_more-found c).At-loop-end) c.loop-end.start c.loop-end.end c.loop-end.invariant.2 (before-end c)
    ∙ ap (λ (n : ℕ). n ∷ names_from (message (goal.at.After-judge_more-found c).At-loop-end) (c.loop-end.end + 1)) (sym c.name_of-name.ensures))
    ∙ sym (c.advance-course.ensures (names_from (message (goal.at.After-judge_more-found c).At-loop-end) (c.loop-end.end + 1)))

-- where the structure accepts, the fault left is this segment's, which the call added, or one behind it
judged-on : (c : After-judge_more-found) → whole (message (goal.at.After-judge_more-found c).At-loop-end) (names (goal.at.After-judge_more-found c).At-loop-end) (follow (goal.at.After-judge_more-found c).At-loop-end) (last (goal.at.After-judge_more-found c).At-loop-end) ≡ Ok tt → judging rows (message (goal.at.After-judge_more-found c).At-loop-end) ≡ or_fault c.judge_more-found.result (segments_left rows (message (goal.at.After-judge_more-found c).At-loop-end) (c.loop-end.number + 1) (c.loop-end.end + 1))
judged-on c e =
    c.loop-end.invariant.5 e
    ∙ ap (or_fault c.loop-end.found) (segment_next rows (message (goal.at.After-judge_more-found c).At-loop-end) c.loop-end.number c.loop-end.start c.loop-end.end c.loop-end.invariant.2 (before-end c) (ds (goal.at.After-judge_more-found c).At-loop-end) c.delimiters_of-delimiters.ensures)
    ∙ sym (c.judge_more-found.ensures (goes (names (goal.at.After-judge_more-found c).At-loop-end) (follow (goal.at.After-judge_more-found c).At-loop-end) (last (goal.at.After-judge_more-found c).At-loop-end) c.advance-course.result (c.loop-end.number + 1) (names_from (message (goal.at.After-judge_more-found c).At-loop-end) (c.loop-end.end + 1)) (sym (walked_on c) ∙ e))
    (segments_left rows (message (goal.at.After-judge_more-found c).At-loop-end) (c.loop-end.number + 1) (c.loop-end.end + 1)))

-- ---- the needs
pub returns-in_err-check_segment : goal.returns-in_err-check_segment
returns-in_err-check_segment c = λ s t.
    let p = err_from_is_err_and c.from_residual.result c.from_residual.ensures.1 in
    rw (p.1, p.2) (unread _ _ (checked (goal.at.returns-in_err-check_segment c).After-check_segment ∙ fails_or c.in_err-check_segment.was (checks-behind (goal.at.returns-in_err-check_segment c).At-loop-end)))

pub judge_more-found-requires : goal.judge_more-found-requires
judge_more-found-requires c =
    let n = segment-length (goal.at.judge_more-found-requires c).At-loop-end in
    let m = fits (goal.at.judge_more-found-requires c).At-loop-end in
    let g : c.loop-end.end < length (message (goal.at.judge_more-found-requires c).At-loop-end) = c.loop-end-test.true in
    omega arith

pub loop-end-preserved : goal.loop-end-preserved
loop-end-preserved c =
    let i = (inside (goal.at.loop-end-preserved c).At-loop-end).0 in
    let h = c.loop-end.invariant.1 in
    let g = before-end (goal.at.loop-end-preserved c).After-judge_more-found in (
      omega arith,
      omega arith,
      c.segment_end-end-in-loop-end.ensures,
      checked (goal.at.loop-end-preserved c).After-check_segment ∙ passes_or c.in_ok-check_segment.was (checks-behind (goal.at.loop-end-preserved c).At-loop-end),
      walked_on (goal.at.loop-end-preserved c).After-judge_more-found,
      judged-on (goal.at.loop-end-preserved c).After-judge_more-found,
    )

-- the walk stands behind the last segment
over : (c : After-tell) → length (message (goal.at.After-tell c).At-loop-end) ≤ c.loop-end.start + find carriage_return (drop c.loop-end.start (message (goal.at.After-tell c).At-loop-end))
over c = let e = c.loop-end.invariant.2 in omega (arith, c.loop-end-test.false)

-- what the structure's walk comes to
came_to : (c : After-tell) → c.finish-walked.result ≡ whole (message (goal.at.After-tell c).At-loop-end) (names (goal.at.After-tell c).At-loop-end) (follow (goal.at.After-tell c).At-loop-end) (last (goal.at.After-tell c).At-loop-end)
came_to c =
    c.finish-walked.ensures (names (goal.at.After-tell c).At-loop-end) (follow (goal.at.After-tell c).At-loop-end) (last (goal.at.After-tell c).At-loop-end)
    ∙ sym (c.loop-end.invariant.4 ∙ ap (resumed (names (goal.at.After-tell c).At-loop-end) (follow (goal.at.After-tell c).At-loop-end) (last (goal.at.After-tell c).At-loop-end) c.loop-end.course c.loop-end.number) (names_over (message (goal.at.After-tell c).At-loop-end) c.loop-end.start (over c)))

passed : (c : After-tell) → segments_check (message (goal.at.After-tell c).At-loop-end) ≡ passes
passed c = c.loop-end.invariant.3 ∙ ap in_order (checks_over (message (goal.at.After-tell c).At-loop-end) c.loop-end.start (separator (goal.at.After-tell c).At-loop-end) c.loop-end.number (over c))

-- where the structure accepts, what was found in the fields is their first fault
found : (c : After-tell) → c.finish-walked.result ≡ Ok tt → c.loop-end.found ≡ judging rows (message (goal.at.After-tell c).At-loop-end)
found c a = sym (c.loop-end.invariant.5 (sym (came_to c) ∙ a) ∙ ap (or_fault c.loop-end.found) (segments_none rows (message (goal.at.After-tell c).At-loop-end) c.loop-end.number c.loop-end.start (over c)) ∙ or_sound c.loop-end.found)

-- what the fields come to, where the structure accepts
by_fields : (c : In_ok-tell) (s : Shape) → Tables s (names (goal.at.In_ok-tell c).At-loop-end) (follow (goal.at.In_ok-tell c).At-loop-end) (last (goal.at.In_ok-tell c).At-loop-end) (into 1)
    → Decides s (message (goal.at.In_ok-tell c).At-loop-end) (fault_answer c.loop-end.found)
by_fields c s t =
    decides_fields s (message (goal.at.In_ok-tell c).At-loop-end) (names (goal.at.In_ok-tell c).At-loop-end) (follow (goal.at.In_ok-tell c).At-loop-end) (last (goal.at.In_ok-tell c).At-loop-end) t
    (passed (goal.at.In_ok-tell c).After-tell) c.finish-walked.result (came_to (goal.at.In_ok-tell c).After-tell) c.tell.ensures c.in_ok-tell.was (found (goal.at.In_ok-tell c).After-tell)

pub returns-in_err-tell : goal.returns-in_err-tell
returns-in_err-tell c = λ s t.
    let l = (goal.at.returns-in_err-tell c).At-loop-end in
    let k = (goal.at.returns-in_err-tell c).After-tell in
    let p = err_from_is_err_and c.from_residual-in_err-tell.result c.from_residual-in_err-tell.ensures.1 in
    rw (p.1, p.2) (decides_structure s (message l) (names l) (follow l) (last l) t (passed k) c.finish-walked.result (came_to k) c.tell.ensures c.in_err-tell.was)

pub returns-in_err-found : goal.returns-in_err-found
returns-in_err-found c = λ s t.
    let p = err_from_is_err_and c.from_residual-in_err-found.result c.from_residual-in_err-found.ensures.1 in
    rw (p.1, p.2) (subst (λ (x : Fault). Decides s (message (goal.at.returns-in_err-found c).At-loop-end) (fault_answer x)) c.in_err-found.was (by_fields (goal.at.returns-in_err-found c).In_ok-tell s t))

pub returns : goal.returns
returns c = λ s t.
    subst (λ (x : Fault). Decides s (message (goal.at.returns c).At-loop-end) (fault_answer x)) c.in_ok-found.was (by_fields (goal.at.returns c).In_ok-tell s t)

pub slice_bounds-segment-count : goal.slice_bounds-segment-count
slice_bounds-segment-count c = (inside (goal.at.slice_bounds-segment-count c).At-loop-end).0

pub slice_bounds-segment-start : goal.slice_bounds-segment-start
slice_bounds-segment-start c = let i = (inside (goal.at.slice_bounds-segment-start c).At-loop-end).0 in let k = (inside (goal.at.slice_bounds-segment-start c).At-loop-end).1 in search rules

pub slice_bounds-segment-end : goal.slice_bounds-segment-end
slice_bounds-segment-end c = let i = (inside (goal.at.slice_bounds-segment-end c).At-loop-end).0 in let k = (inside (goal.at.slice_bounds-segment-end c).At-loop-end).1 in search rules

pub overflow_add-number : goal.overflow_add-number
overflow_add-number c = let m = fits (goal.at.overflow_add-number c).At-loop-end in let g = before-end c in let i = (inside (goal.at.overflow_add-number c).At-loop-end).0 in let h = c.loop-end.invariant.1 in omega arith

pub overflow_add-start : goal.overflow_add-start
overflow_add-start c = let m = fits (goal.at.overflow_add-start c).At-loop-end in let g = before-end c in omega arith

pub loop-end-smaller : goal.loop-end-smaller
loop-end-smaller c = let g = before-end (goal.at.loop-end-smaller c).After-judge_more-found in let i = (inside (goal.at.loop-end-smaller c).At-loop-end).0 in omega arith
