-- Rests on the laws of the walk: what is left to walk are the names of the segments from `start` on, at each turn.
use Prim.Native.Nat.{ℕ, ◌+◌, ◌≤◌}
use mathlib.Core.Path.{◌≡◌, sym, ap, ◌∙◌}
use mathlib.Core.List.{List, [], ◌∷◌}
use lib.Dec.{eqb}
use lib.ListN.{length, drop, length-drop}
use native.Mathlib.Omega.{arith}
use borrow.Author.Rules.{rules}
use Rattle.alphabet.specs.Bytes.{carriage_return}
use Rattle.alphabet.proofs.ListLaws.{first_le}
use Rattle.structure.specs.SegmentNames.{segment_names}
use Rattle.structure.specs.Engine.{into, Course, walked, resumed}
use Rattle.structure.proofs.SegmentWalk.{names_from, names_all, names_walk, names_over, stuck_stays}
use Rattle.structure.proofs.walking.walk.Goals.{After-advance-course, At-loop-end, else-loop-end-test, then-loop-end-test+then-is_err}
use Rattle.structure.proofs.walking.walk.Goals as goal

abbrev message : (l : At-loop-end) → List ℕ
message l = l.args.message.now

pub loop-end-init : goal.loop-end-init
loop-end-init c =
    let a = c.args in
    let m = a.message.now in (
      omega arith,
      omega arith,
      c.segment_end-end.ensures,
      sym (c.begin-course.ensures a.rows.names.now a.rows.follow.now a.rows.last (segment_names m)) ∙ ap (resumed a.rows.names.now a.rows.follow.now a.rows.last c.begin-course.result 0) (names_all m),
    )

-- a segment ends at or before the message's end
inside : (l : At-loop-end) → (l.loop-end.start ≤ l.loop-end.end) × (l.loop-end.end ≤ length (message l))
inside l =
    let e = l.loop-end.invariant.2 in
    let u = first_le (eqb carriage_return) (drop l.loop-end.start (message l)) in
    let n = length-drop l.loop-end.start (message l) in
    let h = l.loop-end.invariant.0 in
    (omega arith, omega arith)

-- the names that are left are this segment's, by which the walk went one on, and those behind it
next : (c : After-advance-course)
    → let a = c.args in
    walked a.rows.names.now a.rows.follow.now a.rows.last (into 1) 0 (segment_names (message (goal.at.After-advance-course c).At-loop-end))
    ≡ resumed a.rows.names.now a.rows.follow.now a.rows.last c.advance-course.result (c.loop-end.number + 1) (names_from (message (goal.at.After-advance-course c).At-loop-end) (c.loop-end.end + 1))
next c =
    let a = c.args in
    let m = message (goal.at.After-advance-course c).At-loop-end in
    c.loop-end.invariant.3
    ∙ ap (resumed a.rows.names.now a.rows.follow.now a.rows.last c.loop-end.course c.loop-end.number)
    (names_walk m c.loop-end.start c.loop-end.end c.loop-end.invariant.2 c.loop-end-test.true
    ∙ ap (λ (n : ℕ). n ∷ names_from m (c.loop-end.end + 1)) (sym c.name_of-name.ensures))
    ∙ sym (c.advance-course.ensures (names_from m (c.loop-end.end + 1)))

pub loop-end-preserved : goal.loop-end-preserved
loop-end-preserved c =
    let i = (inside (goal.at.loop-end-preserved c).At-loop-end).0 in
    let h = c.loop-end.invariant.1 in
    let g = c.loop-end-test.true in
    (omega arith, omega arith, c.segment_end-end-in-loop-end.ensures, next (goal.at.loop-end-preserved c).After-advance-course)

pub returns : goal.returns
returns c =
    let a = c.args in
    let m = message (goal.at.returns c).At-loop-end in
    let e = c.loop-end.invariant.2 in
    c.finish.ensures a.rows.names.now a.rows.follow.now a.rows.last
    ∙ elim c.loop-end-test.branch [
      | else-loop-end-test w ↦ ap (λ (x : Course). resumed a.rows.names.now a.rows.follow.now a.rows.last x c.loop-end.number []) w.course-is
          ∙ sym (c.loop-end.invariant.3 ∙ ap (resumed a.rows.names.now a.rows.follow.now a.rows.last c.loop-end.course c.loop-end.number) (names_over m c.loop-end.start (omega (arith, w.loop-end-test.false))))
      | then-loop-end-test+then-is_err w ↦
          stuck_stays a.rows.names.now a.rows.follow.now a.rows.last w.course-is (sym w.is_err.ensures.value ∙ w.if-is_err.true) c.loop-end.number (c.loop-end.number + 1) [] (names_from m (c.loop-end.end + 1))
          ∙ sym (c.loop-end.invariant.3
          ∙ ap (resumed a.rows.names.now a.rows.follow.now a.rows.last c.loop-end.course c.loop-end.number)
          (names_walk m c.loop-end.start c.loop-end.end c.loop-end.invariant.2 w.loop-end-test.true
          ∙ ap (λ (n : ℕ). n ∷ names_from m (c.loop-end.end + 1)) (sym w.name_of-name.ensures))
          ∙ sym (w.advance-course.ensures (names_from m (c.loop-end.end + 1))))
    ]

pub slice_bounds-name_of-count : goal.slice_bounds-name_of-count
slice_bounds-name_of-count c = (inside (goal.at.slice_bounds-name_of-count c).At-loop-end).0

pub slice_bounds-name_of-start : goal.slice_bounds-name_of-start
slice_bounds-name_of-start c = let i = (inside (goal.at.slice_bounds-name_of-start c).At-loop-end).0 in let k = (inside (goal.at.slice_bounds-name_of-start c).At-loop-end).1 in search rules

pub slice_bounds-name_of-end : goal.slice_bounds-name_of-end
slice_bounds-name_of-end c = let i = (inside (goal.at.slice_bounds-name_of-end c).At-loop-end).0 in let k = (inside (goal.at.slice_bounds-name_of-end c).At-loop-end).1 in search rules
