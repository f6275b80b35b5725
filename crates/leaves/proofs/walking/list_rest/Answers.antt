-- Rests on what each block writes, one behind another, and on what is written of the bytes behind the last.
use Prim.Native.Nat.{ℕ, ◌≤◌, ◌+◌, ◌-◌}
use mathlib.Core.Path.{refl, ap, ◌∙◌}
use mathlib.Core.List.{List}
use lib.ListN.{length, drop, length-drop}
use lib.Seq.{length-take-le}
use native.Mathlib.Omega.{arith}
use Rattle.alphabet.specs.Lists.{among}
use Rattle.element.specs.Levels.{between}
use Rattle.leaves.specs.Walks.{marked, Marks}
use Rattle.leaves.proofs.walking.list_rest.Goals.{After-mark-marks, In-loop-place}
use Rattle.leaves.proofs.walking.list_rest.Goals as goal

-- a whole block is left
whole : (c : In-loop-place) → c.loop-place.place + 48 ≤ length c.args.message.now
whole c = let k = c.loop-place.invariant.0 in omega arith

-- it is marked
marked-so : (c : After-mark-marks) → Marks c.args.message.now c.loop-place.place c.mark-marks.result
marked-so c =
    let m = c.args.message.now in
    (whole (goal.at.After-mark-marks c).In-loop-place, c.mark-marks.ensures ∙ ap (λ (x : List ℕ). marked (among x) (between m c.loop-place.place (c.loop-place.place + 48))) c.ends_of-ends.ensures)

pub mark-marks-requires : goal.mark-marks-requires
mark-marks-requires c =
    let m = c.args.message.now in
    let w = whole (goal.at.mark-marks-requires c).In-loop-place in
    let d = length-drop c.loop-place.place m in
    let n = length-take-le (c.loop-place.place + 48 - c.loop-place.place) (drop c.loop-place.place m) (omega arith) in
    omega arith

pub list_block-here-requires : goal.list_block-here-requires
list_block-here-requires c =
    (marked-so (goal.at.list_block-here-requires c).After-mark-marks, c.loop-place.invariant.1, c.ends_of-ends.ensures, c.requires.2)

pub loop-place-preserved : goal.loop-place-preserved
loop-place-preserved c =
    let q = c.list_block-here in
    (whole (goal.at.loop-place-preserved c).In-loop-place, q.ensures.stands, (λ W d₀ w. q.ensures.writes W d₀ (c.loop-place.invariant.2 W d₀ w)), omega (arith, c.loop-place.invariant.3))

pub list_few-requires : goal.list_few-requires
list_few-requires c =
    (c.loop-place.invariant.0, c.loop-place.invariant.1, c.ends_of-ends.ensures, c.requires.2)

pub returns : goal.returns
returns c =
    let q = c.list_few in
    λ W d₀ w. q.ensures W d₀ (c.loop-place.invariant.2 W d₀ w)

pub loop-place-init : goal.loop-place-init
loop-place-init c = (c.requires.0, c.requires.1, (λ W d₀ w. w), refl)

pub overflow_sub-message : goal.overflow_sub-message
overflow_sub-message c = c.loop-place.invariant.0

pub overflow_add-place : goal.overflow_add-place
overflow_add-place c = let k = whole c in omega arith

pub slice_bounds-mark-count : goal.slice_bounds-mark-count
slice_bounds-mark-count c = let k = whole c in omega arith

pub slice_bounds-mark-start : goal.slice_bounds-mark-start
slice_bounds-mark-start c = let k = whole c in omega arith

pub slice_bounds-mark-end : goal.slice_bounds-mark-end
slice_bounds-mark-end c = whole c

pub overflow_add-place-in-loop-place : goal.overflow_add-place-in-loop-place
overflow_add-place-in-loop-place c = let k = whole (goal.at.overflow_add-place-in-loop-place c).In-loop-place in omega arith

pub loop-place-smaller : goal.loop-place-smaller
loop-place-smaller c = let k = whole (goal.at.loop-place-smaller c).In-loop-place in omega arith
