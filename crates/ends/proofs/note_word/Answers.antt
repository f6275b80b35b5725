-- Rests on the laws of marks: the lowest is the next end, and the others are left when it is taken away.
use Prim.Native.Nat.{◌+◌, ◌-◌, ◌/◌, ◌<◌}
use mathlib.Core.Path.{◌∙◌}
use lib.Bits.{and_le_r}
use lib.Count.{count_trailing_zeros}
use lib.ListN.{length-set}
use native.Mathlib.Omega.{arith}
use borrow.Author.Rules.{rules}
use Rattle.ends.proofs.NoteLaws.{left_all, left_none, left_next, mark_low, reached_full}
use Rattle.ends.proofs.note_word.Goals.{Else-count-eq-ROOM, In-loop-found}
use Rattle.ends.proofs.note_word.Goals as goal

pub loop-found-init : goal.loop-found-init
loop-found-init c = let a = c.args in (search rules, c.requires.reached.0, left_all a.separator a.bytes.now a.from a.place a.marked a.ends.now c.requires.marks c.requires.reached)

pub returns-then-count-eq-ROOM : goal.returns-then-count-eq-ROOM
returns-then-count-eq-ROOM c =
    let a = c.args in
    reached_full a.separator a.bytes.now c.loop-found.ends c.loop-found.count (a.place + c.loop-found.invariant.2.gone) (a.place + 8) c.if-count-eq-ROOM.true c.loop-found.invariant.2.reached

-- the lowest mark is one of the word's
low : (c : In-loop-found) → count_trailing_zeros 64 c.loop-found.found / 8 < 8
low c =
    let a = c.args in
    mark_low a.separator a.bytes.now c.loop-found.count a.place c.loop-found.found c.loop-found.ends c.requires.marks.0 c.loop-found.invariant.2 c.loop-found-test.true

-- there is room for one more
room : (c : Else-count-eq-ROOM) → c.loop-found.count < 16
room c = let h = c.loop-found.invariant.1 in omega (arith, c.if-count-eq-ROOM.false)

pub overflow_add-ends : goal.overflow_add-ends
overflow_add-ends c =
    let h = low (goal.at.overflow_add-ends c).In-loop-found in
    let k = c.requires.marks.0 in
    omega arith

pub loop-found-smaller : goal.loop-found-smaller
loop-found-smaller c =
    let b = c.loop-found.found in
    let h = and_le_r b (b - 1) in
    omega (arith, c.loop-found-test.true)

pub loop-found-preserved : goal.loop-found-preserved
loop-found-preserved c =
    let a = c.args in
    let n = c.loop-found.invariant.0 in
    let h = room (goal.at.loop-found-preserved c).Else-count-eq-ROOM in (
      length-set c.loop-found.ends c.loop-found.count (a.place + count_trailing_zeros 64 c.loop-found.found / 8) ∙ n,
      omega arith,
      left_next a.separator a.bytes.now c.loop-found.count a.place c.loop-found.found c.loop-found.ends c.requires.marks.0 c.loop-found.invariant.2 c.loop-found-test.true n h,
    )

pub returns : goal.returns
returns c =
    let a = c.args in
    left_none a.separator a.bytes.now c.loop-found.count a.place c.loop-found.found c.loop-found.ends c.requires.marks.0 c.loop-found.invariant.2 c.loop-found-test.false

pub overflow_cast-ends : goal.overflow_cast-ends
overflow_cast-ends c = let h = low (goal.at.overflow_cast-ends c).In-loop-found in omega arith

pub offset_bounds-ends-count : goal.offset_bounds-ends-count
offset_bounds-ends-count c = let h = room c in omega arith

pub bounds-ends-count : goal.bounds-ends-count
bounds-ends-count c = let h = room (goal.at.bounds-ends-count c).Else-count-eq-ROOM in omega arith

pub overflow_add-count : goal.overflow_add-count
overflow_add-count c = let h = room (goal.at.overflow_add-count c).Else-count-eq-ROOM in omega arith

pub overflow_sub-found : goal.overflow_sub-found
overflow_sub-found c = omega (arith, c.loop-found-test.true)
