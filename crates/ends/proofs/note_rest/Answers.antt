-- Rests on `reached_here` and `reached_past`: a byte is the next end, or is passed over.
use Prim.Native.Nat.{ℕ, ◌+◌, ◌<◌}
use mathlib.Core.Path.{◌≡◌, subst, ◌∙◌}
use lib.ListN.{length, set, length-set}
use native.Mathlib.Omega.{arith}
use borrow.Author.Rules.{rules}
use Rattle.ends.specs.Ends.{Reached}
use Rattle.ends.proofs.NoteLaws.{reached_here, reached_past, reached_full, reached_as}
use Rattle.ends.proofs.note_rest.Goals.{Else-count-eq-ROOM, else-bytes-i, then-bytes-i+else-count-eq-ROOM}
use Rattle.ends.proofs.note_rest.Goals as goal

pub returns-then-count-eq-ROOM : goal.returns-then-count-eq-ROOM
returns-then-count-eq-ROOM c =
    let a = c.args in
    reached_full a.separator a.bytes.now c.loop-i.ends c.loop-i.count c.loop-i.i (length a.bytes.now) c.if-count-eq-ROOM.true c.loop-i.invariant.2

-- there is room for one more
room : (c : Else-count-eq-ROOM) → c.loop-i.count < 16
room c = let h = c.loop-i.invariant.2.0 in omega (arith, c.if-count-eq-ROOM.false)

pub loop-i-preserved : goal.loop-i-preserved
loop-i-preserved c =
    let a = c.args in
    let s = a.separator in
    let b = a.bytes.now in
    let d = c.loop-i.ends in
    let k = c.loop-i.count in
    let i = c.loop-i.i in
    let n = c.loop-i.invariant.1 in
    let r = c.loop-i.invariant.2 in
    let p : (length c.if-bytes-i.ends ≡ 16) × Reached s b c.if-bytes-i.count (i + 1) c.if-bytes-i.ends
    = elim c.if-bytes-i.branch [
      | then-bytes-i+else-count-eq-ROOM w ↦ reached_as s b (set d k i) c.if-bytes-i.ends (k + 1) c.if-bytes-i.count (i + 1) w.ends-is w.count-is (length-set d k i ∙ n)
          (reached_here s b d k i n (let h = r.0 in omega (arith, w.if-count-eq-ROOM.false)) (omega arith) w.if-bytes-i.true r)
      | else-bytes-i w ↦ reached_as s b d c.if-bytes-i.ends k c.if-bytes-i.count (i + 1) w.ends-is w.count-is n (reached_past s b d k i (omega arith) w.if-bytes-i.false r)
    ] in
    (omega arith, p.0, p.1)

-- at the end of the bytes
pub returns : goal.returns
returns c =
    let a = c.args in
    let e : c.loop-i.i ≡ length a.bytes.now = omega arith in
    subst (λ (x : ℕ). Reached a.separator a.bytes.now c.loop-i.count x c.loop-i.ends) e c.loop-i.invariant.2

pub loop-i-init : goal.loop-i-init
loop-i-init c = (c.requires.within, search rules, c.requires.reached)

pub offset_bounds-ends-count : goal.offset_bounds-ends-count
offset_bounds-ends-count c = let h = room c in omega arith

pub bounds-ends-count : goal.bounds-ends-count
bounds-ends-count c = let h = room (goal.at.bounds-ends-count c).Else-count-eq-ROOM in omega arith

pub overflow_add-count : goal.overflow_add-count
overflow_add-count c = let h = room (goal.at.overflow_add-count c).Else-count-eq-ROOM in omega arith
