-- Rests on `noted_part`: the part stands between two noted ends.
use Prim.Native.Nat.{ℕ, ◌+◌, ◌-◌, ◌≤◌, ◌<◌}
use mathlib.Core.Path.{◌≡◌, ap, ◌∙◌}
use lib.ListN.{length, get_or, take, drop}
use native.Mathlib.Omega.{arith}
use borrow.Author.Rules.{rules}
use Rattle.ends.proofs.NoteLaws.{noted_part, in_room, out_of_room, is_behind, not_behind}
use Rattle.ends.proofs.part.Goals.{Else-end-before, Else-index}
use Rattle.ends.proofs.part.Goals as goal

room : (c : Else-index) → (1 ≤ c.args.index) × (c.args.index < 16)
room c = in_room c.args.index c.if-index.false

pub returns-then-index : goal.returns-then-index
returns-then-index c sep most noted i j n = absurd (out_of_room c.args.index c.if-index.true j n)

pub overflow_sub-before : goal.overflow_sub-before
overflow_sub-before c = let h = (room c).0 in omega arith

pub offset_bounds-ends-index : goal.offset_bounds-ends-index
offset_bounds-ends-index c = let h = (room c).1 in omega arith

pub bounds-ends-index : goal.bounds-ends-index
bounds-ends-index c = let h = (room (goal.at.bounds-ends-index c).Else-index).1 in omega arith

pub offset_bounds-ends-index-2 : goal.offset_bounds-ends-index-2
offset_bounds-ends-index-2 c = let h = (room (goal.at.offset_bounds-ends-index-2 c).Else-index).1 in omega arith

pub bounds-ends-index-2 : goal.bounds-ends-index-2
bounds-ends-index-2 c = let h = (room (goal.at.bounds-ends-index-2 c).Else-index).1 in omega arith

-- the end is behind the one before it, within the bytes
behind : (c : Else-end-before)
    → let a = c.args in
    (get_or a.ends.now (a.index - 1) 0 < get_or a.ends.now a.index 0) × (get_or a.ends.now a.index 0 ≤ length a.bytes.now)
behind c =
    let a = c.args in
    is_behind (get_or a.ends.now (a.index - 1) 0) (get_or a.ends.now a.index 0) (length a.bytes.now) c.if-end-before.false

pub returns-then-end-before : goal.returns-then-end-before
returns-then-end-before c sep most noted i j n =
    let a = c.args in
    let b = get_or a.ends.now (a.index - 1) 0 in
    let e = get_or a.ends.now a.index 0 in
    let p = noted_part sep most a.bytes.now a.ends.now noted a.index i j n in
    let h = not_behind b e (length a.bytes.now) c.if-end-before.true p.0 in
    let z : 0 ≡ e - (b + 1) = omega (arith, h) in
    ap (λ (k : ℕ). take k (drop (b + 1) a.bytes.now)) z ∙ p.1

pub overflow_add-start : goal.overflow_add-start
overflow_add-start c = let h = (behind c).0 in let g = (behind c).1 in omega arith

pub slice_bounds-result-count : goal.slice_bounds-result-count
slice_bounds-result-count c = let h = (behind c).0 in omega arith

pub slice_bounds-result-start : goal.slice_bounds-result-start
slice_bounds-result-start c = let h = (behind c).0 in search rules

pub slice_bounds-result-end-2 : goal.slice_bounds-result-end-2
slice_bounds-result-end-2 c = let h = (behind c).1 in search rules

pub returns : goal.returns
returns c sep most noted i j n =
    let a = c.args in
    (noted_part sep most a.bytes.now a.ends.now noted a.index i j n).1
