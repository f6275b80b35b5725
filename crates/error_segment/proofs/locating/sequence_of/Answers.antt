-- Rests on the walk over the names of the segments: those that are left from `start` on, at each turn.
use Prim.Native.Nat.{ℕ, ◌+◌, ◌-◌, ◌≤◌}
use mathlib.Core.Path.{◌≡◌, sym, ap, ap₂, ◌∙◌}
use native.Mathlib.Nat.{zero-add, sub-zero}
use mathlib.Core.List.{List, ◌∷◌}
use lib.Dec.{eqb}
use lib.ListN.{length, take, drop, length-drop}
use native.Mathlib.Omega.{arith}
use borrow.Author.Rules.{rules}
use Rattle.alphabet.specs.Bytes.{carriage_return}
use Rattle.alphabet.proofs.ListLaws.{first_le}
use Rattle.structure.proofs.SegmentWalk.{names_from, names_all, names_walk, names_over}
use Rattle.error_segment.specs.Errors.{count_of}
use Rattle.error_segment.proofs.ErrorLaws.{count_none, count_front, turn_same, turn_other}
use Rattle.error_segment.proofs.locating.sequence_of.Goals.{After-name_of, After-segment_end-end, else-name_of-name, then-name_of-name}
use Rattle.error_segment.proofs.locating.sequence_of.Goals as goal

pub loop-number-init : goal.loop-number-init
loop-number-init c =
    let a = c.args in (
      omega arith,
      omega arith,
      omega arith,
      omega arith,
      ap₂ (λ (k : ℕ) (l : List ℕ). count_of a.name (take k l)) (sym (sub-zero (a.place + 1))) (names_all a.message.now) ∙ sym (zero-add _),
    )

-- the CR that ends the segment stands at or before the message's end
inside : (c : After-segment_end-end)
    → (c.loop-number.start ≤ c.segment_end-end.result) × (c.segment_end-end.result ≤ length c.args.message.now)
inside c =
    let m = c.args.message.now in
    let e = c.segment_end-end.ensures in
    let u = first_le (eqb carriage_return) (drop c.loop-number.start m) in
    let n = length-drop c.loop-number.start m in
    (omega arith, omega arith)

pub returns-then-message-end : goal.returns-then-message-end
returns-then-message-end c =
    let a = c.args in
    let e = names_over a.message.now c.loop-number.start (omega (arith, c.segment_end-end.ensures)) in
    let z = ap (λ (x : List ℕ). count_of a.name (take (a.place + 1 - c.loop-number.number) x)) e ∙ count_none a.name (a.place + 1 - c.loop-number.number) in
    omega (arith, c.loop-number.invariant.4)

-- the names that are left are this segment's, which the call gave, and those behind it
left : (c : After-name_of)
    → let m = c.args.message.now in
    names_from m c.loop-number.start ≡ c.name_of.result ∷ names_from m (c.segment_end-end.result + 1)
left c =
    let m = c.args.message.now in
    let e = c.segment_end-end in
    names_walk m c.loop-number.start e.result e.ensures (omega arith) ∙ ap (λ (n : ℕ). n ∷ names_from m (e.result + 1)) (sym c.name_of.ensures)

pub loop-number-preserved : goal.loop-number-preserved
loop-number-preserved c =
    let a = c.args in
    let i = inside (goal.at.loop-number-preserved c).After-segment_end-end in
    let i0 = i.0 in
    let h = c.loop-number.invariant in
    let behind = names_from a.message.now (c.segment_end-end.result + 1) in
    let here = a.place + 1 - (c.loop-number.number + 1) in (
      omega arith,
      omega arith,
      omega arith,
      elim c.if-name_of-name.branch [ then-name_of-name w ↦ let q = w.count-is in omega arith | else-name_of-name w ↦ let q = w.count-is in omega arith ],
      elim c.if-name_of-name.branch [
        | then-name_of-name w ↦ turn_same a.name a.place c.loop-number.number c.loop-number.count _ _ _ _ (omega arith) (left (goal.at.loop-number-preserved c).After-name_of) h.4 w.if-name_of-name.true
            ∙ ap (λ (k : ℕ). k + count_of a.name (take here behind)) (sym w.count-is)
        | else-name_of-name w ↦ turn_other a.name a.place c.loop-number.number c.loop-number.count _ _ _ _ (omega arith) (left (goal.at.loop-number-preserved c).After-name_of) h.4 w.if-name_of-name.false
            ∙ ap (λ (k : ℕ). k + count_of a.name (take here behind)) (sym w.count-is)
      ],
    )

pub returns : goal.returns
returns c =
    let a = c.args in
    let k : a.place + 1 - c.loop-number.number ≡ 0 = omega arith in
    let z = ap (λ (i : ℕ). count_of a.name (take i (names_from a.message.now c.loop-number.start))) k ∙ count_front a.name (names_from a.message.now c.loop-number.start) in
    omega (arith, c.loop-number.invariant.4)

pub slice_bounds-name_of-count : goal.slice_bounds-name_of-count
slice_bounds-name_of-count c = (inside (goal.at.slice_bounds-name_of-count c).After-segment_end-end).0

pub slice_bounds-name_of-start : goal.slice_bounds-name_of-start
slice_bounds-name_of-start c = let i = (inside (goal.at.slice_bounds-name_of-start c).After-segment_end-end).0 in search rules

pub slice_bounds-name_of-end : goal.slice_bounds-name_of-end
slice_bounds-name_of-end c = let i = (inside (goal.at.slice_bounds-name_of-end c).After-segment_end-end).1 in search rules

pub loop-number-smaller : goal.loop-number-smaller
loop-number-smaller c = let i = (inside (goal.at.loop-number-smaller c).After-segment_end-end).0 in omega arith
