-- Rests on the walk along a text: the items so far were laid, and the rest is to come, at each turn.
use Prim.Native.Nat.{◌≤◌, ◌+◌}
use mathlib.Core.Path.{◌≡◌, sym, ◌∙◌}
use native.Mathlib.Omega.{arith}
use lib.ListN.{length}
use lib.Seq.{length-take-le}
use borrow.Author.Rules.{rules}
use Rattle.formatting.proofs.LayLaws.{walk_start, walk_end, walk_unclosed, walk_unknown, walk_ends, walk_sequence, walk_within, walk_run, walk_wrong, plain_clear}
use Rattle.formatting.proofs.laying.lay.Goals.{After-plain_run, After-slice_known-then-text-i-2-1, In-loop-i}
use Rattle.formatting.proofs.laying.lay.Goals as goal

pub loop-i-init : goal.loop-i-init
loop-i-init c = (omega arith, walk_start c.args.delimiters.bytes c.args.text.now c.requires)

pub returns-then-rest-n : goal.returns-then-rest-n
returns-then-rest-n c = walk_unclosed c.loop-i.invariant.1 c.loop-i-test.true c.if-text-i.true c.find-n.result c.find-n.ensures c.fault.result c.if-rest-n.true c.fault.ensures

pub returns-then-not-is_sequence : goal.returns-then-not-is_sequence
returns-then-not-is_sequence c =
    let n = c.if-rest-n.false in
    walk_unknown c.loop-i.invariant.1 c.loop-i-test.true c.if-text-i.true c.find-n.result c.find-n.ensures (omega arith) c.fault-then-not-is_sequence.result (sym c.is_sequence.ensures ∙ c.if-not-is_sequence.true) c.fault-then-not-is_sequence.ensures

pub take_sequence-p-requires : goal.take_sequence-p-requires
take_sequence-p-requires c =
    (c.loop-i.invariant.1.follows.sound, c.order_of-asked.ensures, sym c.is_sequence.ensures ∙ c.if-not-is_sequence.false)

-- where a sequence ends
short : (k : After-slice_known-then-text-i-2-1) → k.loop-i.i + 1 + k.find-n.result + 1 ≤ length k.args.text.now
short k =
    let n = k.if-rest-n.false in
    walk_ends k.loop-i.invariant.1 k.loop-i-test.true k.if-text-i.true k.find-n.result k.find-n.ensures (omega arith)

-- the length of a text is a usize
counted : (k : In-loop-i) → length k.args.text.now ≤ 18446744073709551615
counted k = omega arith

pub overflow_add-i : goal.overflow_add-i
overflow_add-i c = let h = short c in let l = counted (goal.at.overflow_add-i c).In-loop-i in omega arith

pub overflow_add-i-then-text-i : goal.overflow_add-i-then-text-i
overflow_add-i-then-text-i c = let h = short c in let l = counted (goal.at.overflow_add-i-then-text-i c).In-loop-i in omega arith

pub loop-i-smaller-then-text-i : goal.loop-i-smaller-then-text-i
loop-i-smaller-then-text-i c = let h = short c in omega arith

pub loop-i-preserved-then-text-i : goal.loop-i-preserved-then-text-i
loop-i-preserved-then-text-i c =
    let n = c.if-rest-n.false in
    (short c, walk_sequence c.loop-i.invariant.1 c.loop-i-test.true c.if-text-i.true c.find-n.result c.find-n.ensures (omega arith) (sym c.is_sequence.ensures ∙ c.if-not-is_sequence.false) c.take_sequence-p.ensures)

pub returns-then-end-i : goal.returns-then-end-i
returns-then-end-i c = walk_wrong c.loop-i.invariant.1 c.loop-i-test.true c.if-text-i.false c.plain_run.result c.plain_run.ensures c.fault-then-end-i.result c.wrong_plain.result c.if-end-i.true c.wrong_plain.ensures c.fault-then-end-i.ensures

pub take_run-p-requires : goal.take_run-p-requires
take_run-p-requires c =
    let l = c.loop-i in
    (l.invariant.1.follows.sound, plain_clear c.args.delimiters.bytes c.args.text.now l.i c.plain_run.result c.loop-i-test.true c.plain_run.ensures)

five : (k : After-plain_run) → length k.args.delimiters.bytes ≡ 5
five k = search rules

pub loop-i-preserved : goal.loop-i-preserved
loop-i-preserved c =
    (walk_within c.loop-i.invariant.1 c.loop-i-test.true c.if-text-i.false c.plain_run.result c.plain_run.ensures, walk_run c.loop-i.invariant.1 c.loop-i-test.true c.if-text-i.false c.plain_run.result c.plain_run.ensures (five (goal.at.loop-i-preserved c).After-plain_run) c.take_run-p.ensures)

pub returns : goal.returns
returns c = walk_end c.loop-i.invariant.1 (omega arith)

pub slice_bounds-order_of-end : goal.slice_bounds-order_of-end
slice_bounds-order_of-end c = sym (length-take-le _ _ (let h = c.if-rest-n.false in omega arith))

pub slice_bounds-is_sequence-end : goal.slice_bounds-is_sequence-end
slice_bounds-is_sequence-end c = sym (length-take-le _ _ (let h = c.if-rest-n.false in omega arith))

pub is_sequence-requires : goal.is_sequence-requires
is_sequence-requires c = c.order_of-asked.ensures

pub slice_bounds-take_sequence-end : goal.slice_bounds-take_sequence-end
slice_bounds-take_sequence-end c = sym (length-take-le _ _ (let h = c.if-rest-n.false in omega arith))

pub overflow_add-end : goal.overflow_add-end
overflow_add-end c = let h = walk_within c.loop-i.invariant.1 c.loop-i-test.true c.if-text-i.false c.plain_run.result c.plain_run.ensures in omega arith

pub slice_bounds-take_run-end : goal.slice_bounds-take_run-end
slice_bounds-take_run-end c = let h = walk_within c.loop-i.invariant.1 c.loop-i-test.true c.if-text-i.false c.plain_run.result c.plain_run.ensures in omega arith

pub loop-i-smaller : goal.loop-i-smaller
loop-i-smaller c = let h = walk_within c.loop-i.invariant.1 c.loop-i-test.true c.if-text-i.false c.plain_run.result c.plain_run.ensures in let n = c.if-end-i.false in omega arith
