-- Rests on `least_step`: the least place so far is the first stop's, where that stands before i, and else the block's end.
use Prim.Native.Nat.{ℕ, ◌+◌}
use mathlib.Core.Path.{◌≡◌, sym, ap₂, ◌∙◌}
use mathlib.Core.Bool.{Bool, cond, ◌&&◌}
use lib.Dec.{ltb}
use lib.ListN.{length}
use native.Mathlib.Omega.{arith}
use borrow.Author.Rules.{rules}
use Rattle.alphabet.specs.Bytes.{stops}
use Rattle.alphabet.proofs.BlockLaws.{least_begin, least_most, least_step, least_end}
use Rattle.search.proofs.first_of_block.Goals.{Start}
use Rattle.search.proofs.first_of_block.Goals as goal

size : (c : Start) → length c.args.block.now ≡ 32
size c = search rules

pub loop-i-init : goal.loop-i-init
loop-i-init c =
    let a = c.args in
    let n = size (goal.at.loop-i-init c).Start in
    (omega arith, sym n ∙ least_begin (stops a.unprintable a.five) a.block.now)

pub loop-i-preserved : goal.loop-i-preserved
loop-i-preserved c =
    let a = c.args in
    let s = a.block.now in
    let i = c.loop-i.i in
    let n = size (goal.at.loop-i-preserved c).Start in
    let t = c.loop-i-test.true in
    let m = least_most (stops a.unprintable a.five) s (i + 1) in
    let e =
    c.nearer-least.ensures
    ∙ ap₂ (λ (t : Bool) (k : ℕ). cond (t && ltb i k) i k) c.is_stop-test.ensures c.loop-i.invariant.1
    ∙ least_step (stops a.unprintable a.five) s i (omega arith) in
    (omega (arith, e), e)

pub returns : goal.returns
returns c =
    let a = c.args in
    let n = size (goal.at.returns c).Start in
    let t = c.loop-i-test.false in
    c.loop-i.invariant.1 ∙ least_end (stops a.unprintable a.five) a.block.now c.loop-i.i (omega arith)
