-- Rests on `reached_end`: behind the last part every part ends where the bytes do.
use mathlib.Core.Path.{◌∙◌}
use lib.ListN.{length, length-set}
use native.Mathlib.Omega.{arith}
use borrow.Author.Rules.{rules}
use Rattle.ends.proofs.NoteLaws.{reached_end, front_noted}
use Rattle.ends.proofs.note_end.Goals as goal

pub loop-k-init : goal.loop-k-init
loop-k-init c = (search rules, c.requires)

pub loop-k-preserved : goal.loop-k-preserved
loop-k-preserved c =
    let a = c.args in
    let n = c.loop-k.invariant.0 in
    (length-set c.loop-k.ends c.loop-k.k (length a.bytes.now) ∙ n, reached_end a.separator a.bytes.now c.loop-k.ends c.loop-k.k n c.loop-k-test.true c.loop-k.invariant.1)

pub returns-then-most-k : goal.returns-then-most-k
returns-then-most-k c =
    let a = c.args in
    let t = c.if-most-k.true in
    front_noted a.separator a.bytes.now c.loop-k.ends c.loop-k.k a.most c.loop-k.invariant.1.1 (λ k i j. omega arith)

pub returns : goal.returns
returns c =
    let a = c.args in
    let t = c.loop-k-test.false in
    front_noted a.separator a.bytes.now c.loop-k.ends c.loop-k.k a.most c.loop-k.invariant.1.1 (λ k i j. omega arith)

pub offset_bounds-ends-k : goal.offset_bounds-ends-k
offset_bounds-ends-k c = let t = c.loop-k-test.true in omega arith

pub bounds-ends-k : goal.bounds-ends-k
bounds-ends-k c = let t = c.loop-k-test.true in omega arith
