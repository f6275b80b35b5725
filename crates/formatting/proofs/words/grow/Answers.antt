-- Rests on a word that grows by a byte.
use Prim.Native.Nat.{◌+◌}
use native.Mathlib.Omega.{arith}
use borrow.Author.Tests.{ltb-true}
use Rattle.alphabet.proofs.BoolLaws.{and_both}
use Rattle.formatting.proofs.GrowLaws.{clear_word, grow_wraps, grow_stuck}
use Rattle.formatting.proofs.words.grow.Goals as goal

pub append-requires : goal.append-requires
append-requires c =
    let e = c.reach-reach.ensures in
    (c.requires.0, omega arith, omega arith, clear_word c.args.b c.requires.1)

pub wrap-next-requires : goal.wrap-next-requires
wrap-next-requires c =
    let l = ltb-true (c.args.page.margin + c.args.page.word) 200 (and_both c.args.page.fill _ c.if-page.true).1 in
    (c.requires.0, omega arith)

pub append-requires-then-page : goal.append-requires-then-page
append-requires-then-page c =
    let w = c.wrap-next.ensures in
    let l = ltb-true (c.args.page.margin + c.args.page.word) 200 (and_both c.args.page.fill _ c.if-page.true).1 in
    let r = w.reach in
    (w.sound, omega arith, omega arith, clear_word c.args.b c.requires.1)

pub returns-then-page : goal.returns-then-page
returns-then-page c =
    let e = c.reach-reach.ensures in
    let l = c.if-reach-lt-WIDTH.false in
    grow_wraps c.args.b c.requires.1 c.args.page c.args.line.now c.args.buffer.now (omega arith) c.wrap-next.result c.append-then-page.result _ _ _ _
    (and_both c.args.page.fill _ c.if-page.true).0 c.wrap-next.ensures c.append-then-page.ensures

pub returns : goal.returns
returns c =
    let e = c.reach-reach.ensures in
    let l = c.if-reach-lt-WIDTH.false in
    grow_stuck c.args.b c.requires.1 c.args.page c.args.line.now c.args.buffer.now (omega arith) c.requires.0 c.if-page.false
