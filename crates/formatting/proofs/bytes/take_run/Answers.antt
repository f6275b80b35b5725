-- Rests on bytes that are put down together.
use native.Mathlib.Omega.{arith}
use lib.ListN.{length}
use borrow.Author.Tests.{ltb-true, leb-true}
use Prim.Native.Nat.{◌-◌}
use Rattle.alphabet.proofs.BoolLaws.{and_both}
use Rattle.formatting.proofs.bytes.take_run.Goals as goal

pub append-requires : goal.append-requires
append-requires c =
    let n = length c.args.run.now in
    let b = and_both _ _ c.if-run-reach.true in
    let some = ltb-true 0 n b.0 in
    let most = leb-true n (200 - c.reach-reach.result) b.1 in
    let less = c.if-reach-lt-WIDTH.true in
    let e = c.reach-reach.ensures in
    (c.requires.0, omega arith, some, c.requires.1)
