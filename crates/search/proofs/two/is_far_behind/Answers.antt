-- Rests on `first_block`: the last block is passed over whole, from its own start.
use Prim.Native.Nat.{◌-◌}
use lib.ListN.{length, drop, length-drop}
use lib.Seq.{length-take-le}
use native.Mathlib.Omega.{arith}
use Rattle.search.specs.Two.{near}
use Rattle.alphabet.proofs.BoolLaws.{false_true}
use Rattle.alphabet.proofs.ListLaws.{first_block}
use Rattle.search.proofs.two.is_far_behind.Goals as goal

pub returns : goal.returns
returns c e h =
    let a = c.args in
    let s = a.bytes.now in
    let last = length s - 256 in
    let n = length s - last in
    let d = length-drop last s in
    let k = length-take-le n (drop last s) (omega arith) in
    let w = c.is_far.ensures e (omega arith) in
    let f = first_block (near a.mask a.bound) s last n (omega arith) (omega arith) (omega arith) in
    omega arith

pub returns-then-bytes-lt-WIDE : goal.returns-then-bytes-lt-WIDE
returns-then-bytes-lt-WIDE c e h = false_true e

pub returns-then-i-last : goal.returns-then-i-last
returns-then-i-last c e h = false_true e
