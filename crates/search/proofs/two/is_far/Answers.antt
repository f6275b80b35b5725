-- Rests on `first_next`: where what was looked at is far, the first that is near stands at or behind the next place.
use native.Mathlib.Omega.{arith}
use lib.Bits.{bit_xor}
use lib.ListN.{get_or}
use borrow.Author.Tests.{lt-leb, ltb-true}
use Rattle.alphabet.proofs.ListLaws.{first_next}
use Rattle.search.specs.Two.{near}
use Rattle.search.proofs.two.is_far.Goals as goal

pub loop-byte-preserved : goal.loop-byte-preserved
loop-byte-preserved c =
    let a = c.args in
    let s = a.bytes.now in
    let i = c.loop-byte.byte-index in
    let m = c.min-least.ensures in
    let t = c.loop-byte-test.true in
    λ h. first_next (near a.mask a.bound) s i t (c.loop-byte.invariant (omega arith)) (lt-leb (bit_xor (get_or s i 0) a.mask) a.bound (omega arith))

pub returns : goal.returns
returns c e h =
    let a = c.args in
    let f = c.loop-byte.invariant (ltb-true a.bound c.loop-byte.least e) in
    omega arith

pub loop-byte-init : goal.loop-byte-init
loop-byte-init c = λ h. omega arith
