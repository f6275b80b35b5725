-- Rests on the bytes behind a place: all of them are blanks.
use Prim.Native.Nat.{ℕ}
use mathlib.Core.Path.{◌≡◌, ap}
use native.Mathlib.Omega.{arith}
use lib.ListN.{take}
use Rattle.formatting.specs.Runs.{firm}
use Rattle.formatting.proofs.RunLaws.{firm_take, trim_next, trim_start}
use Rattle.formatting.proofs.words.trimmed.Goals as goal

pub loop-end-init : goal.loop-end-init
loop-end-init c = (omega arith, trim_start c.args.bytes.now)

pub returns-then-bytes-end-ne32 : goal.returns-then-bytes-end-ne32
returns-then-bytes-end-ne32 c =
    (c.loop-end.invariant.0, firm_take c.args.bytes.now c.loop-end.end (omega arith) (omega arith) c.if-bytes-end-ne32.true, c.loop-end.invariant.1)

pub loop-end-preserved : goal.loop-end-preserved
loop-end-preserved c =
    (omega arith, trim_next c.args.bytes.now c.loop-end.end (omega arith) (omega arith) c.if-bytes-end-ne32.false c.loop-end.invariant.1)

pub returns : goal.returns
unfolding firm
returns c =
    let l = c.loop-end in
    let b = c.args.bytes.now in
    let e : l.end ≡ 0 = omega arith in
    (l.invariant.0, ap (λ (n : ℕ). firm (take n b)) e, l.invariant.1)
