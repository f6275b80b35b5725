-- Rests on the bytes behind a place: none of them is a blank.
use mathlib.Core.Path.{ap}
use native.Mathlib.Omega.{arith}
use lib.ListN.{length, drop_of_length-le}
use Rattle.formatting.specs.Runs.{blankless}
use Rattle.formatting.proofs.RunLaws.{blankless_next}
use Rattle.formatting.proofs.words.last_word.Goals as goal

pub loop-start-init : goal.loop-start-init
unfolding blankless
loop-start-init c =
    let l = c.args.bytes.now in
    (omega arith, ap blankless (drop_of_length-le l {i = length l} (omega arith)))

pub returns-then-bytes-start-eq32 : goal.returns-then-bytes-start-eq32
returns-then-bytes-start-eq32 c =
    let l = c.loop-start in
    (l.invariant.0, l.invariant.1, λ h. c.if-bytes-start-eq32.true)

pub loop-start-preserved : goal.loop-start-preserved
loop-start-preserved c =
    (omega arith, blankless_next c.args.bytes.now c.loop-start.start (omega arith) (omega arith) c.if-bytes-start-eq32.false c.loop-start.invariant.1)

pub returns : goal.returns
returns c =
    let l = c.loop-start in
    (l.invariant.0, l.invariant.1, λ h. absurd (omega arith))
