-- Rests on the last byte, where it tells, and on where the segment ends otherwise.
use Prim.Native.Nat.{ℕ}
use mathlib.Core.Path.{ap}
use lib.Dec.{ltb}
use lib.ListN.{length}
use native.Mathlib.Omega.{arith}
use Rattle.reading.proofs.SegmentLaws.{ended_past, ended_last}
use Rattle.reading.proofs.segments.is_ended.Goals as goal

pub returns-then-message-start : goal.returns-then-message-start
returns-then-message-start c = let a = c.args in ended_past a.message.now a.start c.if-message-start.true

pub returns-then-message-eq-CARRIAGE_RETURN : goal.returns-then-message-eq-CARRIAGE_RETURN
returns-then-message-eq-CARRIAGE_RETURN c = let a = c.args in ended_last a.message.now a.start (omega arith) c.if-message-eq-CARRIAGE_RETURN.true

pub returns : goal.returns
returns c =
    let a = c.args in
    ap (λ (n : ℕ). ltb n (length a.message.now)) c.segment_end.ensures
