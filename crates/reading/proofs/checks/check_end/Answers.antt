-- Rests on what `byte_at` and `fails_if` give at the last place.
use Prim.Native.Nat.{◌-◌}
use mathlib.Core.Path.{◌≡◌}
use lib.ListN.{length}
use native.Mathlib.Omega.{arith}
use Rattle.reading.proofs.checks.check_end.Goals.{else-length-eq0, then-length-eq0}
use Rattle.reading.proofs.checks.check_end.Goals as goal

pub returns : goal.returns
returns c =
    let l : c.if-length-eq0.last ≡ length c.args.message.now - 1 =
    elim c.if-length-eq0.branch [ then-length-eq0 w ↦ omega arith | else-length-eq0 w ↦ omega arith ] in
    cc
