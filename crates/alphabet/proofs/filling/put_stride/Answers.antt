-- Rests on the laws of copies: so many bytes of the stride are in the buffer, at each turn.
use Prim.Native.Nat.{◌+◌}
use mathlib.Core.Path.{refl, ap, ◌∙◌}
use lib.ListN.{length, length-drop, length-set, drop}
use lib.Seq.{length-take-le, paste-zero}
use native.Mathlib.Omega.{arith}
use Rattle.alphabet.specs.Filling.{pasted}
use Rattle.alphabet.proofs.FillingLaws.{put_step, put_end}
use Rattle.alphabet.proofs.filling.put_stride.Goals as goal

pub loop-i-init : goal.loop-i-init
loop-i-init c =
    let a = c.args in
    let s = a.source.now in
    let k = length-drop a.from s in
    let n = ap length c.stride_from-stride.ensures ∙ length-take-le 16 (drop a.from s) (omega arith) in
    (paste-zero a.buffer.now a.at c.stride_from-stride.result, n, omega arith, refl)

pub loop-i-preserved : goal.loop-i-preserved
loop-i-preserved c =
    let a = c.args in (
      put_step a.buffer.now c.stride_from-stride.result c.loop-i.buffer a.at c.loop-i.i (a.at + c.loop-i.i) refl c.loop-i.invariant.0 (omega arith) (omega arith),
      c.loop-i.invariant.1,
      omega arith,
      simp length-set c.loop-i.invariant.3,
    )

pub returns : goal.returns
returns c =
    let a = c.args in
    c.loop-i.invariant.0 ∙ put_end a.buffer.now _ a.at c.loop-i.i (omega arith) ∙ ap (pasted a.buffer.now a.at) c.stride_from-stride.ensures
