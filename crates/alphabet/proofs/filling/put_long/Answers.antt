-- Rests on the laws of copies: so many bytes of the source are in the buffer, at each turn; and on there being room, or none.
use Prim.Native.Nat.{◌≤◌, ◌+◌}
use mathlib.Core.Path.{◌≡◌, refl, sym, ap, ◌∙◌}
use lib.ListN.{length}
use lib.Seq.{paste, paste-zero, length-paste}
use native.Mathlib.Omega.{arith}
use Rattle.alphabet.proofs.FillingLaws.{put_more, put_last, put_end, put_fits, put_none}
use Rattle.alphabet.proofs.filling.put_long.Goals.{After-slice_known-2-1}
use Rattle.alphabet.proofs.filling.put_long.Goals as goal

pub returns-then-source-lt-STRIDE : goal.returns-then-source-lt-STRIDE
returns-then-source-lt-STRIDE c = record { value = c.put.ensures.value; buffer_after = c.put.ensures.buffer_after }

pub returns-then-buffer-at-clause-value : goal.returns-then-buffer-at-clause-value
returns-then-buffer-at-clause-value c =
    let a = c.args in
    let none = put_none a.buffer.now a.source.now a.at (omega (arith, c.if-buffer-at.true)) in sym none.0

pub returns-then-buffer-at-clause-buffer_after : goal.returns-then-buffer-at-clause-buffer_after
returns-then-buffer-at-clause-buffer_after c =
    let a = c.args in
    let none = put_none a.buffer.now a.source.now a.at (omega (arith, c.if-buffer-at.true)) in sym none.1

pub returns-then-buffer-at-2-clause-value : goal.returns-then-buffer-at-2-clause-value
returns-then-buffer-at-2-clause-value c =
    let a = c.args in
    let none = put_none a.buffer.now a.source.now a.at (omega (arith, c.if-buffer-at-2.true, c.if-buffer-at.false)) in sym none.0

pub returns-then-buffer-at-2-clause-buffer_after : goal.returns-then-buffer-at-2-clause-buffer_after
returns-then-buffer-at-2-clause-buffer_after c =
    let a = c.args in
    let none = put_none a.buffer.now a.source.now a.at (omega (arith, c.if-buffer-at-2.true, c.if-buffer-at.false)) in sym none.1

pub loop-i-init : goal.loop-i-init
loop-i-init c =
    let a = c.args in
    (paste-zero a.buffer.now a.at a.source.now, omega arith, omega arith, omega arith, refl)

pub loop-i-preserved : goal.loop-i-preserved
loop-i-preserved c =
    let a = c.args in
    let i = c.loop-i.i in
    let v = c.loop-i.invariant in
    let h : i + 16 ≤ length a.source.now = omega arith in
    let e = put_more a.buffer.now a.source.now c.loop-i.buffer c.put_stride.new.buffer a.at i 16 v.0 v.3 h c.put_stride.ensures in
    (e, h, v.2, v.3, ap length e ∙ length-paste a.buffer.now a.at a.source.now (i + 16) (omega arith) h)

-- all of the source is in the buffer
whole : (c : After-slice_known-2-1)
    → let a = c.args in
    c.put_stride-2.new.buffer ≡ paste a.buffer.now a.at a.source.now (length a.source.now)
whole c =
    let a = c.args in
    let v = c.loop-i.invariant in
    put_last a.buffer.now a.source.now c.loop-i.buffer c.put_stride-2.new.buffer a.at c.loop-i.i 16 v.0 v.3 v.1 v.2 (omega arith) c.put_stride-2.ensures

pub returns-clause-value : goal.returns-clause-value
returns-clause-value c =
    let a = c.args in
    let fits = put_fits a.buffer.now a.source.now a.at c.loop-i.invariant.3 in sym fits.0

pub returns-clause-buffer_after : goal.returns-clause-buffer_after
returns-clause-buffer_after c =
    let a = c.args in
    let fits = put_fits a.buffer.now a.source.now a.at c.loop-i.invariant.3 in whole c ∙ put_end a.buffer.now a.source.now a.at _ refl ∙ sym fits.1
