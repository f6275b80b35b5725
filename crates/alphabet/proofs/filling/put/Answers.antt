-- Rests on the laws of copies: so many bytes of the source are in the buffer, at each turn; and on there being room, or none.
use Prim.Native.Nat.{◌+◌}
use mathlib.Core.Path.{◌≡◌, refl, sym, ◌∙◌}
use lib.ListN.{length, length-set}
use native.Mathlib.Omega.{arith}
use lib.Seq.{paste-zero}
use Rattle.alphabet.proofs.FillingLaws.{put_step, put_end, put_fits, put_none}
use Rattle.alphabet.proofs.filling.put.Goals as goal

pub returns-then-buffer-at-clause-value : goal.returns-then-buffer-at-clause-value
returns-then-buffer-at-clause-value c =
    let a = c.args in
    let none = put_none a.buffer.now a.source.now a.at (omega (arith, c.if-buffer-at.true)) in sym none.0

pub returns-then-buffer-at-clause-buffer_after : goal.returns-then-buffer-at-clause-buffer_after
returns-then-buffer-at-clause-buffer_after c =
    let a = c.args in
    let none = put_none a.buffer.now a.source.now a.at (omega (arith, c.if-buffer-at.true)) in sym none.1

pub returns-then-buffer-at-2-clause-value : goal.returns-then-buffer-at-2-clause-value
returns-then-buffer-at-2-clause-value c =
    let a = c.args in
    let none = put_none a.buffer.now a.source.now a.at (omega (arith, c.if-buffer-at-2.true, c.if-buffer-at.false)) in sym none.0

pub returns-then-buffer-at-2-clause-buffer_after : goal.returns-then-buffer-at-2-clause-buffer_after
returns-then-buffer-at-2-clause-buffer_after c =
    let a = c.args in
    let none = put_none a.buffer.now a.source.now a.at (omega (arith, c.if-buffer-at-2.true, c.if-buffer-at.false)) in sym none.1

pub loop-i-init : goal.loop-i-init
loop-i-init c =
    let a = c.args in
    (omega arith, paste-zero a.buffer.now a.at a.source.now, omega arith, refl)

pub loop-i-preserved : goal.loop-i-preserved
loop-i-preserved c =
    let a = c.args in
    let d₀ = a.buffer.now in
    let s = a.source.now in
    let j = c.loop-i.i in (
      omega arith,
      put_step d₀ s c.loop-i.buffer a.at j c.loop-i.place c.loop-i.invariant.0 c.loop-i.invariant.1 (omega arith) (omega arith),
      omega arith,
      simp length-set c.loop-i.invariant.3,
    )

pub returns-clause-value : goal.returns-clause-value
returns-clause-value c =
    let a = c.args in
    let fits = put_fits a.buffer.now a.source.now a.at (omega arith) in
    let size : c.loop-i.place ≡ a.at + length a.source.now = omega arith in size ∙ sym fits.0

pub returns-clause-buffer_after : goal.returns-clause-buffer_after
returns-clause-buffer_after c =
    let a = c.args in
    let fits = put_fits a.buffer.now a.source.now a.at (omega arith) in
    let size : c.loop-i.place ≡ a.at + length a.source.now = omega arith in c.loop-i.invariant.1 ∙ put_end a.buffer.now a.source.now a.at c.loop-i.i (omega arith) ∙ sym fits.1
