-- Rests on the laws of copies: so many bytes are held, at each turn.
use Prim.Native.Nat.{ℕ}
use mathlib.Core.Path.{◌≡◌, refl, subst}
use lib.ListN.{take, drop, length-set}
use native.Mathlib.Omega.{arith}
use Rattle.alphabet.proofs.FillingLaws.{hold_step, hold_end}
use Rattle.alphabet.proofs.filling.stride_from.Goals as goal

pub loop-i-preserved : goal.loop-i-preserved
loop-i-preserved c =
    let a = c.args in
    (hold_step a.source.now c.loop-i.stride a.from c.loop-i.i c.loop-i.invariant.0 (omega arith) (omega arith), simp length-set c.loop-i.invariant.1, omega arith)

pub returns : goal.returns
returns c =
    let a = c.args in
    let full : c.loop-i.i ≡ 16 = omega arith in
    let same : take 16 c.loop-i.stride ≡ take 16 (drop a.from a.source.now) = subst (λ (n : ℕ). take n c.loop-i.stride ≡ take n (drop a.from a.source.now)) full c.loop-i.invariant.0 in
    hold_end c.loop-i.stride (drop a.from a.source.now) 16 same c.loop-i.invariant.1

pub loop-i-init : goal.loop-i-init
loop-i-init c = (refl, refl, omega arith)
