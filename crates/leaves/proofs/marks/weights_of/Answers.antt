-- Rests on the weights so far: each turn sets one more.
use Prim.Native.Nat.{ℕ, ◌<◌, ◌*◌, ◌%◌, ◌^◌}
use mathlib.Core.Path.{◌≡◌, refl, sym, ap, ◌∙◌}
use mathlib.Core.Bool.{Bool, cond}
use lib.ListN.{get_or, length-set}
use lib.Pow.{shl_exact}
use native.Mathlib.Nat.{one-mul}
use native.Mathlib.Omega.{arith}
use Rattle.alphabet.specs.Lists.{among}
use Rattle.leaves.proofs.MarkLaws.{weighs_next}
use Rattle.leaves.proofs.marks.weights_of.Goals.{else-is_among, then-is_among}
use Rattle.leaves.proofs.marks.weights_of.Goals as goal

-- a one that is moved so far is the weight
power : (k : ℕ) → k < 8 → (1 * 2 ^ k) % 2 ^ 8 ≡ 2 ^ k
power k h = shl_exact {a = 1} 1 k 8 (omega arith) (omega arith) ∙ one-mul (2 ^ k)

pub loop-i-preserved : goal.loop-i-preserved
loop-i-preserved c =
    let a = c.args in
    let i = c.loop-i.i in
    let e = c.is_among.ensures in
    let n = c.loop-i.invariant.1 in
    let v : c.if-is_among.weights ≡ cond (among a.ends (get_or a.block.now i 0)) (2 ^ (i % 8)) 0 =
    elim c.if-is_among.branch [ then-is_among w ↦ w.weights-is ∙ power (i % 8) (omega arith) ∙ sym (ap (λ (t : Bool). cond t (2 ^ (i % 8)) 0) (sym e ∙ w.if-is_among.true)) | else-is_among w ↦ w.weights-is ∙ sym (ap (λ (t : Bool). cond t (2 ^ (i % 8)) 0) (sym e ∙ w.if-is_among.false)) ] in
    (omega arith, simp length-set n, weighs_next (among a.ends) a.block.now c.loop-i.weights i c.if-is_among.weights (omega arith) c.loop-i.invariant.2 v)

pub returns : goal.returns
returns c =
    let h = c.loop-i.invariant.0 in
    let e : c.loop-i.i ≡ 48 = omega arith in
    ((λ j k. c.loop-i.invariant.2 j (omega arith)), c.loop-i.invariant.1)

pub loop-i-init : goal.loop-i-init
loop-i-init c = (omega arith, refl, λ j h. absurd (omega arith))

pub bounds-block-i : goal.bounds-block-i
bounds-block-i c = let n = c.requires in omega arith
