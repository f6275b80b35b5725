-- `answering::hex::put_digits` meets its contract: the buffer's front and the digits of what is left are always the digits of the whole.
use Prim.Native.Nat.{ℕ, ◌+◌, ◌*◌}
use mathlib.Core.Path.{◌≡◌, sym, ap, ◌∙◌}
use mathlib.Core.List.{List, ◌∷◌, ◌++◌, append-nil}
use native.Mathlib.Omega.{arith}
use lib.ListN.{take, drop, set, length-set}
use lib.Seq.{take_all}
use Rattle.answering.specs.Hex.{hexed}
use Rattle.asking.proofs.Lists.{front_two}
use Rattle.answering.proofs.Digits.{hexed_next, hexed_end}
use Rattle.answering.proofs.hex.put_digits.Goals as goal

pub loop-place-preserved : goal.loop-place-preserved
loop-place-preserved c =
    let t = c.args.said.now in
    let b = c.loop-place.buffer in
    let i = c.loop-place.place in
    let x = c.digit in
    let y = c.digit-in-loop-place in
    let n : 2 * i + 2 ≡ 2 * (i + 1) = omega arith in
    let e : hexed (drop i t) ≡ x.result ∷ y.result ∷ hexed (drop (i + 1) t) = rw (x.ensures, y.ensures) (hexed_next t i (omega arith)) in
    let next = ap (λ (r : List ℕ). take (2 * i) b ++ r) e ∙ sym (front_two b (hexed (drop (i + 1) t)) (2 * i) x.result y.result (omega arith)) ∙ ap (λ k. take k (set (set b (2 * i) x.result) (2 * i + 1) y.result) ++ hexed (drop (i + 1) t)) n in
    (simp length-set c.loop-place.invariant.0, c.loop-place.invariant.1 ∙ next)

pub returns : goal.returns
returns c =
    let t = c.args.said.now in
    let b = c.loop-place.buffer in
    let n = 2 * c.loop-place.place in
    sym (c.loop-place.invariant.1 ∙ ap (λ (r : List ℕ). take n b ++ r) (hexed_end t c.loop-place.place (omega arith)) ∙ append-nil (take n b) ∙ take_all n b (omega arith))
