-- Rests on the laws of where parts stand, as `alphabet::nth_part` does.
use Prim.Native.Nat.{ℕ, ◌+◌, ◌-◌}
use mathlib.Core.Path.{◌≡◌, refl, sym, ap, ◌∙◌}
use lib.ListN.{drop, length-drop}
use native.Mathlib.Omega.{arith}
use Rattle.alphabet.specs.Bytes.{carriage_return}
use Rattle.alphabet.specs.Lists.{find}
use Rattle.alphabet.specs.Parts.{split, standing, part_at, began}
use Rattle.alphabet.proofs.PartLaws.{standing_first, standing_walk, standing_none}
use Rattle.reading.proofs.segments.line_start.Goals as goal

pub loop-init : goal.loop-init
unfolding part_at
loop-init c = (omega arith, ap (standing 0 (split _ _)) (omega arith))

pub returns-then-message-end : goal.returns-then-message-end
returns-then-message-end c =
    let a = c.args in
    let r = drop c.loop.begin a.message.now in
    let n : a.index - c.loop.counter ≡ (a.index - c.loop.counter - 1) + 1 = omega arith in
    let e = c.segment_end-end.ensures in
    let d = length-drop c.loop.begin a.message.now in
    ap began (sym (c.loop.invariant.1 ∙ ap (standing c.loop.begin (split carriage_return r)) n ∙ standing_none carriage_return c.loop.begin r (a.index - c.loop.counter - 1) (omega arith)))

pub loop-preserved : goal.loop-preserved
loop-preserved c =
    let a = c.args in
    let m = a.message.now in
    let r = drop c.loop.begin m in
    let k = a.index - (c.loop.counter + 1) in
    let n : a.index - c.loop.counter ≡ k + 1 = omega arith in
    let e = c.segment_end-end.ensures in
    let d = length-drop c.loop.begin m in (
      omega arith,
      c.loop.invariant.1 ∙ ap (standing c.loop.begin (split carriage_return r)) n
          ∙ standing_walk carriage_return m c.loop.begin (find carriage_return r) k refl (omega arith)
          ∙ ap (λ (x : ℕ). standing (x + 1) (split carriage_return (drop (x + 1) m)) k) (sym e),
    )

pub returns : goal.returns
returns c =
    let a = c.args in
    let r = drop c.loop.begin a.message.now in
    let n : a.index - c.loop.counter ≡ 0 = omega arith in
    ap began (sym (c.loop.invariant.1 ∙ ap (standing c.loop.begin (split carriage_return r)) n ∙ standing_first carriage_return c.loop.begin r))
