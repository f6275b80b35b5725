-- Rests on the laws of where parts stand: the part asked for stands where the rest of the bytes has the part that is left to pass.
use Prim.Native.Nat.{◌-◌, ◌+◌}
use mathlib.Core.Path.{◌≡◌, refl, sym, ap, ◌∙◌}
use lib.ListN.{drop, length-drop}
use native.Mathlib.Omega.{arith}
use Rattle.alphabet.specs.Lists.{find}
use Rattle.alphabet.specs.Parts.{from_to, split, standing, part_at}
use Rattle.alphabet.proofs.PartLaws.{standing_first, standing_walk, standing_none}
use Rattle.alphabet.proofs.parts.nth_part.Goals as goal

pub loop-init : goal.loop-init
unfolding part_at
loop-init c = (omega arith, ap (standing 0 (split _ _)) (omega arith))

pub returns-then-end-bytes : goal.returns-then-end-bytes
returns-then-end-bytes c =
    let a = c.args in
    let r = drop c.loop.start a.bytes.now in
    let n : a.index - c.loop.counter ≡ (a.index - c.loop.counter - 1) + 1 = omega arith in
    let e = c.end_of-end.ensures.found in
    let d = length-drop c.loop.start a.bytes.now in
    sym (c.loop.invariant.1 ∙ ap (standing c.loop.start (split a.separator r)) n ∙ standing_none a.separator c.loop.start r (a.index - c.loop.counter - 1) (omega arith))

pub overflow_add-start : goal.overflow_add-start
overflow_add-start c = let i = c.end_of-end.ensures.inside in omega arith

pub loop-preserved : goal.loop-preserved
loop-preserved c =
    let a = c.args in
    let r = drop c.loop.start a.bytes.now in
    let k = a.index - (c.loop.counter + 1) in
    let n : a.index - c.loop.counter ≡ k + 1 = omega arith in
    let i = c.end_of-end.ensures.inside in
    let e = c.end_of-end.ensures.found in
    let d = length-drop c.loop.start a.bytes.now in (
      omega arith,
      c.loop.invariant.1 ∙ ap (standing c.loop.start (split a.separator r)) n
          ∙ standing_walk a.separator a.bytes.now c.loop.start (find a.separator r) k refl (omega arith)
          ∙ ap (λ m. standing (m + 1) (split a.separator (drop (m + 1) a.bytes.now)) k) (sym e),
    )

pub returns : goal.returns
returns c =
    let a = c.args in
    let n : a.index - c.loop.counter ≡ 0 = omega arith in
    ap (from_to c.loop.start) c.end_of-end-2.ensures.found
    ∙ sym (c.loop.invariant.1 ∙ ap (standing c.loop.start (split a.separator (drop c.loop.start a.bytes.now))) n ∙ standing_first a.separator c.loop.start (drop c.loop.start a.bytes.now))
