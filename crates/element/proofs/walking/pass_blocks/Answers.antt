-- Rests on `walk_block`: a block without a stop, and with fewer separators than are left, is passed over whole.
use Prim.Native.Nat.{ℕ, ◌+◌, ◌-◌}
use mathlib.Core.Path.{◌≡◌, refl, sym, ap, ◌∙◌}
use lib.Dec.{eqb}
use lib.ListN.{length, take, drop, length-drop}
use native.Mathlib.Omega.{arith}
use borrow.Author.Tests.{leb-true}
use Rattle.std.specs.Prelude.{Some}
use Rattle.alphabet.specs.Bytes.{carriage_return}
use Rattle.alphabet.specs.Lists.{first}
use Rattle.alphabet.specs.Parts.{ended_by}
use Rattle.alphabet.proofs.ListLaws.{first_block}
use Rattle.alphabet.proofs.BlockLaws.{block_size}
use Rattle.element.specs.Levels.{part_in}
use Rattle.element.proofs.StartLaws.{walk_block}
use Rattle.element.proofs.walking.pass_blocks.Goals as goal

pub separators_in-count-requires : goal.separators_in-count-requires
separators_in-count-requires c =
    let n = block_size c.args.message.now c.loop-i.i (omega arith) in
    omega arith

pub loop-i-preserved : goal.loop-i-preserved
loop-i-preserved c =
    let a = c.args in
    let s = a.message.now in
    let i = c.loop-i.i in
    let n = i + 32 - i in
    let e : n ≡ 32 = omega arith in
    let size = block_size s i (omega arith) in
    let test = eqb carriage_return in
    let free = leb-true (length (take n (drop i s))) (first test (take n (drop i s))) (sym c.is_without.ensures ∙ c.if-not-is_without.false) in
    let d = length-drop i s in
    let far = first_block test (drop i s) 0 n (omega arith) (omega arith) (omega arith) in
    let to : i + n ≡ i + 32 = omega arith in (
      omega arith,
      c.loop-i.invariant.1 ∙ walk_block a.separator s test n i c.loop-i.left c.separators_in-count.result (omega arith) (omega arith) c.separators_in-count.ensures (omega arith)
          ∙ ap (λ (x : ℕ). part_in a.separator s (ended_by test s (Some x)) (c.loop-i.left - c.separators_in-count.result)) to,
    )

pub loop-i-init : goal.loop-i-init
loop-i-init c = (c.requires, refl)

pub returns-then-message-i-lt-BLOCK : goal.returns-then-message-i-lt-BLOCK
returns-then-message-i-lt-BLOCK c = c.loop-i.invariant

pub returns-then-not-is_without : goal.returns-then-not-is_without
returns-then-not-is_without c = c.loop-i.invariant

pub returns-then-left-count : goal.returns-then-left-count
returns-then-left-count c = c.loop-i.invariant

pub returns : goal.returns
returns c = c.loop-i.invariant
