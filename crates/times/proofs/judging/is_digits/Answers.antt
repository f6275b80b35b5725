-- Rests on the first and the last digits being all of them.
use Prim.Native.Nat.{◌-◌}
use mathlib.Core.Path.{sym, ap, ◌∙◌}
use lib.Dec.{ltb}
use lib.ListN.{length}
use native.Mathlib.Omega.{arith}
use borrow.Author.Tests.{ltb-false}
use Rattle.alphabet.specs.Digits.{all_digits}
use Rattle.alphabet.proofs.BoolLaws.{or_neither}
use Rattle.alphabet.proofs.ListLaws.{rest_of}
use Rattle.times.proofs.JudgeLaws.{first_block, last_block}
use Rattle.times.proofs.judging.is_digits.Goals as goal

pub returns-then-is_block_of_digits : goal.returns-then-is_block_of_digits
returns-then-is_block_of_digits c =
    let l = c.args.bytes.now in
    let few = or_neither (ltb (length l) 8) (ltb 16 (length l)) c.if-few.false in
    let a = ltb-false (length l) 8 few.0 in
    let b = ltb-false 16 (length l) few.1 in
    c.is_block_of_digits-then-is_block_of_digits.ensures ∙ ap all_digits (rest_of l (length l - 8))
    ∙ last_block l 8 (length l - 8) (omega arith) (sym c.if-is_block_of_digits.ensures)

pub returns-else-is_block_of_digits : goal.returns-else-is_block_of_digits
returns-else-is_block_of_digits c =
    c.if-is_block_of_digits.false ∙ first_block c.args.bytes.now 8 (sym c.if-is_block_of_digits.ensures)
