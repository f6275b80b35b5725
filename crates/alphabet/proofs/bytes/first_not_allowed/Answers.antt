-- Rests on what the two searches ensure: every byte before the place passed is allowed, and the first that is not is
-- looked for from there.
use mathlib.Core.Path.{sym, ◌∙◌}
use lib.ListN.{length}
use native.Mathlib.Omega.{arith}
use borrow.Author.Rules.{rules}
use borrow.Author.Tests.{leb-true}
use Rattle.alphabet.specs.Bytes.{not_allowed}
use Rattle.alphabet.specs.Lists.{first}
use Rattle.alphabet.proofs.BlockLaws.{first_onward, onward_within, whole_clear}
use Rattle.alphabet.proofs.ListLaws.{first_le}
use Rattle.alphabet.proofs.bytes.first_not_allowed.Goals as goal

pub returns-then-is_all_allowed : goal.returns-then-is_all_allowed
returns-then-is_all_allowed c =
    let s = c.args.bytes.now in
    let z = leb-true (length s) (first not_allowed s) (sym c.is_all_allowed.ensures ∙ c.if-is_all_allowed.true) in
    let k = first_le not_allowed s in
    omega arith

pub overflow_add-result : goal.overflow_add-result
overflow_add-result c =
    let w = onward_within c.args.bytes.now c.clear_blocks-passed.result c.first_where.result c.clear_blocks-passed.ensures.within c.first_where.ensures.within in
    omega arith

pub returns : goal.returns
returns c =
    first_onward not_allowed c.args.bytes.now c.clear_blocks-passed.result c.first_where.result
    (c.clear_blocks-passed.ensures.before not_allowed (λ block n q. whole_clear not_allowed block _ n (search rules)))
    (c.first_where.ensures.found not_allowed (λ b r h q. search rules))
