-- Rests on what both searches ensure: no b stands before the place passed, and it is looked for from there.
use native.Mathlib.Omega.{arith}
use lib.Dec.{eqb}
use borrow.Author.Rules.{rules}
use Rattle.alphabet.proofs.ListLaws.{first_le}
use Rattle.alphabet.proofs.BlockLaws.{first_onward, whole_clear}
use Rattle.search.proofs.far.find_far.Goals as goal

pub returns : goal.returns
returns c =
    let a = c.args in
    first_onward (eqb a.b) a.bytes.now c.clear_blocks-passed.result c.find_by_words.result
    (c.clear_blocks-passed.ensures.before (eqb a.b) (λ block n q. whole_clear (eqb a.b) block _ n (search rules))) c.find_by_words.ensures

pub overflow_add-result : goal.overflow_add-result
overflow_add-result c =
    let m = first_le (eqb c.args.b) c.args.bytes.now in
    let e = returns c in
    omega arith
