-- Rests on `first_either`: where neither byte is in a block, the first of both is not.
use mathlib.Core.Path.{◌≡◌, sym}
use mathlib.Core.Bool.{true, ◌&&◌}
use lib.Dec.{leb}
use lib.ListN.{length}
use native.Mathlib.Omega.{arith}
use borrow.Author.Rules.{rules}
use borrow.Author.Tests.{leb-true}
use Rattle.alphabet.specs.Lists.{find, either}
use Rattle.alphabet.proofs.BoolLaws.{and_both}
use Rattle.alphabet.proofs.ListLaws.{first_either}
use Rattle.search.proofs.two.before_either.Goals as goal

pub returns-clause-before : goal.returns-clause-before
returns-clause-before c =
    let one = c.args.one in
    let other = c.args.other in
    c.clear_blocks.ensures.before (either one other) (λ block n q.
    let t : true ≡ (leb (length block) (find one block) && leb (length block) (find other block)) = search rules in
    let both = and_both _ _ (sym t) in
    let f = first_either one other block (length block) (leb-true _ (find one block) both.0) (leb-true _ (find other block) both.1) in
    omega arith)
