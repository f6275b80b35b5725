-- Rests on the fold of the bytes' tests.
use borrow.Author.Rules.{rules}
use borrow.Author.Tests.{tests}
use mathlib.Core.Bool.{Bool, true, ◌&&◌}
use mathlib.Core.Path.{◌∙◌}
use Prim.Native.Nat.{ℕ}
use Rattle.std.proofs.lemmas.Iterator.{YieldsList-from_slice}
use Rattle.std.proofs.lemmas.Iterator.Consumers.{fold_from_yields_List}
use Rattle.alphabet.specs.Bytes.{digit}
use Rattle.times.proofs.JudgeLaws.{digits_folded}
use Rattle.times.proofs.judging.is_block_of_digits.Goals as goal

pub returns : goal.returns
returns c =
    let l = c.args.bytes.now in
    fold_from_yields_List _ (λ (all : Bool) (b : ℕ). all && digit b) true c.fold.result c.fold.ensures.ran (YieldsList-from_slice l cc) (λ a x b q k. search (rules, tests))
    ∙ digits_folded l
