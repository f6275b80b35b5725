-- Rests on what `all` gives: each byte is a digit, or one is none.
use Rattle.std.proofs.Common.{rules}
use borrow.Author.Tests.{tests}
use mathlib.Core.Bool.{true, false}
use mathlib.Core.Path.{◌≡◌}
use Rattle.std.proofs.lemmas.Iterator.{cases_from_all, YieldsList-from_slice}
use Rattle.alphabet.specs.Bytes.{digit}
use Rattle.numbers.proofs.NumberLaws.{all_told}
use Rattle.numbers.proofs.digits.is_digits.Goals as goal

pub returns : goal.returns
returns c =
    let l = c.args.bytes.now in
    all_told c.all.result l
    (cases_from_all _ _ _ (λ b. digit b ≡ true) (λ b. digit b ≡ false) c.all.ensures.ran (YieldsList-from_slice l cc) (λ x q k. search (rules, tests)) (λ x q k. search (rules, tests)))
