-- Each exit is a case of `concluded`.
use mathlib.Core.Path.{sym, ◌∙◌}
use borrow.Author.Rules.{rules}
use Rattle.alphabet.proofs.CheckLaws.{passes_not}
use Rattle.formatting.specs.Laying.{concluded}
use Rattle.formatting.proofs.FormatLaws.{concludes_short}
use Rattle.formatting.proofs.formatting.conclude.Goals as goal

pub returns-in_err-fails_if-2 : goal.returns-in_err-fails_if-2
returns-in_err-fails_if-2 c =
    rw (concludes_short c.args.page (passes_not _ _ _ (sym c.fails_if.ensures ∙ c.in_ok-fails_if.was)) (sym c.fails_if-2.ensures ∙ c.in_err-fails_if-2.was)) (search rules)

pub returns : goal.returns
unfolding concluded
returns c =
    rw (passes_not _ _ _ (sym c.fails_if.ensures ∙ c.in_ok-fails_if.was), passes_not _ _ _ (sym c.fails_if-2.ensures ∙ c.in_ok-fails_if-2.was))
