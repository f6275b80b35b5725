-- Each return is a case of `word_ended`.
use mathlib.Core.Path.{sym, ap, ◌∙◌}
use Prim.Native.Nat.{ℕ}
use Rattle.formatting.specs.Pages.{line_with}
use Rattle.formatting.proofs.PageLaws.{ended_none, ended_some}
use borrow.Author.Rules.{rules}
use Rattle.formatting.proofs.page.Page.end_word.Goals as goal

pub returns-then-self-eq0 : goal.returns-then-self-eq0
returns-then-self-eq0 c = let k = c.args.self in sym (ended_none k c.if-self-eq0.true)

pub returns : goal.returns
returns c =
    let k = c.args.self in
    ap (λ (n : ℕ). line_with n 0 0 k) c.reach-reach.ensures ∙ sym (ended_some k (search rules))
