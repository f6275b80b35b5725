-- Rests on `any_found`: what the library's `contains` says.
use mathlib.Core.Path.{◌≡◌, ap, ◌∙◌}
use Prim.Native.Nat.{ℕ}
use lib.Dec.{ltb}
use lib.ListN.{length}
use borrow.Author.Rules.{rules}
use Rattle.alphabet.specs.Lists.{find}
use Rattle.search.proofs.AmongLaws.{any_found}
use Rattle.search.proofs.is_among.Goals as goal

pub returns : goal.returns
returns c =
    let a = c.args in
    let n : length a.five ≡ 5 = search rules in
    c.contains.ensures.value ∙ any_found a.five a.b ∙ ap (λ (k : ℕ). ltb (find a.b a.five) k) n
