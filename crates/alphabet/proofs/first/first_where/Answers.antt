-- Rests on what the library's `position` answers: the first place at which the test says so.
use mathlib.Core.Path.{◌≡◌, sym, ◌∙◌}
use mathlib.Core.Bool.{true, false}
use Prim.Native.Nat.{ℕ, ◌<◌}
use borrow.Author.Rules.{rules}
use Rattle.std.proofs.lemmas.Iterator.{YieldsList-from_slice, IsFirst-from_position}
use Rattle.alphabet.proofs.ListLaws.{first_position}
use Rattle.alphabet.proofs.first.first_where.Goals as goal

pub returns-clause-found : goal.returns-clause-found
returns-clause-found g c = λ passes tells.
    let l = c.args.bytes.now in
    let yields = YieldsList-from_slice l c.iter.ensures.rest in
    c.unwrap_or.ensures
    ∙ first_position passes l (λ i. (c.type_inv.bytes i).fits) c.position.result
    (IsFirst-from_position _ _ c.position.result (λ (x : ℕ). x < 256 → passes x ≡ true) (λ (x : ℕ). x < 256 → passes x ≡ false) c.position.ensures.ran yields
    (λ x q k h. sym (tells x.now true h (search rules))) (λ x q k. (search rules, λ h. sym (tells x.now false h (search rules)))))
