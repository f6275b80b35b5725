-- Rests on the law of one name more.
use mathlib.Core.Path.{◌≡◌, sym, ap, ap₂, ◌∙◌}
use mathlib.Core.List.{List, [], ◌∷◌, ◌++◌}
use Prim.Native.Nat.{ℕ, ◌+◌}
use lib.ListN.{length, set, length-append}
use native.Mathlib.Omega.{arith}
use Rattle.fault.specs.declared.Names.{Names}
use Rattle.fault.proofs.NameLists.{filled_more}
use Rattle.fault.proofs.Names.push.Goals as goal

pub returns : goal.returns
returns c = λ l e.
    let a = c.args in
    let n : a.self.now.count ≡ length l = ap (λ (x : Names). x.count) e in
    let h : length l + 1 ≡ length (l ++ (a.name ∷ [])) = sym (length-append l (a.name ∷ [])) in
    let made : List ℕ → ℕ → Names = λ x i. record { list = x; count = i } in
    ap₂ made
    (ap₂ (λ (x : List ℕ) (i : ℕ). set x i a.name) (ap (λ (x : Names). x.list) e) n ∙ filled_more l a.name (omega arith))
    (ap (λ (i : ℕ). i + 1) n ∙ h)
