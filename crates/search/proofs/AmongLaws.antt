-- Whether a byte is among five, as the library's `contains` says it. Assumes nothing.
use mathlib.Core.Path.{◌≡◌, refl, sym, ap₂, ◌∙◌}
use mathlib.Core.List.{List, [], ◌∷◌}
use mathlib.Core.Bool.{Bool, true, false, cond, ◌||◌}
use Prim.Native.Nat.{ℕ, suc}
use native.Mathlib.Omega.{arith}
use lib.Dec.{eqb, ltb}
use lib.ListN.{length}
use borrow.Author.Tests.{eqb-true, eqb-false, eq-eqb, ne_eqb, ltb-true, ltb-false, lt-ltb, le-ltb}
use Rattle.std.specs.List.{list_any}
use Rattle.alphabet.specs.Lists.{first, find}

turned : (x y : ℕ) → eqb x y ≡ eqb y x
turned x y = at (eqb y x) refl
  where
    at : (t : Bool) → eqb y x ≡ t → eqb x y ≡ eqb y x
    at true e = eq-eqb x y (sym (eqb-true y x e)) ∙ sym e
    at false e = ne_eqb x y (λ p. eqb-false y x e (sym p)) ∙ sym e

next : (m n : ℕ) → ltb m n ≡ ltb (suc m) (suc n)
next m n = at (ltb m n) refl
  where
    at : (t : Bool) → ltb m n ≡ t → ltb m n ≡ ltb (suc m) (suc n)
    at true e = let h = ltb-true m n e in e ∙ sym (lt-ltb (suc m) (suc n) (omega arith))
    at false e = let h = ltb-false m n e in e ∙ sym (le-ltb (suc m) (suc n) (omega arith))

pub any_found : (l : List ℕ) (b : ℕ) → list_any (λ (y : ℕ). eqb y b) l ≡ ltb (find b l) (length l)
unfolding first
any_found [] b = refl
any_found (x ∷ r) b = ap₂ ◌||◌ (turned x b) (any_found r b) ∙ at (eqb b x)
  where
    at : (t : Bool) → (t || ltb (find b r) (length r)) ≡ ltb (cond t 0 (suc (find b r))) (suc (length r))
    at true = sym (lt-ltb 0 (suc (length r)) (omega arith))
    at false = next (find b r) (length r)
