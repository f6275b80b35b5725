-- Null and its bytes. Assumes nothing.
use mathlib.Core.Path.{◌≡◌, refl, sym, ap, ◌∙◌}
use mathlib.Core.List.{List, [], ◌∷◌}
use mathlib.Core.Bool.{Bool, true, false}
use Prim.Native.Nat.{ℕ}
use native.Mathlib.Omega.{arith}
use lib.Dec.{eqb}
use lib.ListN.{length}
use borrow.Author.Tests.{eqb-true}
use Rattle.alphabet.specs.Bytes.{is_null}
use Rattle.alphabet.proofs.BoolLaws.{false_true, and_both}

-- a null is the two bytes `""`
pub two_quotes_lem : (bytes : List ℕ) → is_null bytes ≡ true → bytes ≡ 34 ∷ 34 ∷ []
two_quotes_lem [] e = false_true e
two_quotes_lem (a ∷ []) e = false_true e
two_quotes_lem (a ∷ b ∷ []) e =
    let q = and_both (eqb a 34) (eqb b 34) e in
    rw (eqb-true a 34 q.0, eqb-true b 34 q.1)
two_quotes_lem (a ∷ b ∷ c ∷ r) e =
    let q = and_both (eqb (length (a ∷ b ∷ c ∷ r)) 2) _ e in
    let n = eqb-true (length (a ∷ b ∷ c ∷ r)) 2 q.0 in
    absurd (omega arith)

-- and no other bytes are null
pub not_quotes : (bytes : List ℕ) → is_null bytes ≡ false → bytes ≡ 34 ∷ 34 ∷ [] → ⊥
not_quotes bytes e q = false_true (sym e ∙ ap is_null q)

pub other_quotes : (bytes : List ℕ) → (bytes ≡ 34 ∷ 34 ∷ [] → ⊥) → is_null bytes ≡ false
other_quotes bytes n = at (is_null bytes) refl
  where
    at : (t : Bool) → is_null bytes ≡ t → is_null bytes ≡ false
    at true e = absurd (n (two_quotes_lem bytes e))
    at false e = e
