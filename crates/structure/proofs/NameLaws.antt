-- Laws of a name among names, and of the Z segments that are passed over. Assumes nothing.
use mathlib.Core.Path.{◌≡◌, refl, sym, ap₂, ◌∙◌}
use mathlib.Core.Bool.{Bool, true, false, ◌||◌}
use mathlib.Core.List.{List, [], ◌∷◌}
use Prim.Native.Nat.{ℕ, ◌<◌}
use native.Mathlib.Omega.{arith}
use lib.Dec.{eqb}
use borrow.Author.Tests.{eqb-true, eqb-false, eq-eqb, ne_eqb}
use Rattle.std.specs.List.{list_any}
use Rattle.reading.specs.Segments.{name_of}
use Rattle.structure.specs.SegmentNames.{among}

-- three bytes and their name determine each other
pub name_one : (a b c x y z : ℕ) → a < 256 → b < 256 → c < 256 → x < 256 → y < 256 → z < 256 → name_of (a ∷ b ∷ c ∷ []) ≡ name_of (x ∷ y ∷ z ∷ [])
    → (a ≡ x) × (b ≡ y) × (c ≡ z)
unfolding name_of
name_one a b c x y z ha hb hc hx hy hz e = (omega arith, omega arith, omega arith)

-- ---- a name among names

turned : (x n : ℕ) → eqb x n ≡ eqb n x
turned x n = at (eqb x n) refl
  where
    at : (t : Bool) → eqb x n ≡ t → t ≡ eqb n x
    at true q = sym (eq-eqb n x (sym (eqb-true x n q)))
    at false q = sym (ne_eqb n x (λ e. eqb-false x n q (sym e)))

-- it is among them where one of them is the same
pub any_among : (l : List ℕ) (n : ℕ) (t : Bool) → t ≡ list_any (λ (y : ℕ). eqb y n) l → t ≡ among n l
unfolding among
any_among [] n t e = e
any_among (x ∷ l) n t e = e ∙ ap₂ ◌||◌ (turned x n) (any_among l n (list_any (λ (y : ℕ). eqb y n) l) refl)
