-- What is printed in a string for any bytes is printable ASCII: the run that stands as it is, and what stands for a byte that does not. Assumes nothing.
use mathlib.Core.Path.{◌≡◌, refl, sym, ap₂, ◌∙◌}
use mathlib.Core.List.{List, [], ◌∷◌}
use mathlib.Core.Bool.{Bool, true, false, not, cond, ◌||◌}
use Prim.Native.Nat.{ℕ, ◌+◌, ◌-◌, ◌/◌, ◌%◌, ◌≤◌, ◌<◌}
use native.Mathlib.Omega.{arith}
use lib.Dec.{ltb, eqb}
use lib.ListN.{get_or}
use borrow.Author.Tests.{eqb-true}
use Rattle.alphabet.specs.Bytes.{from_to, hex_digit}
use Rattle.alphabet.specs.Lists.{first}
use Rattle.alphabet.proofs.BoolLaws.{and_both, from_to_lem, false_true}
use Rattle.alphabet.proofs.ListLaws.{first_before}
use Rattle.terminal.specs.Terminal.{Visible, AllVisible}
use Rattle.members.specs.Letters.{quoted, plain, not_plain, escaped}

-- which of two lists is chosen
pub chosen_first : (t : Bool) (x y : List ℕ) → t ≡ true → x ≡ cond t x y
chosen_first true x y e = refl
chosen_first false x y e = false_true e

pub chosen_second : (t : Bool) (x y : List ℕ) → t ≡ false → y ≡ cond t x y
chosen_second false x y e = refl
chosen_second true x y e = false_true (sym e)

-- a byte that stands as it is
pub plain_visible : (b : ℕ) → plain b ≡ true → Visible b
plain_visible b e = from_to_lem 32 126 b (and_both (from_to 32 126 b) (not (quoted b)) e).0

-- a byte before the first that is not plain
pub run_visible : (l : List ℕ) (i : ℕ) → i < first not_plain l → Visible (get_or l i 0)
run_visible l i h = from_to_lem 32 126 (get_or l i 0) (and_both (from_to 32 126 (get_or l i 0)) (not (quoted (get_or l i 0))) (at (plain (get_or l i 0)) (first_before not_plain l i h))).0
  where
    at : (t : Bool) → not t ≡ false → t ≡ true
    at true e = refl
    at false e = sym e

digit_visible : (n : ℕ) → n < 16 → Visible (hex_digit n)
digit_visible n h = at (ltb n 10) refl
  where
    at : (t : Bool) → ltb n 10 ≡ t → (32 ≤ cond t (48 + n) (65 + (n - 10))) × (cond t (48 + n) (65 + (n - 10)) ≤ 126)
    at true e = (omega arith, omega arith)
    at false e = (omega arith, omega arith)

-- what stands for a byte by its number
pub by_code : (b h l : ℕ) → quoted b ≡ false → h ≡ hex_digit (b / 16 % 16) → l ≡ hex_digit (b % 16) → (92 ∷ 117 ∷ 48 ∷ 48 ∷ h ∷ l ∷ []) ≡ escaped b
by_code b h l e p q = ap₂ (λ x y. 92 ∷ 117 ∷ 48 ∷ 48 ∷ x ∷ y ∷ []) p q ∙ chosen_second (quoted b) _ _ e

pub code_visible : (b : ℕ) → Visible 92 × Visible 117 × Visible 48 × Visible (hex_digit (b / 16 % 16)) × Visible (hex_digit (b % 16))
code_visible b = ((omega arith, omega arith), (omega arith, omega arith), (omega arith, omega arith), digit_visible (b / 16 % 16) (omega arith), digit_visible (b % 16) (omega arith))

or_second : (x y : Bool) → x ≡ false → (x || y) ≡ true → y ≡ true
or_second false y f e = e
or_second true y f e = false_true (sym f)

-- the two that stand behind a backslash as they are
pub quoted_visible : (b : ℕ) → quoted b ≡ true → Visible b
quoted_visible b e = at (eqb b 34) refl
  where
    at : (t : Bool) → eqb b 34 ≡ t → Visible b
    at true f = let n = eqb-true b 34 f in (omega arith, omega arith)
    at false f = let n = eqb-true b 92 (or_second (eqb b 34) (eqb b 92) f e) in (omega arith, omega arith)

-- what stands for a byte that does not stand as it is
pub escaped_visible : (b : ℕ) → AllVisible (escaped b)
escaped_visible b = at (quoted b) refl
  where
    at : (t : Bool) → quoted b ≡ t → AllVisible (cond t (92 ∷ b ∷ []) (92 ∷ 117 ∷ 48 ∷ 48 ∷ hex_digit (b / 16 % 16) ∷ hex_digit (b % 16) ∷ []))
    at true e = ((omega arith, omega arith), (quoted_visible b e, tt))
    at false e = let v = code_visible b in (v.0, (v.1, (v.2, (v.2, (v.3, (v.4, tt))))))
