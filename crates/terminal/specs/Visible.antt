-- What is printed for any bytes is printable ASCII: the run that is printed as it stands, and what stands for a byte that is not. Assumes nothing.
use mathlib.Core.Path.{◌≡◌, refl, sym}
use mathlib.Core.List.{List}
use mathlib.Core.Bool.{Bool, true, false, not, cond}
use Prim.Native.Nat.{ℕ, ◌+◌, ◌-◌, ◌/◌, ◌%◌, ◌≤◌, ◌<◌}
use native.Mathlib.Omega.{arith}
use lib.Dec.{ltb, eqb}
use lib.ListN.{get_or}
use Rattle.alphabet.specs.Bytes.{from_to, hex_digit}
use Rattle.alphabet.specs.Lists.{first}
use Rattle.alphabet.proofs.BoolLaws.{and_both, from_to_lem}
use Rattle.alphabet.proofs.ListLaws.{first_before}
use Rattle.terminal.specs.Terminal.{plain, not_plain, in_braces, Visible, AllVisible}

-- a byte that is printed as it stands
pub plain_visible : (b : ℕ) → plain b ≡ true → Visible b
plain_visible b e = from_to_lem 32 126 b (and_both (from_to 32 126 b) (not (eqb b 123)) e).0

-- a byte before the first that is not plain
pub run_visible : (l : List ℕ) (i : ℕ) → i < first not_plain l → Visible (get_or l i 0)
run_visible l i h = from_to_lem 32 126 (get_or l i 0) (and_both (from_to 32 126 (get_or l i 0)) (not (eqb (get_or l i 0) 123)) (at (plain (get_or l i 0)) (first_before not_plain l i h))).0
  where
    at : (t : Bool) → not t ≡ false → t ≡ true
    at true e = refl
    at false e = sym e

digit_visible : (n : ℕ) → n < 16 → Visible (hex_digit n)
digit_visible n h = at (ltb n 10) refl
  where
    at : (t : Bool) → ltb n 10 ≡ t → (32 ≤ cond t (48 + n) (65 + (n - 10))) × (cond t (48 + n) (65 + (n - 10)) ≤ 126)
    at true e = (omega arith, omega arith)
    at false e = (omega arith, omega arith)

-- what stands for a byte
pub braces_visible : (b : ℕ) → Visible 123 × Visible (hex_digit (b / 16 % 16)) × Visible (hex_digit (b % 16)) × Visible 125
braces_visible b = ((omega arith, omega arith), digit_visible (b / 16 % 16) (omega arith), digit_visible (b % 16) (omega arith), (omega arith, omega arith))

pub all_braces_visible : (b : ℕ) → AllVisible (in_braces b)
all_braces_visible b = let v = braces_visible b in (v.0, (v.1, (v.2, (v.3, tt))))
