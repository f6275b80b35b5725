-- The table of escapes: the letters and the digits are none of the delimiters, and are read back. Assumes nothing.
use mathlib.Core.Path.{◌≡◌, refl, sym, ap, ◌∙◌}
use mathlib.Core.List.{List}
use mathlib.Core.Bool.{Bool, true, false, not, ◌&&◌}
use Prim.Native.Nat.{ℕ, zero, suc, ◌<◌}
use native.Mathlib.Omega.{arith}
use lib.Dec.{eqb}
use lib.ListN.{length, get_or}
use borrow.Author.Tests.{eqb-true, eqb-false, not-true}
use Rattle.alphabet.proofs.BoolLaws.{false_true, and_both}
use Rattle.alphabet.proofs.DelimiterLaws.{delimiter_permitted}
use Rattle.alphabet.specs.Lists.{first, find}
use Rattle.alphabet.specs.Bytes.{printable, hex_of, hex_digit}
use Rattle.alphabet.specs.Delimiters.{permitted, first_wrong_delimiter}
use Rattle.escaping.specs.Escape.{letters, escape_of}

-- ---- a test of every number below n, computed

unfoldable pub every : ℕ → (ℕ → Bool) → Bool
every zero P = true
every (suc n) P = P n && every n P

pub every_at : (n : ℕ) (P : ℕ → Bool) → every n P ≡ true → (k : ℕ) → k < n → P k ≡ true
unfolding every
every_at zero P e k h = absurd (omega arith)
every_at (suc n) P e k h = at (eqb k n) refl (every_at n P (and_both (P n) (every n P) e).1 k)
  where
    at : (t : Bool) → eqb k n ≡ t → (k < n → P k ≡ true) → P k ≡ true
    at true q ih = ap P (eqb-true k n q) ∙ (and_both (P n) (every n P) e).0
    at false q ih = ih (let z = eqb-false k n q in omega arith)

-- ---- the letters and the digits are none of the delimiters, and are read back

letter_test : ℕ → Bool
letter_test i = not (permitted (get_or letters i 0)) && eqb (find (get_or letters i 0) letters) i

digit_test : ℕ → Bool
digit_test n = not (permitted (hex_digit n)) && eqb (hex_of (hex_digit n)) n

pub letter_back : (i : ℕ) → i < 5 → (permitted (get_or letters i 0) ≡ false) × (find (get_or letters i 0) letters ≡ i)
unfolding letter_test every first
letter_back i h =
    let b = and_both (not (permitted (get_or letters i 0))) (eqb (find (get_or letters i 0) letters) i) (every_at 5 letter_test refl i h) in
    (not-true _ b.0, eqb-true _ _ b.1)

pub digit_back : (n : ℕ) → n < 16 → (permitted (hex_digit n) ≡ false) × (hex_of (hex_digit n) ≡ n)
unfolding digit_test every
digit_back n h =
    let b = and_both (not (permitted (hex_digit n))) (eqb (hex_of (hex_digit n)) n) (every_at 16 digit_test refl n h) in
    (not-true _ b.0, eqb-true _ _ b.1)

pub letter_printable : (i : ℕ) → i < 5 → printable (get_or letters i 0) ≡ true
unfolding every
letter_printable i h = every_at 5 (λ (n : ℕ). printable (get_or letters n 0)) refl i h

pub digit_printable : (n : ℕ) → n < 16 → printable (hex_digit n) ≡ true
unfolding every
digit_printable n h = every_at 16 (λ (k : ℕ). printable (hex_digit k)) refl n h

-- ---- five delimiters with no fault

module _ (ds : List ℕ) (five : length ds ≡ 5) (fine : first_wrong_delimiter ds ≡ 5) where
  -- the escape delimiter is no byte that may not be one
  pub escape_not : (x : ℕ) → permitted x ≡ false → escape_of ds ≡ x → ⊥
  escape_not x f e =
      let z : true ≡ false = sym (delimiter_permitted ds five fine 3 (omega arith)) ∙ ap permitted e ∙ f in
      false_true (sym z)
