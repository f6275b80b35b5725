-- What passes one test passes another, so its first stands no earlier; and both bytes that are sought are near. Assumes nothing.
use mathlib.Core.Path.{◌≡◌, refl, sym, ap, ◌∙◌}
use mathlib.Core.Bool.{Bool, true, false, cond, ◌||◌}
use mathlib.Core.List.{List, [], ◌∷◌}
use Prim.Native.Nat.{ℕ, suc, ◌≤◌}
use native.Mathlib.Omega.{arith}
use lib.Bits.{bit_xor}
use lib.Dec.{eqb}
use borrow.Author.Tests.{eqb-true, le-leb}
use Rattle.alphabet.specs.Lists.{first, either}
use Rattle.alphabet.proofs.BoolLaws.{false_true}
use Rattle.search.specs.Two.{near}

pub first_sooner : (p q : ℕ → Bool) → ((b : ℕ) → q b ≡ true → p b ≡ true) → (l : List ℕ) → first p l ≤ first q l
unfolding first
first_sooner p q h [] = omega arith
first_sooner p q h (x ∷ l) = at (p x) (q x) refl refl (first_sooner p q h l)
  where
    at : (s t : Bool) → p x ≡ s → q x ≡ t → first p l ≤ first q l → cond s 0 (suc (first p l)) ≤ cond t 0 (suc (first q l))
    at true t e f ih = omega arith
    at false true e f ih = false_true (sym e ∙ h x f)
    at false false e f ih = omega arith

module _ (one other mask bound : ℕ) (h : bit_xor one mask ≤ bound) (k : bit_xor other mask ≤ bound) where
  near_byte : (a b : ℕ) → bit_xor a mask ≤ bound → eqb a b ≡ true → near mask bound b ≡ true
  near_byte a b l e = ap (near mask bound) (sym (eqb-true a b e)) ∙ le-leb (bit_xor a mask) bound l

  either_near : (b : ℕ) → either one other b ≡ true → near mask bound b ≡ true
  either_near b e = at (eqb one b) (eqb other b) refl refl e
    where
      at : (s t : Bool) → eqb one b ≡ s → eqb other b ≡ t → (s || t) ≡ true → near mask bound b ≡ true
      at true t p q r = near_byte one b h p
      at false true p q r = near_byte other b k q
      at false false p q r = false_true r

  pub near_sooner : (l : List ℕ) → first (near mask bound) l ≤ first (either one other) l
  near_sooner = first_sooner (near mask bound) (either one other) either_near
