-- The grammar of digits and the readers' own definitions agree: digits say what `decimal` has of them, and nothing else does. Assumes nothing.
use mathlib.Core.Path.{◌≡◌, refl, sym, ap, subst, ◌∙◌}
use mathlib.Core.List.{List, [], ◌∷◌, ◌++◌}
use mathlib.Core.Bool.{true}
use Prim.Native.Nat.{ℕ, suc, ◌+◌, ◌-◌, ◌*◌, ◌≤◌}
use native.Mathlib.Nat.{zero-add}
use native.Mathlib.Omega.{arith}
use lib.ListN.{length, length-append}
use borrow.Author.Tests.{le-leb}
use Rattle.alphabet.specs.Bytes.{digit}
use Rattle.alphabet.specs.Digits.{all_digits, counted, decimal}
use Rattle.alphabet.proofs.BoolLaws.{and_both, both_and, from_to_lem}
use Rattle.alphabet.proofs.DigitLaws.{counted_append, digits_append}
use Rattle.grammars.specs.Spelt.{Says, none, more}

digit_is : (d : ℕ) → d ≤ 9 → digit (48 + d) ≡ true
digit_is d h = both_and (le-leb 48 (48 + d) (omega arith)) (le-leb (48 + d) 57 (omega arith))

-- what the grammar has is digits, so many, and their number
pub says_decimal : {k n : ℕ} {l : List ℕ} → Says k l n → (all_digits l ≡ true) × (length l ≡ k) × (decimal l ≡ n)
unfolding all_digits counted
says_decimal none = (refl, refl, refl)
says_decimal (more {k} {n} {l} d h s) =
    let i = says_decimal s in
    let i1 = i.1 in
    let i2 = i.2 in
    let e = counted_append 0 l ((48 + d) ∷ []) in
    let w = length-append l ((48 + d) ∷ []) in
    let one : all_digits ((48 + d) ∷ []) ≡ true = both_and (digit_is d h) refl in (
      digits_append l ((48 + d) ∷ []) ∙ both_and i.0 one,
      omega arith,
      e ∙ ap (λ (x : ℕ). x * 10 + (48 + d - 48)) i2 ∙ (let z : n * 10 + (48 + d - 48) ≡ n * 10 + d = omega arith in z),
    )

append_one : (l r : List ℕ) (x : ℕ) → (l ++ (x ∷ [])) ++ r ≡ l ++ (x ∷ r)
append_one [] r x = refl
append_one (y ∷ l) r x = ap (λ (z : List ℕ). y ∷ z) (append_one l r x)

pub append_none : (l : List ℕ) → l ++ [] ≡ l
append_none [] = refl
append_none (y ∷ l) = ap (λ (z : List ℕ). y ∷ z) (append_none l)

-- digits behind digits say more
says_on : {k n : ℕ} {l : List ℕ} (r : List ℕ) → Says k l n → all_digits r ≡ true → Says (k + length r) (l ++ r) (counted n r)
unfolding all_digits counted
says_on {k} {n} {l} [] s e = subst (λ (x : List ℕ). Says (k + 0) x n) (sym (append_none l)) (subst (λ (j : ℕ). Says j l n) (let z : k ≡ k + 0 = omega arith in z) s)
says_on {k} {n} {l} (x ∷ r) s e =
    let b = and_both (digit x) (all_digits r) e in
    let t = from_to_lem 48 57 x b.0 in
    let t0 = t.0 in
    let t1 = t.1 in
    let z : 48 + (x - 48) ≡ x = omega arith in
    let one = subst (λ (y : ℕ). Says (suc k) (l ++ (y ∷ [])) (n * 10 + (x - 48))) z (more (x - 48) (omega arith) s) in
    let i = says_on {k = suc k} {n = n * 10 + (x - 48)} {l = l ++ (x ∷ [])} r one b.1 in
    let j : suc k + length r ≡ k + suc (length r) = omega arith in
    subst (λ (m : ℕ). Says m (l ++ (x ∷ r)) (counted (n * 10 + (x - 48)) r)) j
    (subst (λ (y : List ℕ). Says (suc k + length r) y (counted (n * 10 + (x - 48)) r)) (append_one l r x) i)

-- and digits say their number
pub decimal_says : (l : List ℕ) → all_digits l ≡ true → Says (length l) l (decimal l)
decimal_says l e = subst (λ (k : ℕ). Says k l (decimal l)) (zero-add (length l)) (says_on l none e)

-- so they say one number, in one width
pub says_once : {j k m n : ℕ} {l : List ℕ} → Says j l m → Says k l n → (j ≡ k) × (m ≡ n)
says_once s t = let a = says_decimal s in let b = says_decimal t in (sym a.1 ∙ b.1, sym a.2 ∙ b.2)
