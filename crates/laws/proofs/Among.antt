-- Numbers that are among a list of numbers, as the entry points give them back. Assumes nothing.
use mathlib.Core.Path.{◌≡◌, refl, subst}
use mathlib.Core.Bool.{Bool, true, false, ◌||◌}
use mathlib.Core.List.{List, [], ◌∷◌}
use Prim.Native.Nat.{ℕ, zero, suc, ◌+◌, ◌≤◌, ◌<◌}
use native.Mathlib.Omega.{arith}
use lib.Dec.{eqb}
use borrow.Author.Tests.{eqb-true, eqb-false}
use Rattle.std.specs.Prelude.{Ok, Err}
use Rattle.alphabet.specs.Answers.{number_of, fails_if, or_else, Check, number_given}
use Rattle.alphabet.proofs.BoolLaws.{or_neither}
use Rattle.alphabet.specs.declared.answers.Refusal.{Refusal}
use Rattle.structure.specs.Listed.{In, here, there}

-- the list is looked through by computing
abbrev pub has : List ℕ → ℕ → Bool
has [] n = false
has (k ∷ ks) n = eqb n k || has ks n

first_or : (k : ℕ) (ks : List ℕ) (n : ℕ) → (eqb n k ≡ false → In n ks) → In n (k ∷ ks)
first_or k ks n later = at (eqb n k) refl
  where
    at : (t : Bool) → eqb n k ≡ t → In n (k ∷ ks)
    at true e = subst (λ (x : ℕ). In n (x ∷ ks)) (eqb-true n k e) here
    at false e = there (later e)

pub among : (l : List ℕ) (n : ℕ) → has l n ≡ true → In n l
among [] n e = absurd (let z : ◌≡◌ {A = ℕ} 0 1 = cc in omega arith)
among (k ∷ ks) n e = first_or k ks n (λ q. among ks n (at (eqb n k) q e))
  where
    at : (t : Bool) → t ≡ false → (t || has ks n) ≡ true → has ks n ≡ true
    at false q e = e
    at true q e = absurd (let z : ◌≡◌ {A = ℕ} 0 1 = cc in omega arith)

-- and what it has not got is not in it
pub apart : (l : List ℕ) (n : ℕ) → has l n ≡ false → In n l → ⊥
apart [] n e i = elim i [ ]
apart (k ∷ ks) n e here = let z = (or_neither (eqb n n) (has ks n) e).0 in eqb-false n n z refl
apart (k ∷ ks) n e (there i) = apart ks n (or_neither (eqb n k) (has ks n) e).1 i

-- so many numbers from k on
abbrev pub from : ℕ → ℕ → List ℕ
from k zero = []
from k (suc count) = k ∷ from (k + 1) count

pub in_range_lem : (k count n : ℕ) → k ≤ n → n < k + count → In n (from k count)
in_range_lem k zero n h l = absurd (omega arith)
in_range_lem k (suc count) n h l =
    first_or k (from (k + 1) count) n (λ e. let d = eqb-false n k e in in_range_lem (k + 1) count n (less k n h d) (omega arith))
  where
    less : (k n : ℕ) → k ≤ n → (n ≡ k → ⊥) → k + 1 ≤ n
    less k n h d = omega arith

-- ---- checks

-- what a check answers
abbrev pub Given : List ℕ → Check → Type 0
Given l c = In (number_given c) l

pub given_or : (l : List ℕ) (c d : Check) → Given l c → Given l d → Given l (or_else c d)
given_or l (Ok _) d p q = q
given_or l (Err fault) d p q = p

pub given_if : (l : List ℕ) (t : Bool) (kind : Refusal) (place : ℕ) → In 0 l → In (number_of kind) l → Given l (fails_if t kind place)
given_if l true kind place z n = n
given_if l false kind place z n = z
