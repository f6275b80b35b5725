-- Laws of sets of places as numbers: what is in a union, in no set, and in a set of one. Assumes nothing.
use mathlib.Core.Path.{◌≡◌, ap, ◌∙◌, subst}
use mathlib.Core.Logic.{◌⊎◌, inl, inr}
use Prim.Native.Nat.{ℕ, suc, ◌+◌, ◌-◌, ◌/◌, ◌%◌, ◌^◌, ◌<◌, max}
use native.Mathlib.Nat.{div_self, zero-div, div-eq_of_lt}
use native.Mathlib.Decide.{ℕ_discrete, dec_lt}
use native.Mathlib.Omega.{arith}
use lib.Bits.{bit_or, or_shr, or_step}
use lib.Pow.{pow_pos, shl-shr, pow-add, pow-lt}
use Rattle.structure.specs.Engine.{bit, has}

pub bit_lt : (m q : ℕ) → bit m q < 2
bit_lt m q = omega arith

low_or : (a b : ℕ) → bit_or a b % 2 ≡ max (a % 2) (b % 2)
low_or a b = rw or_step (omega arith)

pub bit_or_lem : (a b q : ℕ) → bit (bit_or a b) q ≡ max (bit a q) (bit b q)
bit_or_lem a b q = ap (λ (x : ℕ). x % 2) (or_shr a b q) ∙ low_or (a / 2 ^ q) (b / 2 ^ q)

pub or_left : (a b q : ℕ) → has a q → has (bit_or a b) q
or_left a b q h = omega (arith, bit_or_lem a b q, bit_lt b q)

pub or_right : (a b q : ℕ) → has b q → has (bit_or a b) q
or_right a b q h = omega (arith, bit_or_lem a b q, bit_lt a q)

pub or_cases : (a b q : ℕ) → has (bit_or a b) q → has a q ⊎ has b q
or_cases a b q h = go (ℕ_discrete (bit a q) 1)
  where
    go : Dec (has a q) → has a q ⊎ has b q
    go (yes e) = inl e
    go (no ne) = inr (omega (arith, bit_or_lem a b q, bit_lt a q, bit_lt b q))

pub has_zero : (q : ℕ) → has 0 q → ⊥
has_zero q h = omega (arith, zero-div (2 ^ q))

pub has_one : (n : ℕ) → has (2 ^ n) n
has_one n = omega (arith, div_self (pow_pos n))

above : (q d : ℕ) → has (2 ^ (suc d + q)) q → ⊥
above q d h = omega (arith, ap (λ (x : ℕ). x / 2 ^ q) (pow-add 2 (suc d) q) ∙ shl-shr (2 ^ suc d) q)

pub one_has : (n q : ℕ) → has (2 ^ n) q → q ≡ n
one_has n q h = go (dec_lt n q) (dec_lt q n)
  where
    go : Dec (n < q) → Dec (q < n) → q ≡ n
    go (yes l) d = absurd (omega (arith, div-eq_of_lt (pow-lt l)))
    go (no l) (yes g) = absurd (above q (n - suc q) (subst (λ (x : ℕ). has (2 ^ x) q) (omega arith) h))
    go (no l) (no g) = omega arith
