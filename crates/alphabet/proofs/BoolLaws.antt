-- Laws of truth values that the proofs share. Assumes nothing.
use Prim.Native.Nat.{ℕ, ◌≤◌}
use mathlib.Core.Path.{◌≡◌, refl, sym, subst}
use mathlib.Core.Bool.{Bool, true, false, not, ◌&&◌, ◌||◌}
use lib.Dec.{T, leb}
use borrow.Author.Tests.{leb-true}
use Rattle.alphabet.specs.Bytes.{from_to}

pub false_true : {A : Type 0} → false ≡ true → A
false_true e = absurd (subst (λ (t : Bool). T (not t)) e tt)

pub not_not : (x : Bool) → not (not x) ≡ x
not_not true = refl
not_not false = refl

pub and_both : (x y : Bool) → (x && y) ≡ true → (x ≡ true) × (y ≡ true)
and_both true y e = (refl, e)
and_both false y e = false_true e

pub both_and : {x y : Bool} → x ≡ true → y ≡ true → (x && y) ≡ true
both_and e f = rw (e, f)

pub or_neither : (x y : Bool) → (x || y) ≡ false → (x ≡ false) × (y ≡ false)
or_neither false y e = (refl, e)
or_neither true y e = false_true (sym e)

pub neither_or : {x y : Bool} → x ≡ false → y ≡ false → (x || y) ≡ false
neither_or e f = rw (e, f)

pub from_to_lem : (lo hi b : ℕ) → from_to lo hi b ≡ true → (lo ≤ b) × (b ≤ hi)
from_to_lem lo hi b e =
    (leb-true lo b (and_both (leb lo b) (leb b hi) e).0, leb-true b hi (and_both (leb lo b) (leb b hi) e).1)
