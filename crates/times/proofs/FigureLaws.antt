-- Laws of the figures of a time: what `figure_at` and its fellows are, case by case. Assumes nothing.
use mathlib.Core.Path.{◌≡◌}
use mathlib.Core.List.{List}
use Rattle.std.specs.Prelude.{None, Some}
use Prim.Native.Nat.{ℕ, ◌+◌, ◌-◌, ◌≤◌, ◌<◌}
use lib.ListN.{length, get_or, take, drop}
use borrow.Author.Tests.{le-leb, lt-leb, eq-eqb, ne_eqb}
use Rattle.alphabet.specs.Digits.{decimal}
use Rattle.times.specs.Times.{figure_at, fraction_of, offset_of}
use Rattle.calendar.specs.declared.figures.Sign.{Sign}

-- ---- case by case

pub figure_sent : (l : List ℕ) (start width : ℕ) → start + width ≤ length l → figure_at l start width ≡ Some (decimal (take width (drop start l)))
unfolding figure_at
figure_sent l start width h = rw (le-leb (start + width) (length l) h)

pub figure_not : (l : List ℕ) (start width : ℕ) → length l < start + width → figure_at l start width ≡ None
unfolding figure_at
figure_not l start width h = rw (lt-leb (start + width) (length l) h)

pub fraction_not : (l : List ℕ) → length l ≡ 0 → fraction_of l ≡ None
unfolding fraction_of
fraction_not l h = rw (eq-eqb (length l) 0 h)

pub fraction_sent : (l : List ℕ) → (length l ≡ 0 → ⊥) → fraction_of l ≡ Some (record { value = decimal (drop 1 l); digits = length l - 1 })
unfolding fraction_of
fraction_sent l h = rw (ne_eqb (length l) 0 h)

pub offset_not : (l : List ℕ) → length l ≡ 0 → offset_of l ≡ None
unfolding offset_of
offset_not l h = rw (eq-eqb (length l) 0 h)

pub offset_minus : (l : List ℕ) → (length l ≡ 0 → ⊥) → get_or l 0 0 ≡ 45
    → offset_of l ≡ Some (record { sign = Sign.Minus; hours = decimal (take 2 (drop 1 l)); minutes = decimal (take 2 (drop 3 l)) })
unfolding offset_of
offset_minus l h e = rw (ne_eqb (length l) 0 h) (rw (eq-eqb (get_or l 0 0) 45 e))

pub offset_plus : (l : List ℕ) → (length l ≡ 0 → ⊥) → (get_or l 0 0 ≡ 45 → ⊥)
    → offset_of l ≡ Some (record { sign = Sign.Plus; hours = decimal (take 2 (drop 1 l)); minutes = decimal (take 2 (drop 3 l)) })
unfolding offset_of
offset_plus l h e = rw (ne_eqb (length l) 0 h) (rw (ne_eqb (get_or l 0 0) 45 e))
