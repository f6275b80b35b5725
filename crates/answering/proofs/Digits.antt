-- Laws of the digits that say bytes: those of the byte at a place, and of those behind it. Assumes nothing.
use Prim.Native.Nat.{ℕ, ◌+◌, ◌/◌, ◌%◌, ◌≤◌, ◌<◌}
use mathlib.Core.Path.{◌≡◌}
use mathlib.Core.List.{List, [], ◌∷◌}
use lib.ListN.{length, get_or, drop, drop_of_length-le}
use Rattle.alphabet.proofs.ListLaws.{drop_next}
use Rattle.answering.specs.Hex.{hex_digit, hexed}

pub hexed_next : (l : List ℕ) (i : ℕ) → i < length l → hexed (drop i l) ≡ hex_digit (get_or l i 0 / 16) ∷ hex_digit (get_or l i 0 % 16) ∷ hexed (drop (i + 1) l)
unfolding hexed
hexed_next l i h = rw (drop_next l i)

pub hexed_end : (l : List ℕ) (i : ℕ) → length l ≤ i → hexed (drop i l) ≡ []
unfolding hexed
hexed_end l i h = rw (drop_of_length-le l h)
