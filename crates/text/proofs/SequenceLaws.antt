-- What stands between two escape delimiters: pairs of digits, what is known, what it means and how long that is. Assumes nothing.
use mathlib.Core.Path.{◌≡◌, refl}
use mathlib.Core.List.{List, [], ◌∷◌}
use mathlib.Core.Bool.{true, false, ◌&&◌}
use Prim.Native.Nat.{ℕ, ◌/◌, ◌≤◌, ◌<◌}
use native.Mathlib.Omega.{arith}
use lib.Dec.{ltb, eqb}
use lib.ListN.{length, get_or, drop}
use Rattle.alphabet.proofs.BoolLaws.{false_true, and_both}
use Rattle.alphabet.specs.Lists.{find}
use Rattle.escaping.specs.Escape.{letters}
use Rattle.alphabet.specs.Hex.{all_hex, pairs_of}
use Rattle.alphabet.proofs.HexLaws.{pairs_length, hex_even}
use Rattle.text.specs.Unescape.{known, meaning}

-- ---- what stands between two escape delimiters

pub known_none : (c : List ℕ) → length c ≡ 0 → known c ≡ false
unfolding known
known_none [] h = refl
known_none (l ∷ r) h = absurd (omega arith)

pub known_one : (c : List ℕ) → length c ≡ 1 → known c ≡ ltb (find (get_or c 0 0) letters) 5
unfolding known
known_one [] h = absurd (omega arith)
known_one (l ∷ []) h = refl
known_one (l ∷ a ∷ r) h = absurd (omega arith)

pub known_more : (c : List ℕ) → 1 < length c → known c ≡ (eqb (get_or c 0 0) 88 && all_hex (drop 1 c))
unfolding known
known_more [] h = absurd (omega arith)
known_more (l ∷ []) h = absurd (omega arith)
known_more (l ∷ a ∷ r) h = refl

-- ---- the number of bytes that it says

pub meaning_one : (ds c : List ℕ) → known c ≡ true → length c < 3 → length (meaning ds c) ≡ 1
unfolding known meaning
meaning_one ds [] e h = false_true e
meaning_one ds (l ∷ []) e h = refl
meaning_one ds (l ∷ a ∷ r) e h =
    let z = hex_even (a ∷ r) (and_both (eqb l 88) (all_hex (a ∷ r)) e).1 in
    absurd (omega arith)

pub meaning_more : (ds c : List ℕ) → known c ≡ true → 3 ≤ length c → length (meaning ds c) ≡ length c / 2
unfolding known meaning
meaning_more ds [] e h = absurd (omega arith)
meaning_more ds (l ∷ []) e h = absurd (omega arith)
meaning_more ds (l ∷ a ∷ r) e h =
    let z = hex_even (a ∷ r) (and_both (eqb l 88) (all_hex (a ∷ r)) e).1 in
    let y = pairs_length (a ∷ r) in
    omega arith

pub meaning_short : (ds c : List ℕ) → length (meaning ds c) ≤ length c
unfolding meaning
meaning_short ds [] = omega arith
meaning_short ds (l ∷ []) = omega arith
meaning_short ds (l ∷ a ∷ r) = let y = pairs_length (a ∷ r) in omega arith

pub meaning_letter : (ds c : List ℕ) → length c ≡ 1 → meaning ds c ≡ get_or ds (find (get_or c 0 0) letters) 0 ∷ []
unfolding meaning
meaning_letter ds [] h = absurd (omega arith)
meaning_letter ds (l ∷ []) h = refl
meaning_letter ds (l ∷ a ∷ r) h = absurd (omega arith)

pub meaning_pairs : (ds c : List ℕ) → 1 < length c → meaning ds c ≡ pairs_of (drop 1 c)
unfolding meaning
meaning_pairs ds [] h = absurd (omega arith)
meaning_pairs ds (l ∷ []) h = absurd (omega arith)
meaning_pairs ds (l ∷ a ∷ r) h = refl

pub known_some : (c : List ℕ) → known c ≡ true → 0 < length c
unfolding known
known_some [] e = false_true e
known_some (l ∷ r) e = omega arith
