-- Laws of pairs of hex digits along the bytes, and of the bytes that they say. Assumes nothing.
use mathlib.Core.Path.{◌≡◌, refl, sym, ap, ap₂, ◌∙◌}
use mathlib.Core.List.{List, [], ◌∷◌, ◌++◌}
use mathlib.Core.Bool.{Bool, true, false, ◌&&◌}
use Prim.Native.Nat.{ℕ, suc, ◌+◌, ◌-◌, ◌*◌, ◌/◌, ◌%◌, ◌≤◌, ◌<◌}
use native.Mathlib.Omega.{arith}
use lib.Dec.{eqb, ltb}
use lib.ListN.{length, get_or, drop, drop_of_length-le}
use borrow.Author.Tests.{ltb-true, ltb-false, lt-ltb}
use Rattle.std.specs.Char.{is_ascii_hexdigit}
use Rattle.std.specs.List.{list_all}
use Rattle.alphabet.specs.Bytes.{from_to, digit, hex_of}
use Rattle.alphabet.specs.Hex.{all_hex, pairs_of}
use Rattle.alphabet.proofs.BoolLaws.{false_true, and_both, from_to_lem}
use Rattle.alphabet.proofs.ListLaws.{drop_next}

-- ---- pairs of digits

pub drop_two : (l : List ℕ) (i : ℕ) → i + 1 < length l → drop i l ≡ get_or l i 0 ∷ get_or l (i + 1) 0 ∷ drop (i + 2) l
drop_two l i h =
    let e : (i + 1) + 1 ≡ i + 2 = omega arith in
    drop_next l i (omega arith) ∙ ap (λ (r : List ℕ). get_or l i 0 ∷ r) (drop_next l (i + 1) h)
    ∙ ap (λ (k : ℕ). get_or l i 0 ∷ get_or l (i + 1) 0 ∷ drop k l) e

-- a hex digit, as the library says it
digit_told : (b : ℕ) → is_ascii_hexdigit b ≡ ltb (hex_of b) 16
digit_told b = at (digit b) (from_to 65 70 b) (from_to 97 102 b) refl refl refl
  where
    at : (x y z : Bool) → digit b ≡ x → from_to 65 70 b ≡ y → from_to 97 102 b ≡ z → is_ascii_hexdigit b ≡ ltb (hex_of b) 16
    at true y z e f g = let k = from_to_lem 48 57 b e in rw e (sym (lt-ltb (b - 48) 16 (omega arith)))
    at false true z e f g = let k = from_to_lem 65 70 b f in rw (e, f) (sym (lt-ltb (b - 65 + 10) 16 (omega arith)))
    at false false true e f g = let k = from_to_lem 97 102 b g in rw (e, f, g) (sym (lt-ltb (b - 97 + 10) 16 (omega arith)))
    at false false false e f g = rw (e, f, g)

-- an even number of bytes are pairs of digits where each is one, and others are not
pub hex_even_all : (s : List ℕ) → eqb (length s % 2) 0 ≡ true → list_all is_ascii_hexdigit s ≡ all_hex s
unfolding all_hex
hex_even_all [] e = refl
hex_even_all (a ∷ []) e = false_true e
hex_even_all (a ∷ b ∷ r) e =
    let n : suc (suc (length r)) % 2 ≡ length r % 2 = omega arith in
    ap₂ (λ (x y : Bool). x && (y && list_all is_ascii_hexdigit r)) (digit_told a) (digit_told b)
    ∙ ap (λ (t : Bool). ltb (hex_of a) 16 && (ltb (hex_of b) 16 && t)) (hex_even_all r (ap (λ (k : ℕ). eqb k 0) (sym n) ∙ e))
    ∙ and_assoc (ltb (hex_of a) 16) (ltb (hex_of b) 16) (all_hex r)
  where
    and_assoc : (x y z : Bool) → (x && (y && z)) ≡ ((x && y) && z)
    and_assoc true y z = refl
    and_assoc false y z = refl

pub hex_uneven : (s : List ℕ) → eqb (length s % 2) 0 ≡ false → false ≡ all_hex s
unfolding all_hex
hex_uneven [] e = false_true (sym e)
hex_uneven (a ∷ []) e = refl
hex_uneven (a ∷ b ∷ r) e =
    let n : suc (suc (length r)) % 2 ≡ length r % 2 = omega arith in
    none (ltb (hex_of a) 16 && ltb (hex_of b) 16) ∙ ap (λ (t : Bool). (ltb (hex_of a) 16 && ltb (hex_of b) 16) && t) (hex_uneven r (ap (λ (k : ℕ). eqb k 0) (sym n) ∙ e))
  where
    none : (t : Bool) → false ≡ (t && false)
    none true = refl
    none false = refl

pub hex_odd : (s : List ℕ) (i : ℕ) → i < length s → length s ≤ i + 1 → all_hex (drop i s) ≡ false
unfolding all_hex
hex_odd s i h l = rw (drop_next s i) (rw (drop_of_length-le s l))

hex_two : (s : List ℕ) (i : ℕ) → i + 1 < length s → all_hex (drop i s) ≡ ((ltb (hex_of (get_or s i 0)) 16 && ltb (hex_of (get_or s (i + 1) 0)) 16) && all_hex (drop (i + 2) s))
unfolding all_hex
hex_two s i h = ap all_hex (drop_two s i h)

pub pairs_length : (s : List ℕ) → length (pairs_of s) ≡ length s / 2
unfolding pairs_of
pairs_length [] = refl
pairs_length (a ∷ []) = refl
pairs_length (a ∷ b ∷ r) = let z = pairs_length r in omega arith

pub hex_even : (s : List ℕ) → all_hex s ≡ true → length s ≡ 2 * (length s / 2)
unfolding all_hex
hex_even [] e = refl
hex_even (a ∷ []) e = false_true e
hex_even (a ∷ b ∷ r) e = let z = hex_even r (and_both (ltb (hex_of a) 16 && ltb (hex_of b) 16) (all_hex r) e).1 in omega arith

-- ---- pairs of digits that are known to be there

pub hex_holds : (s : List ℕ) (i : ℕ) → i < length s → all_hex (drop i s) ≡ true
    → (i + 1 < length s) × (hex_of (get_or s i 0) < 16) × (hex_of (get_or s (i + 1) 0) < 16) × (all_hex (drop (i + 2) s) ≡ true)
hex_holds s i h e = at (ltb (i + 1) (length s)) refl
  where
    at : (t : Bool) → ltb (i + 1) (length s) ≡ t
        → (i + 1 < length s) × (hex_of (get_or s i 0) < 16) × (hex_of (get_or s (i + 1) 0) < 16) × (all_hex (drop (i + 2) s) ≡ true)
    at false q = false_true (sym (hex_odd s i h (ltb-false (i + 1) (length s) q)) ∙ e)
    at true q =
        let l = ltb-true (i + 1) (length s) q in
        let p = and_both (ltb (hex_of (get_or s i 0)) 16 && ltb (hex_of (get_or s (i + 1) 0)) 16) (all_hex (drop (i + 2) s)) (sym (hex_two s i l) ∙ e) in
        let r = and_both (ltb (hex_of (get_or s i 0)) 16) (ltb (hex_of (get_or s (i + 1) 0)) 16) p.0 in
        (l, ltb-true (hex_of (get_or s i 0)) 16 r.0, ltb-true (hex_of (get_or s (i + 1) 0)) 16 r.1, p.1)

pub pairs_next : (s : List ℕ) (i : ℕ) → i + 1 < length s → pairs_of (drop i s) ≡ ((hex_of (get_or s i 0) * 16 + hex_of (get_or s (i + 1) 0)) ∷ []) ++ pairs_of (drop (i + 2) s)
unfolding pairs_of
pairs_next s i h = ap pairs_of (drop_two s i h)

pub pairs_end : (s : List ℕ) (i : ℕ) → length s ≤ i → pairs_of (drop i s) ≡ []
unfolding pairs_of
pairs_end s i h = rw (drop_of_length-le s h)
