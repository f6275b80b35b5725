-- What a byte is written as, case by case, and what is left of a text from a place on. Assumes nothing.
use mathlib.Core.Path.{◌≡◌, refl, sym, ap, ◌∙◌}
use mathlib.Core.List.{List, [], ◌∷◌, ◌++◌, append_assoc}
use mathlib.Core.Bool.{true, false}
use Prim.Native.Nat.{ℕ, zero, suc, ◌+◌, ◌*◌, ◌/◌, ◌%◌, ◌≤◌, ◌<◌}
use native.Mathlib.Omega.{arith}
use native.Mathlib.Nat.{suc-mul}
use lib.ListN.{length, get_or, take, drop, take-append-drop, drop_of_length-le, length-append}
use lib.Seq.{drop-drop}
use borrow.Author.Tests.{lt-ltb, le-ltb}
use Rattle.std.specs.Simd.{first_chunks}
use Rattle.alphabet.proofs.ListLaws.{drop_next}
use Rattle.alphabet.specs.Lists.{find}
use Rattle.alphabet.specs.Bytes.{printable, hex_digit}
use Rattle.escaping.specs.Escape.{letters, escape_of, escape_byte, escape_bytes}

-- ---- what one byte is written as

pub written_letter : (ds : List ℕ) (b i : ℕ) → i ≡ find b ds → i < 5 → escape_byte ds b ≡ escape_of ds ∷ get_or letters i 0 ∷ escape_of ds ∷ []
unfolding escape_byte
written_letter ds b i e h = rw (← e) (rw (lt-ltb _ _ h))

pub written_plain : (ds : List ℕ) (b : ℕ) → 5 ≤ find b ds → printable b ≡ true → escape_byte ds b ≡ b ∷ []
unfolding escape_byte
written_plain ds b h a = rw (le-ltb _ _ h) (rw a)

pub written_hex : (ds : List ℕ) (b : ℕ) → 5 ≤ find b ds → printable b ≡ false → escape_byte ds b ≡ escape_of ds ∷ 88 ∷ hex_digit (b / 16) ∷ hex_digit (b % 16) ∷ escape_of ds ∷ []
unfolding escape_byte
written_hex ds b h a = rw (le-ltb _ _ h) (rw a)

-- ---- what the rest of a text is written as

pub bytes_next : (ds s : List ℕ) (i : ℕ) → i < length s → escape_bytes ds (drop i s) ≡ escape_byte ds (get_or s i 0) ++ escape_bytes ds (drop (i + 1) s)
unfolding escape_bytes
bytes_next ds s i h = rw (drop_next s i)

pub bytes_end : (ds s : List ℕ) (i : ℕ) → length s ≤ i → escape_bytes ds (drop i s) ≡ []
unfolding escape_bytes
bytes_end ds s i h = rw (drop_of_length-le s h)

pub length_next : (ds s : List ℕ) (i : ℕ) → i < length s → length (escape_bytes ds (drop i s)) ≡ length (escape_byte ds (get_or s i 0)) + length (escape_bytes ds (drop (i + 1) s))
length_next ds s i h = rw (bytes_next ds s i) (length-append (escape_byte ds (get_or s i 0)) (escape_bytes ds (drop (i + 1) s)))

pub length_end : (ds s : List ℕ) (i : ℕ) → length s ≤ i → length (escape_bytes ds (drop i s)) ≡ 0
length_end ds s i h = ap length (bytes_end ds s i h)

-- ---- what a text is written as, part by part

bytes_append : (ds s t : List ℕ) → escape_bytes ds (s ++ t) ≡ escape_bytes ds s ++ escape_bytes ds t
unfolding escape_bytes
bytes_append ds [] t = refl
bytes_append ds (b ∷ r) t = ap (λ (l : List ℕ). escape_byte ds b ++ l) (bytes_append ds r t) ∙ sym (append_assoc (escape_byte ds b) (escape_bytes ds r) (escape_bytes ds t))

pub length_part : (ds s : List ℕ) (i k : ℕ) → length (escape_bytes ds (drop i s)) ≡ length (escape_bytes ds (take k (drop i s))) + length (escape_bytes ds (drop (i + k) s))
length_part ds s i k =
    ap (λ (l : List ℕ). length (escape_bytes ds l)) (sym (take-append-drop k (drop i s))) ∙ ap length (bytes_append ds (take k (drop i s)) (drop k (drop i s)))
    ∙ length-append (escape_bytes ds (take k (drop i s))) (escape_bytes ds (drop k (drop i s)))
    ∙ ap (λ (l : List ℕ). length (escape_bytes ds (take k (drop i s))) + length (escape_bytes ds l)) (drop-drop k i s)

-- ---- the blocks of a text

pub block_at : (n k : ℕ) (s : List ℕ) (i : ℕ) → i < k → get_or (first_chunks n k s) i [] ≡ take n (drop (i * n) s)
block_at n zero s i h = absurd (omega arith)
block_at n (suc k) s zero h = let e : 0 ≡ 0 * n = omega arith in ap (λ (m : ℕ). take n (drop m s)) e
block_at n (suc k) s (suc i) h =
    let m = suc-mul i n in
    let e : n + i * n ≡ suc i * n = omega arith in
    block_at n k (drop n s) i (omega arith) ∙ ap (take n) (drop-drop (i * n) n s ∙ ap (λ (m : ℕ). drop m s) e)
