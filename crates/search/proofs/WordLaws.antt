-- A search by words: what is done to a word is done to each of its bytes, by the block laws of the bits; of one byte it
-- is a table; and the zeros below the lowest mark count the bytes before it. Assumes nothing.
use mathlib.Core.Path.{◌≡◌, refl, sym, ap, ap₂, ◌∙◌}
use mathlib.Core.List.{List, [], ◌∷◌}
use mathlib.Core.Bool.{Bool, true, false, cond, ◌&&◌, ◌||◌}
use Prim.Native.Nat.{ℕ, zero, suc, ◌+◌, ◌*◌, ◌/◌, ◌%◌, ◌^◌, ◌<◌}
use native.Mathlib.Nat.{suc-add, zero-add, mul-one}
use native.Mathlib.Omega.{arith}
use lib.Bits.{bit_and, bit_or, bit_xor, and_block, or_block, xor_block, and_lt, or_lt, xor_lt, xor_self, xor_add_and, and_le_l, and_le_r, shifted_half, shifted_even}
use lib.Count.{count_trailing_zeros, under}
use lib.Dec.{eqb}
use lib.ListN.{length, get_or}
use borrow.Author.Tests.{eqb-true, eqb-false, eq-eqb, ne_eqb}
use Rattle.std.specs.Int.{w64, from_le_bytes}
use Rattle.alphabet.specs.Lists.{first, find, either}
use Rattle.alphabet.proofs.BoolLaws.{and_both}
use Rattle.search.specs.Words.{word_of, unlike, other_than, marks}

-- ---- one byte

-- a test of every number below n, computed
unfoldable every : ℕ → (ℕ → Bool) → Bool
every zero P = true
every (suc n) P = P n && every n P

every_at : (n : ℕ) (P : ℕ → Bool) → every n P ≡ true → (k : ℕ) → k < n → P k ≡ true
unfolding every
every_at zero P e k h = absurd (omega arith)
every_at (suc n) P e k h = at (eqb k n) refl (every_at n P (and_both (P n) (every n P) e).1 k)
  where
    at : (t : Bool) → eqb k n ≡ t → (k < n → P k ≡ true) → P k ≡ true
    at true q ih = ap P (eqb-true k n q) ∙ (and_both (P n) (every n P) e).0
    at false q ih = ih (let z = eqb-false k n q in omega arith)

high_of : ℕ → ℕ
high_of x = bit_and (bit_or (bit_and x 127 + 127) x) 128

high_is : (x : ℕ) → x < 256 → bit_and (bit_or (bit_and x 127 + 127) x) 128 ≡ cond (eqb x 0) 0 128
unfolding high_of every
high_is x h = eqb-true (high_of x) (cond (eqb x 0) 0 128) (every_at 256 (λ (n : ℕ). eqb (high_of n) (cond (eqb n 0) 0 128)) refl x h)

-- two bytes differ in no bit where they are the same
xor_none : (x b : ℕ) → eqb (bit_xor x b) 0 ≡ eqb b x
xor_none x b = at (eqb b x) refl
  where
    at : (t : Bool) → eqb b x ≡ t → eqb (bit_xor x b) 0 ≡ t
    at true e = eq-eqb (bit_xor x b) 0 (ap (bit_xor x) (eqb-true b x e) ∙ xor_self x)
    at false e =
        ne_eqb (bit_xor x b) 0 (λ (z : bit_xor x b ≡ 0).
        let s = xor_add_and x b in let l = and_le_l x b in let r = and_le_r x b in eqb-false b x e (omega arith))

unlike_byte : (x b : ℕ) → x < 256 → b < 256 → unlike x b 127 128 ≡ cond (eqb b x) 0 128
unlike_byte x b h k = high_is (bit_xor x b) (xor_lt 8 x b h k) ∙ ap (λ (t : Bool). cond t 0 128) (xor_none x b)

-- ---- a word, by its lowest byte and the rest

unlike_block : (w c s h x b : ℕ) → x < 256 → b < 256 → unlike (w * 256 + x) (c * 256 + b) (s * 256 + 127) (h * 256 + 128) ≡ unlike w c s h * 256 + unlike x b 127 128
unlike_block w c s h x b hx hb =
    let y = bit_xor x b in
    let hy : y < 256 = xor_lt 8 x b hx hb in
    let low = and_le_r y 127 in
    let e : bit_xor (w * 256 + x) (c * 256 + b) ≡ bit_xor w c * 256 + y = xor_block 8 w c x b hx hb in
    let f : bit_and (bit_xor w c * 256 + y) (s * 256 + 127) ≡ bit_and (bit_xor w c) s * 256 + bit_and y 127 = and_block 8 (bit_xor w c) s y 127 hy (omega arith) in
    let g : bit_and (bit_xor w c) s * 256 + bit_and y 127 + (s * 256 + 127) ≡ (bit_and (bit_xor w c) s + s) * 256 + (bit_and y 127 + 127) = omega arith in
    ap (λ (n : ℕ). bit_and (bit_or (bit_and n (s * 256 + 127) + (s * 256 + 127)) n) (h * 256 + 128)) e
    ∙ ap (λ (n : ℕ). bit_and (bit_or n (bit_xor w c * 256 + y)) (h * 256 + 128)) (ap (λ (n : ℕ). n + (s * 256 + 127)) f ∙ g)
    ∙ ap (λ (n : ℕ). bit_and n (h * 256 + 128)) (or_block 8 (bit_and (bit_xor w c) s + s) (bit_xor w c) (bit_and y 127 + 127) y (omega arith) hy)
    ∙ and_block 8 (bit_or (bit_and (bit_xor w c) s + s) (bit_xor w c)) h (bit_or (bit_and y 127 + 127) y) 128 (or_lt 8 (bit_and y 127 + 127) y (omega arith) hy) (omega arith)

-- the bits that say which bytes are sought
abbrev sought : ℕ → ℕ → ℕ → ℕ → ℕ → ℕ
sought w c e s h = bit_xor (bit_and (unlike w c s h) (unlike w e s h)) h

sought_byte : (x b d : ℕ) → x < 256 → b < 256 → d < 256 → sought x b d 127 128 ≡ cond (either b d x) 128 0
sought_byte x b d hx hb hd =
    ap₂ (λ (m n : ℕ). bit_xor (bit_and m n) 128) (unlike_byte x b hx hb) (unlike_byte x d hx hd) ∙ at (eqb b x) (eqb d x)
  where
    at : (s t : Bool) → bit_xor (bit_and (cond s 0 128) (cond t 0 128)) 128 ≡ cond (s || t) 128 0
    at true true = refl
    at true false = refl
    at false true = refl
    at false false = refl

sought_block : (w c e s h x b d : ℕ) → x < 256 → b < 256 → d < 256
    → sought (w * 256 + x) (c * 256 + b) (e * 256 + d) (s * 256 + 127) (h * 256 + 128) ≡ sought w c e s h * 256 + sought x b d 127 128
sought_block w c e s h x b d hx hb hd =
    let p = unlike x b 127 128 in
    let q = unlike x d 127 128 in
    let hp = and_le_r (bit_or (bit_and (bit_xor x b) 127 + 127) (bit_xor x b)) 128 in
    let hq = and_le_r (bit_or (bit_and (bit_xor x d) 127 + 127) (bit_xor x d)) 128 in
    let kp : p < 256 = omega arith in
    let kq : q < 256 = omega arith in
    ap₂ (λ (m n : ℕ). bit_xor (bit_and m n) (h * 256 + 128)) (unlike_block w c s h x b hx hb) (unlike_block w e s h x d hx hd)
    ∙ ap (λ (n : ℕ). bit_xor n (h * 256 + 128)) (and_block 8 (unlike w c s h) (unlike w e s h) p q kp kq)
    ∙ xor_block 8 (bit_and (unlike w c s h) (unlike w e s h)) h (bit_and p q) 128 (and_lt 8 p q kp kq) (omega arith)

-- a byte, so many times
unfoldable copies : ℕ → ℕ → ℕ
copies zero b = 0
copies (suc n) b = copies n b * 256 + b

sought_word : (l : List ℕ) (b d : ℕ) → ((i : ℕ) → get_or l i 0 < 256) → b < 256 → d < 256
    → sought (word_of l) (copies (length l) b) (copies (length l) d) (copies (length l) 127) (copies (length l) 128) ≡ marks (either b d) l
unfolding word_of copies marks
sought_word [] b d h hb hd = refl
sought_word (x ∷ l) b d h hb hd =
    let n = length l in
    sought_block (word_of l) (copies n b) (copies n d) (copies n 127) (copies n 128) x b d (h 0) hb hd
    ∙ ap₂ (λ (u v : ℕ). u * 256 + v) (sought_word l b d (λ i. h (suc i)) hb hd) (sought_byte x b d (h 0) hb hd)

-- eight times a byte, as a product
copies_eight : (b : ℕ) → copies 8 b ≡ b * 0x0101010101010101
unfolding copies
copies_eight b = omega arith

pub sought_eight : (l : List ℕ) (b d : ℕ) → length l ≡ 8 → ((i : ℕ) → get_or l i 0 < 256) → b < 256 → d < 256
    → bit_xor (bit_and (other_than (word_of l) b) (other_than (word_of l) d)) 0x8080808080808080 ≡ marks (either b d) l
sought_eight l b d n h hb hd =
    let e : sought (word_of l) (copies 8 b) (copies 8 d) (copies 8 127) (copies 8 128) ≡ bit_xor (bit_and (other_than (word_of l) b) (other_than (word_of l) d)) 0x8080808080808080
    = rw (copies_eight b, copies_eight d, copies_eight 127, copies_eight 128) in
    sym e ∙ ap (λ (k : ℕ). sought (word_of l) (copies k b) (copies k d) (copies k 127) (copies k 128)) (sym n) ∙ sought_word l b d h hb hd

-- ---- eight bytes one by one

eight_listed : (l : List ℕ) → length l ≡ 8
    → get_or l 0 0 ∷ get_or l 1 0 ∷ get_or l 2 0 ∷ get_or l 3 0 ∷ get_or l 4 0 ∷ get_or l 5 0 ∷ get_or l 6 0 ∷ get_or l 7 0 ∷ [] ≡ l
eight_listed [] h = absurd (omega arith)
eight_listed (a ∷ []) h = absurd (omega arith)
eight_listed (a ∷ b ∷ []) h = absurd (omega arith)
eight_listed (a ∷ b ∷ c ∷ []) h = absurd (omega arith)
eight_listed (a ∷ b ∷ c ∷ d ∷ []) h = absurd (omega arith)
eight_listed (a ∷ b ∷ c ∷ d ∷ e ∷ []) h = absurd (omega arith)
eight_listed (a ∷ b ∷ c ∷ d ∷ e ∷ f ∷ []) h = absurd (omega arith)
eight_listed (a ∷ b ∷ c ∷ d ∷ e ∷ f ∷ g ∷ []) h = absurd (omega arith)
eight_listed (a ∷ b ∷ c ∷ d ∷ e ∷ f ∷ g ∷ k ∷ []) h = refl
eight_listed (a ∷ b ∷ c ∷ d ∷ e ∷ f ∷ g ∷ k ∷ x ∷ r) h = absurd (omega arith)

eight_read : (a b c d e f g h : ℕ) → from_le_bytes w64 (a ∷ b ∷ c ∷ d ∷ e ∷ f ∷ g ∷ h ∷ []) ≡ word_of (a ∷ b ∷ c ∷ d ∷ e ∷ f ∷ g ∷ h ∷ [])
unfolding word_of
eight_read a b c d e f g h = omega arith

-- the library's number of eight bytes
pub read_is : (l : List ℕ) → length l ≡ 8 → from_le_bytes w64 l ≡ word_of l
read_is l h =
    let e = eight_listed l h in
    ap (from_le_bytes w64) (sym e)
    ∙ eight_read (get_or l 0 0) (get_or l 1 0) (get_or l 2 0) (get_or l 3 0) (get_or l 4 0) (get_or l 5 0) (get_or l 6 0) (get_or l 7 0) ∙ ap word_of e

-- ---- the zeros below the lowest mark

pub zeros_below : (j k a : ℕ) → count_trailing_zeros (j + k) (a * 2 ^ j) ≡ j + count_trailing_zeros k a
unfolding count_trailing_zeros
zeros_below zero k a = ap₂ count_trailing_zeros (zero-add k) (mul-one a) ∙ sym (zero-add (count_trailing_zeros k a))
zeros_below (suc j) k a =
    ap (λ (n : ℕ). count_trailing_zeros n (a * 2 ^ suc j)) (suc-add j k)
    ∙ ap₂ (λ (d n : ℕ). under d (count_trailing_zeros (j + k) n)) (shifted_even a j) (shifted_half a j)
    ∙ ap suc (zeros_below j k a)
    ∙ sym (suc-add j (count_trailing_zeros k a))

module _ (test : ℕ → Bool) where
  pub zeros_first : (l : List ℕ) → count_trailing_zeros (length l * 8) (marks test l) / 8 ≡ first test l
  unfolding marks first count_trailing_zeros
  zeros_first [] = refl
  zeros_first (x ∷ l) = at (test x) (zeros_first l)
    where
      at : (t : Bool) → count_trailing_zeros (length l * 8) (marks test l) / 8 ≡ first test l
          → count_trailing_zeros (suc (length l) * 8) (marks test l * 256 + cond t 128 0) / 8 ≡ cond t 0 (suc (first test l))
      at true ih =
          let m = marks test l in
          let n : suc (length l) * 8 ≡ 7 + suc (length l * 8) = omega arith in
          let e : m * 256 + 128 ≡ (m * 2 + 1) * 2 ^ 7 = omega arith in
          let o : (m * 2 + 1) % 2 ≡ 1 = omega arith in
          let z : count_trailing_zeros (suc (length l * 8)) (m * 2 + 1) ≡ 0 = ap (λ (d : ℕ). under d (count_trailing_zeros (length l * 8) ((m * 2 + 1) / 2))) o in
          let r = ap₂ count_trailing_zeros n e ∙ zeros_below 7 (suc (length l * 8)) (m * 2 + 1) in
          omega arith
      at false ih =
          let m = marks test l in
          let n : suc (length l) * 8 ≡ 8 + length l * 8 = omega arith in
          let e : m * 256 + 0 ≡ m * 2 ^ 8 = omega arith in
          let r = ap₂ count_trailing_zeros n e ∙ zeros_below 8 (length l * 8) m in
          omega arith

  -- the place of the first of eight bytes that passes, or 8
  pub first_mark : (l : List ℕ) → length l ≡ 8 → count_trailing_zeros 64 (marks test l) / 8 ≡ first test l
  first_mark l n = let e : 64 ≡ length l * 8 = omega arith in ap (λ (k : ℕ). count_trailing_zeros k (marks test l) / 8) e ∙ zeros_first l

  -- where there is a mark a byte passes
  pub marks_some : (l : List ℕ) → (marks test l ≡ 0 → ⊥) → first test l < length l
  unfolding marks first
  marks_some [] h = absurd (h refl)
  marks_some (x ∷ l) h = at (test x) h (marks_some l)
    where
      at : (t : Bool) → (marks test l * 256 + cond t 128 0 ≡ 0 → ⊥) → ((marks test l ≡ 0 → ⊥) → first test l < length l)
          → cond t 0 (suc (first test l)) < suc (length l)
      at true h ih = omega arith
      at false h ih = let k = ih (λ (z : marks test l ≡ 0). h (omega arith)) in omega arith

-- where both bytes that are sought are the same
pub first_same : (b : ℕ) (l : List ℕ) → first (either b b) l ≡ find b l
unfolding first
first_same b [] = refl
first_same b (x ∷ l) = at (eqb b x) (first_same b l)
  where
    at : (t : Bool) → first (either b b) l ≡ find b l → cond (t || t) 0 (suc (first (either b b) l)) ≡ cond t 0 (suc (find b l))
    at true ih = refl
    at false ih = ap suc ih
