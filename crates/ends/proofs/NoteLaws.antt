-- Noted ends: one more of them, a walk that notes them byte by byte and mark by mark, and the part between two. Assumes nothing.
use mathlib.Core.Path.{◌≡◌, refl, sym, ap, ap₂, subst, ◌∙◌}
use mathlib.Core.Bool.{Bool, true, false, ◌&&◌, ◌||◌}
use mathlib.Core.List.{List, []}
use Prim.Native.Nat.{ℕ, zero, suc, ◌+◌, ◌-◌, ◌*◌, ◌/◌, ◌≤◌, ◌<◌}
use native.Mathlib.Nat.{zero-add}
use native.Mathlib.Numerals.{add-one}
use native.Mathlib.Omega.{arith}
use lib.Dec.{leb, ltb, eqb}
use lib.Bits.{bit_and}
use lib.Count.{count_trailing_zeros}
use lib.ListN.{length, get_or, take, drop, set, length-drop}
use lib.Seq.{get_or-set_same, get_or-set_other, length-take-le, drop-drop}
use borrow.Author.Tests.{eq-eqb, ne_eqb, eqb-true, eqb-false, leb-true, leb-false, ltb-true, ltb-false, le-leb, lt-ltb}
use Rattle.alphabet.specs.Lists.{first, find, either}
use Rattle.alphabet.specs.Parts.{split}
use Rattle.alphabet.proofs.BoolLaws.{and_both, both_and, or_neither, false_true}
use Rattle.alphabet.proofs.ListLaws.{rest_of, piece_of_piece, first_here, first_past, first_end, first_block}
use Rattle.alphabet.proofs.BlockLaws.{first_from, first_inside}
use Rattle.search.proofs.WordLaws.{first_same}
use Rattle.ends.specs.Ends.{next_end, part_end, cut_out, Noted, Front, Reached, Marked}
use Rattle.ends.proofs.EndLaws.{next_last, next_more, end_next, end_le, part_cut}
use Rattle.ends.proofs.MarkLaws.{marks_from, from_all, from_none, from_some, from_first, from_clear}

-- one end more
pub front_more : (sep : ℕ) (l ends : List ℕ) (n e : ℕ) → n < length ends → Front sep l n ends → e ≡ part_end sep l n → Front sep l (n + 1) (set ends n e)
front_more sep l ends n e h f q k i = at (eqb k n) refl
  where
    at : (t : Bool) → eqb k n ≡ t → get_or (set ends n e) k 0 ≡ part_end sep l k
    at true z = let w = eqb-true k n z in ap (λ (x : ℕ). get_or (set ends n e) x 0) w ∙ get_or-set_same ends n e 0 h ∙ q ∙ ap (part_end sep l) (sym w)
    at false z = let w = eqb-false k n z in get_or-set_other ends n k e 0 w ∙ f k (omega (arith, w))

-- none yet
pub front_none : (sep : ℕ) (l ends : List ℕ) → Front sep l 0 ends
front_none sep l ends k h = absurd (omega arith)

-- and so the ends up to `most` are noted
pub front_noted : (sep : ℕ) (l ends : List ℕ) (n most : ℕ) → Front sep l n ends → ((k : ℕ) → k ≤ most → k < 16 → k < n) → Noted sep l most ends
front_noted sep l ends n most f h k i j = f k (h k i j)

-- the end behind the one of a part
pub end_behind : (sep : ℕ) (l : List ℕ) (k e : ℕ) → e ≡ part_end sep l k → next_end sep l e ≡ part_end sep l (k + 1)
end_behind sep l k e q = ap (next_end sep l) q ∙ sym (end_next sep l k) ∙ ap (part_end sep l) (sym (add-one k))

-- ---- a walk along the bytes

module _ (sep : ℕ) (l : List ℕ) where
  -- at the front
  pub reached_none : (ends : List ℕ) → Reached sep l 0 0 ends
  unfolding part_end
  reached_none ends = (omega arith, front_none sep l ends, λ h. sym (zero-add (find sep l)))

  -- up to a place with no separator before it
  pub reached_on : (ends : List ℕ) (count place behind : ℕ) → Reached sep l count place ends → place + find sep (drop place l) ≡ behind + find sep (drop behind l)
      → Reached sep l count behind ends
  reached_on ends count place behind r e = (r.0, r.1, λ h. r.2 h ∙ e)

  -- behind a separator, which is noted
  pub reached_more : (ends : List ℕ) (count place e : ℕ) → length ends ≡ 16 → count < 16 → Reached sep l count place ends → e ≡ place + find sep (drop place l) → e < length l
      → Reached sep l (count + 1) (e + 1) (set ends count e)
  reached_more ends count place e n h r q i =
      let p = q ∙ sym (r.2 h) in
      (omega arith, front_more sep l ends count e (omega arith) r.1 p, λ _. sym (end_behind sep l count e p) ∙ next_more sep l e i)

  -- where there is no room for another
  pub reached_full : (ends : List ℕ) (count place behind : ℕ) → count ≡ 16 → Reached sep l count place ends → Reached sep l count behind ends
  reached_full ends count place behind e r = (r.0, r.1, λ h. absurd (omega arith))

  -- at the end of the bytes the parts that are left end there
  pub reached_end : (ends : List ℕ) (count : ℕ) → length ends ≡ 16 → count < 16 → Reached sep l count (length l) ends
      → Reached sep l (count + 1) (length l) (set ends count (length l))
  reached_end ends count n h r =
      let z = first_end (eqb sep) l (length l) (omega arith) in
      let e : length l + find sep (drop (length l) l) ≡ length l = omega arith in
      let p = sym (r.2 h ∙ e) in
      let k : length l ≤ length l = omega arith in
      (omega arith, front_more sep l ends count (length l) (omega arith) r.1 p, λ _. sym (end_behind sep l count (length l) p) ∙ next_last sep l (length l) k ∙ sym e)

  -- one byte
  pub reached_here : (ends : List ℕ) (count i : ℕ) → length ends ≡ 16 → count < 16 → i < length l → get_or l i 0 ≡ sep → Reached sep l count i ends
      → Reached sep l (count + 1) (i + 1) (set ends count i)
  reached_here ends count i n h k e r =
      let z = first_here (eqb sep) l i k (eq-eqb sep (get_or l i 0) (sym e)) in
      reached_more ends count i i n h r (omega arith) k

  pub reached_past : (ends : List ℕ) (count i : ℕ) → i < length l → (get_or l i 0 ≡ sep → ⊥) → Reached sep l count i ends → Reached sep l count (i + 1) ends
  reached_past ends count i k e r =
      let z = first_past (eqb sep) l i k (ne_eqb sep (get_or l i 0) (λ (q : sep ≡ get_or l i 0). e (sym q))) in
      reached_on ends count i (i + 1) r (omega arith)

  -- the same of room and a count that are known by equations
  pub reached_as : (ends ends' : List ℕ) (count count' place : ℕ) → ends' ≡ ends → count' ≡ count → length ends ≡ 16 → Reached sep l count place ends
      → (length ends' ≡ 16) × Reached sep l count' place ends'
  reached_as ends ends' count count' place e f n r =
      (ap length e ∙ n, subst (λ (x : List ℕ). Reached sep l count' place x) (sym e) (subst (λ (k : ℕ). Reached sep l k place ends) (sym f) r))

-- ---- a word, behind those of its bytes that are gone

module _ (sep : ℕ) (l : List ℕ) (place gone : ℕ) (h : place + 8 ≤ length l) (g : gone ≤ 8) where
  abbrev test : ℕ → Bool
  test = either sep sep

  abbrev word : List ℕ
  word = take 8 (drop place l)

  abbrev behind : List ℕ
  behind = drop (place + gone) l

  pub word_long : length word ≡ 8
  word_long = let d = length-drop place l in length-take-le 8 (drop place l) (omega arith)

  word_rest : drop gone word ≡ take (8 - gone) behind
  word_rest = sym (rest_of word gone) ∙ ap (λ (n : ℕ). take (n - gone) (drop gone word)) word_long ∙ piece_of_piece l place 8 gone (8 - gone) (omega arith)

  rest_long : length (drop gone word) ≡ 8 - gone
  rest_long = length-drop gone word ∙ ap (λ (n : ℕ). n - gone) word_long

  pub word_some : first test (drop gone word) < length (drop gone word) → find sep behind ≡ first test (drop gone word)
  word_some i =
      sym (first_same sep behind) ∙ first_inside test behind (8 - gone) (subst (λ (x : List ℕ). first test x < length x) word_rest i) ∙ ap (first test) (sym word_rest)

  pub word_within : first test (drop gone word) < length (drop gone word) → gone + first test (drop gone word) < 8
  word_within i = let n = rest_long in omega arith

  pub word_none : first test (drop gone word) ≡ length (drop gone word) → place + gone + find sep behind ≡ place + 8 + find sep (drop (place + 8) l)
  word_none i =
      let d = length-drop (place + gone) l in
      let q : first test (take (8 - gone) behind) ≡ 8 - gone = ap (first test) (sym word_rest) ∙ i ∙ rest_long in
      let b = first_block test behind 0 (8 - gone) (omega arith) (omega arith) (omega (arith, q)) in
      let c : 8 - gone ≤ first test behind = omega (arith, b) in
      let n : place + gone + (8 - gone) ≡ place + 8 = omega arith in
      let e : find sep behind ≡ 8 - gone + find sep (drop (place + 8) l)
      = sym (first_same sep behind) ∙ first_from test behind (8 - gone) c
      ∙ ap (λ (x : List ℕ). 8 - gone + first test x) (drop-drop (8 - gone) (place + gone) l ∙ ap (λ (x : ℕ). drop x l) n)
      ∙ ap (λ (x : ℕ). 8 - gone + x) (first_same sep (drop (place + 8) l)) in
      omega (arith, e)

-- the marks that are left of a word, with the walk behind the others
pub record Left (sep : ℕ) (l : List ℕ) (count place found : ℕ) (ends : List ℕ) : Type 0 where
  pub gone : ℕ
  pub few : gone ≤ 8
  pub marked : found ≡ marks_from (either sep sep) gone (take 8 (drop place l))
  pub reached : Reached sep l count (place + gone) ends

module _ (sep : ℕ) (l : List ℕ) (count place found : ℕ) (ends : List ℕ) where
  pub left_all : Marked sep l place found → Reached sep l count place ends → Left sep l count place found ends
  left_all m r =
      let z : place ≡ place + 0 = omega arith in
      record {
        gone = 0;
        few = omega arith;
        marked = m.1 ∙ from_all (either sep sep) (take 8 (drop place l));
        reached = subst (λ (x : ℕ). Reached sep l count x ends) z r;
      }

  module _ (h : place + 8 ≤ length l) (left : Left sep l count place found ends) where
    abbrev eight : List ℕ
    eight = take 8 (drop place l)

    pub left_none : found ≡ 0 → Reached sep l count (place + 8) ends
    left_none z =
        let e = from_none (either sep sep) left.gone eight (sym left.marked ∙ z) in
        reached_on sep l ends count (place + left.gone) (place + 8) left.reached (word_none sep l place left.gone h left.few e)

    module _ (some : found ≡ 0 → ⊥) where
      some_behind : first (either sep sep) (drop left.gone eight) < length (drop left.gone eight)
      some_behind = from_some (either sep sep) left.gone eight (λ z. some (left.marked ∙ z))

      lowest : count_trailing_zeros 64 found / 8 ≡ left.gone + first (either sep sep) (drop left.gone eight)
      lowest =
          let f = left.few in
          let n = word_long sep l place left.gone h left.few in
          let e : 64 ≡ length eight * 8 = omega arith in
          ap₂ (λ (k x : ℕ). count_trailing_zeros k x / 8) e left.marked ∙ from_first (either sep sep) left.gone eight (omega arith)

      pub mark_low : count_trailing_zeros 64 found / 8 < 8
      mark_low = let e = lowest in let w = word_within sep l place left.gone h left.few some_behind in omega arith

      -- the lowest is noted and taken away
      pub left_next : length ends ≡ 16 → count < 16
          → Left sep l (count + 1) place (bit_and found (found - 1)) (set ends count (place + count_trailing_zeros 64 found / 8))
      left_next n i =
          let e = lowest in
          let w = mark_low in
          let s = word_some sep l place left.gone h left.few some_behind in
          let q : place + count_trailing_zeros 64 found / 8 ≡ place + left.gone + find sep (drop (place + left.gone) l) = omega arith in
          let k : place + count_trailing_zeros 64 found / 8 + 1 ≡ place + (left.gone + first (either sep sep) (drop left.gone eight) + 1) = omega arith in
          record {
            gone = left.gone + first (either sep sep) (drop left.gone eight) + 1;
            few = omega arith;
            marked = ap (λ (x : ℕ). bit_and x (x - 1)) left.marked ∙ from_clear (either sep sep) left.gone eight some_behind;
            reached = subst (λ (x : ℕ). Reached sep l (count + 1) x (set ends count (place + count_trailing_zeros 64 found / 8))) k
                (reached_more sep l ends count (place + left.gone) (place + count_trailing_zeros 64 found / 8) n i left.reached q (omega arith));
          }

-- ---- the part between two noted ends

module _ (sep most : ℕ) (l ends : List ℕ) (noted : Noted sep l most ends) where
  pub noted_part : (index : ℕ) → index ≤ most → index < 16 → (index ≡ 0 → ⊥)
      → (get_or ends index 0 ≤ length l) × (cut_out l (get_or ends (index - 1) 0) (get_or ends index 0) ≡ get_or (split sep l) index [])
  noted_part zero i j n = absurd (n refl)
  noted_part (suc k) i j n =
      let e = noted (suc k) i j in
      let z : suc k - 1 ≡ k = omega arith in
      let b = ap (λ (x : ℕ). get_or ends x 0) z ∙ noted k (omega arith) (omega arith) in
      let u = end_le sep l (suc k) in
      (omega (arith, e, u), ap₂ (cut_out l) b e ∙ sym (part_cut sep l k))

-- ---- the tests of the code

-- where a place is not told to be out of room
pub in_room : (index : ℕ) → (eqb index 0 || leb 16 index) ≡ false → (1 ≤ index) × (index < 16)
in_room index e =
    let h = or_neither (eqb index 0) (leb 16 index) e in
    let n = eqb-false index 0 h.0 in
    (some index n, leb-false 16 index h.1)
  where
    some : (i : ℕ) → (i ≡ 0 → ⊥) → 1 ≤ i
    some zero z = absurd (z refl)
    some (suc i) z = omega arith

pub out_of_room : (index : ℕ) → (eqb index 0 || leb 16 index) ≡ true → index < 16 → (index ≡ 0 → ⊥) → ⊥
out_of_room index e h n = at (eqb index 0) refl e
  where
    at : (t : Bool) → eqb index 0 ≡ t → (t || leb 16 index) ≡ true → ⊥
    at true q e = n (eqb-true index 0 q)
    at false q e = let l = leb-true 16 index e in absurd (omega arith)

-- where an end is told to be behind the one before it, within the bytes
pub is_behind : (b e n : ℕ) → (leb e b || ltb n e) ≡ false → (b < e) × (e ≤ n)
is_behind b e n q =
    let h = or_neither (leb e b) (ltb n e) q in
    (leb-false e b h.0, ltb-false n e h.1)

pub not_behind : (b e n : ℕ) → (leb e b || ltb n e) ≡ true → e ≤ n → e ≤ b
not_behind b e n q h = at (leb e b) refl q
  where
    at : (t : Bool) → leb e b ≡ t → (t || ltb n e) ≡ true → e ≤ b
    at true z q = leb-true e b z
    at false z q = let l = ltb-true n e q in absurd (omega arith)

-- while there is an end to note
pub goes_on : (k most : ℕ) → (leb k most && ltb k 16) ≡ true → (k ≤ most) × (k < 16)
goes_on k most e =
    let h = and_both (leb k most) (ltb k 16) e in
    (leb-true k most h.0, ltb-true k 16 h.1)

-- and none
pub all_noted : (n most : ℕ) → (leb n most && ltb n 16) ≡ false → (k : ℕ) → k ≤ most → k < 16 → k < n
all_noted n most e k i j = at (leb n k) refl
  where
    at : (t : Bool) → leb n k ≡ t → k < n
    at false q = leb-false n k q
    at true q = let h = leb-true n k q in false_true (sym e ∙ both_and (le-leb n most (omega arith)) (lt-ltb n 16 (omega arith)))
