-- A buffer that is filled from its front: W is what is to be written, d₀ the buffer as it was, rest what is still to come, d the buffer now and o the place
-- of the next byte. Assumes nothing.
use mathlib.Core.Path.{◌≡◌, refl, sym, ap, ◌∙◌}
use mathlib.Core.List.{List, [], ◌∷◌, ◌++◌, append_assoc, append-nil}
use Prim.Native.Nat.{ℕ, suc, ◌+◌, ◌-◌, ◌≤◌, ◌<◌}
use native.Mathlib.Omega.{arith}
use lib.ListN.{length, get_or, take, drop, set, take-append-drop, length-append, length-drop, length-set}
use lib.Seq.{take_at, drop_at, drop-drop, take-take, take-add, take_all, take-suc, take-suc-set, take-append-add, get_or-drop, length-take-le, set_split}
use lib.Seq.{append_snoc, paste, paste-suc, take-paste, drop-paste, take-length}
use native.Mathlib.Numerals.{add-one}
use borrow.Author.Tests.{le-leb, lt-leb}
use Rattle.alphabet.specs.Filling.{over, pasted, put_at, behind}

pub record Filling (W d₀ rest d : List ℕ) (o : ℕ) : Type 0 where
  pub front : List ℕ
  pub whole : W ≡ front ++ rest
  pub size : length front ≡ o
  pub holds : d ≡ front ++ drop o d₀

pub fill_start : (W d₀ : List ℕ) → Filling W d₀ W d₀ 0
fill_start W d₀ = record { front = []; whole = refl; size = refl; holds = refl }

pub fill_more : {W d₀ rest₀ d : List ℕ} {o : ℕ} (xs rest d' : List ℕ) (o' : ℕ) → Filling W d₀ rest₀ d o → rest₀ ≡ xs ++ rest → d' ≡ pasted d o xs → o' ≡ o + length xs → Filling W d₀ rest d' o'
fill_more {W} {d₀} {rest₀} {d} {o} xs rest d' o' f e e' eo =
    record {
      front = f.front ++ xs;
      whole = f.whole ∙ ap (λ (l : List ℕ). f.front ++ l) e ∙ sym (append_assoc f.front xs rest);
      size = length-append f.front xs ∙ ap (λ (k : ℕ). k + length xs) f.size ∙ sym eo;
      holds = e' ∙ ap (λ (l : List ℕ). l ++ xs ++ drop (o + length xs) d) kept ∙ ap (λ (l : List ℕ). f.front ++ xs ++ l) behind
          ∙ ap (λ (k : ℕ). f.front ++ xs ++ drop k d₀) (sym eo);
    }
  where
    kept : take o d ≡ f.front
    kept = ap (take o) f.holds ∙ take_at f.front (drop o d₀) o f.size

    behind : drop (o + length xs) d ≡ drop (o + length xs) d₀
    behind =
        sym (drop-drop (length xs) o d) ∙ ap (λ (l : List ℕ). drop (length xs) (drop o l)) f.holds
        ∙ ap (drop (length xs)) (drop_at f.front (drop o d₀) o f.size) ∙ drop-drop (length xs) o d₀

pub fill_room : {W d₀ rest d : List ℕ} {o : ℕ} → Filling W d₀ rest d o → o + length rest ≡ length W
fill_room {W} {d₀} {rest} {d} {o} f = ap (λ (k : ℕ). k + length rest) (sym f.size) ∙ sym (length-append f.front rest) ∙ ap length (sym f.whole)

pub fill_length : {W d₀ rest d : List ℕ} {o : ℕ} → Filling W d₀ rest d o → length W ≤ length d₀ → length d ≡ length d₀
fill_length {W} {d₀} {rest} {d} {o} f h =
    let r = fill_room f in
    let l = length-append f.front (drop o d₀) in
    let k = length-drop o d₀ in
    let n = ap length f.holds in
    let s = f.size in
    omega arith

pub fill_end : {W d₀ rest d : List ℕ} {o : ℕ} → Filling W d₀ rest d o → rest ≡ [] → d ≡ over W d₀
fill_end {W} {d₀} {rest} {d} {o} f e =
    let w : W ≡ f.front = f.whole ∙ ap (λ (l : List ℕ). f.front ++ l) e ∙ append-nil f.front in
    f.holds ∙ ap (λ (l : List ℕ). l ++ drop o d₀) (sym w) ∙ ap (λ (k : ℕ). W ++ drop k d₀) (sym f.size ∙ ap length (sym w))

-- from a place on
pub fill_from : (W d : List ℕ) (at : ℕ) → at ≤ length d → Filling (take at d ++ W) d W d at
fill_from W d at h = record { front = take at d; whole = refl; size = length-take-le at d h; holds = sym (take-append-drop at d) }

pub fill_from_end : (W : List ℕ) (at : ℕ) {d rest d' : List ℕ} {o : ℕ} → Filling (take at d ++ W) d rest d' o → at ≤ length d → rest ≡ [] → (o ≡ at + length W) × (d' ≡ pasted d at W)
fill_from_end W at {d} {rest} {d'} {o} f h e =
    let n : length (take at d ++ W) ≡ at + length W = length-append (take at d) W ∙ ap (λ (k : ℕ). k + length W) (length-take-le at d h) in
    let r = fill_room f in
    let z = ap length e in
    (omega arith, fill_end f e ∙ ap (λ (k : ℕ). take at d ++ W ++ drop k d) n)

-- one byte
pub set_pasted : (d : List ℕ) (o v : ℕ) → o < length d → set d o v ≡ pasted d o (v ∷ [])
set_pasted d o v h = set_split d o v h ∙ sym (append_snoc (take o d) v (drop (suc o) d)) ∙ ap (λ (k : ℕ). take o d ++ (v ∷ []) ++ drop k d) (sym (add-one o))

-- ---- bytes that are set one behind another

next_set : {W d rest d' : List ℕ} {o : ℕ} (v p : ℕ) → Filling W d (v ∷ rest) d' o → o < length d → length d' ≡ length d → p ≡ o + 1
    → Filling W d rest (set d' o v) p × (length (set d' o v) ≡ length d)
next_set {rest = rest} {d' = d'} {o = o} v p f h n e = (fill_more (v ∷ []) rest _ p f refl (set_pasted d' o v (omega arith)) e, simp length-set n)

module _ (d : List ℕ) (at : ℕ) where
  pub three_pasted : (x y z : ℕ) → at + 3 ≤ length d → set (set (set d at x) (at + 1) y) (at + 2) z ≡ pasted d at (x ∷ y ∷ z ∷ [])
  three_pasted x y z h =
      let f₁ = next_set x (at + 1) (fill_from (x ∷ y ∷ z ∷ []) d at (omega arith)) (omega arith) refl refl in
      let f₂ = next_set y (at + 2) f₁.0 (omega arith) f₁.1 (omega arith) in
      let f₃ = next_set z (at + 3) f₂.0 (omega arith) f₂.1 (omega arith) in
      (fill_from_end (x ∷ y ∷ z ∷ []) at f₃.0 (omega arith) refl).1

  pub five_pasted : (x y z v w : ℕ) → at + 5 ≤ length d
      → set (set (set (set (set d at x) (at + 1) y) (at + 2) z) (at + 3) v) (at + 4) w ≡ pasted d at (x ∷ y ∷ z ∷ v ∷ w ∷ [])
  five_pasted x y z v w h =
      let f₁ = next_set x (at + 1) (fill_from (x ∷ y ∷ z ∷ v ∷ w ∷ []) d at (omega arith)) (omega arith) refl refl in
      let f₂ = next_set y (at + 2) f₁.0 (omega arith) f₁.1 (omega arith) in
      let f₃ = next_set z (at + 3) f₂.0 (omega arith) f₂.1 (omega arith) in
      let f₄ = next_set v (at + 4) f₃.0 (omega arith) f₃.1 (omega arith) in
      let f₅ = next_set w (at + 5) f₄.0 (omega arith) f₄.1 (omega arith) in
      (fill_from_end (x ∷ y ∷ z ∷ v ∷ w ∷ []) at f₅.0 (omega arith) refl).1

-- ---- copies

pub put_step : (d₀ s d : List ℕ) (at j o : ℕ) → o ≡ at + j → d ≡ paste d₀ at s j → at + j < length d₀ → j < length s → set d o (get_or s j 0) ≡ paste d₀ at s (j + 1)
put_step d₀ s d at j o eo ed hd hs =
    ap (λ (k : ℕ). set d k (get_or s j 0)) eo ∙ ap (λ (l : List ℕ). set l (at + j) (get_or s j 0)) ed
    ∙ paste-suc d₀ at s j 0 hd hs ∙ ap (paste d₀ at s) (sym (add-one j))

pub put_end : (d s : List ℕ) (at j : ℕ) → j ≡ length s → paste d at s j ≡ pasted d at s
put_end d s at j e = ap (paste d at s) e ∙ ap (λ (l : List ℕ). take at d ++ l ++ drop (at + length s) d) (take-length s)

-- ---- copies of several bytes together: held first, and put over what may have been copied before

pub hold_step : (s h : List ℕ) (from i : ℕ) → take i h ≡ take i (drop from s) → i < length h → from + i < length s
    → take (i + 1) (set h i (get_or s (from + i) 0)) ≡ take (i + 1) (drop from s)
hold_step s h from i e k m =
    let b = get_or s (from + i) 0 in
    let n = length-drop from s in
    ap (λ (j : ℕ). take j (set h i b)) (add-one i) ∙ take-suc-set h i b k ∙ ap (λ (l : List ℕ). l ++ (b ∷ [])) e
    ∙ ap (λ (x : ℕ). take i (drop from s) ++ (x ∷ [])) (sym (get_or-drop from s i 0)) ∙ sym (take-suc (drop from s) i 0 (omega arith))
    ∙ ap (λ (j : ℕ). take j (drop from s)) (sym (add-one i))

pub hold_end : (h s : List ℕ) (n : ℕ) → take n h ≡ take n s → length h ≡ n → h ≡ take n s
hold_end h s n e k = sym (take_all n h (omega arith)) ∙ e

module _ (d s : List ℕ) (at i j k : ℕ) (before : j ≤ i) (past : i ≤ j + k) (inside : j + k ≤ length s) (room : at + length s ≤ length d) where
  abbrev some : List ℕ
  some = take k (drop j s)

  kept : take (at + j) (paste d at s i) ≡ take at d ++ take j s
  kept =
      let n : at ≡ length (take at d) = sym (length-take-le at d (omega arith)) in
      sym (take-take (at + j) (at + i) (paste d at s i) (omega arith)) ∙ ap (take (at + j)) (take-paste d at s i (omega arith) (omega arith))
      ∙ ap (λ (n : ℕ). take (n + j) (take at d ++ take i s)) n ∙ take-append-add (take at d) (take i s) j
      ∙ ap (λ (l : List ℕ). take at d ++ l) (take-take j i s (omega arith))

  stays : drop (at + j + length some) (paste d at s i) ≡ drop (at + (j + k)) d
  stays =
      let z = length-drop j s in
      let n = length-take-le k (drop j s) (omega arith) in
      let m = j + k - i in
      let e : at + j + length some ≡ at + i + m = omega arith in
      let f : at + i + m ≡ at + (j + k) = omega arith in
      ap (λ (n : ℕ). drop n (paste d at s i)) e ∙ sym (drop-drop m (at + i) (paste d at s i)) ∙ ap (drop m) (drop-paste d at s i (omega arith) (omega arith))
      ∙ drop-drop m (at + i) d ∙ ap (λ (n : ℕ). drop n d) f

  pub put_over : pasted (paste d at s i) (at + j) some ≡ paste d at s (j + k)
  put_over =
      ap (λ (l : List ℕ). l ++ some ++ drop (at + j + length some) (paste d at s i)) kept
      ∙ ap (λ (l : List ℕ). take at d ++ take j s ++ some ++ l) stays
      ∙ ap (λ (l : List ℕ). l ++ drop (at + (j + k)) d)
      (append_assoc (take at d) (take j s) some ∙ ap (λ (l : List ℕ). take at d ++ l) (sym (take-add j k s)))

-- so many bytes more, and the last of them
module _ (d s b b' : List ℕ) (at i k : ℕ) (copied : b ≡ paste d at s i) (room : at + length s ≤ length d) where
  pub put_more : i + k ≤ length s → b' ≡ pasted b (at + i) (take k (drop i s)) → b' ≡ paste d at s (i + k)
  put_more h e = e ∙ ap (λ (l : List ℕ). pasted l (at + i) (take k (drop i s))) copied ∙ put_over d s at i i k (omega arith) (omega arith) h room

  pub put_last : i ≤ length s → k ≤ length s → length s - i < k → b' ≡ pasted b (at + length s - k) (take k (drop (length s - k) s)) → b' ≡ paste d at s (length s)
  put_last h m w e =
      let j = length s - k in
      let o : at + length s - k ≡ at + j = omega arith in
      let n : j + k ≡ length s = omega arith in
      e ∙ ap (λ (x : ℕ). pasted b x (take k (drop j s))) o ∙ ap (λ (l : List ℕ). pasted l (at + j) (take k (drop j s))) copied
      ∙ put_over d s at i j k (omega arith) (omega arith) (omega arith) room ∙ ap (paste d at s) n

-- ---- where there is room, and where there is none

module _ (d s : List ℕ) (at : ℕ) where
  pub put_fits : at + length s ≤ length d → (behind (length d) at (length s) ≡ at + length s) × (put_at d at s ≡ pasted d at s)
  unfolding put_at behind
  put_fits h = (rw (le-leb (at + length s) (length d) h), rw (le-leb (at + length s) (length d) h))

  pub put_none : length d < at + length s → (behind (length d) at (length s) ≡ at) × (put_at d at s ≡ d)
  unfolding put_at behind
  put_none h = (rw (lt-leb (at + length s) (length d) h), rw (lt-leb (at + length s) (length d) h))
