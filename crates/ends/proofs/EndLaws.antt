-- Where parts end: each part stands behind the end of the one before it, and a separator stands at each end but the last. Assumes nothing.
use mathlib.Core.Path.{◌≡◌, refl, sym, ap, ◌∙◌}
use mathlib.Core.Bool.{Bool, true, false, cond}
use mathlib.Core.List.{List, [], ◌∷◌, ◌++◌}
use Prim.Native.Nat.{ℕ, zero, suc, ◌+◌, ◌-◌, ◌≤◌, ◌<◌}
use native.Mathlib.Omega.{arith}
use lib.Dec.{leb, ltb, eqb}
use lib.ListN.{length, get_or, take, drop, length-drop, drop_of_length-le}
use lib.Seq.{take-nil, take-suc, take-add, drop-drop, get_or-drop}
use borrow.Author.Tests.{leb-true, leb-false, le-leb, lt-leb, ltb-true, ltb-false, lt-ltb, le-ltb}
use Rattle.alphabet.specs.Lists.{find}
use Rattle.alphabet.specs.Parts.{split}
use Rattle.alphabet.proofs.ListLaws.{first_le, find_is, piece_of_piece}
use Rattle.alphabet.proofs.PartLaws.{split_step, split_last, first_part}
use Rattle.ends.specs.Ends.{next_end, part_end, cut_out}

module _ (sep : ℕ) (l : List ℕ) where
  -- ---- the next end

  pub next_last : (e : ℕ) → length l ≤ e → next_end sep l e ≡ length l
  unfolding next_end
  next_last e h = rw (le-leb (length l) e h)

  pub next_more : (e : ℕ) → e < length l → next_end sep l e ≡ e + 1 + find sep (drop (e + 1) l)
  unfolding next_end
  next_more e h = rw (lt-leb (length l) e h)

  next_le : (e : ℕ) → next_end sep l e ≤ length l
  next_le e = at (leb (length l) e) refl
    where
      at : (t : Bool) → leb (length l) e ≡ t → next_end sep l e ≤ length l
      at true t = let q = next_last e (leb-true (length l) e t) in omega arith
      at false t =
          let h = leb-false (length l) e t in
          let q = next_more e h in
          let u = first_le (eqb sep) (drop (e + 1) l) in
          let d = length-drop (e + 1) l in
          omega arith

  -- ---- the ends

  pub end_next : (k : ℕ) → part_end sep l (suc k) ≡ next_end sep l (part_end sep l k)
  unfolding part_end
  end_next k = refl

  pub end_le : (k : ℕ) → part_end sep l k ≤ length l
  unfolding part_end
  end_le zero = first_le (eqb sep) l
  end_le (suc k) = next_le (part_end sep l k)

  -- an end before the last stands behind the one before it
  pub end_rises : (k : ℕ) → part_end sep l (suc k) < length l → part_end sep l k < part_end sep l (suc k)
  end_rises k h = at (leb (length l) (part_end sep l k)) refl
    where
      at : (t : Bool) → leb (length l) (part_end sep l k) ≡ t → part_end sep l k < part_end sep l (suc k)
      at true t = let q = end_next k ∙ next_last (part_end sep l k) (leb-true (length l) (part_end sep l k) t) in absurd (omega arith)
      at false t = let q = end_next k ∙ next_more (part_end sep l k) (leb-false (length l) (part_end sep l k) t) in omega arith

  -- and the separator stands there
  pub end_mark : (k : ℕ) → part_end sep l k < length l → get_or l (part_end sep l k) 0 ≡ sep
  unfolding part_end
  end_mark zero h = find_is sep l h
  end_mark (suc k) h =
      let e = part_end sep l k in
      let r = end_rises k h in
      let q = next_more e (omega arith) in
      let d = length-drop (e + 1) l in
      ap (λ (i : ℕ). get_or l i 0) q ∙ sym (get_or-drop (e + 1) l (find sep (drop (e + 1) l)) 0) ∙ find_is sep (drop (e + 1) l) (omega arith)

  -- ---- the parts behind an end

  step : (x : List ℕ) (j : ℕ) → get_or (split sep x) (suc j) [] ≡ cond (ltb (find sep x) (length x)) (get_or (split sep (drop (find sep x + 1) x)) j []) []
  step x j = at (ltb (find sep x) (length x)) refl
    where
      at : (t : Bool) → ltb (find sep x) (length x) ≡ t → get_or (split sep x) (suc j) [] ≡ cond t (get_or (split sep (drop (find sep x + 1) x)) j []) []
      at true t = ap (λ (ps : List (List ℕ)). get_or ps (suc j) []) (split_step sep x (ltb-true (find sep x) (length x) t))
      at false t = ap (λ (ps : List (List ℕ)). get_or ps (suc j) []) (split_last sep x (ltb-false (find sep x) (length x) t))

  behind : ℕ → ℕ → List ℕ
  behind e j = cond (ltb e (length l)) (get_or (split sep (drop (e + 1) l)) j []) []

  behind_next : (e j : ℕ) → behind e (suc j) ≡ behind (next_end sep l e) j
  unfolding behind
  behind_next e j = at (ltb e (length l)) refl
    where
      x : List ℕ
      x = drop (e + 1) l

      at : (t : Bool) → ltb e (length l) ≡ t → cond t (get_or (split sep x) (suc j) []) [] ≡ cond (ltb (next_end sep l e) (length l)) (get_or (split sep (drop (next_end sep l e + 1) l)) j []) []
      at false t =
          let h = ltb-false e (length l) t in
          let q = next_last e h in
          rw (le-ltb (next_end sep l e) (length l) (omega arith))
      at true t =
          let h = ltb-true e (length l) t in
          let q = next_more e h in
          let d = length-drop (e + 1) l in
          let n : e + 1 + (find sep x + 1) ≡ e + 1 + find sep x + 1 = omega arith in
          step x j ∙ rw q (by (ltb (find sep x) (length x)) refl)
        where
          by : (u : Bool) → ltb (find sep x) (length x) ≡ u
              → cond u (get_or (split sep (drop (find sep x + 1) x)) j []) [] ≡ cond (ltb (e + 1 + find sep x) (length l)) (get_or (split sep (drop (e + 1 + find sep x + 1) l)) j []) []
          by true u =
              let v = ltb-true (find sep x) (length x) u in
              let d = length-drop (e + 1) l in
              let n : e + 1 + (find sep x + 1) ≡ e + 1 + find sep x + 1 = omega arith in
              rw (lt-ltb (e + 1 + find sep x) (length l) (omega arith)) (ap (λ (y : List ℕ). get_or (split sep y) j []) (drop-drop (find sep x + 1) (e + 1) l ∙ ap (λ (i : ℕ). drop i l) n))
          by false u =
              let v = ltb-false (find sep x) (length x) u in
              let d = length-drop (e + 1) l in
              let h = ltb-true e (length l) t in
              rw (le-ltb (e + 1 + find sep x) (length l) (omega arith))

  parts_behind : (k j : ℕ) → get_or (split sep l) (suc k + j) [] ≡ behind (part_end sep l k) j
  unfolding part_end behind
  parts_behind zero j = let n : suc 0 + j ≡ suc j = omega arith in ap (λ (i : ℕ). get_or (split sep l) i []) n ∙ step l j
  parts_behind (suc k) j =
      let n : suc (suc k) + j ≡ suc k + suc j = omega arith in
      ap (λ (i : ℕ). get_or (split sep l) i []) n ∙ parts_behind k (suc j) ∙ behind_next (part_end sep l k) j

  -- a part stands behind the end of the one before it
  pub part_cut : (k : ℕ) → get_or (split sep l) (suc k) [] ≡ cut_out l (part_end sep l k) (part_end sep l (suc k))
  unfolding behind
  part_cut k =
      let n : suc k ≡ suc k + 0 = omega arith in
      ap (λ (i : ℕ). get_or (split sep l) i []) n ∙ parts_behind k 0 ∙ at (ltb e (length l)) refl
    where
      e : ℕ
      e = part_end sep l k

      at : (t : Bool) → ltb e (length l) ≡ t → cond t (get_or (split sep (drop (e + 1) l)) 0 []) [] ≡ cut_out l e (part_end sep l (suc k))
      at true t =
          let q = end_next k ∙ next_more e (ltb-true e (length l) t) in
          let n : find sep (drop (e + 1) l) ≡ part_end sep l (suc k) - (e + 1) = omega arith in
          first_part sep (drop (e + 1) l) ∙ ap (λ (i : ℕ). take i (drop (e + 1) l)) n
      at false t =
          let h = ltb-false e (length l) t in
          let g : length l ≤ e + 1 = omega arith in
          sym (ap (take (part_end sep l (suc k) - (e + 1))) (drop_of_length-le l g) ∙ take-nil (part_end sep l (suc k) - (e + 1)))

-- ---- what is cut out

module _ (h : List ℕ) where
  -- with the byte behind it
  pub cut_more : (b e : ℕ) → b < e → e < length h → cut_out h b (e + 1) ≡ cut_out h b e ++ (get_or h e 0 ∷ [])
  cut_more b e i j =
      let n : e + 1 - (b + 1) ≡ suc (e - (b + 1)) = omega arith in
      let d = length-drop (b + 1) h in
      let k : b + 1 + (e - (b + 1)) ≡ e = omega arith in
      ap (λ (x : ℕ). take x (drop (b + 1) h)) n ∙ take-suc (drop (b + 1) h) (e - (b + 1)) 0 (omega arith)
      ∙ ap (λ (x : ℕ). cut_out h b e ++ (x ∷ [])) (get_or-drop (b + 1) h (e - (b + 1)) 0 ∙ ap (λ (x : ℕ). get_or h x 0) k)

  -- in two
  pub cut_two : (b c e : ℕ) → b < c → c < e → cut_out h b e ≡ cut_out h b (c + 1) ++ cut_out h c e
  cut_two b c e i j =
      let n : e - (b + 1) ≡ c + 1 - (b + 1) + (e - (c + 1)) = omega arith in
      let k : b + 1 + (c + 1 - (b + 1)) ≡ c + 1 = omega arith in
      ap (λ (x : ℕ). take x (drop (b + 1) h)) n ∙ take-add (c + 1 - (b + 1)) (e - (c + 1)) (drop (b + 1) h)
      ∙ ap (λ (x : List ℕ). cut_out h b (c + 1) ++ take (e - (c + 1)) x) (drop-drop (c + 1 - (b + 1)) (b + 1) h ∙ ap (λ (x : ℕ). drop x h) k)

  -- of the front of a list
  pub cut_front : (n b e : ℕ) → e ≤ n → cut_out (take n h) b e ≡ cut_out h b e
  cut_front n b e i = at (leb (b + 1) e) refl
    where
      at : (t : Bool) → leb (b + 1) e ≡ t → cut_out (take n h) b e ≡ cut_out h b e
      at true t =
          let j = leb-true (b + 1) e t in
          let z : 0 + (b + 1) ≡ b + 1 = omega arith in
          piece_of_piece h 0 n (b + 1) (e - (b + 1)) (omega arith) ∙ ap (λ (x : ℕ). take (e - (b + 1)) (drop x h)) z
      at false t =
          let j = leb-false (b + 1) e t in
          let z : e - (b + 1) ≡ 0 = omega arith in
          ap (λ (x : ℕ). take x (drop (b + 1) (take n h))) z ∙ sym (ap (λ (x : ℕ). take x (drop (b + 1) h)) z)
