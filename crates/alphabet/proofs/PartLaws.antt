-- Laws of splitting, over the separator: what one step along the bytes does, where the k-th part stands, and that splitting and joining undo each other.
-- Every level and the segments cite these. Assumes nothing.
use mathlib.Core.Path.{◌≡◌, refl, sym, ap, ◌∙◌}
use mathlib.Core.List.{List, [], ◌∷◌, ◌++◌, append-nil}
use mathlib.Core.Bool.{Bool, true, false, cond}
use mathlib.Core.Logic.{◌⊎◌, inl, inr, ⊎_elim}
use Prim.Native.Nat.{ℕ, zero, suc, ◌+◌, ◌-◌, ◌≤◌, ◌<◌}
use native.Mathlib.Numerals.{add-one}
use native.Mathlib.Omega.{arith}
use lib.Dec.{eqb, ltb}
use lib.ListN.{length, get_or, take, drop, length-append, length-drop}
use lib.Seq.{drop-drop, drop-append-add, take-append_seam, take_all, length-take-le}
use borrow.Author.Tests.{ltb-true, ltb-false, lt-ltb, eqb-true, eq-eqb}
use Rattle.alphabet.specs.Lists.{first, find}
use Rattle.std.specs.Prelude.{Option, Some, None}
use Rattle.alphabet.specs.declared.parts.Part.{Part}
use Rattle.alphabet.specs.Parts.{grown, split, join, from_to, standing, part_at}
use Rattle.alphabet.proofs.ListLaws.{rest_of, first_le}

-- ---- a piece of a list that is put together of two

piece_front : (p r : List ℕ) (at s e : ℕ) → at ≡ s → at + length p ≡ e → take (e - s) (drop (s - at) (p ++ r)) ≡ p
piece_front p r at s e a b =
    let n : e - s ≡ length p = omega arith in
    let z : s - at ≡ 0 = omega arith in
    ap (λ (i : ℕ). take i (drop (s - at) (p ++ r))) n ∙ ap (λ (i : ℕ). take (length p) (drop i (p ++ r))) z ∙ take-append_seam p r

piece_behind : (p r : List ℕ) (b at s e : ℕ) → at + length p + 1 ≤ s
    → take (e - s) (drop (s - at) (p ++ b ∷ r)) ≡ take (e - s) (drop (s - (at + length p + 1)) r)
piece_behind p r b at s e h =
    let n : s - at ≡ length p + suc (s - (at + length p + 1)) = omega arith in
    ap (λ (i : ℕ). take (e - s) (drop i (p ++ b ∷ r))) n
    ∙ ap (take (e - s)) (drop-append-add p (b ∷ r) (suc (s - (at + length p + 1))))

-- two parts that are the same stand at the same places
start_or_0 : Option Part → ℕ
start_or_0 (Some part) = part.start
start_or_0 None = 0

end_or_0 : Option Part → ℕ
end_or_0 (Some part) = part.end
end_or_0 None = 0

pub part_same : {a b s e : ℕ} → from_to a b ≡ from_to s e → (a ≡ s) × (b ≡ e)
unfolding start_or_0 end_or_0
part_same q = (ap start_or_0 q, ap end_or_0 q)

module _ (sep : ℕ) where
  -- ---- one step: up to the first separator, and from behind it

  pub split_step : (l : List ℕ) → find sep l < length l → split sep l ≡ take (find sep l) l ∷ split sep (drop (find sep l + 1) l)
  unfolding split first
  split_step [] h = absurd (omega arith)
  split_step (b ∷ r) h = at (eqb sep b) (split_step r) h
    where
      at : (t : Bool) → (find sep r < length r → split sep r ≡ take (find sep r) r ∷ split sep (drop (find sep r + 1) r)) → cond t 0 (suc (find sep r)) < suc (length r)
          → cond t ([] ∷ split sep r) (grown b (split sep r)) ≡ take (cond t 0 (suc (find sep r))) (b ∷ r) ∷ split sep (drop (cond t 0 (suc (find sep r)) + 1) (b ∷ r))
      at true ih h = refl
      at false ih h = rw (ih (omega arith), add-one (find sep r), add-one (suc (find sep r)))

  pub split_last : (l : List ℕ) → length l ≤ find sep l → split sep l ≡ l ∷ []
  unfolding split first
  split_last [] h = refl
  split_last (b ∷ r) h = at (eqb sep b) (split_last r) h
    where
      at : (t : Bool) → (length r ≤ find sep r → split sep r ≡ r ∷ []) → suc (length r) ≤ cond t 0 (suc (find sep r))
          → cond t ([] ∷ split sep r) (grown b (split sep r)) ≡ (b ∷ r) ∷ []
      at true ih h = absurd (omega arith)
      at false ih h = rw (ih (omega arith))

  -- ---- a part without the separator, in front of one or alone

  pub free_find : (p r : List ℕ) → find sep p ≡ length p → find sep (p ++ sep ∷ r) ≡ length p
  unfolding first
  free_find [] r e = rw (eq-eqb sep sep refl)
  free_find (b ∷ p) r e = at (eqb sep b) (free_find p r) e
    where
      at : (t : Bool) → (find sep p ≡ length p → find sep (p ++ sep ∷ r) ≡ length p) → cond t 0 (suc (find sep p)) ≡ suc (length p)
          → cond t 0 (suc (find sep (p ++ sep ∷ r))) ≡ suc (length p)
      at true ih e = absurd (omega arith)
      at false ih e = ap suc (ih (omega arith))

  pub split_cons : (p r : List ℕ) → find sep p ≡ length p → split sep (p ++ sep ∷ r) ≡ p ∷ split sep r
  split_cons p r e =
      let f = free_find p r e in
      let n = length-append p (sep ∷ r) in
      split_step (p ++ sep ∷ r) (omega arith)
      ∙ ap (λ (i : ℕ). take i (p ++ sep ∷ r) ∷ split sep (drop (i + 1) (p ++ sep ∷ r))) f
      ∙ ap (λ (q : List ℕ). q ∷ split sep (drop (length p + 1) (p ++ sep ∷ r))) (take-append_seam p (sep ∷ r))
      ∙ ap (λ (q : List ℕ). p ∷ split sep q) (drop-append-add p (sep ∷ r) 1)

  -- ---- there is a part, and no part holds the separator

  pub split_some : (l : List ℕ) → 1 ≤ length (split sep l)
  unfolding split
  split_some [] = omega arith
  split_some (b ∷ r) = at (eqb sep b) (split sep r)
    where
      at : (t : Bool) (ps : List (List ℕ)) → 1 ≤ length (cond t ([] ∷ ps) (grown b ps))
      at true ps = omega arith
      at false [] = omega arith
      at false (p ∷ ps) = omega arith

  pub split_free : (l : List ℕ) (k : ℕ) → k < length (split sep l) → find sep (get_or (split sep l) k []) ≡ length (get_or (split sep l) k [])
  unfolding split first
  split_free [] zero h = refl
  split_free [] (suc k) h = absurd (omega arith)
  split_free (b ∷ r) k h = at (eqb sep b) refl (split sep r) (λ j. split_free r j) k h
    where
      at : (t : Bool) → eqb sep b ≡ t → (ps : List (List ℕ)) → ((j : ℕ) → j < length ps → find sep (get_or ps j []) ≡ length (get_or ps j [])) → (k : ℕ)
          → k < length (cond t ([] ∷ ps) (grown b ps)) → find sep (get_or (cond t ([] ∷ ps) (grown b ps)) k []) ≡ length (get_or (cond t ([] ∷ ps) (grown b ps)) k [])
      at true e ps ih zero h = refl
      at true e ps ih (suc k) h = ih k (omega arith)
      at false e [] ih zero h = rw e
      at false e [] ih (suc k) h = absurd (omega arith)
      at false e (p ∷ ps) ih zero h = rw e (ap suc (ih 0 (omega arith)))
      at false e (p ∷ ps) ih (suc k) h = ih (suc k) h

  -- ---- splitting and joining undo each other

  pub join_split : (l : List ℕ) → join sep (split sep l) ≡ l
  unfolding split join
  join_split [] = refl
  join_split (b ∷ r) = at (eqb sep b) refl (split sep r) (split_some r) (join_split r)
    where
      at : (t : Bool) → eqb sep b ≡ t → (ps : List (List ℕ)) → 1 ≤ length ps → join sep ps ≡ r → join sep (cond t ([] ∷ ps) (grown b ps)) ≡ b ∷ r
      at t e [] h q = absurd (omega arith)
      at true e (p ∷ ps) h q = rw (q, eqb-true sep b e)
      at false e (p ∷ []) h q = rw q
      at false e (p ∷ p' ∷ ps) h q = rw q

  pub split_join : (ps : List (List ℕ)) → 1 ≤ length ps → ((k : ℕ) → k < length ps → find sep (get_or ps k []) ≡ length (get_or ps k [])) → split sep (join sep ps) ≡ ps
  unfolding join
  split_join [] h free = absurd (omega arith)
  split_join (p ∷ []) h free = let e = free 0 (omega arith) in split_last p (omega arith)
  split_join (p ∷ q ∷ ps) h free =
      split_cons p (join sep (q ∷ ps)) (free 0 (omega arith))
      ∙ ap (λ (r : List (List ℕ)). p ∷ r) (split_join (q ∷ ps) (omega arith) (λ k. λ (l : k < length (q ∷ ps)). free (suc k) (omega arith)))

  -- ---- where parts stand: the first, one past it, and none behind the last

  pub standing_first : (at : ℕ) (l : List ℕ) → standing at (split sep l) 0 ≡ from_to at (at + find sep l)
  unfolding standing
  standing_first at l = by (ltb (find sep l) (length l)) refl
    where
      by : (t : Bool) → ltb (find sep l) (length l) ≡ t → standing at (split sep l) 0 ≡ from_to at (at + find sep l)
      by true e =
          let h = ltb-true (find sep l) (length l) e in
          rw (split_step l h) (ap (λ (n : ℕ). from_to at (at + n)) (length-take-le (find sep l) l (first_le (eqb sep) l)))
      by false e =
          let h = ltb-false (find sep l) (length l) e in
          let u = first_le (eqb sep) l in
          let n : length l ≡ find sep l = omega arith in
          rw (split_last l h) (ap (λ (n : ℕ). from_to at (at + n)) n)

  pub standing_none : (at : ℕ) (l : List ℕ) (k : ℕ) → length l ≤ find sep l → standing at (split sep l) (k + 1) ≡ None
  unfolding standing
  standing_none at l k h = rw (split_last l h, add-one k)

  -- ---- a walk along the bytes of l: from `start`, with the next separator n bytes on

  pub split_walk : (l : List ℕ) (start n : ℕ) → n ≡ find sep (drop start l) → n < length (drop start l)
      → split sep (drop start l) ≡ take n (drop start l) ∷ split sep (drop (start + n + 1) l)
  split_walk l start n e h =
      let m : start + (find sep (drop start l) + 1) ≡ start + n + 1 = omega arith in
      split_step (drop start l) (omega arith)
      ∙ ap (λ (i : ℕ). take i (drop start l) ∷ split sep (drop (find sep (drop start l) + 1) (drop start l))) (sym e)
      ∙ ap (λ (q : List ℕ). take n (drop start l) ∷ split sep q) (drop-drop (find sep (drop start l) + 1) start l ∙ ap (λ (i : ℕ). drop i l) m)

  pub standing_walk : (l : List ℕ) (start n k : ℕ) → n ≡ find sep (drop start l) → n < length (drop start l)
      → standing start (split sep (drop start l)) (k + 1) ≡ standing (start + n + 1) (split sep (drop (start + n + 1) l)) k
  unfolding standing
  standing_walk l start n k e h =
      rw (split_walk l start n e h, add-one k)
      (ap (λ (m : ℕ). standing (start + m + 1) (split sep (drop (start + n + 1) l)) k) (length-take-le n (drop start l) (omega arith)))

  -- a part ends at the first separator from its start on, or where the whole does
  pub standing_end : (l : List ℕ) (start k s e : ℕ) → standing start (split sep (drop start l)) k ≡ from_to s e → e ≡ s + find sep (drop s l)
  standing_end l start zero s e q =
      let p = part_same (sym (standing_first start (drop start l)) ∙ q) in
      sym p.1 ∙ ap (λ (x : ℕ). x + find sep (drop x l)) p.0
  standing_end l start (suc k) s e q = at (ltb (find sep (drop start l)) (length (drop start l))) refl (standing_end l (start + find sep (drop start l) + 1) k s e)
    where
      next : standing start (split sep (drop start l)) (k + 1) ≡ from_to s e
      next = let n : k + 1 ≡ suc k = omega arith in ap (standing start (split sep (drop start l))) n ∙ q

      at : (t : Bool) → ltb (find sep (drop start l)) (length (drop start l)) ≡ t
          → (standing (start + find sep (drop start l) + 1) (split sep (drop (start + find sep (drop start l) + 1) l)) k ≡ from_to s e → e ≡ s + find sep (drop s l)) → e ≡ s + find sep (drop s l)
      at true t ih = ih (sym (standing_walk l start (find sep (drop start l)) k refl (ltb-true _ _ t)) ∙ next)
      at false t ih = let z : None ≡ from_to s e = sym (standing_none start (drop start l) k (ltb-false _ _ t)) ∙ next in absurd (let y : ◌≡◌ {A = ℕ} 0 1 = cc in omega arith)

  pub part_end : (l : List ℕ) (k s e : ℕ) → part_at sep l k ≡ from_to s e → e ≡ s + find sep (drop s l)
  unfolding part_at
  part_end l = standing_end l 0

  -- ---- what stands there

  join_one : (p : List ℕ) → join sep (p ∷ []) ≡ p
  unfolding join
  join_one p = refl

  join_more : (p q : List ℕ) (ps : List (List ℕ)) → join sep (p ∷ q ∷ ps) ≡ p ++ sep ∷ join sep (q ∷ ps)
  unfolding join
  join_more p q ps = refl

  -- of any parts that are joined: part k, where there is one, lies within the whole and is what the whole has there
  pub joined_part : (at : ℕ) (ps : List (List ℕ)) (k s e : ℕ) → standing at ps k ≡ from_to s e
      → (k < length ps) × (at ≤ s) × (s ≤ e) × (e ≤ at + length (join sep ps)) × (take (e - s) (drop (s - at) (join sep ps)) ≡ get_or ps k [])
  unfolding standing
  joined_part at [] k s e q = absurd (let z : ◌≡◌ {A = ℕ} 0 1 = cc in omega arith)
  joined_part at (p ∷ []) zero s e q =
      let a = (part_same q).0 in
      let b = (part_same q).1 in
      rw join_one
      (omega arith, omega arith, omega arith, omega arith, ap (λ (l : List ℕ). take (e - s) (drop (s - at) l)) (sym (append-nil p)) ∙ piece_front p [] at s e a b)
  joined_part at (p ∷ []) (suc k) s e q = absurd (let z : ◌≡◌ {A = ℕ} 0 1 = cc in omega arith)
  joined_part at (p ∷ p' ∷ ps) zero s e q =
      let a = (part_same q).0 in
      let b = (part_same q).1 in
      let n = length-append p (sep ∷ join sep (p' ∷ ps)) in
      rw join_more (omega arith, omega arith, omega arith, omega arith, piece_front p (sep ∷ join sep (p' ∷ ps)) at s e a b)
  joined_part at (p ∷ p' ∷ ps) (suc k) s e q =
      let i = joined_part (at + length p + 1) (p' ∷ ps) k s e q in
      let i0 = i.0 in
      let i1 = i.1 in
      let i2 = i.2 in
      let i3 = i.3 in
      let n = length-append p (sep ∷ join sep (p' ∷ ps)) in
      rw join_more (omega arith, omega arith, omega arith, omega arith, piece_behind p (join sep (p' ∷ ps)) sep at s e (omega arith) ∙ i.4)

  -- the last part, and it alone, ends where the whole does
  pub joined_end : (at : ℕ) (ps : List (List ℕ)) (k s e : ℕ) → standing at ps k ≡ from_to s e
      → ((k + 1 ≡ length ps) × (e ≡ at + length (join sep ps))) ⊎ ((k + 1 < length ps) × (e < at + length (join sep ps)))
  unfolding standing
  joined_end at [] k s e q = absurd (let z : ◌≡◌ {A = ℕ} 0 1 = cc in omega arith)
  joined_end at (p ∷ []) zero s e q = let b = (part_same q).1 in rw join_one (inl (omega arith, omega arith))
  joined_end at (p ∷ []) (suc k) s e q = absurd (let z : ◌≡◌ {A = ℕ} 0 1 = cc in omega arith)
  joined_end at (p ∷ p' ∷ ps) zero s e q =
      let b = (part_same q).1 in
      let n = length-append p (sep ∷ join sep (p' ∷ ps)) in
      rw join_more (inr (omega arith, omega arith))
  joined_end at (p ∷ p' ∷ ps) (suc k) s e q =
      let n = length-append p (sep ∷ join sep (p' ∷ ps)) in
      rw join_more
      (⊎_elim
      (λ w. let a = w.0 in let b = w.1 in inl (omega arith, omega arith))
      (λ w. let a = w.0 in let b = w.1 in inr (omega arith, omega arith))
      (joined_end (at + length p + 1) (p' ∷ ps) k s e q))

  -- a part lies within the bytes, and its bytes are exactly those
  pub part_bytes_lem : (l : List ℕ) (k s e : ℕ) → part_at sep l k ≡ from_to s e → (k < length (split sep l)) × (s ≤ e) × (e ≤ length l) × (take (e - s) (drop s l) ≡ get_or (split sep l) k [])
  unfolding part_at
  part_bytes_lem l k s e q =
      let i = joined_part 0 (split sep l) k s e q in
      let i3 : e ≤ 0 + length l = rw join_split at i.3 in
      let i4 : take (e - s) (drop (s - 0) l) ≡ get_or (split sep l) k [] = rw join_split at i.4 in
      let n : s ≡ s - 0 = omega arith in
      (i.0, i.2, omega arith, ap (λ (n : ℕ). take (e - s) (drop n l)) n ∙ i4)

-- absent exactly past the last part
pub standing_absent : (at : ℕ) (ps : List (List ℕ)) (k : ℕ) → length ps ≤ k → standing at ps k ≡ None
unfolding standing
standing_absent at [] k h = refl
standing_absent at (p ∷ ps) zero h = absurd (omega arith)
standing_absent at (p ∷ ps) (suc k) h = standing_absent (at + length p + 1) ps k (omega arith)

pub absent_past : (at : ℕ) (ps : List (List ℕ)) (k : ℕ) → standing at ps k ≡ None → length ps ≤ k
unfolding standing
absent_past at [] k q = omega arith
absent_past at (p ∷ ps) zero q = absurd (let z : ◌≡◌ {A = ℕ} 0 1 = cc in omega arith)
absent_past at (p ∷ ps) (suc k) q = let i = absent_past (at + length p + 1) ps k q in omega arith

-- ---- a walk as code makes it: from `start`, with the separator looked for in the rest of the slice

module _ (sep : ℕ) (l : List ℕ) (start n : ℕ) (inside : start ≤ length l) (found : n ≡ find sep (take (length l - start) (drop start l))) where
  place : n ≡ find sep (drop start l)
  place = found ∙ ap (find sep) (rest_of l start)

  -- the part ends within the bytes
  pub walk_in : start + n ≤ length l
  walk_in =
      let e = place in
      let u = first_le (eqb sep) (drop start l) in
      let d = length-drop start l in
      omega arith

  -- where it ends before them, the rest stands behind its separator
  pub walk_more : (start + n ≡ length l → ⊥) → split sep (drop start l) ≡ take (start + n - start) (drop start l) ∷ split sep (drop (start + n + 1) l)
  walk_more h =
      let i = walk_in in
      let d = length-drop start l in
      let k : start + n < length l = omega (arith, h) in
      let e : n ≡ start + n - start = omega arith in
      split_walk sep l start n place (omega arith)
      ∙ ap (λ (i : ℕ). take i (drop start l) ∷ split sep (drop (start + n + 1) l)) e

  -- and where it ends with them, it is the last
  pub walk_last : start + n ≡ length l → split sep (drop start l) ≡ take (start + n - start) (drop start l) ∷ []
  walk_last h =
      let e = place in
      let d = length-drop start l in
      split_last sep (drop start l) (omega arith)
      ∙ ap (λ (q : List ℕ). q ∷ []) (sym (take_all (start + n - start) (drop start l) (omega arith)))

-- ---- the first part

pub first_part : (sep : ℕ) (l : List ℕ) → get_or (split sep l) 0 [] ≡ take (find sep l) l
first_part sep l = at (ltb (find sep l) (length l)) refl
  where
    at : (t : Bool) → ltb (find sep l) (length l) ≡ t → get_or (split sep l) 0 [] ≡ take (find sep l) l
    at true e = ap (λ (ps : List (List ℕ)). get_or ps 0 []) (split_step sep l (ltb-true _ _ e))
    at false e =
        let h = ltb-false (find sep l) (length l) e in
        ap (λ (ps : List (List ℕ)). get_or ps 0 []) (split_last sep l h) ∙ sym (take_all (find sep l) l h)

-- there are more parts than one exactly where the first ends before the bytes do
pub more_parts : (sep : ℕ) (l : List ℕ) → ltb 1 (length (split sep l)) ≡ ltb (find sep l) (length l)
more_parts sep l = at (ltb (find sep l) (length l)) refl
  where
    at : (t : Bool) → ltb (find sep l) (length l) ≡ t → ltb 1 (length (split sep l)) ≡ t
    at true e =
        let s = split_some sep (drop (find sep l + 1) l) in
        ap (λ (ps : List (List ℕ)). ltb 1 (length ps)) (split_step sep l (ltb-true _ _ e)) ∙ lt-ltb 1 (suc (length (split sep (drop (find sep l + 1) l)))) (omega arith)
    at false e = ap (λ (ps : List (List ℕ)). ltb 1 (length ps)) (split_last sep l (ltb-false _ _ e))

-- ---- past the last part

pub past_none : (ps : List (List ℕ)) (k : ℕ) → length ps ≤ k → get_or ps k [] ≡ []
past_none [] k h = refl
past_none (p ∷ ps) zero h = absurd (omega arith)
past_none (p ∷ ps) (suc k) h = past_none ps k (omega arith)

pub none_past : (sep : ℕ) (l : List ℕ) (k : ℕ) → part_at sep l k ≡ None → length (split sep l) ≤ k
unfolding part_at
none_past sep l k q = absent_past 0 (split sep l) k q

-- no bytes are one part, with no bytes
pub split_nothing : (sep : ℕ) → split sep [] ≡ [] ∷ []
unfolding split
split_nothing sep = refl
