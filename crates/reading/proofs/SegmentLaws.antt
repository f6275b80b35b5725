-- Laws of a message's segments, as a walk meets them: from `start`, with the next CR n bytes on, or none. Assumes nothing.
use mathlib.Core.Path.{◌≡◌, refl, sym, ap, ◌∙◌}
use mathlib.Core.List.{List, [], ◌∷◌}
use mathlib.Core.Bool.{Bool, true, false}
use mathlib.Core.Logic.{⊎_elim}
use lib.Dec.{eqb, ltb}
use borrow.Author.Tests.{eqb-true, eqb-false, eq-eqb, ltb-true, ltb-false, lt-ltb, le-ltb}
use Prim.Native.Nat.{ℕ, zero, suc, ◌+◌, ◌-◌, ◌≤◌, ◌<◌}
use native.Mathlib.Omega.{arith}
use lib.ListN.{length, get_or, take, drop, length-drop}
use lib.Seq.{length-take-le, get_or-drop}
use Rattle.std.specs.Prelude.{None, Some, Option}
use Rattle.alphabet.specs.Bytes.{carriage_return}
use Rattle.alphabet.specs.Lists.{find}
use Rattle.alphabet.specs.Parts.{split, standing, part_at, began, ended_by, from_to}
use Rattle.alphabet.specs.declared.parts.Part.{Part}
use Rattle.alphabet.proofs.ListLaws.{first_least}
use Rattle.alphabet.proofs.PartLaws.{split_walk, split_last, split_cons, split_some, join_split, joined_end, standing_absent, absent_past, part_bytes_lem, part_end}
use Rattle.reading.specs.Segments.{all_but_last, segments, segment_at}
use Rattle.reading.specs.Reading.{segment_check, segment_checks}
use Rattle.reading.specs.Message.{ended}

-- ---- all but the last of some parts

pub but_last_cons : (p : List ℕ) (ps : List (List ℕ)) → 1 ≤ length ps → all_but_last (p ∷ ps) ≡ p ∷ all_but_last ps
unfolding all_but_last
but_last_cons p [] h = absurd (omega arith)
but_last_cons p (q ∷ ps) h = refl

but_last_one : (p : List ℕ) → all_but_last (p ∷ []) ≡ []
unfolding all_but_last
but_last_one p = refl

but_last_length : (p : List ℕ) (ps : List (List ℕ)) → length (all_but_last (p ∷ ps)) ≡ length ps
but_last_length p [] = ap length (but_last_one p)
but_last_length p (q ∷ ps) = ap length (but_last_cons p (q ∷ ps) (omega arith)) ∙ ap suc (but_last_length q ps)

-- a part that is not the last stands where it stood
but_last_standing : (at : ℕ) (ps : List (List ℕ)) (k : ℕ) → k + 1 < length ps → standing at (all_but_last ps) k ≡ standing at ps k
unfolding standing
but_last_standing at [] k h = absurd (omega arith)
but_last_standing at (p ∷ []) k h = absurd (omega arith)
but_last_standing at (p ∷ q ∷ ps) zero h = rw (but_last_cons p (q ∷ ps) (omega arith))
but_last_standing at (p ∷ q ∷ ps) (suc k) h =
    rw (but_last_cons p (q ∷ ps) (omega arith)) (but_last_standing (at + length p + 1) (q ∷ ps) k (omega arith))

but_last_absent : (at : ℕ) (ps : List (List ℕ)) (k : ℕ) → 1 ≤ length ps → length ps ≤ k + 1 → standing at (all_but_last ps) k ≡ None
but_last_absent at [] k h l = absurd (omega arith)
but_last_absent at (p ∷ ps) k h l = let n = but_last_length p ps in standing_absent at (all_but_last (p ∷ ps)) k (omega arith)

-- ---- where segment k stands, from where part k stands

module _ (m : List ℕ) (k : ℕ) where
  segment_absent : part_at carriage_return m k ≡ None → segment_at m k ≡ None
  unfolding segment_at segments part_at
  segment_absent q =
      let h = absent_past 0 (split carriage_return m) k q in
      but_last_absent 0 (split carriage_return m) k (split_some carriage_return m) (omega arith)

  module _ (s e : ℕ) (q : part_at carriage_return m k ≡ from_to s e) where
    -- what ends where the message ends is behind the last CR
    segment_none : e ≡ length m → segment_at m k ≡ None
    unfolding segment_at segments part_at
    segment_none h =
        let j = ap length (join_split carriage_return m) in
        let l : length (split carriage_return m) ≤ k + 1 =
        ⊎_elim
        (λ w. let a = w.0 in omega arith)
        (λ w. let b = w.1 in absurd (omega arith))
        (joined_end carriage_return 0 (split carriage_return m) k s e q) in
        but_last_absent 0 (split carriage_return m) k (split_some carriage_return m) l

    pub segment_some : (e ≡ length m → ⊥) → segment_at m k ≡ from_to s e
    unfolding segment_at segments part_at
    segment_some h =
        let j = ap length (join_split carriage_return m) in
        let l : k + 1 < length (split carriage_return m) =
        ⊎_elim
        (λ w. let b = w.1 in absurd (h (omega arith)))
        (λ w. w.0)
        (joined_end carriage_return 0 (split carriage_return m) k s e q) in
        but_last_standing 0 (split carriage_return m) k l ∙ q

-- whether a CR stands at `start` or behind: the last byte may tell
module _ (m : List ℕ) (start : ℕ) where
  pub ended_past : length m ≤ start → false ≡ ltb (start + find carriage_return (drop start m)) (length m)
  ended_past h = sym (le-ltb (start + find carriage_return (drop start m)) (length m) (omega arith))

  pub ended_last : start < length m → get_or m (length m - 1) 0 ≡ carriage_return → true ≡ ltb (start + find carriage_return (drop start m)) (length m)
  ended_last h e =
      let n = length-drop start m in
      let i = length m - 1 - start in
      let at : start + i ≡ length m - 1 = omega arith in
      let q = get_or-drop start m i 0 ∙ ap (λ (j : ℕ). get_or m j 0) at ∙ e in
      let f = first_least (eqb carriage_return) (drop start m) i (omega arith) (eq-eqb carriage_return (get_or (drop start m) i 0) (sym q)) in
      sym (lt-ltb (start + find carriage_return (drop start m)) (length m) (omega arith))

-- from where part k begins, and so does the segment, if it is ended
began_absent : (p : Option Part) → began p ≡ None → p ≡ None
began_absent None e = refl
began_absent (Some part) e = absurd (let z : ◌≡◌ {A = ℕ} 0 1 = cc in omega arith)

module _ (m : List ℕ) (k : ℕ) (line : Option ℕ) (q : line ≡ began (part_at carriage_return m k)) where
  pub start_none : line ≡ None → None ≡ began (segment_at m k)
  start_none e = ap began (sym (segment_absent m k (began_absent (part_at carriage_return m k) (sym q ∙ e))))

  module _ (s : ℕ) (e : line ≡ Some s) where
    stands : part_at carriage_return m k ≡ from_to s (s + find carriage_return (drop s m))
    stands = at (part_at carriage_return m k) refl
      where
        at : (p : Option Part) → part_at carriage_return m k ≡ p → p ≡ from_to s (s + find carriage_return (drop s m))
        at None r = absurd (let z : ◌≡◌ {A = ℕ} 0 1 = cc in omega arith)
        at (Some part) r =
            let h : part.start ≡ s = cc in
            let n = part_end carriage_return m k part.start part.end r in
            ap (from_to part.start) n ∙ ap (λ (x : ℕ). from_to x (x + find carriage_return (drop x m))) h

    pub start_open : ltb (s + find carriage_return (drop s m)) (length m) ≡ false → None ≡ began (segment_at m k)
    start_open f =
        let n = ltb-false (s + find carriage_return (drop s m)) (length m) f in
        let l = (part_bytes_lem carriage_return m k s _ stands).2 in
        ap began (sym (segment_none m k s _ stands (omega arith)))

    pub start_ended : ltb (s + find carriage_return (drop s m)) (length m) ≡ true → Some s ≡ began (segment_at m k)
    start_ended f =
        let n = ltb-true (s + find carriage_return (drop s m)) (length m) f in
        ap began (sym (segment_some m k s _ stands (λ z. omega arith)))

-- ---- what stands at segment k

but_last_get : (ps : List (List ℕ)) (k : ℕ) → k + 1 < length ps → get_or (all_but_last ps) k [] ≡ get_or ps k []
but_last_get [] k h = absurd (omega arith)
but_last_get (p ∷ []) k h = absurd (omega arith)
but_last_get (p ∷ q ∷ ps) zero h = ap (λ (l : List (List ℕ)). get_or l 0 []) (but_last_cons p (q ∷ ps) (omega arith))
but_last_get (p ∷ q ∷ ps) (suc k) h =
    ap (λ (l : List (List ℕ)). get_or l (suc k) []) (but_last_cons p (q ∷ ps) (omega arith)) ∙ but_last_get (q ∷ ps) k (omega arith)

-- a segment stands where the part of its number stands, before the message's end
pub segment_part : (m : List ℕ) (k s e : ℕ) → segment_at m k ≡ from_to s e → (part_at carriage_return m k ≡ from_to s e) × (e < length m)
segment_part m k s e q = at (part_at carriage_return m k) refl
  where
    at : (p : Option Part) → part_at carriage_return m k ≡ p → (part_at carriage_return m k ≡ from_to s e) × (e < length m)
    at None r = absurd (let n = segment_absent m k r in let z : ◌≡◌ {A = ℕ} 0 1 = cc in omega arith)
    at (Some part) r =
        let i = (part_bytes_lem carriage_return m k part.start part.end r).2 in
        by (eqb part.end (length m)) refl i
      where
        by : (t : Bool) → eqb part.end (length m) ≡ t → part.end ≤ length m → (part_at carriage_return m k ≡ from_to s e) × (e < length m)
        by true f i = absurd (let n = segment_none m k part.start part.end r (eqb-true part.end (length m) f) in let z : ◌≡◌ {A = ℕ} 0 1 = cc in omega arith)
        by false f i =
            let h = eqb-false part.end (length m) f in
            let n = segment_some m k part.start part.end r h in
            let g : part.end ≡ e = cc in
            (cc, omega arith)

-- a segment ends at the first CR from its start on
pub segment_stands : (m : List ℕ) (k : ℕ) → ended_by (eqb carriage_return) m (began (segment_at m k)) ≡ segment_at m k
segment_stands m k = at (segment_at m k) refl
  where
    at : (p : Option Part) → segment_at m k ≡ p → ended_by (eqb carriage_return) m (began p) ≡ p
    at None q = refl
    at (Some part) q = ap (from_to part.start) (sym (part_end carriage_return m k part.start part.end (segment_part m k part.start part.end q).0))

-- a part that ends before the message does is not the last
not_last : (m : List ℕ) (k s e : ℕ) → part_at carriage_return m k ≡ from_to s e → e < length m → k + 1 < length (split carriage_return m)
unfolding part_at
not_last m k s e q h =
    let j = ap length (join_split carriage_return m) in
    ⊎_elim (λ w. let b = w.1 in absurd (omega arith)) (λ w. w.0) (joined_end carriage_return 0 (split carriage_return m) k s e q)

but_last_count : (ps : List (List ℕ)) → 1 ≤ length ps → length (all_but_last ps) + 1 ≡ length ps
but_last_count [] h = absurd (omega arith)
but_last_count (p ∷ ps) h = let n = but_last_length p ps in omega arith

-- its bytes are the segment's
pub segment_bytes : (m : List ℕ) (k s e : ℕ) → segment_at m k ≡ from_to s e → (k < length (segments m)) × (s ≤ e) × (e < length m) × (take (e - s) (drop s m) ≡ get_or (segments m) k [])
unfolding segments
segment_bytes m k s e q =
    let p = segment_part m k s e q in
    let l = p.1 in
    let b = part_bytes_lem carriage_return m k s e p.0 in
    let n = not_last m k s e p.0 l in
    let c = but_last_count (split carriage_return m) (split_some carriage_return m) in
    (omega arith, b.1, l, b.3 ∙ sym (but_last_get (split carriage_return m) k n))

-- past the last segment none stands
pub segment_past : (m : List ℕ) (k : ℕ) → segment_at m k ≡ None → length (segments m) ≤ k
unfolding segment_at
segment_past m k q = absent_past 0 (segments m) k q

-- ---- the segments from `start` on, and their checks: up to the next CR, which stands at `end`, or with none left

module _ (m : List ℕ) (start : ℕ) where
  module _ (end : ℕ) (found : end ≡ start + find carriage_return (drop start m)) (inside : end < length m) where
    whole : length (take (end - start) (drop start m)) ≡ end - start
    whole = let n = length-drop start m in length-take-le (end - start) (drop start m) (omega arith)

    pub segments_walk : all_but_last (split carriage_return (drop start m)) ≡ take (end - start) (drop start m) ∷ all_but_last (split carriage_return (drop (end + 1) m))
    segments_walk =
        let n = length-drop start m in
        let e : start + (end - start) + 1 ≡ end + 1 = omega arith in
        ap all_but_last (split_walk carriage_return m start (end - start) (omega arith) (omega arith))
        ∙ but_last_cons (take (end - start) (drop start m)) (split carriage_return (drop (start + (end - start) + 1) m)) (split_some carriage_return (drop (start + (end - start) + 1) m))
        ∙ ap (λ (i : ℕ). take (end - start) (drop start m) ∷ all_but_last (split carriage_return (drop i m))) e

    pub checks_walk : (sep k : ℕ)
        → segment_checks sep k start (all_but_last (split carriage_return (drop start m)))
        ≡ segment_check sep k start (take (end - start) (drop start m)) ∷ segment_checks sep (k + 1) (end + 1) (all_but_last (split carriage_return (drop (end + 1) m)))
    unfolding segment_checks
    checks_walk sep k =
        let w = whole in
        let e : start + length (take (end - start) (drop start m)) + 1 ≡ end + 1 = omega arith in
        rw segments_walk
        (ap (λ (i : ℕ). segment_check sep k start (take (end - start) (drop start m)) ∷ segment_checks sep (k + 1) i (all_but_last (split carriage_return (drop (end + 1) m)))) e)

  pub segments_over : length m ≤ start + find carriage_return (drop start m) → all_but_last (split carriage_return (drop start m)) ≡ []
  segments_over h =
      let n = length-drop start m in
      ap all_but_last (split_last carriage_return (drop start m) (omega arith)) ∙ but_last_one (drop start m)

  pub checks_over : (sep k : ℕ) → length m ≤ start + find carriage_return (drop start m) → segment_checks sep k start (all_but_last (split carriage_return (drop start m))) ≡ []
  unfolding segment_checks
  checks_over sep k h = rw (segments_over h)

-- ---- segments one after another, each ended by CR and with none inside, are the segments

pub segments_ended : (ss : List (List ℕ)) → ((k : ℕ) → k < length ss → find carriage_return (get_or ss k []) ≡ length (get_or ss k [])) → segments (ended ss) ≡ ss
unfolding segments ended split
segments_ended [] h = but_last_one []
segments_ended (s ∷ ss) h =
    ap all_but_last (split_cons carriage_return s (ended ss) (h 0 (omega arith)))
    ∙ but_last_cons s (split carriage_return (ended ss)) (split_some carriage_return (ended ss))
    ∙ ap (λ (l : List (List ℕ)). s ∷ l) (segments_ended ss (λ k l. h (suc k) (omega arith)))
