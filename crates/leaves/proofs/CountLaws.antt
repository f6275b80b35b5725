-- No message has more leaves than bytes. Assumes nothing.
use mathlib.Core.Path.{◌≡◌, ap}
use mathlib.Core.List.{List, [], ◌∷◌}
use mathlib.Core.Bool.{Bool, true, false, cond}
use Prim.Native.Nat.{ℕ, ◌+◌, ◌*◌, ◌≤◌}
use native.Mathlib.Omega.{arith}
use lib.Dec.{eqb}
use lib.ListN.{length, get_or, length-append}
use Rattle.alphabet.specs.Answers.{passes}
use Rattle.alphabet.specs.Parts.{split, join}
use Rattle.alphabet.proofs.PartLaws.{join_split, split_some}
use Rattle.reading.specs.Segments.{segments, delimiters_of}
use Rattle.reading.specs.Reading.{reading}
use Rattle.reading.specs.Message.{ended}
use Rattle.reading.proofs.Accepted.{accepted}
use Rattle.leaves.specs.Leaves.{Leaf, addressed, leaf_at, each, subcomponent_leaf, in_component, in_repetition, in_field, in_part, in_segment, leaves_of, rows}
use Rattle.leaves.proofs.RowLaws.{rows_length}

-- each of the parts has at most one leaf for each of its bytes, and one more
each_most : (sep : ℕ) (inner : ℕ → ℕ → List ℕ → List Leaf) → ((k at : ℕ) (p : List ℕ) → length (inner k at p) ≤ length p + 1)
    → (k at : ℕ) (ps : List (List ℕ)) → 1 ≤ length ps → length (each inner k at ps) ≤ length (join sep ps) + 1
unfolding each join
each_most sep inner h k at [] n = absurd (omega arith)
each_most sep inner h k at (p ∷ []) n =
    let a = length-append (inner k at p) [] in
    let b = h k at p in
    omega arith
each_most sep inner h k at (p ∷ q ∷ ps) n =
    let a = length-append (inner k at p) (each inner (k + 1) (at + length p + 1) (q ∷ ps)) in
    let b = h k at p in
    let c = each_most sep inner h (k + 1) (at + length p + 1) (q ∷ ps) (omega arith) in
    let d = length-append p (sep ∷ join sep (q ∷ ps)) in
    omega arith

level_most : (sep : ℕ) (inner : ℕ → ℕ → List ℕ → List Leaf) → ((k at : ℕ) (p : List ℕ) → length (inner k at p) ≤ length p + 1)
    → (k at : ℕ) (l : List ℕ) → length (each inner k at (split sep l)) ≤ length l + 1
level_most sep inner h k at l =
    let m = each_most sep inner h k at (split sep l) (split_some sep l) in
    let e = ap length (join_split sep l) in
    omega arith

module _ (ds : List ℕ) where
  component_most : (s f r c at : ℕ) (l : List ℕ) → length (in_component ds s f r c at l) ≤ length l + 1
  unfolding in_component
  component_most s f r c at l = level_most (get_or ds 4 0) (subcomponent_leaf ds s f r c) (λ k a p. omega arith) 1 at l

  repetition_most : (s f r at : ℕ) (l : List ℕ) → length (in_repetition ds s f r at l) ≤ length l + 1
  unfolding in_repetition
  repetition_most s f r at l = level_most (get_or ds 1 0) (in_component ds s f r) (component_most s f r) 1 at l

  field_most : (s f at : ℕ) (l : List ℕ) → length (in_field ds s f at l) ≤ length l + 1
  unfolding in_field
  field_most s f at l = level_most (get_or ds 2 0) (in_repetition ds s f) (repetition_most s f) 1 at l

  part_most : (s f at : ℕ) (l : List ℕ) → length (in_part ds s f at l) ≤ length l + 1
  unfolding in_part
  part_most s f at l = by (eqb s 0) (eqb f 1) (eqb f 2) (eqb f 0) (in_field ds 0 f at l) (in_field ds s f at l) (leaf_at ds (addressed 0 1 1 1 1) 3 (get_or ds 0 0 ∷ [])) (leaf_at ds (addressed 0 2 1 1 1) at l) (field_most 0 f at l) (field_most s f at l)
    where
      by : (t u v w : Bool) (xs ys : List Leaf) (x y : Leaf) → length xs ≤ length l + 1 → length ys ≤ length l + 1 → length (cond t (cond u (x ∷ []) (cond v (y ∷ []) xs)) (cond w [] ys)) ≤ length l + 1
      by true true v w xs ys x y h k = omega arith
      by true false true w xs ys x y h k = omega arith
      by true false false w xs ys x y h k = h
      by false u v true xs ys x y h k = omega arith
      by false u v false xs ys x y h k = k

  segment_most : (s at : ℕ) (l : List ℕ) → length (in_segment ds s at l) ≤ length l + 1
  unfolding in_segment
  segment_most s at l = level_most (get_or ds 0 0) (in_part ds s) (part_most s) (cond (eqb s 0) 1 0) at l

  segments_most : (k at : ℕ) (ss : List (List ℕ)) → length (each (in_segment ds) k at ss) ≤ length (ended ss)
  unfolding each ended
  segments_most k at [] = omega arith
  segments_most k at (s ∷ ss) =
      let a = length-append (in_segment ds k at s) (each (in_segment ds) (k + 1) (at + length s + 1) ss) in
      let b = segment_most k at s in
      let c = segments_most (k + 1) (at + length s + 1) ss in
      let d = length-append s (13 ∷ ended ss) in
      omega arith

-- eight numbers for each byte are enough
pub rows_most : (m : List ℕ) → reading m ≡ passes → length (rows (leaves_of m)) ≤ 8 * length m
unfolding leaves_of
rows_most m ok =
    let a = segments_most (delimiters_of m) 0 0 (segments m) in
    let e = ap length (accepted m ok).all_ended in
    let n = rows_length (each (in_segment (delimiters_of m)) 0 0 (segments m)) in
    omega arith
