-- Laws of the order of judging, by any rows: one row on, one segment on; and what a fault that is found makes of the whole. Assumes nothing.
use mathlib.Core.Path.{◌≡◌, refl, sym, ap, ap₂, ◌∙◌}
use mathlib.Core.List.{List, [], ◌∷◌, map}
use mathlib.Core.Bool.{Bool, cond}
use Prim.Native.Nat.{ℕ, zero, suc, ◌+◌, ◌-◌, ◌≤◌, ◌<◌}
use native.Mathlib.Numerals.{add-one}
use native.Mathlib.Decide.{dec_lt}
use native.Mathlib.Omega.{arith}
use lib.Dec.{eqb}
use lib.ListN.{length, get_or, take, drop, length-drop, drop_of_length-le}
use lib.Seq.{drop-cons, length-take-le}
use borrow.Author.Tests.{eq-eqb, ne_eqb}
use Rattle.alphabet.specs.Answers.{Check, passes, fails}
use Rattle.alphabet.specs.Bytes.{carriage_return}
use Rattle.alphabet.specs.Lists.{find}
use Rattle.alphabet.specs.Parts.{split, from_to}
use Rattle.alphabet.specs.declared.answers.Refusal.{Refusal}
use Rattle.reading.specs.Segments.{all_but_last, segments, delimiters_of}
use Rattle.reading.proofs.SegmentLaws.{segments_walk, segments_over}
use Rattle.field_table.specs.Table.{no_row}
use Rattle.rules.specs.Rules.{row_check}
use Rattle.fields.specs.Judging.{Fault, sound, name_at, said_in, repetitions_of, located, or_fault, first_fault, row_fault, segment_fault, segment_faults, judging}
use Rattle.fields.specs.Walk.{row_in, row_fault_in, judged_in, NoneBefore, NoneFrom}
use Rattle.field_table.specs.declared.Row.{Row}
use Rattle.fields.proofs.FieldLaws.{row_agrees}

-- what is left of the rows from `index` on, for the segment s of a number
abbrev pub rows_left : List Row → List ℕ → ℕ → List ℕ → ℕ → Fault
rows_left rows ds number s index = first_fault (map (row_fault_in ds number s) (drop index rows))

-- what is left of the segments from `start` on
abbrev pub segments_left : List Row → List ℕ → ℕ → ℕ → Fault
segments_left rows m number start = first_fault (segment_faults rows m number start (all_but_last (split carriage_return (drop start m))))

-- ---- a fault that is found, and none

module _ (number field : ℕ) {c : Check} (rest : Fault) where
  -- a check that fails is the first fault, and one that passes none
  pub own_stops : {kind : Refusal} {place : ℕ} → c ≡ fails kind place → or_fault (located number field c) rest ≡ located number field c
  own_stops e = rw e

  pub own_passes : c ≡ passes → or_fault (located number field c) rest ≡ rest
  own_passes e = rw e

-- ---- the rows

first_cons : (f : Fault) (later : List Fault) → first_fault (f ∷ later) ≡ or_fault f (first_fault later)
unfolding first_fault
first_cons f later = refl

first_none : first_fault [] ≡ sound
unfolding first_fault
first_none = refl

rows_next : (rows : List Row) (f : Row → Fault) (index : ℕ) → index < length rows → first_fault (map f (drop index rows)) ≡ or_fault (f (get_or rows index no_row)) (first_fault (map f (drop (index + 1) rows)))
rows_next rows f index h =
    ap (λ (rs : List Row). first_fault (map f rs)) (drop-cons rows index no_row h)
    ∙ first_cons (f (get_or rows index no_row)) (map f (drop (suc index) rows))
    ∙ ap (λ (k : ℕ). or_fault (f (get_or rows index no_row)) (first_fault (map f (drop k rows)))) (sym (add-one index))

pub rows_all : (rows : List Row) (ds : List ℕ) (number : ℕ) (s : List ℕ) → judged_in rows ds number s ≡ rows_left rows ds number s 0
unfolding judged_in
rows_all rows ds number s = refl

rows_over : (rows : List Row) (ds : List ℕ) (number : ℕ) (s : List ℕ) (index : ℕ) → length rows ≤ index → rows_left rows ds number s index ≡ sound
rows_over rows ds number s index h = ap (λ (rs : List Row). first_fault (map (row_fault_in ds number s) rs)) (drop_of_length-le rows h) ∙ first_none

module _ (rows : List Row) (ds : List ℕ) (number : ℕ) (s : List ℕ) (index : ℕ) (h : index < length rows) (row : Row) (e : row ≡ get_or rows index no_row) where
  next : rows_left rows ds number s index ≡ or_fault (row_fault_in ds number s row) (rows_left rows ds number s (index + 1))
  next =
      rows_next rows (row_fault_in ds number s) index h
      ∙ ap (λ (r : Row). or_fault (row_fault_in ds number s r) (rows_left rows ds number s (index + 1))) (sym e)

  -- a row of another segment
  pub row_other : (row.segment ≡ name_at number s → ⊥) → rows_left rows ds number s index ≡ rows_left rows ds number s (index + 1)
  row_other n = next ∙ ap (λ (t : Bool). or_fault (cond t (located number row.field (row_in ds s number row)) sound) (rows_left rows ds number s (index + 1))) (ne_eqb row.segment (name_at number s) n)

  -- a row of this segment
  pub row_own : row.segment ≡ name_at number s → rows_left rows ds number s index ≡ or_fault (located number row.field (row_in ds s number row)) (rows_left rows ds number s (index + 1))
  row_own q = next ∙ ap (λ (t : Bool). or_fault (cond t (located number row.field (row_in ds s number row)) sound) (rows_left rows ds number s (index + 1))) (eq-eqb row.segment (name_at number s) q)

module _ (rows : List Row) (ds : List ℕ) (number : ℕ) (s : List ℕ) where
  go_before : (first : ℕ) → first ≤ length rows → ((index : ℕ) → index < first → (get_or rows index no_row).segment ≡ name_at number s → ⊥) → rows_left rows ds number s 0 ≡ rows_left rows ds number s first
  go_before zero h others = refl
  go_before (suc k) h others =
      go_before k (omega arith) (λ index g. others index (omega arith))
      ∙ row_other rows ds number s k (omega arith) (get_or rows k no_row) refl (others k (omega arith))
      ∙ ap (rows_left rows ds number s) (add-one k)

  -- the rows before one before which none is of this segment
  pub rows_before : {first : ℕ} → NoneBefore rows (name_at number s) first → judged_in rows ds number s ≡ rows_left rows ds number s first
  rows_before {first} n = rows_all rows ds number s ∙ go_before first n.inside n.others

  -- the rows from one on from which none is of this segment
  module _ {last : ℕ} (n : NoneFrom rows (name_at number s) last) where
    go_from : (count index : ℕ) → last ≤ index → length rows ≤ index + count → rows_left rows ds number s index ≡ sound
    go_from zero index g h = rows_over rows ds number s index (omega arith)
    go_from (suc count) index g h = at (go_from count (index + 1) (omega arith) (omega arith)) (dec_lt index (length rows))
      where
        at : rows_left rows ds number s (index + 1) ≡ sound → Dec (index < length rows) → rows_left rows ds number s index ≡ sound
        at later (yes l) = row_other rows ds number s index l (get_or rows index no_row) refl (n.others index g l) ∙ later
        at later (no l) = rows_over rows ds number s index (omega arith)

    pub rows_from : (index : ℕ) → last ≤ index → rows_left rows ds number s index ≡ sound
    rows_from index g = go_from (length rows) index g (omega arith)

module _ (rows : List Row) (name : ℕ) where
  pub none_yet : NoneBefore rows name 0
  none_yet = record { inside = omega arith; others = λ index h. absurd (omega arith) }

  -- one row of another name on
  pub none_next : (first : ℕ) → first < length rows → NoneBefore rows name first → ((get_or rows first no_row).segment ≡ name → ⊥) → NoneBefore rows name (first + 1)
  none_next first h n other = record { inside = omega arith; others = λ index g. at index g (dec_lt index first) }
    where
      at : (index : ℕ) → index < first + 1 → Dec (index < first) → (get_or rows index no_row).segment ≡ name → ⊥
      at index g (yes l) q = n.others index l q
      at index g (no l) q = let e : first ≡ index = omega arith in other (ap (λ (k : ℕ). (get_or rows k no_row).segment) e ∙ q)

  pub none_behind : NoneFrom rows name (length rows)
  none_behind = record { inside = omega arith; others = λ index g h. absurd (omega arith) }

  -- one row of another name back
  pub none_back : (last : ℕ) → 0 < last → NoneFrom rows name last → ((get_or rows (last - 1) no_row).segment ≡ name → ⊥) → NoneFrom rows name (last - 1)
  none_back last h n other = let i = n.inside in record { inside = omega arith; others = λ index g l. at index g l (dec_lt index last) }
    where
      at : (index : ℕ) → last - 1 ≤ index → index < length rows → Dec (index < last) → (get_or rows index no_row).segment ≡ name → ⊥
      at index g l (no b) q = n.others index (omega arith) l q
      at index g l (yes b) q = let e : last - 1 ≡ index = omega arith in other (ap (λ (k : ℕ). (get_or rows k no_row).segment) e ∙ q)

-- ---- the segments

pub segments_start : (rows : List Row) (m : List ℕ) → judging rows m ≡ segments_left rows m 0 0
unfolding judging segments
segments_start rows m = refl

module _ (rows : List Row) (m : List ℕ) (number start : ℕ) where
  pub segments_none : length m ≤ start + find carriage_return (drop start m) → segments_left rows m number start ≡ sound
  unfolding segment_faults
  segments_none h = rw (segments_over m start h) first_none

  -- the segment from `start` up to `end`, by its bytes, and those behind it
  module _ (end : ℕ) (f : end ≡ start + find carriage_return (drop start m)) (h : end < length m) (ds : List ℕ) (delimiters : ds ≡ delimiters_of m) where
    abbrev segment : List ℕ
    segment = take (end - start) (drop start m)

    segment_length : start + length segment ≡ end
    segment_length =
        let d = length-drop start m in
        let t = length-take-le (end - start) (drop start m) (omega arith) in
        omega arith

    row_same : (row : Row) → row_fault m number (from_to start (start + length segment)) segment row ≡ row_fault_in ds number segment row
    unfolding row_fault
    row_same row =
        ap (λ (k : ℕ). cond (eqb row.segment (name_at number segment)) (located number row.field (row_check (delimiters_of m) row (said_in m number (from_to start k) row.kind) (repetitions_of m number (from_to start k) row.field))) sound) segment_length
        ∙ ap (λ (c : Check). cond (eqb row.segment (name_at number segment)) (located number row.field c) sound) (row_agrees m start end (omega arith) (omega arith) number row)
        ∙ ap (λ (d : List ℕ). row_fault_in d number segment row) (sym delimiters)

    rows_same : (rs : List Row) → map (row_fault m number (from_to start (start + length segment)) segment) rs ≡ map (row_fault_in ds number segment) rs
    rows_same [] = refl
    rows_same (row ∷ rest) = ap₂ ◌∷◌ (row_same row) (rows_same rest)

    pub segment_next : segments_left rows m number start ≡ or_fault (judged_in rows ds number segment) (segments_left rows m (number + 1) (end + 1))
    unfolding segment_faults judged_in
    segment_next =
        let e : start + length segment + 1 ≡ end + 1 = ap (λ (k : ℕ). k + 1) segment_length in
        rw (segments_walk m start end f h)
        (first_cons (segment_fault rows m number start segment) (segment_faults rows m (number + 1) (start + length segment + 1) (all_but_last (split carriage_return (drop (end + 1) m))))
        ∙ ap (λ (k : ℕ). or_fault (segment_fault rows m number start segment) (first_fault (segment_faults rows m (number + 1) k (all_but_last (split carriage_return (drop (end + 1) m)))))) e
        ∙ ap (λ (fs : List Fault). or_fault (first_fault fs) (segments_left rows m (number + 1) (end + 1))) (rows_same rows))
