-- The judge and a lookup read the same: in every segment, what a row is held against are the elements at its addresses, byte for byte. Assumes nothing.
use mathlib.Core.Path.{◌≡◌, refl, sym, ap, ap₂, ◌∙◌}
use mathlib.Core.List.{List, [], ◌∷◌, map}
use mathlib.Core.Bool.{Bool, true, false, not, cond, ◌&&◌, ◌||◌}
use mathlib.Core.Logic.{◌↔◌}
use Prim.Native.Nat.{ℕ, zero, suc, ◌+◌, ◌-◌, ◌≤◌, ◌<◌}
use native.Mathlib.Decide.{dec_lt}
use native.Mathlib.Omega.{arith}
use lib.Dec.{leb, eqb}
use lib.ListN.{length, get_or, drop}
use lib.Seq.{get_or-take}
use borrow.Author.Tests.{eqb-true, eqb-false, eq-eqb, leb-true, not-true}
use Rattle.std.specs.Prelude.{None, Some, Option}
use Rattle.alphabet.specs.Answers.{passes, checked}
use Rattle.alphabet.specs.Bytes.{carriage_return}
use Rattle.alphabet.specs.Lists.{find}
use Rattle.alphabet.specs.Parts.{split, standing}
use Rattle.alphabet.specs.declared.parts.Part.{Part}
use Rattle.alphabet.proofs.BoolLaws.{false_true, and_both}
use Rattle.alphabet.proofs.PartLaws.{split_nothing}
use Rattle.reading.specs.Message.{Message}
use Rattle.reading.specs.Reading.{reading}
use Rattle.reading.proofs.Accepted.{accepted}
use Rattle.reading.proofs.SegmentLaws.{segment_bytes}
use Rattle.reading.specs.Segments.{delimiters_of, segments, segment_at, name_of, name}
use Rattle.element.specs.Levels.{between, part_in, field_in, fixed, below, repetition_at, component_at, subcomponent_at, element_at}
use Rattle.element.specs.Finding.{part_bytes, found, element_bytes}
use Rattle.element.proofs.LevelLaws.{Within, in_absent, within_field, within_in, within_segment, element_split}
use Rattle.laws.specs.Elements.{address, Asks, whole_repetition, whole_component}
use Rattle.laws.specs.Held.{HeldAgainst, RowFinds, own, other, numbers_from, JudgedByElements}
use Rattle.laws.proofs.ElementLaws.{means_absent}
use Rattle.laws.proofs.HeaderLaws.{first_segment}
use Rattle.element.proofs.RawLaws.{absent_means, part_in_bytes}
use Rattle.laws.proofs.LevelBytes.{split_further}
use Rattle.laws.proofs.Asking.{answered_exactly}
use Rattle.laws.proofs.FoundLaws.{shown_is, absent_nowhere}
use Rattle.field_table.specs.Table.{rows, no_row}
use Rattle.rules.specs.Rules.{judged_part, is_said, said_field, row_check}
use Rattle.fields.specs.Judging.{Fault, sound, name_at, repetitions_in, repetitions_of, said_in, located, first_fault, row_fault, segment_faults, judging}
use Rattle.field_table.specs.declared.Row.{Row}

-- no bytes have no part with bytes
nothing_in : (sep : ℕ) (i : ℕ) → get_or (split sep []) i [] ≡ []
nothing_in sep zero = ap (λ (ps : List (List ℕ)). get_or ps 0 []) (split_nothing sep)
nothing_in sep (suc i) = ap (λ (ps : List (List ℕ)). get_or ps (suc i) []) (split_nothing sep)

-- the repetitions of a part hold those of its bytes
repetition_bytes : (m : List ℕ) (part : Option Part) (r : ℕ) → get_or (repetitions_in m part) r [] ≡ get_or (split (get_or (delimiters_of m) 2 0) (part_bytes m part)) r []
repetition_bytes m None r = sym (nothing_in (get_or (delimiters_of m) 2 0) r)
repetition_bytes m (Some part) r = refl

module _ (m : List ℕ) (segment field r : ℕ) (four : 4 ≤ length m) (free : fixed segment field ≡ false) where
  abbrev field_part : Option Part
  field_part = field_in m segment (segment_at m segment) field

  within_field_part : Within m field_part
  within_field_part = within_field m segment (segment_at m segment) field four (within_segment m segment)

  -- it is no field that is never split
  split_field : repetitions_of m segment (segment_at m segment) field ≡ repetitions_in m field_part
  split_field = ap (λ (t : Bool). cond t [] (repetitions_in m field_part)) free

  repetition_held : get_or (repetitions_of m segment (segment_at m segment) field) r [] ≡ part_bytes m (part_in (get_or (delimiters_of m) 2 0) m field_part r)
  repetition_held =
      ap (λ (rs : List (List ℕ)). get_or rs r []) split_field
      ∙ repetition_bytes m field_part r
      ∙ sym (part_in_bytes (get_or (delimiters_of m) 2 0) m field_part r within_field_part)

  -- repetition r + 1, and a component of it
  split_element : (c : ℕ) → element_at m (address segment field (suc r) c 0) ≡ below (get_or (delimiters_of m) 1 0) m (part_in (get_or (delimiters_of m) 2 0) m field_part r) c
  unfolding subcomponent_at component_at repetition_at below
  split_element c = element_split m (address segment field (suc r) c 0) free

  -- the part judged of repetition r + 1 is the element at (segment, field, r + 1, component, 0)
  pub judged_element : (component : ℕ)
      → judged_part (delimiters_of m) component (get_or (repetitions_of m segment (segment_at m segment) field) r [])
      ≡ part_bytes m (element_at m (record { segment = segment; field = field; repetition = suc r; component = component; subcomponent = 0 }))
  unfolding judged_part below
  judged_element zero =
      repetition_held
      ∙ ap (part_bytes m) (sym (split_element 0))
  judged_element (suc c) =
      ap (λ (b : List ℕ). get_or (split (get_or (delimiters_of m) 1 0) b) c []) repetition_held
      ∙ sym (part_in_bytes (get_or (delimiters_of m) 1 0) m (part_in (get_or (delimiters_of m) 2 0) m field_part r) c (within_in (get_or (delimiters_of m) 2 0) m field_part r within_field_part))
      ∙ ap (part_bytes m) (sym (split_element (suc c)))

  -- there are as many repetitions as are not absent
  whole_element : element_at m (address segment field (suc r) 0 0) ≡ part_in (get_or (delimiters_of m) 2 0) m field_part r
  unfolding below
  whole_element = split_element 0

  pub counted_element : (r < length (repetitions_of m segment (segment_at m segment) field)) ↔ (element_at m (address segment field (suc r) 0 0) ≡ None → ⊥)
  counted_element =
      let e = ap length split_field in
      ((λ h q. past field_part (sym whole_element ∙ q) (omega arith)), (λ n. let t = there field_part (λ q. n (whole_element ∙ q)) in omega arith))
    where
      past : (p : Option Part) → part_in (get_or (delimiters_of m) 2 0) m p r ≡ None → r < length (repetitions_in m p) → ⊥
      past None q h = omega arith
      past (Some part) q h = let n = absent_means (get_or (delimiters_of m) 2 0) m part.start part.end r q in omega arith

      there : (p : Option Part) → (part_in (get_or (delimiters_of m) 2 0) m p r ≡ None → ⊥) → r < length (repetitions_in m p)
      there None n = absurd (n (in_absent (get_or (delimiters_of m) 2 0) m None r refl))
      there (Some part) n = at (dec_lt r (length (split (get_or (delimiters_of m) 2 0) (between m part.start part.end))))
        where
          at : Dec (r < length (split (get_or (delimiters_of m) 2 0) (between m part.start part.end))) → r < length (split (get_or (delimiters_of m) 2 0) (between m part.start part.end))
          at (yes h) = h
          at (no h) = absurd (n (means_absent (get_or (delimiters_of m) 2 0) m part.start part.end r (omega (arith, h))))

-- ---- the segments as the judge walks along them

walked : (rs : List Row) (m : List ℕ) (number start : ℕ) (ss : List (List ℕ)) (k : ℕ) → k < length ss
    → get_or (segment_faults rs m number start ss) k sound ≡ first_fault (map (row_fault m (number + k) (standing start ss k) (get_or ss k [])) rs)
unfolding segment_faults standing
walked rs m number start [] k h = absurd (omega arith)
walked rs m number start (s ∷ ss) zero h = let e : number + 0 ≡ number = omega arith in rw e
walked rs m number start (s ∷ ss) (suc k) h =
    let e : number + suc k ≡ number + 1 + k = omega arith in
    rw e (walked rs m (number + 1) (start + length s + 1) ss k (omega arith))

one_each : (rs : List Row) (m : List ℕ) (number start : ℕ) (ss : List (List ℕ)) → length (segment_faults rs m number start ss) ≡ length ss
unfolding segment_faults
one_each rs m number start [] = refl
one_each rs m number start (s ∷ ss) = ap suc (one_each rs m (number + 1) (start + length s + 1) ss)

-- a list by the numbers of its places
numbered : (l : List Fault) (f : ℕ → Fault) (k : ℕ) → ((i : ℕ) → i < length l → get_or l i sound ≡ f (k + i)) → l ≡ map f (numbers_from k (length l))
unfolding numbers_from
numbered [] f k h = refl
numbered (x ∷ l) f k h =
    let e : k + 0 ≡ k = omega arith in
    ap₂ (λ (y : Fault) (ys : List Fault). y ∷ ys) (h 0 (omega arith) ∙ ap f e)
    (numbered l f (k + 1) (λ i n. let e : k + suc i ≡ k + 1 + i = omega arith in h (suc i) (omega arith) ∙ ap f e))

-- what a row finds in the segment of a number
abbrev finds : List ℕ → ℕ → Row → Fault
finds m k = row_fault m k (segment_at m k) (get_or (segments m) k [])

-- the walk goes from segment to segment
in_order : (m : List ℕ) → judging rows m ≡ first_fault (map (λ (k : ℕ). first_fault (map (finds m k) rows)) (numbers_from 0 (length (segments m))))
unfolding judging segment_at
in_order m =
    ap first_fault (numbered (segment_faults rows m 0 0 (segments m)) (λ (k : ℕ). first_fault (map (finds m k) rows)) 0 each)
    ∙ ap (λ (n : ℕ). first_fault (map (λ (k : ℕ). first_fault (map (finds m k) rows)) (numbers_from 0 n))) (one_each rows m 0 0 (segments m))
  where
    each : (i : ℕ) → i < length (segment_faults rows m 0 0 (segments m)) → get_or (segment_faults rows m 0 0 (segments m)) i sound ≡ first_fault (map (finds m (0 + i)) rows)
    each i h =
        let n = one_each rows m 0 0 (segments m) in
        let e : 0 + i ≡ i = omega arith in
        rw e (rw e at (walked rows m 0 0 (segments m) i (omega arith)))

-- ---- the rows: each is of a field, those of MSH are past its first two, and none of MSH has a type that is said

unfoldable fits : Row → Bool
fits row =
    leb 1 row.field
    && ((not (is_said row.kind) || leb 1 (said_field row.kind))
    && (not (eqb row.segment (name "MSH")) || (leb 3 row.field && not (is_said row.kind))))

unfoldable every : List Row → Bool
every [] = true
every (row ∷ rest) = fits row && every rest

every_at : (rs : List Row) (i : ℕ) → every rs ≡ true → i < length rs → fits (get_or rs i no_row) ≡ true
unfolding every
every_at [] i e h = absurd (omega arith)
every_at (row ∷ rest) zero e h = (and_both (fits row) (every rest) e).0
every_at (row ∷ rest) (suc i) e h = every_at rest i (and_both (fits row) (every rest) e).1 (omega arith)

every_row : every rows ≡ true
unfolding rows every fits
every_row = refl

or_second : (x y : Bool) → x ≡ false → (x || y) ≡ true → y ≡ true
or_second false y e h = h
or_second true y e h = false_true (sym e)

record Fits (row : Row) : Type 0 where
  pub of_field : 1 ≤ row.field
  pub said_field_lem : is_said row.kind ≡ true → 1 ≤ said_field row.kind
  pub header : row.segment ≡ name "MSH" → (3 ≤ row.field) × (is_said row.kind ≡ false)

row_fits : (i : ℕ) → i < length rows → Fits (get_or rows i no_row)
unfolding fits
row_fits i h = at (get_or rows i no_row) (every_at rows i every_row h)
  where
    at : (row : Row) → fits row ≡ true → Fits row
    at row e =
        let a = and_both (leb 1 row.field) _ e in
        let b = and_both (not (is_said row.kind) || leb 1 (said_field row.kind)) _ a.1 in
        record {
          of_field = leb-true 1 row.field a.0;
          said_field_lem = λ q. leb-true 1 (said_field row.kind) (or_second (not (is_said row.kind)) _ (ap not q) b.0);
          header = λ q. (
              let c = and_both (leb 3 row.field) (not (is_said row.kind)) (or_second _ _ (ap not (eq-eqb row.segment (name "MSH") q)) b.1) in
              (leb-true 3 row.field c.0, not-true (is_said row.kind) c.1)
              );
        }

-- ---- a segment of a message that was read

-- the first is MSH, by its own bytes
module _ (m : List ℕ) (g : Message m) where
  early_byte : (i b : ℕ) → i < 8 → eqb (get_or m i 0) b ≡ true → get_or (get_or (segments m) 0 []) i 0 ≡ b
  early_byte i b h e =
      let f = first_segment m g in
      let l = f.1 in
      ap (λ (x : List ℕ). get_or x i 0) (sym (segment_bytes m 0 0 (find carriage_return m) f.0).3) ∙ get_or-take (find carriage_return m - 0) (drop 0 m) i 0 (omega arith)
      ∙ eqb-true (get_or m i 0) b e

  header_name : name "MSH" ≡ name_of (get_or (segments m) 0 [])
  unfolding name_of
  header_name =
      let h = and_both (eqb (get_or m 0 0) 77) (eqb (get_or m 1 0) 83 && eqb (get_or m 2 0) 72) g.opened.header in
      let k = and_both (eqb (get_or m 1 0) 83) (eqb (get_or m 2 0) 72) h.1 in
      rw (early_byte 0 77 (omega arith) h.0, early_byte 1 83 (omega arith) k.0, early_byte 2 72 (omega arith) k.1)

module _ (m : List ℕ) (done : reading m ≡ passes) (k : ℕ) (there : k < length (segments m)) where
  abbrev bytes : List ℕ
  bytes = get_or (segments m) k []

  four : 4 ≤ length m
  four = let n = (accepted m done).opened.nine_bytes in omega arith

  -- a question for one of its elements is answered
  answers : (f r c : ℕ) → Asks (address k f r c 0) → checked (found m (address k f r c 0)) ≡ passes
  answers f r c asks = (answered_exactly m (address k f r c 0)).1 (done, asks, there)

  asks_component : (f r : ℕ) → 1 ≤ f → (component : ℕ) → Asks (address k f (suc r) component 0)
  asks_component f r h zero = whole_repetition k f (suc r) h (omega arith)
  asks_component f r h (suc c) = whole_component k f (suc r) (suc c) h (omega arith) (omega arith)

  part_shown : (f r : ℕ) → 1 ≤ f → fixed k f ≡ false → (component : ℕ)
      → judged_part (delimiters_of m) component (get_or (repetitions_of m k (segment_at m k) f) r []) ≡ element_bytes m (address k f (suc r) component 0)
  part_shown f r h free component =
      judged_element m k f r four free component
      ∙ sym (shown_is m (address k f (suc r) component 0) (answers f (suc r) component (asks_component f r h component)))

  module _ (row : Row) (fit : Fits row) (named : row.segment ≡ name_at k bytes) where
    header_row : k ≡ 0 → (3 ≤ row.field) × (is_said row.kind ≡ false)
    header_row z = fit.header (named ∙ ap (λ (t : Bool). cond t (name "MSH") (name_of bytes)) (eq-eqb k 0 z))

    free_field : fixed k row.field ≡ false
    free_field = split_further (address k row.field 0 0 0) (λ z. (header_row z).0)

    held : HeldAgainst m k row (said_in m k (segment_at m k) row.kind) (repetitions_of m k (segment_at m k) row.field)
    unfolding judged_part
    held =
        record {
          counted = λ r. (
              let count = counted_element m k row.field r four free_field in
              let nowhere = absent_nowhere m (address k row.field (suc r) 0 0) (answers row.field (suc r) 0 (asks_component row.field r fit.of_field 0)) in
              ((λ h q. count.0 h (nowhere.0 q)), (λ n. count.1 (λ q. n (nowhere.1 q))))
              );
          judged = λ r component. part_shown row.field r fit.of_field free_field component;
          as_said = λ e. (
              let free = split_further (address k (said_field row.kind) 0 0 0) (λ z. false_true (sym (header_row z).1 ∙ e)) in
              ap (λ (t : Bool). cond t (get_or (repetitions_of m k (segment_at m k) (said_field row.kind)) 0 []) []) e
              ∙ part_shown (said_field row.kind) 0 (fit.said_field_lem e) free 0
              );
        }

  own_name : name_at k bytes ≡ name_of bytes
  own_name = at (eqb k 0) refl
    where
      at : (t : Bool) → eqb k 0 ≡ t → cond t (name "MSH") (name_of bytes) ≡ name_of bytes
      at true e = header_name m (accepted m done) ∙ ap (λ (n : ℕ). name_of (get_or (segments m) n [])) (sym (eqb-true k 0 e))
      at false e = refl

  row_finds : (row : Row) → Fits row → RowFinds m k row (finds m k row)
  unfolding row_fault
  row_finds row fit = at (eqb row.segment (name_at k bytes)) refl
    where
      said : List ℕ
      said = said_in m k (segment_at m k) row.kind

      repetitions : List (List ℕ)
      repetitions = repetitions_of m k (segment_at m k) row.field

      at : (t : Bool) → eqb row.segment (name_at k bytes) ≡ t → RowFinds m k row (cond t (located k row.field (row_check (delimiters_of m) row said repetitions)) sound)
      at true e = let q = eqb-true row.segment (name_at k bytes) e in own said repetitions (q ∙ own_name) (held row fit q)
      at false e = other (λ q. eqb-false row.segment (name_at k bytes) e (q ∙ sym own_name))

pub judged_by_elements : (m : List ℕ) → reading m ≡ passes → JudgedByElements m
judged_by_elements m done =
    record { finds = finds m; by_elements = λ k i there h. row_finds m done k there (get_or rows i no_row) (row_fits i h); in_order = in_order m }
