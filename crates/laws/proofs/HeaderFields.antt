-- "Field 1 of MSH is the separator byte, field 2 the four encoding bytes": where both stand in a message that was read, and their bytes. Assumes nothing.
use mathlib.Core.Path.{◌≡◌, refl, sym, ap, ◌∙◌}
use mathlib.Core.Bool.{Bool, true, false, ◌&&◌, ◌||◌}
use mathlib.Core.List.{List, [], ◌∷◌}
use Prim.Native.Nat.{ℕ, ◌+◌, ◌≤◌, ◌<◌}
use native.Mathlib.Decide.{dec_lt}
use native.Mathlib.Nat.{sub-zero}
use native.Mathlib.Omega.{arith}
use lib.Dec.{eqb}
use lib.ListN.{length, get_or, take, drop, length-drop}
use lib.Seq.{get_or-take, get_or-drop, length-take-le}
use borrow.Author.Tests.{eqb-true, eq-eqb, ne_eqb}
use Rattle.std.specs.Prelude.{Option}
use Rattle.alphabet.specs.Bytes.{carriage_return}
use Rattle.alphabet.specs.Delimiters.{permitted}
use Rattle.alphabet.specs.Lists.{find}
use Rattle.alphabet.specs.Parts.{part_at, from_to}
use Rattle.alphabet.specs.declared.parts.Part.{Part}
use Rattle.alphabet.proofs.BoolLaws.{and_both, false_true}
use Rattle.alphabet.proofs.DelimiterLaws.{delimiter_permitted, delimiters_differ}
use Rattle.alphabet.proofs.ListLaws.{drop_next, first_le, first_before, first_reached, first_next}
use Rattle.alphabet.proofs.PartLaws.{standing_first, standing_walk}
use Rattle.reading.specs.Message.{Message}
use Rattle.reading.specs.Segments.{delimiters_of, field_separator, segment_at}
use Rattle.element.specs.Levels.{between, moved, part_in, field_in}
use Rattle.laws.proofs.HeaderLaws.{first_segment}

module _ (m : List ℕ) (g : Message m) where
  abbrev sep : ℕ
  sep = field_separator m

  abbrev end : ℕ
  end = find carriage_return m

  -- the first segment, and its bytes
  abbrev line : List ℕ
  line = take end m

  size : length line ≡ end
  size = let l = (first_segment m g).2 in length-take-le end m (omega arith)

  byte : (i : ℕ) → i < end → get_or line i 0 ≡ get_or m i 0
  byte i h = get_or-take end m i 0 h

  -- a letter is no separator, nor is another delimiter
  letter_other : (i b : ℕ) → get_or m i 0 ≡ b → permitted b ≡ false → eqb sep (get_or m i 0) ≡ false
  letter_other i b e p =
      ne_eqb sep (get_or m i 0) (λ q. false_true (sym p ∙ ap permitted (sym (q ∙ e)) ∙ delimiter_permitted (delimiters_of m) refl g.opened.delimiters_right 0 (omega arith)))

  delimiter_other : (i : ℕ) → i < 5 → (i ≡ 0 → ⊥) → eqb sep (get_or (delimiters_of m) i 0) ≡ false
  delimiter_other i h n = ne_eqb sep (get_or (delimiters_of m) i 0) (λ q. n (sym (delimiters_differ (delimiters_of m) refl g.opened.delimiters_right 0 i (omega arith) h q)))

  in_line : (i : ℕ) → i < end → eqb sep (get_or m i 0) ≡ false → eqb sep (get_or line i 0) ≡ false
  in_line i h e = ap (eqb sep) (byte i h) ∙ e

  -- the first separator stands behind MSH
  name_ends : find sep line ≡ 3
  name_ends =
      let long = (first_segment m g).1 in
      let n = size in
      let h = and_both (eqb (get_or m 0 0) 77) (eqb (get_or m 1 0) 83 && eqb (get_or m 2 0) 72) g.opened.header in
      let k = and_both (eqb (get_or m 1 0) 83) (eqb (get_or m 2 0) 72) h.1 in
      let a = first_next (eqb sep) line 0 (omega arith) (omega arith) (in_line 0 (omega arith) (letter_other 0 77 (eqb-true (get_or m 0 0) 77 h.0) refl)) in
      let b = first_next (eqb sep) line 1 (omega arith) a (in_line 1 (omega arith) (letter_other 1 83 (eqb-true (get_or m 1 0) 83 k.0) refl)) in
      let c = first_next (eqb sep) line 2 (omega arith) b (in_line 2 (omega arith) (letter_other 2 72 (eqb-true (get_or m 2 0) 72 k.1) refl)) in
      first_reached (eqb sep) line 3 (omega arith) c (eq-eqb sep (get_or line 3 0) (sym (byte 3 (omega arith))))

  -- the next one four bytes further, or the segment ends there
  behind : (i : ℕ) → 4 + i < end → get_or (drop 4 line) i 0 ≡ get_or m (4 + i) 0
  behind i h = get_or-drop 4 line i 0 ∙ byte (4 + i) h

  encoding_ends : find sep (drop 4 line) ≡ 4
  encoding_ends =
      let long = (first_segment m g).1 in
      let n = size in
      let d = length-drop 4 line in
      let a = first_next (eqb sep) (drop 4 line) 0 (omega arith) (omega arith) (ap (eqb sep) (behind 0 (omega arith)) ∙ delimiter_other 1 (omega arith) (λ q. omega arith)) in
      let b = first_next (eqb sep) (drop 4 line) 1 (omega arith) a (ap (eqb sep) (behind 1 (omega arith)) ∙ delimiter_other 2 (omega arith) (λ q. omega arith)) in
      let c = first_next (eqb sep) (drop 4 line) 2 (omega arith) b (ap (eqb sep) (behind 2 (omega arith)) ∙ delimiter_other 3 (omega arith) (λ q. omega arith)) in
      let e = first_next (eqb sep) (drop 4 line) 3 (omega arith) c (ap (eqb sep) (behind 3 (omega arith)) ∙ delimiter_other 4 (omega arith) (λ q. omega arith)) in
      at (dec_lt 8 end) e
    where
      eight : 8 < end → (t : Bool) → eqb (get_or m 8 0) carriage_return ≡ t → (eqb (get_or m 8 0) sep || t) ≡ true → get_or m 8 0 ≡ sep
      eight h true q x = absurd (false_true (sym (first_before (eqb carriage_return) m 8 h) ∙ eq-eqb carriage_return (get_or m 8 0) (sym (eqb-true (get_or m 8 0) carriage_return q))))
      eight h false q x = eqb-true (get_or m 8 0) sep (left (eqb (get_or m 8 0) sep) x)
        where
          left : (u : Bool) → (u || false) ≡ true → u ≡ true
          left true y = refl
          left false y = y

      at : Dec (8 < end) → 4 ≤ find sep (drop 4 line) → find sep (drop 4 line) ≡ 4
      at (yes h) e =
          let n = size in
          let d = length-drop 4 line in
          first_reached (eqb sep) (drop 4 line) 4 (omega arith) e
          (eq-eqb sep (get_or (drop 4 line) 4 0) (sym (behind 4 h ∙ eight h (eqb (get_or m 8 0) carriage_return) refl g.opened.byte_eight)))
      at (no h) e =
          let n = size in
          let d = length-drop 4 line in
          let u = first_le (eqb sep) (drop 4 line) in
          omega (arith, h)

  second_part : part_at sep line 1 ≡ from_to 4 8
  unfolding part_at
  second_part =
      let long = (first_segment m g).1 in
      let n = size in
      standing_walk sep line 0 3 0 (sym name_ends) (omega arith) ∙ standing_first sep 4 (drop 4 line) ∙ ap (λ (k : ℕ). from_to 4 (4 + k)) encoding_ends

  -- where the two fields stand
  pub second_field : field_in m 0 (segment_at m 0) 2 ≡ from_to 4 8
  unfolding field_in part_in
  second_field =
      ap (λ (p : Option Part). part_in sep m p 1) (first_segment m g).0
      ∙ ap (λ (n : ℕ). moved 0 (part_at sep (take n m) 1)) (sub-zero end) ∙ ap (moved 0) second_part

pub first_field : (m : List ℕ) → field_in m 0 (segment_at m 0) 1 ≡ from_to 3 4
unfolding field_in
first_field m = refl

-- their bytes, in a message that has so many
pub one_byte : (m : List ℕ) → 3 < length m → between m 3 4 ≡ get_or m 3 0 ∷ []
one_byte m h = ap (take 1) (drop_next m 3 h)

pub four_bytes : (m : List ℕ) → 7 < length m → between m 4 8 ≡ get_or m 4 0 ∷ get_or m 5 0 ∷ get_or m 6 0 ∷ get_or m 7 0 ∷ []
four_bytes m h =
    ap (take 4) (drop_next m 4 (omega arith)) ∙ ap (λ (r : List ℕ). get_or m 4 0 ∷ take 3 r) (drop_next m 5 (omega arith))
    ∙ ap (λ (r : List ℕ). get_or m 4 0 ∷ get_or m 5 0 ∷ take 2 r) (drop_next m 6 (omega arith))
    ∙ ap (λ (r : List ℕ). get_or m 4 0 ∷ get_or m 5 0 ∷ get_or m 6 0 ∷ take 1 r) (drop_next m 7 h)
