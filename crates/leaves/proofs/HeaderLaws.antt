-- The leaves of a message begin with MSH-1 and MSH-2, and go on behind byte 8; and where a walk ends none is left. Assumes nothing.
use mathlib.Core.Path.{◌≡◌, refl, sym, ap, ap₂, ◌∙◌, subst}
use mathlib.Core.List.{List, [], ◌∷◌, ◌++◌}
use mathlib.Core.Bool.{Bool, true, false, ◌||◌}
use Prim.Native.Nat.{ℕ, ◌+◌, ◌-◌, ◌*◌, ◌≤◌}
use native.Mathlib.Omega.{arith}
use lib.Dec.{eqb, ltb}
use lib.ListN.{length, get_or, drop, length-drop, length-append, drop_of_length-le}
use lib.Seq.{get_or-drop}
use borrow.Author.Tests.{eq-eqb, ne_eqb, eqb-true, eqb-false, ltb-true, ltb-false}
use Rattle.alphabet.specs.Answers.{passes}
use Rattle.alphabet.specs.Bytes.{carriage_return}
use Rattle.alphabet.specs.Lists.{first, find, among}
use Rattle.alphabet.specs.Filling.{pasted}
use Rattle.alphabet.specs.Delimiters.{permitted}
use Rattle.alphabet.specs.Parts.{split}
use Rattle.alphabet.proofs.BoolLaws.{false_true, and_both}
use Rattle.alphabet.proofs.DelimiterLaws.{delimiter_permitted}
use Rattle.alphabet.proofs.ListLaws.{drop_next, first_least}
use Rattle.reading.specs.Segments.{all_but_last, segments, delimiters_of}
use Rattle.reading.specs.Reading.{reading}
use Rattle.reading.proofs.Accepted.{accepted, message_last}
use Rattle.reading.proofs.SegmentLaws.{ended_last}
use Rattle.element.specs.States.{state_of}
use Rattle.element.specs.declared.address.Address.{Address}
use Rattle.element.specs.declared.states.State.{State}
use Rattle.leaves.specs.Leaves.{Leaf, addressed, leaf_at, in_part, in_segment, leaves_of, state_number, rows}
use Rattle.leaves.specs.Walks.{ends_of, resume, rest_part, rest_segment, rest_from, passed, AtMost, Reached, Written, rest_rows}
use Rattle.leaves.proofs.LevelLaws.{each_resume, level_alone, level_own}
use Rattle.leaves.proofs.RowLaws.{written_more}
use Rattle.leaves.proofs.RestLaws.{part_begins, segment_begins, message_own, message_past}
use Rattle.leaves.proofs.TurnLaws.{differ, no_end, more_to_come}

-- ---- where a walk ends

nothing_left : (ds : List ℕ) (a : Address) (start : ℕ) → rows (rest_from ds a start []) ≡ []
unfolding rest_from resume all_but_last split rows
nothing_left ds a start = refl

own_end : (m : List ℕ) → among (ends_of m) carriage_return ≡ true
unfolding first
own_end m = refl

pub rest_over : (m : List ℕ) → reading m ≡ passes → (a : Address) (start : ℕ) → Reached m a start (length m) → rest_rows m a start ≡ []
rest_over m ok a start r = ap (λ (l : List ℕ). rows (rest_from (delimiters_of m) a start l)) (drop_of_length-le m past) ∙ nothing_left (delimiters_of m) a start
  where
    past : length m ≤ start
    past = at (ltb start (length m)) refl
      where
        at : (t : Bool) → ltb start (length m) ≡ t → length m ≤ start
        at true e =
            let h = ltb-true start (length m) e in
            let d = length-drop start m in
            let i = length m - 1 - start in
            let n : start + i ≡ length m - 1 = omega arith in
            let b = get_or-drop start m i 0 ∙ ap (λ (j : ℕ). get_or m j 0) n ∙ message_last m (accepted m ok) in
            let f = first_least (among (ends_of m)) (drop start m) i (omega arith) (ap (among (ends_of m)) b ∙ own_end m) in
            let g = r.free in
            absurd (omega arith)
        at false e = let h = ltb-false start (length m) e in h

-- ---- where it begins

module _ (m : List ℕ) (ok : reading m ≡ passes) where
  abbrev ds : List ℕ
  ds = delimiters_of m

  long : 9 ≤ length m
  long = (accepted m ok).opened.nine_bytes

  front : m ≡ (get_or m 0 0 ∷ get_or m 1 0 ∷ get_or m 2 0 ∷ []) ++ get_or m 3 0 ∷ drop 4 m
  front =
      let h = long in
      drop_next m 0 (omega arith) ∙ ap (λ (l : List ℕ). get_or m 0 0 ∷ l) (drop_next m 1 (omega arith)) ∙ ap (λ (l : List ℕ). get_or m 0 0 ∷ get_or m 1 0 ∷ l) (drop_next m 2 (omega arith))
      ∙ ap (λ (l : List ℕ). get_or m 0 0 ∷ get_or m 1 0 ∷ get_or m 2 0 ∷ l) (drop_next m 3 (omega arith))

  abbrev marks : List ℕ
  marks = get_or m 4 0 ∷ get_or m 5 0 ∷ get_or m 6 0 ∷ get_or m 7 0 ∷ []

  back : drop 4 m ≡ marks ++ get_or m 8 0 ∷ drop 9 m
  back =
      let h = long in
      drop_next m 4 (omega arith) ∙ ap (λ (l : List ℕ). get_or m 4 0 ∷ l) (drop_next m 5 (omega arith)) ∙ ap (λ (l : List ℕ). get_or m 4 0 ∷ get_or m 5 0 ∷ l) (drop_next m 6 (omega arith))
      ∙ ap (λ (l : List ℕ). get_or m 4 0 ∷ get_or m 5 0 ∷ get_or m 6 0 ∷ l) (drop_next m 7 (omega arith))
      ∙ ap (λ (l : List ℕ). get_or m 4 0 ∷ get_or m 5 0 ∷ get_or m 6 0 ∷ get_or m 7 0 ∷ l) (drop_next m 8 (omega arith))

  -- no letter is a delimiter
  letter : (b x : ℕ) → b ≡ x → permitted x ≡ false → eqb (get_or m 3 0) b ≡ false
  letter b x e p = ne_eqb (get_or m 3 0) b (λ q. false_true (sym p ∙ ap permitted (sym (q ∙ e)) ∙ delimiter_permitted ds refl (accepted m ok).opened.delimiters_right 0 (omega arith)))

  named : (get_or m 0 0 ≡ 77) × (get_or m 1 0 ≡ 83) × (get_or m 2 0 ≡ 72)
  named =
      let h = and_both (eqb (get_or m 0 0) 77) _ (accepted m ok).opened.header in
      let k = and_both (eqb (get_or m 1 0) 83) _ h.1 in
      (eqb-true (get_or m 0 0) 77 h.0, eqb-true (get_or m 1 0) 83 k.0, eqb-true (get_or m 2 0) 72 k.1)

  name_clear : find (get_or m 3 0) (get_or m 0 0 ∷ get_or m 1 0 ∷ get_or m 2 0 ∷ []) ≡ 3
  unfolding first
  name_clear = rw (letter (get_or m 0 0) 77 named.0 refl, letter (get_or m 1 0) 83 named.1 refl, letter (get_or m 2 0) 72 named.2 refl)

  name_ended : find carriage_return (get_or m 0 0 ∷ get_or m 1 0 ∷ get_or m 2 0 ∷ []) ≡ 3
  unfolding first
  name_ended = rw (named.0, named.1, named.2)

  marks_clear : find (get_or m 3 0) marks ≡ 4
  unfolding first
  marks_clear =
      rw (differ m ok 0 1 (omega arith) (omega arith) (λ e. omega arith), differ m ok 0 2 (omega arith) (omega arith) (λ e. omega arith), differ m ok 0 3 (omega arith) (omega arith) (λ e. omega arith), differ m ok 0 4 (omega arith) (omega arith) (λ e. omega arith))

  marks_ended : find carriage_return marks ≡ 4
  unfolding first
  marks_ended = rw (no_end m ok 1 (omega arith), no_end m ok 2 (omega arith), no_end m ok 3 (omega arith), no_end m ok 4 (omega arith))

  abbrev separator : Leaf
  separator = leaf_at ds (addressed 0 1 1 1 1) 3 (get_or m 3 0 ∷ [])

  abbrev encoding : Leaf
  encoding = leaf_at ds (addressed 0 2 1 1 1) 4 marks

  part_one : (at : ℕ) (l : List ℕ) → rest_part ds 0 1 1 1 1 at l ≡ separator ∷ []
  unfolding rest_part in_part
  part_one at l = refl

  part_two : (at : ℕ) (l : List ℕ) → rest_part ds 0 2 1 1 1 at l ≡ leaf_at ds (addressed 0 2 1 1 1) at l ∷ []
  unfolding rest_part in_part
  part_two at l = refl

  header_begins : (at : ℕ) (l : List ℕ) → in_segment ds 0 at l ≡ rest_segment ds 0 1 1 1 1 at l
  unfolding in_segment rest_segment
  header_begins at l = each_resume (rest_part ds 0 1 1 1 1) (in_part ds 0) 1 at (split (get_or ds 0 0) l) (λ a p. part_begins ds 0 1 a p)

  begins : leaves_of m ≡ rest_from ds (addressed 0 1 1 1 1) 0 m
  unfolding leaves_of segments rest_from
  begins = each_resume (rest_segment ds 0 1 1 1 1) (in_segment ds) 0 0 (all_but_last (split carriage_return m)) (λ a p. header_begins a p)

  over_one : (l : List ℕ) → rest_segment ds 0 1 1 1 1 0 ((get_or m 0 0 ∷ get_or m 1 0 ∷ get_or m 2 0 ∷ []) ++ get_or m 3 0 ∷ l) ≡ (separator ∷ []) ++ rest_segment ds 0 2 1 1 1 4 l
  unfolding rest_segment
  over_one l =
      level_own (get_or m 3 0) (in_part ds 0) 2 0 (get_or m 0 0 ∷ get_or m 1 0 ∷ get_or m 2 0 ∷ []) (separator ∷ []) name_clear (rest_part ds 0 1 1 1 1) (rest_part ds 0 2 1 1 1) l (part_one 0 _) (λ a q. part_begins ds 0 2 a q)

  step_one : rest_from ds (addressed 0 1 1 1 1) 0 m ≡ (separator ∷ []) ++ rest_from ds (addressed 0 2 1 1 1) 4 (drop 4 m)
  unfolding rest_from
  step_one =
      let h = long in
      let d = length-drop 4 m in
      let t = ltb-true (4 + find carriage_return (drop 4 m)) (length m) (sym (ended_last m 4 (omega arith) (message_last m (accepted m ok)))) in
      ap (λ (l : List ℕ). rest_from ds (addressed 0 1 1 1 1) 0 l) front
      ∙ message_past (in_segment ds) (rest_segment ds 0 1 1 1 1) (rest_segment ds 0 2 1 1 1) 1 0 (get_or m 0 0 ∷ get_or m 1 0 ∷ get_or m 2 0 ∷ []) (get_or m 3 0) (drop 4 m) (separator ∷ []) name_ended (no_end m ok 0 (omega arith)) (omega arith) over_one

  over_two : (l : List ℕ) → rest_segment ds 0 2 1 1 1 4 (marks ++ get_or m 3 0 ∷ l) ≡ (encoding ∷ []) ++ rest_segment ds 0 3 1 1 1 9 l
  unfolding rest_segment
  over_two l = level_own (get_or m 3 0) (in_part ds 0) 3 4 marks (encoding ∷ []) marks_clear (rest_part ds 0 2 1 1 1) (rest_part ds 0 3 1 1 1) l (part_two 4 marks) (λ a q. part_begins ds 0 3 a q)

  alone_two : rest_segment ds 0 2 1 1 1 4 marks ≡ encoding ∷ []
  unfolding rest_segment
  alone_two = level_alone (get_or m 3 0) (in_part ds 0) 3 4 marks (encoding ∷ []) marks_clear (rest_part ds 0 2 1 1 1) (part_two 4 marks)

  abbrev Behind : ℕ → Address → Type 0
  Behind b a = rest_from ds (addressed 0 2 1 1 1) 4 (marks ++ b ∷ drop 9 m) ≡ (encoding ∷ []) ++ rest_from ds a 9 (drop 9 m)

  step_field : get_or m 8 0 ≡ get_or m 3 0 → Behind (get_or m 8 0) (addressed 0 3 1 1 1)
  unfolding rest_from
  step_field e =
      subst (λ (b : ℕ). Behind b (addressed 0 3 1 1 1)) (sym e)
      (message_past (in_segment ds) (rest_segment ds 0 2 1 1 1) (rest_segment ds 0 3 1 1 1) 1 4 marks (get_or m 3 0) (drop 9 m) (encoding ∷ []) marks_ended (no_end m ok 0 (omega arith))
      (let h = long in more_to_come m ok 8 (omega arith) (λ q. eqb-false carriage_return (get_or m 3 0) (no_end m ok 0 (omega arith)) (sym q ∙ e))) over_two)

  step_end : get_or m 8 0 ≡ carriage_return → Behind (get_or m 8 0) (addressed 1 0 1 1 1)
  unfolding rest_from
  step_end e =
      subst (λ (b : ℕ). Behind b (addressed 1 0 1 1 1)) (sym e)
      (message_own (in_segment ds) (rest_segment ds 0 2 1 1 1) (rest_segment ds 1 0 1 1 1) 1 4 marks (drop 9 m) (encoding ∷ []) marks_ended alone_two (λ a q. segment_begins ds 0 a q))

  step_two : rest_from ds (addressed 0 2 1 1 1) 4 (drop 4 m) ≡ (encoding ∷ []) ++ rest_from ds (passed (ends_of m) (get_or m 8 0) (addressed 0 2 1 1 1)) 9 (drop 9 m)
  step_two = ap (rest_from ds (addressed 0 2 1 1 1) 4) back ∙ at (eqb (get_or m 8 0) (get_or m 3 0)) refl
    where
      turn : (x y : ℕ) → eqb x y ≡ false → eqb y x ≡ false
      turn x y f = ne_eqb y x (λ q. eqb-false x y f (sym q))

      at : (t : Bool) → eqb (get_or m 8 0) (get_or m 3 0) ≡ t → Behind (get_or m 8 0) (passed (ends_of m) (get_or m 8 0) (addressed 0 2 1 1 1))
      at true e = rw e (step_field (eqb-true (get_or m 8 0) (get_or m 3 0) e))
      at false e =
          let q : (eqb (get_or m 8 0) (get_or m 3 0) || eqb (get_or m 8 0) carriage_return) ≡ true = (accepted m ok).opened.byte_eight in
          let f : eqb (get_or m 8 0) carriage_return ≡ true = rw e at q in
          let z = eqb-true (get_or m 8 0) carriage_return f in
          let g : eqb (get_or m 8 0) (get_or m 4 0) ≡ false = ap (λ (x : ℕ). eqb x (get_or m 4 0)) z ∙ no_end m ok 1 (omega arith) in
          rw (e, g, f) (step_end z)

  pub leaves_begin : leaves_of m ≡ separator ∷ encoding ∷ rest_from ds (passed (ends_of m) (get_or m 8 0) (addressed 0 2 1 1 1)) 9 (drop 9 m)
  leaves_begin = begins ∙ step_one ∙ ap (λ (l : List Leaf). separator ∷ l) step_two

  -- both are present
  present_one : state_of ds (get_or m 3 0 ∷ []) ≡ State.Present
  unfolding state_of first
  present_one =
      rw (differ m ok 0 1 (omega arith) (omega arith) (λ e. omega arith), differ m ok 0 2 (omega arith) (omega arith) (λ e. omega arith), differ m ok 0 4 (omega arith) (omega arith) (λ e. omega arith))

  present_two : state_of ds marks ≡ State.Present
  unfolding state_of first
  present_two =
      rw (eq-eqb (get_or m 4 0) (get_or m 4 0) refl, eq-eqb (get_or m 5 0) (get_or m 5 0) refl, differ m ok 2 1 (omega arith) (omega arith) (λ e. omega arith), differ m ok 3 1 (omega arith) (omega arith) (λ e. omega arith), differ m ok 3 2 (omega arith) (omega arith) (λ e. omega arith), differ m ok 3 4 (omega arith) (omega arith) (λ e. omega arith))

  pub rows_begin : rows (leaves_of m) ≡ (0 ∷ 1 ∷ 1 ∷ 1 ∷ 1 ∷ 3 ∷ 3 ∷ 4 ∷ 0 ∷ 2 ∷ 1 ∷ 1 ∷ 1 ∷ 3 ∷ 4 ∷ 8 ∷ []) ++ rest_rows m (passed (ends_of m) (get_or m 8 0) (addressed 0 2 1 1 1)) 9
  unfolding rows
  rows_begin =
      ap rows leaves_begin
      ∙ ap₂ (λ (x y : State). (0 ∷ 1 ∷ 1 ∷ 1 ∷ 1 ∷ state_number x ∷ 3 ∷ 4 ∷ 0 ∷ 2 ∷ 1 ∷ 1 ∷ 1 ∷ state_number y ∷ 4 ∷ 8 ∷ []) ++ rest_rows m (passed (ends_of m) (get_or m 8 0) (addressed 0 2 1 1 1)) 9) present_one present_two

  start_at : (a : Address) → AtMost 9 a → 3 ≤ a.segment * 3 + a.field → Reached m a 9 9
  start_at a w h = record { begun = omega arith; free = omega arith; few = w; split_on = h }

  pub start_reached : Reached m (passed (ends_of m) (get_or m 8 0) (addressed 0 2 1 1 1)) 9 9
  start_reached = at (eqb (get_or m 8 0) (get_or m 3 0)) refl
    where
      at : (t : Bool) → eqb (get_or m 8 0) (get_or m 3 0) ≡ t → Reached m (passed (ends_of m) (get_or m 8 0) (addressed 0 2 1 1 1)) 9 9
      at true e = rw e (start_at (addressed 0 3 1 1 1) (omega arith, omega arith, omega arith, omega arith, omega arith) (omega arith))
      at false e =
          let q : (eqb (get_or m 8 0) (get_or m 3 0) || eqb (get_or m 8 0) carriage_return) ≡ true = (accepted m ok).opened.byte_eight in
          let f : eqb (get_or m 8 0) carriage_return ≡ true = rw e at q in
          let z = eqb-true (get_or m 8 0) carriage_return f in
          let g : eqb (get_or m 8 0) (get_or m 4 0) ≡ false = ap (λ (x : ℕ). eqb x (get_or m 4 0)) z ∙ no_end m ok 1 (omega arith) in
          rw (e, g, f) (start_at (addressed 1 0 1 1 1) (omega arith, omega arith, omega arith, omega arith, omega arith) (omega arith))

  pub start_length : length (rows (leaves_of m)) ≡ 16 + length (rest_rows m (passed (ends_of m) (get_or m 8 0) (addressed 0 2 1 1 1)) 9)
  start_length = ap length rows_begin ∙ length-append (0 ∷ 1 ∷ 1 ∷ 1 ∷ 1 ∷ 3 ∷ 3 ∷ 4 ∷ 0 ∷ 2 ∷ 1 ∷ 1 ∷ 1 ∷ 3 ∷ 4 ∷ 8 ∷ []) (rest_rows m (passed (ends_of m) (get_or m 8 0) (addressed 0 2 1 1 1)) 9)

  pub long_enough : 9 ≤ length m
  long_enough = (accepted m ok).opened.nine_bytes

  -- the two rows of MSH are written
  pub start_written : (d d₁ d₂ : List ℕ) → d₁ ≡ pasted d 0 (0 ∷ 1 ∷ 1 ∷ 1 ∷ 1 ∷ 3 ∷ 3 ∷ 4 ∷ []) → d₂ ≡ pasted d₁ 8 (0 ∷ 2 ∷ 1 ∷ 1 ∷ 1 ∷ 3 ∷ 4 ∷ 8 ∷ [])
      → Written (rows (leaves_of m)) d (rest_rows m (passed (ends_of m) (get_or m 8 0) (addressed 0 2 1 1 1)) 9) d₂ 16
  start_written d d₁ d₂ e₁ e₂ =
      let w : Written (rows (leaves_of m)) d (rows (leaves_of m)) d 0 = record { front = []; all = refl; size = refl; holds = refl } in
      let v = written_more (0 ∷ 1 ∷ 1 ∷ 1 ∷ 1 ∷ 3 ∷ 3 ∷ 4 ∷ []) ((0 ∷ 2 ∷ 1 ∷ 1 ∷ 1 ∷ 3 ∷ 4 ∷ 8 ∷ []) ++ rest_rows m (passed (ends_of m) (get_or m 8 0) (addressed 0 2 1 1 1)) 9) d₁ 8 w rows_begin e₁ refl in
      written_more (0 ∷ 2 ∷ 1 ∷ 1 ∷ 1 ∷ 3 ∷ 4 ∷ 8 ∷ []) (rest_rows m (passed (ends_of m) (get_or m 8 0) (addressed 0 2 1 1 1)) 9) d₂ 16 v refl e₂ refl
