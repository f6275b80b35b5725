-- Laws of the one walk: which checks of reading are left, and how a reading fault and the structure's judgement come together. Assumes nothing.
use mathlib.Core.Path.{◌≡◌, refl, sym, ◌∙◌}
use mathlib.Core.List.{List}
use Prim.Native.Nat.{ℕ}
use native.Mathlib.Omega.{arith}
use lib.ListN.{drop}
use Rattle.std.specs.Prelude.{Ok, Err, Some, None}
use Rattle.alphabet.specs.Answers.{Check, passes, fails}
use Rattle.alphabet.specs.Bytes.{carriage_return}
use Rattle.alphabet.specs.Parts.{split}
use Rattle.alphabet.specs.declared.answers.Refusal.{Refusal}
use Rattle.alphabet.proofs.CheckLaws.{fails_or, passes_or, ends}
use Rattle.reading.specs.Segments.{all_but_last}
use Rattle.reading.specs.Reading.{opening, end_check, segment_checks, segments_check, reading}
use Rattle.fault.specs.Faults.{Judgement}
use Rattle.structure.specs.Shapes.{Shape}
use Rattle.structure.specs.Structures.{ListedStructure, chosen, unlisted, structure_for}
use Rattle.structure.specs.Judged.{AnswersBy, no_structure, by, unread, read}
use Rattle.structure.specs.Engine.{RowsAre, RowsOf}
use Rattle.structure.specs.OneWalk.{unlisted_answer, JudgedAsRead}
use Rattle.structure.specs.OneWalk.JudgedAsRead.{faulty, judged}
use Rattle.structure.specs.declared.rows.Rows.{Rows}
use Rattle.structure.proofs.RowLaws.{none_chosen, one_chosen}

-- the checks of reading that are left from `start` on
abbrev pub checks_left : List ℕ → ℕ → ℕ → ℕ → List Check
checks_left m separator number start = segment_checks separator number start (all_but_last (split carriage_return (drop start m)))

-- ---- reading

module _ (m : List ℕ) where
  pub opening_fails : {kind : Refusal} {place : ℕ} → opening m ≡ fails kind place → reading m ≡ fails kind place
  unfolding reading
  opening_fails e = fails_or e _

  module _ (o : opening m ≡ passes) where
    pub end_fails : {kind : Refusal} {place : ℕ} → end_check m ≡ fails kind place → reading m ≡ fails kind place
    unfolding reading
    end_fails e = passes_or o _ ∙ fails_or e _

    -- the segments are left to be read
    pub left_to_read : end_check m ≡ passes → reading m ≡ segments_check m
    unfolding reading
    left_to_read d = passes_or o _ ∙ passes_or d _ ∙ sym (ends refl)

-- ---- the answer, where the segments are left to be read

module _ (book : List ListedStructure) (m : List ℕ) (left : reading m ≡ segments_check m) where
  unlisted_answers : structure_for book m ≡ unlisted → AnswersBy book m (unlisted_answer (segments_check m))
  unlisted_answers g = at (segments_check m) left
    where
      at : (c : Check) → reading m ≡ c → AnswersBy book m (unlisted_answer c)
      at (Ok _) e = read e (no_structure g)
      at (Err fault) e = unread fault.kind fault.place e

  listed_answers : (x : ListedStructure) → structure_for book m ≡ chosen x → {r : Judgement} → JudgedAsRead x.shape m r → AnswersBy book m r
  listed_answers x g (faulty kind place f) = unread kind place (left ∙ f)
  listed_answers x g (judged p j) = read (left ∙ p) (by x g j)

  -- by the rows of the structure that is chosen, or where there are none
  pub without_rows : RowsOf (structure_for book m) None → AnswersBy book m (unlisted_answer (segments_check m))
  without_rows h = unlisted_answers (none_chosen (structure_for book m) h)

  pub with_rows : (r : Rows) {j : Judgement} → RowsOf (structure_for book m) (Some r) → ((s : Shape) → RowsAre s r → JudgedAsRead s m j) → AnswersBy book m j
  with_rows r h judge = let k = one_chosen (structure_for book m) r h in listed_answers k.0 k.1 (judge k.0.shape k.2)

-- it is a refusal
pub unlisted_refuses : (c : Check) → unlisted_answer c ≡ Ok tt → ⊥
unlisted_refuses (Ok _) e = absurd (let z : ◌≡◌ {A = ℕ} 0 1 = cc in omega arith)
unlisted_refuses (Err fault) e = absurd (let z : ◌≡◌ {A = ℕ} 0 1 = cc in omega arith)
