-- Laws of the one walk: what each segment adds for each judge, what they come to together, and that this is the verdict. Assumes nothing.
use mathlib.Core.Path.{◌≡◌, refl, sym, ◌∙◌, subst}
use mathlib.Core.List.{List}
use mathlib.Core.Bool.{true}
use Prim.Native.Nat.{ℕ}
use native.Mathlib.Omega.{arith}
use Rattle.std.specs.Prelude.{Some, None, Ok, Err}
use Rattle.std.specs.Result.{is_ok}
use Rattle.alphabet.specs.Answers.{passes, fails}
use Rattle.alphabet.specs.declared.answers.Refusal.{Refusal}
use Rattle.reading.specs.Reading.{segments_check, reading}
use Rattle.fault.specs.Faults.{Judgement, plain}
use Rattle.fault.specs.declared.FaultRecord.{FaultRecord}
use Rattle.structure.specs.Shapes.{Shape}
use Rattle.structure.specs.SegmentNames.{segment_names}
use Rattle.structure.specs.Structures.{ListedStructure, chosen, structure_for}
use Rattle.structure.specs.Judged.{Judged, AnswersBy, by, unread, read}
use Rattle.structure.specs.Engine.{into, Walked, walked, Course, resumed, Tables, Tells, RowsAre, RowsOf}
use Rattle.structure.specs.OneWalk.{unlisted_answer}
use Rattle.structure.specs.declared.rows.Rows.{Rows}
use Rattle.structure.proofs.RowLaws.{one_chosen}
use Rattle.structure.proofs.OneWalk.{unlisted_refuses, without_rows as no-rows-answer}
use Rattle.field_table.specs.Table.{rows}
use Rattle.fields.specs.Judging.{Fault, sound, or_fault, fault_answer, judging}
use Rattle.verdict.specs.Verdicts.{VerdictsBy}
use Rattle.verdict.specs.Verdicts.VerdictsBy.{refused as by-structure, judged as by-fields}
use Rattle.verdict.specs.Walk.{Decides}
use Rattle.verdict.specs.Walk.Decides.{unread as not_read, refused, judged}

pub or_sound : (f : Fault) → or_fault f sound ≡ f
or_sound (Ok _) = refl
or_sound (Err fault) = refl

-- a walk that will accept has refused no segment
pub goes : (ns follow : List ℕ) (last : ℕ) (c : Course) (i : ℕ) (l : List ℕ) → resumed ns follow last c i l ≡ Ok tt → is_ok c ≡ true
goes ns follow last (Ok next) i l e = refl
goes ns follow last (Err stuck) i l e = absurd (let z : ◌≡◌ {A = ℕ} 0 1 = cc in omega arith)

-- ---- what structure and fields come to

module _ (s : Shape) (m ns follow : List ℕ) (last : ℕ) (t : Tables s ns follow last (into 1)) (p : segments_check m ≡ passes) (w : Walked) (e : w ≡ walked ns follow last (into 1) 0 (segment_names m)) where
  judge : {r : Judgement} → Tells w ns r → Judged s (segment_names m) r
  judge c = c.judges s follow last (into 1) (segment_names m) t e

  -- what the structure refuses
  pub decides_structure : {told : Judgement} {r : FaultRecord} → Tells w ns told → told ≡ Err r → Decides s m (Err r)
  decides_structure c q = refused p (subst (Judged s (segment_names m)) q (judge c))

  -- what it accepts
  pub decides_fields : {told : Judgement} {found : Fault} → Tells w ns told → told ≡ Ok tt → (w ≡ Ok tt → found ≡ judging rows m) → Decides s m (fault_answer found)
  decides_fields c q f =
      subst (λ (x : Fault). Decides s m (fault_answer x)) (sym (f (c.refuses q))) (judged p (subst (Judged s (segment_names m)) q (judge c)))

-- ---- the verdict

-- what is no acceptance is decided by the structure's judge
refuses : (book : List ListedStructure) (m : List ℕ) (r : Judgement) → AnswersBy book m r → (r ≡ Ok tt → ⊥) → VerdictsBy book m r
refuses book m (Ok _) a n = absurd (n refl)
refuses book m (Err r) a n = by-structure r a

module _ (book : List ListedStructure) (m : List ℕ) where
  pub unread_verdict : {kind : Refusal} {place : ℕ} → reading m ≡ fails kind place → VerdictsBy book m (Err (plain kind place))
  unread_verdict {kind} {place} f = by-structure (plain kind place) (unread kind place f)

  -- where the segments are left to be read
  module _ (left : reading m ≡ segments_check m) where
    decided : (x : ListedStructure) → structure_for book m ≡ chosen x → {r : Judgement} → Decides x.shape m r → VerdictsBy book m r
    decided x g (not_read kind place f) = unread_verdict (left ∙ f)
    decided x g (refused {r} p j) = by-structure r (read (left ∙ p) (by x g j))
    decided x g (judged p j) = by-fields (read (left ∙ p) (by x g j))

    -- by the rows of the structure that is chosen, or where there are none
    pub without_rows : RowsOf (structure_for book m) None → VerdictsBy book m (unlisted_answer (segments_check m))
    without_rows h = refuses book m (unlisted_answer (segments_check m)) (no-rows-answer book m left h) (unlisted_refuses (segments_check m))

    pub with_rows : (r : Rows) {j : Judgement} → RowsOf (structure_for book m) (Some r) → ((s : Shape) → RowsAre s r → Decides s m j) → VerdictsBy book m j
    with_rows r h judge = let k = one_chosen (structure_for book m) r h in decided k.0 k.1 (judge k.0.shape k.2)
