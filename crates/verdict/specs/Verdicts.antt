-- The verdict, by document 01, 'Numbers given back': "Judges answer a reading fault first, then 20, 21, 22, then
-- fields." It is said over any book, a list of structures; document 01's own is one.
use Rattle.std.specs.Prelude.{◌≡◌, List, ℕ, Ok, Err}
use Rattle.alphabet.specs.Answers.{passes}
use Rattle.reading.specs.Reading.{reading}
use Rattle.fault.specs.Faults.{Judgement}
use Rattle.fault.specs.declared.FaultRecord.{FaultRecord}
use Rattle.structure.specs.Shapes.{Yields, names}
use Rattle.structure.specs.SegmentNames.{segment_names, kept}
use Rattle.structure.specs.Structures.{ListedStructure, chosen, structure_for, built_in}
use Rattle.structure.specs.Judged.{AnswersBy}
use Rattle.field_table.specs.Table.{rows}
use Rattle.fields.specs.Judging.{fault_answer, judging}

-- the first of the judges that refuses decides
pub data VerdictsBy (book : List ListedStructure) (m : List ℕ) : Judgement → Type 0 where
  refused : (r : FaultRecord) → AnswersBy book m (Err r) → VerdictsBy book m (Err r)
  judged : AnswersBy book m (Ok tt) → VerdictsBy book m (fault_answer (judging rows m))

-- reading, structure and fields all accept
pub record AcceptsBy (book : List ListedStructure) (m : List ℕ) : Type 0 where
  pub read : reading m ≡ passes
  pub structure : ListedStructure
  pub listed : structure_for book m ≡ chosen structure
  pub yields : Yields structure.shape (kept (names structure.shape) (segment_names m))
  -- the field judge finds nothing
  pub sound : fault_answer (judging rows m) ≡ Ok tt

-- by the structures of document 01
abbrev pub Verdicts : List ℕ → Judgement → Type 0
Verdicts m r = VerdictsBy built_in m r

abbrev pub Accepts : List ℕ → Type 0
Accepts m = AcceptsBy built_in m
