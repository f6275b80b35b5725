-- How the private functions come to the verdict in one walk over a message's segments. Nobody has to believe this: the
-- verdict's own contract names none of it.
use Rattle.std.specs.Prelude.{◌≡◌, List, ℕ, Ok, Err}
use Rattle.alphabet.specs.Answers.{passes, fails}
use Rattle.alphabet.specs.declared.answers.Refusal.{Refusal}
use Rattle.reading.specs.Reading.{segments_check}
use Rattle.fault.specs.Faults.{Judgement, plain}
use Rattle.fault.specs.declared.FaultRecord.{FaultRecord}
use Rattle.structure.specs.Shapes.{Shape}
use Rattle.structure.specs.SegmentNames.{segment_names}
use Rattle.structure.specs.Judged.{Judged}
use Rattle.field_table.specs.Table.{rows}
use Rattle.fields.specs.Judging.{fault_answer, judging}

-- the verdict on the segments of a message by a structure: a reading fault, the structure's refusal, or what the fields
-- come to
pub data Decides (s : Shape) (m : List ℕ) : Judgement → Type 0 where
  unread : (kind : Refusal) (place : ℕ) → segments_check m ≡ fails kind place → Decides s m (Err (plain kind place))
  refused : {r : FaultRecord} → segments_check m ≡ passes → Judged s (segment_names m) (Err r) → Decides s m (Err r)
  judged : segments_check m ≡ passes → Judged s (segment_names m) (Ok tt) → Decides s m (fault_answer (judging rows m))
