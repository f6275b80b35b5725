-- How the private functions judge the structure of a message as they read it, in one walk over its segments. Nobody
-- has to believe this: the judge's own contract names none of it.
use Rattle.std.specs.Prelude.{◌≡◌, List, ℕ, Ok, Err}
use Rattle.alphabet.specs.Answers.{Check, passes, fails}
use Rattle.alphabet.specs.declared.answers.Refusal.{Refusal}
use Rattle.alphabet.specs.declared.answers.Refusal.TheVariants.{NoStructure}
use Rattle.reading.specs.Reading.{segments_check}
use Rattle.fault.specs.Faults.{Judgement, plain}
use Rattle.structure.specs.Shapes.{Shape}
use Rattle.structure.specs.SegmentNames.{segment_names}
use Rattle.structure.specs.Judged.{Judged}

-- where the type chooses no structure, 20 stands behind the faults of the segments
abbrev pub unlisted_answer : Check → Judgement
unlisted_answer (Ok _) = Err (plain NoStructure 0)
unlisted_answer (Err fault) = Err (plain fault.kind fault.place)

-- the segments of a message judged by a structure: a reading fault, or what the structure says of their names
pub data JudgedAsRead (s : Shape) (m : List ℕ) : Judgement → Type 0 where
  faulty : (kind : Refusal) (place : ℕ) → segments_check m ≡ fails kind place → JudgedAsRead s m (Err (plain kind place))
  judged : {r : Judgement} → segments_check m ≡ passes → Judged s (segment_names m) r → JudgedAsRead s m r
