-- What a judgement of a message's structure says. It is a relation to the grammar alone; `proofs/OnlyOne.antt` shows
-- that no second judgement meets it.
use Rattle.std.specs.Prelude.{◌≡◌, ◌↔◌, Bool, cond, List, ℕ, ◌+◌, ◌≤◌, ◌<◌, T, ltb, length, take, Ok, Err}
use Rattle.alphabet.specs.Answers.{passes, fails}
use Rattle.alphabet.specs.declared.answers.Refusal.{Refusal}
use Rattle.alphabet.specs.declared.answers.Refusal.TheVariants.{NoStructure, SegmentMisplaced, EndedEarly}
use Rattle.reading.specs.Reading.{reading}
use Rattle.fault.specs.Faults.{Judgement, at_place, plain}
use Rattle.fault.specs.declared.FaultRecord.{FaultRecord}
use Rattle.structure.specs.Shapes.{Shape, Yields, Viable, Possible, names, name_at}
use Rattle.structure.specs.SegmentNames.{segment_names, kept}
use Rattle.structure.specs.Listed.{Listed}
use Rattle.structure.specs.Structures.{ListedStructure, chosen, unlisted, structure_for, built_in}

-- the names of the first segments, as many as n, that are looked at
abbrev pub front : Shape → ℕ → List ℕ → List ℕ
front s n ns = kept (names s) (take n ns)

-- The names ns, as sent, are refused at a segment: those before it begin a list that the structure yields, and with it
-- they begin none; or at the end, where only more are missing. The list has the names that could have stood there, and
-- `ends` says whether the message could have ended there.
pub record Refused (s : Shape) (ns : List ℕ) (place : ℕ) (ends : Bool) (list : List ℕ) : Type 0 where
  pub not_yielded : Yields s (kept (names s) ns) → ⊥
  pub within : place ≤ length ns
  pub begun : Viable s (front s place ns)
  pub stuck : place < length ns → Viable s (front s (place + 1) ns) → ⊥
  pub could_end : T ends ↔ Yields s (front s place ns)
  pub could_stand : Listed (Possible s (front s place ns)) (name_at s) list

-- 21: "segment can't stand there"; 22: "ended early", and its place is "the number of segments"
abbrev pub refused_as : ℕ → ℕ → Bool → List ℕ → FaultRecord
refused_as count place ends list = at_place (cond (ltb place count) SegmentMisplaced EndedEarly) place ends list

-- the names ns, as sent, judged by a structure
pub data Judged (s : Shape) (ns : List ℕ) : Judgement → Type 0 where
  accepted : Yields s (kept (names s) ns) → Judged s ns (Ok tt)
  refused : (place : ℕ) (ends : Bool) (list : List ℕ) → Refused s ns place ends list → Judged s ns (Err (refused_as (length ns) place ends list))

-- "20, 21, 22": a message judged by a book, a list of structures, where no reading fault is looked for
pub data StructuredBy (book : List ListedStructure) (m : List ℕ) : Judgement → Type 0 where
  no_structure : structure_for book m ≡ unlisted → StructuredBy book m (Err (plain NoStructure 0))
  by : {r : Judgement} (x : ListedStructure) → structure_for book m ≡ chosen x → Judged x.shape (segment_names m) r → StructuredBy book m r

-- "Judges answer a reading fault first, then 20, 21, 22"
pub data AnswersBy (book : List ListedStructure) (m : List ℕ) : Judgement → Type 0 where
  unread : (kind : Refusal) (place : ℕ) → reading m ≡ fails kind place → AnswersBy book m (Err (plain kind place))
  read : {r : Judgement} → reading m ≡ passes → StructuredBy book m r → AnswersBy book m r

-- by the structures of document 01
abbrev pub Structured : List ℕ → Judgement → Type 0
Structured m r = StructuredBy built_in m r

abbrev pub Answers : List ℕ → Judgement → Type 0
Answers m r = AnswersBy built_in m r
