-- The library's answers as C sees them: a refusal by its number in the table, a state and a sign by a number each.
-- Every answer of the boundary is one of the library's, seen so.
use Rattle.std.specs.Prelude.{ℕ, ◌≡◌, List, [], get_or, false, Ok, Err}
use Rattle.alphabet.specs.Answers.{Refusable, number_of, number_given, place_given, length_given}
use Rattle.fault.specs.Faults.{Judgement}
use Rattle.structure.specs.Judged.{Answers}
use Rattle.verdict.specs.Verdicts.{Verdicts}
use Rattle.acknowledgement.specs.Acknowledgement.{Acknowledges}
use Rattle.boundary.specs.declared.answers.CAnswer.{CAnswer}
use Rattle.boundary.specs.declared.judges.CStructure.{CStructure}
use Rattle.boundary.specs.declared.judges.CVerdict.{CVerdict}

-- the table's number, the place and the length
abbrev pub seen : Refusable ℕ → CAnswer
seen r = record { number = number_given r; place = place_given r; length = length_given r }

-- ---- judges

-- what is accepted has number 0, place 0 and no names
abbrev pub structure_seen : Judgement → CStructure
structure_seen (Ok _) = record { number = 0; could_end = false; place = 0; names = 0 }
structure_seen (Err j) = record {
  number = number_of j.kind;
  could_end = j.could_end;
  place = j.place;
  names = j.names.count;
}

abbrev pub verdict_seen : Judgement → CVerdict
verdict_seen (Ok _) = record { number = 0; could_end = false; place = 0; field = 0; repetition = 0; names = 0 }
verdict_seen (Err v) = record {
  number = number_of v.kind;
  could_end = v.could_end;
  place = v.place;
  field = v.field;
  repetition = v.repetition;
  names = v.names.count;
}

-- the names that could have stood, where there is a fault
abbrev pub names_listed : Judgement → List ℕ
names_listed (Ok _) = []
names_listed (Err j) = j.names.list

-- what is seen is the structure judge's answer
pub record StructureSeen (m : List ℕ) (r : CStructure) : Type 0 where
  pub judgement : Judgement
  pub answers : Answers m judgement
  pub seen_as : r ≡ structure_seen judgement

-- what is seen is the verdict
pub record VerdictSeen (m : List ℕ) (r : CVerdict) : Type 0 where
  pub verdict : Judgement
  pub answers : Verdicts m verdict
  pub seen_as : r ≡ verdict_seen verdict

-- the name of a number in the structure judge's list, and 0 past its end
pub record NameSeen (m : List ℕ) (index r : ℕ) : Type 0 where
  pub judgement : Judgement
  pub answers : Answers m judgement
  pub seen_as : r ≡ get_or (names_listed judgement) index 0

-- ---- the acknowledgement

pub record AcknowledgeSeen (m time id lent : List ℕ) (r : CAnswer) (left : List ℕ) : Type 0 where
  pub answer : Refusable ℕ
  pub acknowledges : Acknowledges m time id lent answer left
  pub seen_as : r ≡ seen answer
