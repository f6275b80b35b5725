-- What demand 3 says of a refusal by the structure judge: exactly the place, exactly the list.
use Rattle.std.specs.Prelude.{ℕ, ◌+◌, ◌≤◌, ◌<◌, ◌≡◌, ◌↔◌, cond, List, [], ◌∷◌, ◌++◌, T, ltb, length, Ok, Err}
use Rattle.alphabet.specs.declared.answers.Refusal.TheVariants.{SegmentMisplaced, EndedEarly}
use Rattle.structure.specs.Shapes.{Shape, Yields, Viable, Possible, names, name_at}
use Rattle.structure.specs.SegmentNames.{kept}
use Rattle.structure.specs.Listed.{In, Listed}
use Rattle.fault.specs.Faults.{name_list, Judgement}
use Rattle.structure.specs.Judged.{front}
use Rattle.fault.specs.declared.FaultRecord.{FaultRecord}

-- The names ns, as sent, are refused by the structure s with the judgement j. `front s n ns` are the first n of them, Z
-- segments that s does not name taken out; `Viable` says that names begin an acceptable message.
pub record RefusedExactly (s : Shape) (ns : List ℕ) (j : FaultRecord) : Type 0 where
  pub not_yielded : Yields s (kept (names s) ns) → ⊥
  -- "points to the first segment that, with those before it, begins no acceptable message, length limits aside, or to
  -- the end where only more segments are missing"
  pub inside : j.place ≤ length ns
  pub before : (i : ℕ) → i ≤ j.place → Viable s (front s i ns)
  pub stuck : j.place < length ns → Viable s (front s (j.place + 1) ns) → ⊥
  pub kind : j.kind ≡ cond (ltb j.place (length ns)) SegmentMisplaced EndedEarly
  -- "It lists exactly the structure's names that could have stood there, those limits aside."
  pub list : List ℕ
  pub given : j.names ≡ name_list list
  pub could_stand : (n : ℕ) → In n list ↔ Viable s (front s j.place ns ++ (n ∷ []))
  -- "once each, by the earliest place possible there"
  pub once : Listed (Possible s (front s j.place ns)) (name_at s) list
  -- and whether the message could have ended there
  pub could_end : T j.could_end ↔ Yields s (front s j.place ns)

-- "accepts exactly when the grammar listed for that type, with its optional and repeating groups, can yield the segment
-- names, once Z segments the structure doesn't name are taken out"
pub data Exactly (s : Shape) (ns : List ℕ) : Judgement → Type 0 where
  accepted : Yields s (kept (names s) ns) → Exactly s ns (Ok tt)
  refused : {j : FaultRecord} → RefusedExactly s ns j → Exactly s ns (Err j)
