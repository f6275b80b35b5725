-- What an ERR segment tells of a fault, by document 02, W4: a second saying of crates/error_segment's definitions, as
-- lists of cases. Numerals are that crate's own; what they say is shown by `IsNumeral-reads`.
use Rattle.std.specs.Prelude.{ℕ, suc, ◌+◌, ◌≤◌, ◌<◌, ◌≡◌, ◌⊎◌, List, [], ◌∷◌, length, get_or, take}
use Rattle.alphabet.specs.Answers.{number_of}
use Rattle.alphabet.specs.Bytes.{ascii}
use Rattle.reading.specs.Segments.{segments}
use Rattle.structure.specs.SegmentNames.{segment_names}
use Rattle.fault.specs.declared.FaultRecord.{FaultRecord}
use Rattle.error_segment.specs.Numerals.{numeral}

-- the code of a fault, from table 0357
pub data TellsCode (r : FaultRecord) : List ℕ → Type 0 where
  -- "100 for 21 and 22"
  misplaced : number_of r.kind ≡ 21 → TellsCode r (ascii "100")
  ended_early : number_of r.kind ≡ 22 → TellsCode r (ascii "100")
  -- "101 for 31 and 34", "35 is 101"
  missing : number_of r.kind ≡ 31 → TellsCode r (ascii "101")
  null : number_of r.kind ≡ 34 → TellsCode r (ascii "101")
  without_type : number_of r.kind ≡ 35 → TellsCode r (ascii "101")
  -- "102 for 32 and 37", "and 36 is 102"
  breaks_form : number_of r.kind ≡ 32 → TellsCode r (ascii "102")
  too_long : number_of r.kind ≡ 37 → TellsCode r (ascii "102")
  repeated : number_of r.kind ≡ 36 → TellsCode r (ascii "102")
  -- "103 for 33 with MSH-11 as 202 and MSH-12 as 203": the place of 33 is its segment's number, and MSH is segment 0
  processing : number_of r.kind ≡ 33 → r.place ≡ 0 → r.field ≡ 11 → TellsCode r (ascii "202")
  version : number_of r.kind ≡ 33 → r.place ≡ 0 → r.field ≡ 12 → TellsCode r (ascii "203")
  unlisted : number_of r.kind ≡ 33 → (r.place ≡ 0 → (r.field ≡ 11) ⊎ (r.field ≡ 12) → ⊥)
      → TellsCode r (ascii "103")
  -- "200 for 20"
  unsupported : number_of r.kind ≡ 20 → TellsCode r (ascii "200")
  -- "207 for reading faults": 1 to 8
  unread : 1 ≤ number_of r.kind → number_of r.kind ≤ 8 → TellsCode r (ascii "207")

-- how many of some names are this one
pub data Stand (name : ℕ) : List ℕ → ℕ → Type 0 where
  none : Stand name [] 0
  this_one : {l : List ℕ} {n : ℕ} → Stand name l n → Stand name (name ∷ l) (suc n)
  another : {x : ℕ} {l : List ℕ} {n : ℕ} → (x ≡ name → ⊥) → Stand name l n → Stand name (x ∷ l) n

-- "Sequence counts segments of that name from 1 up to the faulty one.": the message has a segment of this number, its
-- name is the three bytes, and n segments of that name stand up to and with it
pub record Located (m : List ℕ) (place : ℕ) (name : List ℕ) (n : ℕ) : Type 0 where
  pub inside : place < length (segments m)
  pub named : name ≡ take 3 (get_or (segments m) place [])
  pub three : length name ≡ 3
  pub counted : Stand (get_or (segment_names m) place 0) (take (place + 1) (segment_names m)) n
  pub from_one : 1 ≤ n

-- segment ID, sequence and field position of a fault
pub data TellsPlace (m : List ℕ) (r : FaultRecord) : (segment sequence field : List ℕ) → Type 0 where
  -- "For 22 and reading faults the first three components stay empty."
  not_read : 1 ≤ number_of r.kind → number_of r.kind ≤ 8 → TellsPlace m r [] [] []
  at_the_end : number_of r.kind ≡ 22 → TellsPlace m r [] [] []
  -- "20 points to field 9 of MSH"
  at_the_type : number_of r.kind ≡ 20 → TellsPlace m r (ascii "MSH") (ascii "1") (ascii "9")
  -- "for 21 the field position is empty"
  at_a_segment : {name : List ℕ} {n : ℕ} → number_of r.kind ≡ 21 → Located m r.place name n
      → TellsPlace m r name (numeral n) []
  -- "ERR-1 in v2.4: segment ID, sequence, field position": of the field judge's faults
  at_a_field : {name : List ℕ} {n : ℕ} → 31 ≤ number_of r.kind → number_of r.kind ≤ 37 → Located m r.place name n
      → TellsPlace m r name (numeral n) (numeral r.field)
