-- Which messages are answered with AR, where they are answered, by document 02, W2: "an unsupported type (20), or
-- MSH-11 or MSH-12 outside its list (33), is AR". A second saying of `rejects` of crates/acknowledgement_code, as a list
-- of cases; and a third, in the message's own bytes.
use Rattle.std.specs.Prelude.{ℕ, ◌≤◌, ◌≡◌, ◌⊎◌, true, List, [], ◌∷◌, length, None, Ok, Err}
use Rattle.alphabet.specs.Answers.{number_of, passes}
use Rattle.alphabet.specs.Bytes.{ascii}
use Rattle.alphabet.specs.Limits.{id_limit}
use Rattle.reading.specs.Reading.{reading}
use Rattle.reading.specs.Segments.{delimiters_of}
use Rattle.element.specs.Addresses.{type_address}
use Rattle.element.specs.Finding.{raw_bytes}
use Rattle.element.specs.Levels.{element_at}
use Rattle.element.specs.States.{state_of}
use Rattle.element.specs.declared.states.State.TheVariants.{Present}
use Rattle.times.specs.Times.{is_ts}
use Rattle.structure.specs.Shapes.{Shape}
use Rattle.structure.specs.Judged.{Answers}
use Rattle.fault.specs.declared.FaultRecord.{FaultRecord}
use Rattle.verdict.specs.Verdicts.{Verdicts}
use Rattle.laws.specs.Elements.{address}
use Rattle.laws.specs.Types.{ListedAs}

-- a fault that is answered so; the place of 33 is its segment's number, and MSH is segment 0
pub data Rejects (r : FaultRecord) : Type 0 where
  -- "an unsupported type (20)"
  unsupported : number_of r.kind ≡ 20 → Rejects r
  -- "or MSH-11 .. outside its list (33)"
  processing : number_of r.kind ≡ 33 → r.place ≡ 0 → r.field ≡ 11 → Rejects r
  -- "or MSH-12 outside its list (33)"
  version : number_of r.kind ≡ 33 → r.place ≡ 0 → r.field ≡ 12 → Rejects r

-- "Where several faults stand, the first in the judges' order decides the letter.": the verdict tells the first
pub record Rejected (m : List ℕ) : Type 0 where
  pub fault : FaultRecord
  pub first : Verdicts m (Err fault)
  pub rejects : Rejects fault

-- ---- the same in the message's own bytes

-- "an unsupported type": the message was read, and document 01 lists no structure for what stands at components 1 and 2
-- of MSH-9, repetition 1
pub record Unsupported (m : List ℕ) : Type 0 where
  pub was_read : reading m ≡ passes
  pub not_listed : (s : Shape) → ListedAs (raw_bytes m (type_address 1)) (raw_bytes m (type_address 2)) s → ⊥

-- a field of MSH that has none of 31, 34 and 36: it stands once, and what is judged of it, a component or at 0 the
-- whole, is present; and the bytes of that are such as is asked
pub record StandsOnce (m : List ℕ) (field component : ℕ) (Asked : List ℕ → Type 0) : Type 0 where
  pub once : element_at m (address 0 field 2 0 0) ≡ None
  pub present : state_of (delimiters_of m) (raw_bytes m (address 0 field 1 component 0)) ≡ Present
  pub so : Asked (raw_bytes m (address 0 field 1 component 0))

-- bytes that are one of some values, and bytes that are none
abbrev pub IsOneOf : List (List ℕ) → List ℕ → Type 0
IsOneOf [] bytes = ⊥
IsOneOf (value ∷ others) bytes = (bytes ≡ value) ⊎ IsOneOf others bytes

abbrev pub IsNoneOf : List (List ℕ) → List ℕ → Type 0
IsNoneOf values bytes = IsOneOf values bytes → ⊥

-- the rows of MSH: "TS"; "1 to 199 bytes", of which a field that is present has one; the lists "D, P, T" and "`2.4`"
abbrev pub Timed : List ℕ → Type 0
Timed m = StandsOnce m 7 1 (λ (bytes : List ℕ). is_ts bytes ≡ true)

abbrev pub Identified : List ℕ → Type 0
Identified m = StandsOnce m 10 0 (λ (bytes : List ℕ). length bytes ≤ id_limit)

abbrev pub processing_ids : List (List ℕ)
processing_ids = ascii "D" ∷ ascii "P" ∷ ascii "T" ∷ []

abbrev pub versions : List (List ℕ)
versions = ascii "2.4" ∷ []

-- "MSH-11 or MSH-12 outside its list", and nothing before it in the judges' order: the structure judge accepts, and the
-- rows before are kept
pub data RejectedFor (m : List ℕ) : Type 0 where
  its_type : Unsupported m → RejectedFor m
  its_processing : Answers m (Ok tt) → Timed m → Identified m
      → StandsOnce m 11 1 (IsNoneOf processing_ids) → RejectedFor m
  its_version : Answers m (Ok tt) → Timed m → Identified m
      → StandsOnce m 11 1 (IsOneOf processing_ids) → StandsOnce m 12 1 (IsNoneOf versions) → RejectedFor m
