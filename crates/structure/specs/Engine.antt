-- How the private functions walk the names of a message by a structure's tables. Nobody has to believe this: `proofs/`
-- shows that the walk is the grammar, once for every shape and every table that fits it. A set of places is a number:
-- place q is in m where digit q of m, in base 2, is 1.
use Rattle.std.specs.Prelude.{◌≡◌, Bool, true, false, cond, not, ◌&&◌, ◌||◌, List, [], ◌∷◌, ◌++◌, ℕ, zero, suc, ◌+◌, ◌/◌, ◌%◌, ◌^◌, eqb, length, get_or, Option, Some, None, Result, Ok, Err}
use Rattle.std.specs.Int.Bits.{bit_or}
use Rattle.alphabet.specs.declared.answers.Refusal.TheVariants.{SegmentMisplaced, EndedEarly}
use Rattle.fault.specs.Faults.{Judgement, at_place}
use Rattle.fault.specs.declared.FaultRecord.{FaultRecord}
use Rattle.structure.specs.Shapes.{Shape, names, numbered}
use Rattle.structure.specs.Shapes.Shape.{end, seg, opt, rep}
use Rattle.structure.specs.SegmentNames.{among, passed_over}
use Rattle.structure.specs.Structures.{ListedStructure, Choice, chosen, unlisted, observation_report, acknowledgement, merge, admission, transfer, cancel}
use Rattle.structure.specs.Judged.{Judged}
use Rattle.structure.specs.declared.rows.Rows.{Rows}
use Rattle.structure.specs.declared.structures.Structure.{Structure}
use Rattle.structure.specs.declared.structures.Structure.TheVariants.{ObservationReport, Acknowledgement, Merge, Admission, Transfer, Cancel}
use Rattle.structure.specs.declared.walking.Next.{Next}
use Rattle.structure.specs.declared.walking.Stuck.{Stuck}
use Rattle.structure.specs.declared.walking.Stop.{Stop}
use Rattle.structure.specs.declared.walking.Stop.TheVariants.{Misplaced, Early}

-- ---- sets of places

abbrev pub bit : ℕ → ℕ → ℕ
bit m q = m / 2 ^ q % 2

abbrev pub has : ℕ → ℕ → Type 0
has m q = bit m q ≡ 1

abbrev pub hasb : ℕ → ℕ → Bool
hasb m q = eqb (bit m q) 1

-- ---- what can come next: a set of places, and whether the message could end

pub record Entry : Type 0 where
  pub next : ℕ
  pub ends : Bool

abbrev pub entry : ℕ → Bool → Entry
entry m e = record { next = m; ends = e }

-- the places m and no end; the end and no place
abbrev pub into : ℕ → Entry
into m = entry m false

abbrev pub stop : Entry
stop = entry 0 true

abbrev pub join : Entry → Entry → Entry
join a b = entry (bit_or a.next b.next) (a.ends || b.ends)

-- ---- the tables of a structure

-- what comes next behind place p: the p-th set of the table, and the end where digit p of `last` is 1
abbrev pub entry_at : List ℕ → ℕ → ℕ → Entry
entry_at follow last p = entry (get_or follow p 0) (hasb last p)

abbrev pub name_in : List ℕ → ℕ → ℕ
name_in ns p = get_or ns p 0

-- what comes next behind the places below k that are in the set and have the name
unfoldable pub gathered : List ℕ → List ℕ → ℕ → ℕ → ℕ → ℕ → Entry
gathered ns follow last set n zero = into 0
gathered ns follow last set n (suc k) =
    cond (hasb set k && eqb (name_in ns k) n) (join (gathered ns follow last set n k) (entry_at follow last k)) (gathered ns follow last set n k)

abbrev pub stepped : List ℕ → List ℕ → ℕ → ℕ → ℕ → Entry
stepped ns follow last set n = gathered ns follow last set n (length ns)

-- nothing can come next
abbrev pub stuck_at : Entry → Bool
stuck_at e = eqb e.next 0 && not e.ends

-- what a walk comes to: nothing stops it, or why it stops
abbrev pub Walked : Type 0
Walked = Result (Unit {0}) Stop

abbrev pub misplaced : ℕ → ℕ → Bool → Walked
misplaced place places ends = Err (Misplaced (record { place = place; next = record { places = places; ends = ends } }))

abbrev pub early : ℕ → ℕ → Walked
early place places = Err (Early place places)

-- at the end of the names
unfoldable pub ended_with : Entry → ℕ → Walked
ended_with e i = cond e.ends (Ok tt) (early i e.next)

-- some names walked from what can come next; i segments are behind
unfoldable pub walked : List ℕ → List ℕ → ℕ → Entry → ℕ → List ℕ → Walked
walked ns follow last e i [] = ended_with e i
walked ns follow last e i (n ∷ l) =
    cond (passed_over ns n) (walked ns follow last e (i + 1) l)
    (cond (stuck_at (stepped ns follow last e.next n)) (misplaced i e.next e.ends)
    (walked ns follow last (stepped ns follow last e.next n) (i + 1) l))

-- a walk on its way, or where it is stuck
abbrev pub Course : Type 0
Course = Result Next Stuck

-- a walk on its way, with the names that are left; i segments are behind
abbrev pub resumed : List ℕ → List ℕ → ℕ → Course → ℕ → List ℕ → Walked
resumed ns follow last (Ok next) i l = walked ns follow last (entry next.places next.ends) i l
resumed ns follow last (Err stuck) i l = Err (Misplaced stuck)

-- the names of the places of a set below k, each once
unfoldable pub listing : List ℕ → ℕ → ℕ → List ℕ
listing ns set zero = []
listing ns set (suc k) =
    cond (hasb set k && not (among (name_in ns k) (listing ns set k))) (listing ns set k ++ (name_in ns k ∷ [])) (listing ns set k)

-- ---- which tables are a structure's

abbrev pub gate : Bool → Entry → Entry
gate true c = c
gate false c = into 0

abbrev pub only : Bool → ℕ → ℕ
only true m = m
only false m = 0

-- a structure can yield nothing
abbrev pub nullable : Shape → Bool
nullable end = true
nullable (seg n s) = false
nullable (opt b s) = nullable s
nullable (rep b s) = nullable b && nullable s

-- the places that can be filled first
abbrev pub first : Shape → ℕ
first end = 0
first (seg n s) = 2 ^ n
first (opt b s) = bit_or (first b) (first s)
first (rep b s) = bit_or (first b) (only (nullable b) (first s))

abbrev pub via : ℕ → Bool → Entry → Entry
via f n c = join (into f) (gate n c)

-- what comes next at the start of s, where c comes next behind it
abbrev pub enter : Shape → Entry → Entry
enter s c = via (first s) (nullable s) c

-- what comes next behind the body b of a repeated group: the body again, or c
abbrev pub again : Shape → Entry → Entry
again b c = join (into (first b)) c

-- at each place of s the table has what comes next behind it, where c comes next behind s
abbrev pub Fits : (ℕ → Entry) → Shape → Entry → Type 0
Fits tab end c = Unit {0}
Fits tab (seg n s) c = (tab n ≡ enter s c) × Fits tab s c
Fits tab (opt b s) c = Fits tab b (enter s c) × Fits tab s c
Fits tab (rep b s) c = Fits tab b (again b (enter s c)) × Fits tab s c

-- the tables are those of the structure s
pub record Tables (s : Shape) (ns follow : List ℕ) (last : ℕ) (begin : Entry) : Type 0 where
  pub named : ns ≡ names s
  pub fits : Fits (entry_at follow last) (numbered 0 s) stop
  pub begins : begin ≡ enter (numbered 0 s) stop

-- the record of why a walk by the names of some tables stopped
abbrev pub recorded : Stop → List ℕ → FaultRecord
recorded (Misplaced stuck) ns = at_place SegmentMisplaced stuck.place stuck.next.ends (listing ns stuck.next.places (length ns))
recorded (Early place places) ns = at_place EndedEarly place false (listing ns places (length ns))

-- it tells what a walk by the names of some tables came to, and a fault where the walk does not accept
pub record Tells (w : Walked) (ns : List ℕ) (r : Judgement) : Type 0 where
  pub judges : (s : Shape) (follow : List ℕ) (last : ℕ) (begin : Entry) (all : List ℕ) → Tables s ns follow last begin → w ≡ walked ns follow last begin 0 all → Judged s all r
  pub refuses : r ≡ Ok tt → w ≡ Ok tt

-- ---- the structures that the code knows

abbrev pub listed_as : Structure → ListedStructure
listed_as ObservationReport = observation_report
listed_as Acknowledgement = acknowledgement
listed_as Merge = merge
listed_as Admission = admission
listed_as Transfer = transfer
listed_as Cancel = cancel

abbrev pub choice_of : Option Structure → Choice
choice_of (Some structure) = chosen (listed_as structure)
choice_of None = unlisted

-- the rows are the tables of a structure, at whose place 0 a message begins
abbrev pub RowsAre : Shape → Rows → Type 0
RowsAre s r = Tables s r.names.now r.follow.now r.last (into 1)

-- the rows of the structure that is chosen; there are none where none is
abbrev pub RowsOf : Choice → Option Rows → Type 0
RowsOf (chosen x) (Some r) = RowsAre x.shape r
RowsOf (chosen x) None = ⊥
RowsOf unlisted (Some r) = ⊥
RowsOf unlisted None = Unit {0}
