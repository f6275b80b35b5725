-- The paper's number of each refusal, and checks made one after another.
use Rattle.std.specs.Prelude.{ℕ, List, [], ◌∷◌, Bool, cond, Result, Ok, Err}
use Rattle.alphabet.specs.declared.answers.Refusal.{Refusal}
use Rattle.alphabet.specs.declared.answers.Refusal.TheVariants.{Length, Header, Delimiter, NotAllowed, NotEnded, SegmentName, SecondHeader, TooManySegments, NotAcknowledgeable, AcknowledgementTooLong, Separator, UnknownEscape, UnclosedEscape, NoRoom, NullText, CallersTime, CallersId, Address, NoStructure, SegmentMisplaced, EndedEarly, RequiredMissing, BreaksForm, NotListed, RequiredNull, ValueWithoutType, Repeated, ValueTooLong, StructureName, BrokenFrame, FrameTooLong, Layout, BookVersion, BookMalformed, BookHeader, WrongCount, BrokenBatch}
use Rattle.alphabet.specs.declared.answers.Fault.{Fault}

-- 'Numbers given back': the number of each case
abbrev pub number_of : Refusal → ℕ
number_of Length = 1
number_of Header = 2
number_of Delimiter = 3
number_of NotAllowed = 4
number_of NotEnded = 5
number_of SegmentName = 6
number_of SecondHeader = 7
number_of TooManySegments = 8
number_of NotAcknowledgeable = 9
number_of AcknowledgementTooLong = 10
number_of Separator = 11
number_of UnknownEscape = 12
number_of UnclosedEscape = 13
number_of NoRoom = 14
number_of NullText = 15
number_of CallersTime = 16
number_of CallersId = 17
number_of Address = 19
number_of NoStructure = 20
number_of SegmentMisplaced = 21
number_of EndedEarly = 22
number_of RequiredMissing = 31
number_of BreaksForm = 32
number_of NotListed = 33
number_of RequiredNull = 34
number_of ValueWithoutType = 35
number_of Repeated = 36
number_of ValueTooLong = 37
number_of StructureName = 23
number_of BrokenFrame = 40
number_of FrameTooLong = 41
number_of Layout = 42
number_of BookVersion = 50
number_of BookMalformed = 51
number_of BookHeader = 52
number_of WrongCount = 60
number_of BrokenBatch = 61

-- what goes back: what was asked for, or the first fault and its place
abbrev pub Refusable : Type 0 → Type 0
Refusable T = Result T Fault

-- what a check finds: nothing wrong, or the first fault
abbrev pub Check : Type 0
Check = Refusable (Unit {0})

abbrev pub passes : Check
passes = Ok tt

-- a refusal and its place
abbrev pub fails : {T : Type 0} → Refusal → ℕ → Refusable T
fails kind place = Err (record { kind = kind; place = place })

-- a check that fails where its test holds
abbrev pub fails_if : Bool → Refusal → ℕ → Check
fails_if test kind place = cond test (fails kind place) passes

-- "in order": the first check that fails decides
abbrev pub or_else : Check → Check → Check
or_else (Err fault) later = Err fault
or_else (Ok _) later = later

abbrev pub in_order : List Check → Check
in_order [] = passes
in_order (c ∷ later) = or_else c (in_order later)

-- what is given where a check passes
abbrev pub given : {T : Type 0} → Check → T → Refusable T
given (Ok _) x = Ok x
given (Err fault) x = Err fault

-- what an answer says of whether anything is refused
abbrev pub checked : {T : Type 0} → Refusable T → Check
checked (Ok _) = passes
checked (Err fault) = Err fault

-- the number that is given back: 0 where nothing is refused
abbrev pub number_given : {T : Type 0} → Refusable T → ℕ
number_given (Ok _) = 0
number_given (Err fault) = number_of fault.kind

-- the place and the length that are given back: "A refusal gives number and place, length 0"; what is accepted gives
-- place 0
abbrev pub place_given : {T : Type 0} → Refusable T → ℕ
place_given (Ok _) = 0
place_given (Err fault) = fault.place

abbrev pub length_given : Refusable ℕ → ℕ
length_given (Ok n) = n
length_given (Err _) = 0
