-- What a judge answers, by document 01, 'Numbers given back': number and place; "segment, field and repetition for 31
-- to 37 in the field judge"; and for 21 and 22 what could have stood there.
use Rattle.std.specs.Prelude.{ℕ, ◌-◌, Bool, false, List, [], ◌++◌, length, replicate, Result, Ok, Err}
use Rattle.alphabet.specs.Answers.{number_of}
use Rattle.alphabet.specs.declared.answers.Refusal.{Refusal}
use Rattle.fault.specs.declared.Names.{Names}
use Rattle.fault.specs.declared.FaultRecord.{FaultRecord}

-- a list of names, by value: the names, and zeros behind them
abbrev pub name_list : List ℕ → Names
name_list l = record { list = l ++ replicate (64 - length l) 0; count = length l }

-- what a judge answers: nothing is wrong, or the first fault
abbrev pub Judgement : Type 0
Judgement = Result (Unit {0}) FaultRecord

-- the number that is given back: 0 where nothing is wrong
abbrev pub number_judged : Judgement → ℕ
number_judged (Ok _) = 0
number_judged (Err fault) = number_of fault.kind

-- a fault of the structure: whether the message could have ended at the place, and the names that could have stood
-- there
abbrev pub at_place : Refusal → ℕ → Bool → List ℕ → FaultRecord
at_place kind place ends list = record { kind = kind; place = place; field = 0; repetition = 0; could_end = ends; names = name_list list }

-- "Every answer but 21 and 22 lists nothing, with a no."
abbrev pub at_field : Refusal → ℕ → ℕ → ℕ → FaultRecord
at_field kind segment field repetition = record { kind = kind; place = segment; field = field; repetition = repetition; could_end = false; names = name_list [] }

-- what has a place and no field
abbrev pub plain : Refusal → ℕ → FaultRecord
plain kind place = at_field kind place 0 0
