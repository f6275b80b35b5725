-- What a row asks of the repetitions of its field, by document 01, 'Fields judged': "House cut, judged on raw bytes.
-- 'Whole' is one repetition." `ds` are the five delimiters. Checks give the number and, as their place, the repetition:
-- "31, 34, 35, 36: repetition 1".
use Rattle.std.specs.Prelude.{ℕ, zero, suc, ◌+◌, List, [], ◌∷◌, Bool, true, false, cond, not, ◌&&◌, ◌||◌, length, get_or, eqb, ltb, Ok, Err}
use Rattle.std.specs.Result.{is_ok}
use Rattle.alphabet.specs.Bytes.{ascii}
use Rattle.alphabet.specs.Answers.{fails_if, in_order, or_else, Check, passes, fails}
use Rattle.alphabet.specs.Limits.{id_limit}
use Rattle.alphabet.specs.Lists.{same}
use Rattle.alphabet.specs.Parts.{split}
use Rattle.alphabet.specs.declared.answers.Refusal.TheVariants.{RequiredMissing, RequiredNull, BreaksForm, NotListed, ValueWithoutType, Repeated, ValueTooLong}
use Rattle.element.specs.States.{state_of, is_present}
use Rattle.element.specs.declared.states.State.{State}
use Rattle.element.specs.declared.states.State.TheVariants.{Absent, Empty, Null, Present}
use Rattle.numbers.specs.Numbers.{nm_check, is_si}
use Rattle.times.specs.Times.{is_dt, is_tm, is_ts}
use Rattle.field_table.specs.Table.{values_of, member}
use Rattle.field_table.specs.declared.Kind.{Kind}
use Rattle.field_table.specs.declared.Kind.TheVariants.{Any, Identifier, Ts, Si, Nm, Dt, Tm, OneOf, AsField}
use Rattle.field_table.specs.declared.Row.{Row}

-- ---- one part, which is present, against its type

-- 32: "breaks its type's form"; 33: "not in its list"; 37: "over 199 bytes; well formed, but over 18 digits"
unfoldable pub form_check : Kind → List ℕ → Check
form_check Any bytes = passes
form_check Identifier bytes = fails_if (ltb id_limit (length bytes)) ValueTooLong 0
form_check Ts bytes = fails_if (not (is_ts bytes)) BreaksForm 0
form_check Si bytes = fails_if (not (is_si bytes)) BreaksForm 0
form_check Nm bytes = nm_check bytes
form_check Dt bytes = fails_if (not (is_dt bytes)) BreaksForm 0
form_check Tm bytes = fails_if (not (is_tm bytes)) BreaksForm 0
form_check (OneOf values) bytes = fails_if (not (member bytes (values_of values))) NotListed 0
form_check (AsField f) bytes = passes

-- whether a check passes
abbrev pub passing : Check → Bool
passing check = is_ok check

-- ---- one repetition

-- "part judged": the repetition, or one of its components, from 1; one that is absent has no bytes
unfoldable pub judged_part : List ℕ → ℕ → List ℕ → List ℕ
judged_part ds zero repetition = repetition
judged_part ds (suc k) repetition = get_or (split (get_or ds 1 0) repetition) k []

abbrev pub part_state : List ℕ → ℕ → List ℕ → State
part_state ds component repetition = state_of ds (judged_part ds component repetition)

-- a fault in the repetition of a number
abbrev pub placed : ℕ → Check → Check
placed number (Ok _) = passes
placed number (Err fault) = fails fault.kind number

-- "Empty and null pass where not R"; where R, repetition 1 is present before it comes to this
unfoldable pub repetition_check : List ℕ → ℕ → Kind → ℕ → List ℕ → Check
repetition_check ds component kind number repetition =
    cond (is_present (part_state ds component repetition)) (placed number (form_check kind (judged_part ds component repetition))) passes

-- "the repetitions in turn"
unfoldable pub repetition_checks : List ℕ → ℕ → Kind → ℕ → List (List ℕ) → List Check
repetition_checks ds component kind number [] = []
repetition_checks ds component kind number (r ∷ rest) =
    repetition_check ds component kind number r ∷ repetition_checks ds component kind (number + 1) rest

-- ---- a row

-- "R asks that the part in repetition 1 is present."
abbrev pub first_state : List ℕ → ℕ → List (List ℕ) → State
first_state ds component [] = Absent
first_state ds component (r ∷ rest) = part_state ds component r

-- 31, 34: "required part absent or empty; null"
abbrev pub required_check : Bool → State → Check
required_check required Absent = fails_if required RequiredMissing 1
required_check required Empty = fails_if required RequiredMissing 1
required_check required Null = fails_if required RequiredNull 1
required_check required Present = passes

-- 36: "more than one repetition, empty ones counted, where no Y"
abbrev pub repeated_check : Bool → List (List ℕ) → Check
repeated_check repeats repetitions = fails_if (not repeats && ltb 1 (length repetitions)) Repeated 1

-- whole repetitions
unfoldable pub some_present : List ℕ → List (List ℕ) → Bool
some_present ds [] = false
some_present ds (r ∷ rest) = is_present (state_of ds r) || some_present ds rest

-- "as OBX-2 says": the field of the segment in which a row's type is said; 0 where none does
abbrev pub said_field : Kind → ℕ
said_field Any = 0
said_field Identifier = 0
said_field Ts = 0
said_field Si = 0
said_field Nm = 0
said_field Dt = 0
said_field Tm = 0
said_field (OneOf values) = 0
said_field (AsField f) = f

abbrev pub is_said : Kind → Bool
is_said kind = not (eqb (said_field kind) 0)

-- 35: "some repetition of OBX-5 present, OBX-2 repetition 1 not"; `said` is OBX-2's repetition 1, and where it is
-- absent no bytes
abbrev pub said_check : List ℕ → Kind → List ℕ → List (List ℕ) → Check
said_check ds kind said repetitions =
    fails_if ((is_said kind && not (is_present (state_of ds said))) && some_present ds repetitions) ValueWithoutType 1

-- "only NM, DT, TM, TS are judged"
unfoldable pub kind_said : List ℕ → Kind
kind_said said =
    cond (same said (ascii "NM")) Nm
    (cond (same said (ascii "DT")) Dt
    (cond (same said (ascii "TM")) Tm
    (cond (same said (ascii "TS")) Ts Any)))

-- the type that a row asks for
abbrev pub kind_of : Kind → List ℕ → Kind
kind_of kind said = cond (is_said kind) (kind_said said) kind

-- "whole; component 1 for TS"
abbrev pub component_of : Row → List ℕ → ℕ
component_of row said = cond (is_said row.kind && same said (ascii "TS")) 1 row.component

-- "in a row 31 or 34, then 36, then 35, then the repetitions in turn"
unfoldable pub row_check : List ℕ → Row → List ℕ → List (List ℕ) → Check
row_check ds row said repetitions =
    in_order
    (required_check row.required (first_state ds row.component repetitions)
    ∷ repeated_check row.repeats repetitions
    ∷ said_check ds row.kind said repetitions
    ∷ repetition_checks ds (component_of row said) (kind_of row.kind said) 1 repetitions)

-- ---- what private contracts say; nobody has to believe these

-- 31 or 34, then 36: by the state of the part that is judged in repetition 1, and by whether there are more repetitions
unfoldable pub sent_check : Row → State → Bool → Check
sent_check row state many = or_else (required_check row.required state) (fails_if (not row.repeats && many) Repeated 1)

-- a row that says its own type: the checks up to repetition 1, with that
unfoldable pub own_check : List ℕ → Row → List ℕ → Bool → Check
own_check ds row repetition many =
    or_else (sent_check row (part_state ds row.component repetition) many) (repetition_check ds row.component row.kind 1 repetition)

-- a row whose type is said: the checks before its repetitions are judged in turn
unfoldable pub opening_check : List ℕ → Row → List ℕ → List ℕ → Bool → List (List ℕ) → Check
opening_check ds row said repetition many repetitions =
    or_else (sent_check row (part_state ds row.component repetition) many) (said_check ds row.kind said repetitions)

-- any bytes pass
abbrev pub is_any : Kind → Bool
is_any Any = true
is_any Identifier = false
is_any Ts = false
is_any Si = false
is_any Nm = false
is_any Dt = false
is_any Tm = false
is_any (OneOf values) = false
is_any (AsField f) = false
