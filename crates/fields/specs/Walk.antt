-- What the contracts of private functions say of a walk along one segment's bytes. Nobody has to believe these: the
-- judge's own contract names none of them.
use Rattle.std.specs.Prelude.{ℕ, ◌+◌, ◌-◌, ◌^◌, ◌≤◌, ◌<◌, ◌≡◌, List, [], map, cond, eqb, leb, length, get_or, take, drop, Ok, Err}
use Rattle.alphabet.specs.Answers.{in_order, Refusable, Check, passes}
use Rattle.alphabet.specs.Lists.{find}
use Rattle.alphabet.specs.Parts.{split}
use Rattle.rules.specs.Rules.{is_said, said_field, repetition_checks, row_check}
use Rattle.field_table.specs.Table.{no_row}
use Rattle.field_table.specs.declared.Kind.{Kind}
use Rattle.field_table.specs.declared.Row.{Row}
use Rattle.fields.specs.Judging.{Fault, sound, name_at, located, first_fault}
use Rattle.fields.specs.declared.walk.Cursor.{Cursor}
use Rattle.fields.specs.declared.walk.Sought.{Sought}
use Rattle.fields.specs.declared.walk.Turn.{Turn}

-- which part of its segment a field is: MSH has its fields counted from the separator
abbrev pub field_index : ℕ → ℕ → ℕ
field_index number field = cond (eqb number 0) (field - 1) field

-- the bytes of a field, none where it is absent; the first two of MSH are never split
abbrev pub field_bytes : List ℕ → List ℕ → ℕ → ℕ → List ℕ
field_bytes ds s number field =
    cond (eqb number 0)
    (cond (leb field 2) [] (get_or (split (get_or ds 0 0) s) (field - 1) []))
    (get_or (split (get_or ds 0 0) s) field [])

-- repetition 1 of a field
abbrev pub first_of : List ℕ → List ℕ → ℕ → ℕ → List ℕ
first_of ds s number field = get_or (split (get_or ds 2 0) (field_bytes ds s number field)) 0 []

-- repetition 1 of the field that says a type
abbrev pub said_bytes : List ℕ → List ℕ → ℕ → Kind → List ℕ
said_bytes ds s number kind = cond (is_said kind) (first_of ds s number (said_field kind)) []

-- what a row asks of a segment, by its bytes
abbrev pub row_in : List ℕ → List ℕ → ℕ → Row → Check
row_in ds s number row = row_check ds row (said_bytes ds s number row.kind) (split (get_or ds 2 0) (field_bytes ds s number row.field))

-- the fault of a row; one of another segment asks nothing
abbrev pub row_fault_in : List ℕ → ℕ → List ℕ → Row → Fault
row_fault_in ds number s row = cond (eqb row.segment (name_at number s)) (located number row.field (row_in ds s number row)) sound

-- the first fault that rows find in a segment
unfoldable pub judged_in : List Row → List ℕ → ℕ → List ℕ → Fault
judged_in rows ds number s = first_fault (map (row_fault_in ds number s) rows)

-- a cursor: part `index` of the segment begins at `place`
pub record Stands (sep : ℕ) (s : List ℕ) (c : Cursor) : Type 0 where
  pub inside : c.place ≤ length s
  pub counted : c.index ≤ c.place
  pub parts : drop c.index (split sep s) ≡ split sep (drop c.place s)

-- a cursor at the part that is wanted, or at the last where there are fewer
pub record Reaches (sep : ℕ) (s : List ℕ) (wanted : ℕ) (c : Cursor) : Type 0 where
  pub stands : Stands sep s c
  pub most : c.index ≤ wanted
  pub last : c.index < wanted → c.place + find sep (drop c.place s) ≡ length s

-- what was sought: the place of some bytes, and of the first of their repetitions
pub record Finds (ds s wanted : List ℕ) (r : Sought) : Type 0 where
  pub stands : Stands (get_or ds 0 0) s r.cursor
  pub ordered : r.start ≤ r.first
  pub within : r.first ≤ r.end
  pub inside : r.end ≤ length s
  pub bytes : take (r.end - r.start) (drop r.start s) ≡ wanted
  pub opens : r.first - r.start ≡ find (get_or ds 2 0) wanted

-- what the repetitions of a row that are left are found to be; none are where `start` is past `end`
abbrev pub left_of : List ℕ → List ℕ → Turn → Check
left_of ds s t =
    cond (leb t.start t.end)
    (in_order (repetition_checks ds t.component t.kind t.repetition (split (get_or ds 2 0) (take (t.end - t.start) (drop t.start s)))))
    passes

-- a row begun: its opening was checked, and some of its repetitions are left
pub record Begun (ds s : List ℕ) (number : ℕ) (row : Row) (r : Turn) : Type 0 where
  pub stands : Stands (get_or ds 0 0) s r.cursor
  pub ordered : r.start ≤ r.end + 1
  pub inside : r.end ≤ length s
  pub counted : r.repetition ≤ r.start + 1
  pub asks : row_in ds s number row ≡ left_of ds s r

-- or a check of its opening failed
abbrev pub Begins : List ℕ → List ℕ → ℕ → Row → Refusable Turn → Type 0
Begins ds s number row (Ok r) = Begun ds s number row r
Begins ds s number row (Err fault) = row_in ds s number row ≡ Err fault

-- a repetition is left, in a segment that is shorter than the numbers reach
pub record Goes (s : List ℕ) (t : Turn) : Type 0 where
  pub ordered : t.start ≤ t.end
  pub inside : t.end ≤ length s
  pub counted : t.repetition ≤ t.start + 1
  pub room : length s + 1 < 2 ^ 64

-- one repetition on
pub record Stepped (ds s : List ℕ) (t r : Turn) : Type 0 where
  pub same_end : r.end ≡ t.end
  pub forward : t.start < r.start
  pub most : r.start ≤ r.end + 1
  pub counted : r.repetition ≤ r.start + 1
  pub asks : left_of ds s t ≡ left_of ds s r

-- or its check failed
abbrev pub Steps : List ℕ → List ℕ → Turn → Refusable Turn → Type 0
Steps ds s t (Ok r) = Stepped ds s t r
Steps ds s t (Err fault) = left_of ds s t ≡ Err fault

-- a row judged: no check fails, and the cursor stands from which to seek the next; or the first that fails
abbrev pub Judges : List ℕ → List ℕ → ℕ → Row → Refusable Cursor → Type 0
Judges ds s number row (Ok cursor) = Stands (get_or ds 0 0) s cursor × (row_in ds s number row ≡ passes)
Judges ds s number row (Err fault) = row_in ds s number row ≡ Err fault

-- rows of which none before `first` is of a name
pub record NoneBefore (rows : List Row) (name first : ℕ) : Type 0 where
  pub inside : first ≤ length rows
  pub others : (index : ℕ) → index < first → (get_or rows index no_row).segment ≡ name → ⊥

-- rows of which none from `last` on is of a name
pub record NoneFrom (rows : List Row) (name last : ℕ) : Type 0 where
  pub inside : last ≤ length rows
  pub others : (index : ℕ) → last ≤ index → index < length rows → (get_or rows index no_row).segment ≡ name → ⊥

-- the place of a field, counted from `base`, that is split and whose end is noted
pub record Indexed (field base most index : ℕ) : Type 0 where
  pub counted : index + base ≡ field
  pub split_on : base + base < field
  pub noted : index ≤ most
  pub room : index < 16
