-- What the field judge looks at, by document 01, 'Fields judged', said by the elements that a lookup finds, so that the
-- judge's own walk along a message is not its meaning.
use Rattle.std.specs.Prelude.{◌≡◌, true, List, [], ◌∷◌, map, ◌↔◌, ℕ, zero, suc, ◌+◌, ◌<◌, length, get_or}
use Rattle.reading.specs.Segments.{delimiters_of, segments, name_of}
use Rattle.element.specs.Finding.{found, element_bytes, element_found}
use Rattle.element.specs.declared.states.State.TheVariants.{Absent}
use Rattle.field_table.specs.Table.{rows, no_row}
use Rattle.rules.specs.Rules.{judged_part, is_said, said_field, row_check}
use Rattle.field_table.specs.declared.Row.{Row}
use Rattle.fields.specs.Judging.{Fault, sound, located, first_fault, judging}
use Rattle.laws.specs.Elements.{address}

-- a row against the segment of number k: `repetitions` are those of its field there, and `said` is what says its type
pub record HeldAgainst (m : List ℕ) (k : ℕ) (row : Row) (said : List ℕ) (repetitions : List (List ℕ)) : Type 0 where
  -- "the repetitions in turn": as many as are not absent
  pub counted : (r : ℕ) → (r < length repetitions) ↔ ((element_found (found m (address k row.field (suc r) 0 0))).state ≡ Absent → ⊥)
  -- "part judged": of repetition r + 1 it is the element at its address, byte for byte
  pub judged : (r component : ℕ) → judged_part (delimiters_of m) component (get_or repetitions r []) ≡ element_bytes m (address k row.field (suc r) component 0)
  -- "as OBX-2 says": repetition 1 of that field, whole
  pub as_said : is_said row.kind ≡ true → said ≡ element_bytes m (address k (said_field row.kind) 1 0 0)

-- what a row finds in the segment of number k: a row of another name nothing
pub data RowFinds (m : List ℕ) (k : ℕ) (row : Row) : Fault → Type 0 where
  own : (said : List ℕ) (repetitions : List (List ℕ)) → row.segment ≡ name_of (get_or (segments m) k []) → HeldAgainst m k row said repetitions
      → RowFinds m k row (located k row.field (row_check (delimiters_of m) row said repetitions))
  other : (row.segment ≡ name_of (get_or (segments m) k []) → ⊥) → RowFinds m k row sound

-- n numbers, one after another
unfoldable pub numbers_from : ℕ → ℕ → List ℕ
numbers_from k zero = []
numbers_from k (suc n) = k ∷ numbers_from (k + 1) n

-- a message judged: what each row finds in each segment, and of all that the first
pub record JudgedByElements (m : List ℕ) : Type 0 where
  pub finds : ℕ → Row → Fault
  pub by_elements : (k i : ℕ) → k < length (segments m) → i < length rows → RowFinds m k (get_or rows i no_row) (finds k (get_or rows i no_row))
  -- "Order: segments as sent, rows as above"; "The first fault found in this order ends the judging."
  pub in_order : judging rows m ≡ first_fault (map (λ (k : ℕ). first_fault (map (finds k) rows)) (numbers_from 0 (length (segments m))))
