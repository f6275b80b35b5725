-- The rows of the structure that was chosen, and a message that is judged by them. Assumes nothing.
use mathlib.Core.Path.{◌≡◌, refl}
use mathlib.Core.List.{List}
use Prim.Native.Nat.{ℕ}
use Rattle.std.specs.Prelude.{Some, None, Err}
use Rattle.alphabet.specs.declared.answers.Refusal.TheVariants.{NoStructure}
use Rattle.fault.specs.Faults.{Judgement, plain}
use Rattle.structure.specs.Shapes.{Shape}
use Rattle.structure.specs.SegmentNames.{segment_names}
use Rattle.structure.specs.Structures.{ListedStructure, Choice, chosen, unlisted, structure_for}
use Rattle.structure.specs.Judged.{Judged, StructuredBy, no_structure, by}
use Rattle.structure.specs.Engine.{RowsAre, RowsOf}
use Rattle.structure.specs.declared.rows.Rows.{Rows}

-- where there are none, none was chosen
pub none_chosen : (choice : Choice) → RowsOf choice None → choice ≡ unlisted
none_chosen (chosen x) h = absurd h
none_chosen unlisted h = refl

-- where there are some, they are the tables of the one that was
pub one_chosen : (choice : Choice) (r : Rows) → RowsOf choice (Some r) → (x : ListedStructure) × (choice ≡ chosen x) × RowsAre x.shape r
one_chosen (chosen x) r h = (x, refl, h)
one_chosen unlisted r h = absurd h

-- ---- a message judged by the rows of the structure that was chosen

module _ (book : List ListedStructure) (m : List ℕ) where
  -- there are none
  pub by_no_rows : RowsOf (structure_for book m) None → StructuredBy book m (Err (plain NoStructure 0))
  by_no_rows h = no_structure (none_chosen (structure_for book m) h)

  -- or the tables of a structure are at hand
  pub by_rows : (r : Rows) {j : Judgement} → RowsOf (structure_for book m) (Some r) → ((s : Shape) → RowsAre s r → Judged s (segment_names m) j) → StructuredBy book m j
  by_rows r h judge = let k = one_chosen (structure_for book m) r h in by k.0 k.1 (judge k.0.shape k.2)
