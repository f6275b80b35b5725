-- What the demands say of what C gets. Demand 1: "After a refusal every buffer lent holds the bytes it held before.";
-- demand 3: "lists exactly the structure's names that could have stood there", of which C asks one by one.
use Rattle.std.specs.Prelude.{ℕ, ◌≤◌, ◌<◌, ◌≡◌, List, [], ◌∷◌, ◌++◌, get_or}
use Rattle.structure.specs.Listed.{Listed}
use Rattle.structure.specs.Shapes.{Shape, Viable, Possible, name_at}
use Rattle.structure.specs.SegmentNames.{segment_names}
use Rattle.structure.specs.Judged.{front}
use Rattle.boundary.specs.Seen.{NameSeen}
use Rattle.boundary.specs.declared.judges.CStructure.{CStructure}

-- The message m is refused by the structure s, and C sees r: the names that `turrethog_could_stand` gives for the
-- numbers below r's count are exactly those that could have stood at r's place, each once; past them it gives 0
pub record NamesOneByOne (m : List ℕ) (s : Shape) (r : CStructure) : Type 0 where
  -- "listed once each, by the earliest place possible there"
  pub list : List ℕ
  pub in_order : Listed (Possible s (front s r.place (segment_names m))) (name_at s) list
  pub asked : (index name : ℕ) → index < r.names → NameSeen m index name → name ≡ get_or list index 0
  pub given : (index name : ℕ) → index < r.names → NameSeen m index name → Viable s (front s r.place (segment_names m) ++ (name ∷ []))
  pub every : (name : ℕ) → Viable s (front s r.place (segment_names m) ++ (name ∷ [])) → (index : ℕ) × (index < r.names) × NameSeen m index name
  pub once : (i j name : ℕ) → i < r.names → j < r.names → NameSeen m i name → NameSeen m j name → i ≡ j
  pub behind : (index name : ℕ) → r.names ≤ index → NameSeen m index name → name ≡ 0
