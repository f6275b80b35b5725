-- How bytes fall into parts at a separator, and where each part stands. One definition for every level.
use Rattle.std.specs.Prelude.{ℕ, zero, suc, ◌+◌, List, [], ◌∷◌, ◌++◌, Bool, cond, length, drop, eqb, Option, Some, None}
use Rattle.alphabet.specs.Lists.{first}
use Rattle.alphabet.specs.declared.parts.Part.{Part}

-- the first of some parts with one byte more in front
abbrev pub grown : ℕ → List (List ℕ) → List (List ℕ)
grown b [] = (b ∷ []) ∷ []
grown b (p ∷ ps) = (b ∷ p) ∷ ps

-- what stands before, between and behind the separators: "an empty part splits into one empty part"
unfoldable pub split : ℕ → List ℕ → List (List ℕ)
split sep [] = [] ∷ []
split sep (b ∷ r) = cond (eqb sep b) ([] ∷ split sep r) (grown b (split sep r))

-- the parts with the separator between them
unfoldable pub join : ℕ → List (List ℕ) → List ℕ
join sep [] = []
join sep (p ∷ []) = p
join sep (p ∷ q ∷ ps) = p ++ sep ∷ join sep (q ∷ ps)

-- a part that is there, from `start` up to and without `end`
abbrev pub from_to : ℕ → ℕ → Option Part
from_to start end = Some (record { start = start; end = end })

-- where part k stands, if the first of the parts stands at `at` and one byte stands between each and the next
unfoldable pub standing : ℕ → List (List ℕ) → ℕ → Option Part
standing at [] k = None
standing at (p ∷ ps) zero = from_to at (at + length p)
standing at (p ∷ ps) (suc k) = standing (at + length p + 1) ps k

-- where part k of the bytes stands; none, "absent, past the last part"
unfoldable pub part_at : ℕ → List ℕ → ℕ → Option Part
part_at sep bytes k = standing 0 (split sep bytes) k

-- where a part begins
abbrev pub began : Option Part → Option ℕ
began (Some part) = Some part.start
began None = None

-- for private functions alone: the part that begins there and goes on up to the first byte that ends it
abbrev pub ended_by : (ℕ → Bool) → List ℕ → Option ℕ → Option Part
ended_by ends bytes (Some start) = from_to start (start + first ends (drop start bytes))
ended_by ends bytes None = None
