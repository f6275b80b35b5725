-- For private functions alone: the bytes that end the part of each level.
use Rattle.std.specs.Prelude.{ℕ, zero, suc, ◌-◌, ◌≤◌, ◌≡◌, List, [], ◌∷◌, Bool, cond, ◌||◌, eqb, Some, Option}
use Rattle.alphabet.specs.Bytes.{carriage_return}
use Rattle.alphabet.specs.Parts.{ended_by}
use Rattle.reading.specs.Segments.{field_separator}
use Rattle.element.specs.Levels.{part_in}

-- what ends a part of a part: a separator, and what ends the whole
abbrev pub or_at : ℕ → (ℕ → Bool) → ℕ → Bool
or_at sep ends b = ends b || eqb sep b

-- what ends number k of a level below a part; 0 is the whole
abbrev pub level_ends : ℕ → ℕ → (ℕ → Bool) → ℕ → Bool
level_ends sep zero ends = ends
level_ends sep (suc k) ends = or_at sep ends

-- the stop that a level adds: its separator; or CR, a stop already, where the address leaves the level out
abbrev pub end_of : ℕ → ℕ → ℕ
end_of sep zero = carriage_return
end_of sep (suc k) = sep

-- the stops of a field; CR again fills the places of the levels below
abbrev pub field_ends : List ℕ → List ℕ
field_ends m = carriage_return ∷ field_separator m ∷ carriage_return ∷ carriage_return ∷ carriage_return ∷ []

-- r is where part k begins, of the part that begins at `above` and that `ends` ends
abbrev pub StartsPart : ℕ → (ℕ → Bool) → List ℕ → Option ℕ → ℕ → Option ℕ → Type 0
StartsPart sep ends m above k r = ended_by (or_at sep ends) m r ≡ part_in sep m (ended_by ends m above) k

-- a walk to part k of the segment that begins at `start` has come to `place`, behind which `left` separators are still
-- to be passed: part `left` from there on is the part
abbrev pub OnTheWay : ℕ → List ℕ → ℕ → ℕ → ℕ → ℕ → Type 0
OnTheWay sep m start k place left =
    (1 ≤ left)
    × (part_in sep m (ended_by (eqb carriage_return) m (Some start)) k ≡ part_in sep m (ended_by (eqb carriage_return) m (Some place)) left)

-- which part of its segment a field is, but for MSH-1: MSH has its fields counted from the separator itself
abbrev pub field_index : ℕ → ℕ → ℕ
field_index segment f = cond (eqb segment 0) (f - 1) f
