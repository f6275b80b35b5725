-- The names of a message's segments, and which segments are looked at.
use Rattle.std.specs.Prelude.{ℕ, ◌/◌, List, [], ◌∷◌, map, Bool, false, cond, not, ◌&&◌, ◌||◌, eqb, get_or}
use Rattle.alphabet.specs.Bytes.{ascii}
use Rattle.reading.specs.Segments.{segments, name_of}

-- the names of a message's segments, as sent
unfoldable pub segment_names : List ℕ → List ℕ
segment_names m = map name_of (segments m)

-- whether n is one of the names
unfoldable pub among : ℕ → List ℕ → Bool
among n [] = false
among n (x ∷ l) = eqb n x || among n l

-- "A segment whose name begins with Z and isn't in the structure", which has these names
unfoldable pub passed_over : List ℕ → ℕ → Bool
passed_over ns n = eqb (n / 65536) (get_or (ascii "Z") 0 0) && not (among n ns)

-- "is taken out first": what is left of some names
unfoldable pub kept : List ℕ → List ℕ → List ℕ
kept ns [] = []
kept ns (n ∷ l) = cond (passed_over ns n) (kept ns l) (n ∷ kept ns l)
