-- Message structures and what they yield, by document 01, 'Structures': "Brackets optional, braces one or more."
-- Nothing here says how a message is judged.
use Rattle.std.specs.Prelude.{◌≡◌, List, [], ◌∷◌, ◌++◌, map, ℕ, suc, ◌+◌, get_or}

-- A structure, each part with what is written after it: a segment, a group in brackets, a group in braces. A segment's
-- label is its name; in a structure whose places are numbered it is its place.
pub data Shape : Type 0 where
  end : Shape
  seg : ℕ → Shape → Shape
  opt : Shape → Shape → Shape
  rep : Shape → Shape → Shape

-- `Spans s ws us`: what s can yield stands at the front of ws, and us is left behind it
pub data Spans : Shape → List ℕ → List ℕ → Type 0 where
  ended : {us : List ℕ} → Spans end us us
  stand : {n : ℕ} {s : Shape} {ws us : List ℕ} → Spans s ws us → Spans (seg n s) (n ∷ ws) us
  skip : {b s : Shape} {ws us : List ℕ} → Spans s ws us → Spans (opt b s) ws us
  once : {b s : Shape} {ws vs us : List ℕ} → Spans b ws vs → Spans s vs us → Spans (opt b s) ws us
  last : {b s : Shape} {ws vs us : List ℕ} → Spans b ws vs → Spans s vs us → Spans (rep b s) ws us
  more : {b s : Shape} {ws vs us : List ℕ} → Spans b ws vs → Spans (rep b s) vs us → Spans (rep b s) ws us

-- the structure yields the names ns
abbrev pub Yields : Shape → List ℕ → Type 0
Yields s ns = Spans s ns []

-- the names ns begin a list that the structure yields
abbrev pub Viable : Shape → List ℕ → Type 0
Viable s ns = (ms : List ℕ) × Yields s (ns ++ ms)

-- "places where a segment name stands": the names in written order, and the place of a name is its index here
abbrev pub names : Shape → List ℕ
names end = []
names (seg n s) = n ∷ names s
names (opt b s) = names b ++ names s
names (rep b s) = names b ++ names s

abbrev pub name_at : Shape → ℕ → ℕ
name_at s p = get_or (names s) p 0

-- how many places
abbrev pub size : Shape → ℕ
size end = 0
size (seg n s) = suc (size s)
size (opt b s) = size b + size s
size (rep b s) = size b + size s

-- the structure with each name replaced by its place, the first of which is k: what it yields are places, filled one
-- after another
abbrev pub numbered : ℕ → Shape → Shape
numbered k end = end
numbered k (seg n s) = seg k (numbered (suc k) s)
numbered k (opt b s) = opt (numbered k b) (numbered (k + size b) s)
numbered k (rep b s) = rep (numbered k b) (numbered (k + size b) s)

-- the places ps, filled one after the other, make a whole message
abbrev pub Fills : Shape → List ℕ → Type 0
Fills s ps = Spans (numbered 0 s) ps []

-- behind the names ns, the place q could be filled next
abbrev pub Possible : Shape → List ℕ → ℕ → Type 0
Possible s ns q = (ps : List ℕ) × (qs : List ℕ) × (map (name_at s) ps ≡ ns) × Fills s (ps ++ q ∷ qs)
