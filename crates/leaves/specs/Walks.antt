-- For private functions alone: what is still to come of a message's leaves, from inside a leaf on, and the marks of the
-- bytes that end leaves.
use Rattle.std.specs.Prelude.{ℕ, zero, suc, ◌+◌, ◌-◌, ◌*◌, ◌%◌, ◌^◌, ◌≤◌, ◌<◌, ◌≡◌, List, [], ◌∷◌, ◌++◌, Bool, true, cond, length, get_or, drop, eqb, leb, ltb}
use Rattle.alphabet.specs.Bytes.{carriage_return, is_null}
use Rattle.alphabet.specs.Lists.{first, among}
use Rattle.alphabet.specs.Parts.{split}
use Rattle.reading.specs.Segments.{all_but_last, delimiters_of}
use Rattle.element.specs.Levels.{between}
use Rattle.element.specs.declared.address.Address.{Address}
use Rattle.leaves.specs.Leaves.{Leaf, addressed, leaf_at, each, subcomponent_leaf, in_component, in_repetition, in_part, in_segment, rows}

-- the bytes that end a leaf: CR, and the separators of fields, components, repetitions and subcomponents
abbrev pub ends_of : List ℕ → List ℕ
ends_of m = carriage_return ∷ get_or m 3 0 ∷ get_or m 4 0 ∷ get_or m 5 0 ∷ get_or m 7 0 ∷ []

-- the leaves of some parts, of which the first is met on the way: `inner` has what is still to come of it
unfoldable pub resume : (ℕ → List ℕ → List Leaf) → (ℕ → ℕ → List ℕ → List Leaf) → ℕ → ℕ → List (List ℕ) → List Leaf
resume inner next k at [] = []
resume inner next k at (p ∷ ps) = inner at p ++ each next k (at + length p + 1) ps

-- from a leaf on: to the end of its component, its repetition, its field, its segment, and of the message
unfoldable pub rest_component : List ℕ → ℕ → ℕ → ℕ → ℕ → ℕ → ℕ → List ℕ → List Leaf
rest_component ds s f r c u at l = resume (subcomponent_leaf ds s f r c u) (subcomponent_leaf ds s f r c) (u + 1) at (split (get_or ds 4 0) l)

unfoldable pub rest_repetition : List ℕ → ℕ → ℕ → ℕ → ℕ → ℕ → ℕ → List ℕ → List Leaf
rest_repetition ds s f r c u at l = resume (rest_component ds s f r c u) (in_component ds s f r) (c + 1) at (split (get_or ds 1 0) l)

unfoldable pub rest_field : List ℕ → ℕ → ℕ → ℕ → ℕ → ℕ → ℕ → List ℕ → List Leaf
rest_field ds s f r c u at l = resume (rest_repetition ds s f r c u) (in_repetition ds s f) (r + 1) at (split (get_or ds 2 0) l)

-- a name and the first two fields of MSH are not split
abbrev pub whole : ℕ → ℕ → Bool
whole s f = cond (eqb s 0) (leb f 2) (eqb f 0)

unfoldable pub rest_part : List ℕ → ℕ → ℕ → ℕ → ℕ → ℕ → ℕ → List ℕ → List Leaf
rest_part ds s f r c u at l = cond (whole s f) (in_part ds s f at l) (rest_field ds s f r c u at l)

unfoldable pub rest_segment : List ℕ → ℕ → ℕ → ℕ → ℕ → ℕ → ℕ → List ℕ → List Leaf
rest_segment ds s f r c u at l = resume (rest_part ds s f r c u) (in_part ds s) (f + 1) at (split (get_or ds 0 0) l)

unfoldable pub rest_from : List ℕ → Address → ℕ → List ℕ → List Leaf
rest_from ds a at l =
    resume (rest_segment ds a.segment a.field a.repetition a.component a.subcomponent) (in_segment ds) (a.segment + 1) at
    (all_but_last (split carriage_return l))

-- the leaf at an address that stands there; a name is none
abbrev pub here_of : List ℕ → Address → ℕ → List ℕ → List Leaf
here_of ds a at bytes = cond (eqb a.field 0) [] (leaf_at ds a at bytes ∷ [])

abbrev pub here_in : List ℕ → Address → ℕ → ℕ → List Leaf
here_in m a start end = here_of (delimiters_of m) a start (between m start end)

-- no byte from `start` up to `end` ends a leaf
abbrev pub Plain : List ℕ → ℕ → ℕ → Type 0
Plain m start end = end ≤ start + first (among (ends_of m)) (drop start m)

-- the address behind a byte that ends the leaf at a
abbrev pub passed : List ℕ → ℕ → Address → Address
passed ends b a =
    cond (eqb b (get_or ends 1 0)) (addressed a.segment (a.field + 1) 1 1 1)
    (cond (eqb b (get_or ends 2 0)) (addressed a.segment a.field a.repetition (a.component + 1) 1)
    (cond (eqb b (get_or ends 0 0)) (addressed (a.segment + 1) 0 1 1 1)
    (cond (eqb b (get_or ends 3 0)) (addressed a.segment a.field (a.repetition + 1) 1 1)
    (addressed a.segment a.field a.repetition a.component (a.subcomponent + 1)))))

-- no number of an address is more than n
abbrev pub AtMost : ℕ → Address → Type 0
AtMost n a = (a.segment ≤ n) × (a.field ≤ n) × (a.repetition ≤ n) × (a.component ≤ n) × (a.subcomponent ≤ n)

-- the state of bytes that no separator is among, as its number
abbrev pub plain_state : List ℕ → ℕ
plain_state bytes = cond (is_null bytes) 2 (cond (eqb (length bytes) 0) 1 3)

-- and 0 for a name, whose start is shown behind its end
abbrev pub state_at : List ℕ → ℕ → ℕ → ℕ
state_at m start end = cond (ltb end start) 0 (plain_state (between m start end))

-- what a walk has as the start of what begins at `place`: in a name so much more, behind every byte of a message; and
-- where that begins
abbrev pub shown : Address → ℕ → ℕ
shown a place = cond (eqb a.field 0) (place + 1048576) place

abbrev pub begins : Address → ℕ → ℕ
begins a start = cond (eqb a.field 0) (start - 1048576) start

-- a walk has come to `place`, in the leaf at a that begins at `start`: no byte between ends it
pub record Reached (m : List ℕ) (a : Address) (start place : ℕ) : Type 0 where
  pub begun : start ≤ place
  pub free : place ≤ start + first (among (ends_of m)) (drop start m)
  pub few : AtMost start a
  -- the first two fields of MSH are behind it
  pub split_on : 3 ≤ a.segment * 3 + a.field

-- how much of the rows from a leaf on is still to come
abbrev pub rest_rows : List ℕ → Address → ℕ → List ℕ
rest_rows m a start = rows (rest_from (delimiters_of m) a start (drop start m))

-- the marks of bytes: a number in base 2 with a 1 for each byte that passes the test, the lowest for the first
unfoldable pub marked : (ℕ → Bool) → List ℕ → ℕ
marked test [] = 0
marked test (b ∷ l) = cond (test b) 1 0 + 2 * marked test l

-- a buffer that is filled from its front: W is what is to be written, d₀ the buffer as it was, rest what is still to
-- come, d the buffer now and o the place of the next number
pub record Written (W d₀ rest d : List ℕ) (o : ℕ) : Type 0 where
  pub front : List ℕ
  pub all : W ≡ front ++ rest
  pub size : length front ≡ o
  pub holds : d ≡ front ++ drop o d₀

-- the same without those of the first k bytes
unfoldable pub marked_from : (ℕ → Bool) → ℕ → List ℕ → ℕ
marked_from test zero l = marked test l
marked_from test (suc k) [] = 0
marked_from test (suc k) (b ∷ l) = 2 * marked_from test k l

-- the 48 bytes from `place` on are marked
abbrev pub Marks : List ℕ → ℕ → ℕ → Type 0
Marks m place bits = (place + 48 ≤ length m) × (bits ≡ marked (among (ends_of m)) (between m place (place + 48)))

-- the byte at `end` ends a leaf
abbrev pub Ends : List ℕ → ℕ → Type 0
Ends m end = (end < length m) × (among (ends_of m) (get_or m end 0) ≡ true)

-- a walk has come to `place`, and the buffer has room for what is still to come
abbrev pub Stands : List ℕ → List ℕ → Address → ℕ → ℕ → ℕ → Type 0
Stands m d a start at place =
    Reached m a (begins a start) place × (at + length (rest_rows m a (begins a start)) ≤ length d) × (start ≡ shown a (begins a start))

-- what was still to come of the rows has been written but for what is still to come now
abbrev pub Writes : List ℕ → List ℕ → Address → ℕ → ℕ → List ℕ → Address → ℕ → ℕ → Type 0
Writes m d a start at d' a' start' at' =
    (W d₀ : List ℕ) → Written W d₀ (rest_rows m a (begins a start)) d at → Written W d₀ (rest_rows m a' (begins a' start')) d' at'

abbrev pub WritesAll : List ℕ → List ℕ → Address → ℕ → ℕ → List ℕ → ℕ → Type 0
WritesAll m d a start at d' at' = (W d₀ : List ℕ) → Written W d₀ (rest_rows m a (begins a start)) d at → Written W d₀ [] d' at'

-- ---- marks of a block: of each byte up to n, its weight among its eight where it passes the test

abbrev pub Weighs : (ℕ → Bool) → List ℕ → ℕ → List ℕ → Type 0
Weighs test l n ws = (j : ℕ) → j < n → get_or ws j 0 ≡ cond (test (get_or l j 0)) (2 ^ (j % 8)) 0

-- eight weights, each at most its own
abbrev pub Light : List ℕ → ℕ → Type 0
Light ws at =
    (at + 8 ≤ length ws) × (get_or ws at 0 ≤ 1) × (get_or ws (at + 1) 0 ≤ 2) × (get_or ws (at + 2) 0 ≤ 4) × (get_or ws (at + 3) 0 ≤ 8) × (get_or ws (at + 4) 0 ≤ 16)
    × (get_or ws (at + 5) 0 ≤ 32) × (get_or ws (at + 6) 0 ≤ 64) × (get_or ws (at + 7) 0 ≤ 128)

abbrev pub sum_of : List ℕ → ℕ → ℕ
sum_of ws at =
    get_or ws at 0 + get_or ws (at + 1) 0 + (get_or ws (at + 2) 0 + get_or ws (at + 3) 0)
    + (get_or ws (at + 4) 0 + get_or ws (at + 5) 0 + (get_or ws (at + 6) 0 + get_or ws (at + 7) 0))
