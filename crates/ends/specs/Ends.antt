-- For private functions and for those who note ends: where the parts of some bytes end, and what is cut out by that.
-- `proofs/EndLaws.antt` shows that these are the parts of `split`.
use Rattle.std.specs.Prelude.{ℕ, zero, suc, ◌+◌, ◌-◌, ◌≤◌, ◌<◌, ◌≡◌, List, cond, leb, length, get_or, take, drop}
use Rattle.alphabet.specs.Lists.{find, either}
use Rattle.search.specs.Words.{marks}

-- the end of the part behind the one that ends at e; there is none behind the last
unfoldable pub next_end : ℕ → List ℕ → ℕ → ℕ
next_end sep l e = cond (leb (length l) e) (length l) (e + 1 + find sep (drop (e + 1) l))

-- the end of part k, from 0
unfoldable pub part_end : ℕ → List ℕ → ℕ → ℕ
part_end sep l zero = find sep l
part_end sep l (suc k) = next_end sep l (part_end sep l k)

-- behind the byte at b, up to e
abbrev pub cut_out : List ℕ → ℕ → ℕ → List ℕ
cut_out l b e = take (e - (b + 1)) (drop (b + 1) l)

-- the ends of the parts up to `most` are noted, as far as there is room for them
abbrev pub Noted : ℕ → List ℕ → ℕ → List ℕ → Type 0
Noted sep l most ends = (k : ℕ) → k ≤ most → k < 16 → get_or ends k 0 ≡ part_end sep l k

-- ---- for private functions alone

-- the ends of the first n parts stand at their places
abbrev pub Front : ℕ → List ℕ → ℕ → List ℕ → Type 0
Front sep l n ends = (k : ℕ) → k < n → get_or ends k 0 ≡ part_end sep l k

-- a walk has come to `place`: so many ends are noted, and the next, where there is room for one, is the first separator from there on
abbrev pub Reached : ℕ → List ℕ → ℕ → ℕ → List ℕ → Type 0
Reached sep l count place ends = (count ≤ 16) × Front sep l count ends × (count < 16 → part_end sep l count ≡ place + find sep (drop place l))

-- the eight bytes from `place` on are marked where they are the separator
abbrev pub Marked : ℕ → List ℕ → ℕ → ℕ → Type 0
Marked sep l place found = (place + 8 ≤ length l) × (found ≡ marks (either sep sep) (take 8 (drop place l)))
