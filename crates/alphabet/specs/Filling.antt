-- What writing into a lent buffer leaves in it. A written text "fills the front of its buffer", "the bytes behind it
-- stay".
use Rattle.std.specs.Prelude.{ℕ, ◌+◌, List, ◌++◌, cond, length, take, drop, leb}

-- the buffer d with w over its front
abbrev pub over : List ℕ → List ℕ → List ℕ
over w d = w ++ drop (length w) d

-- d with s in it from place `at` on
abbrev pub pasted : List ℕ → ℕ → List ℕ → List ℕ
pasted d at s = take at d ++ s ++ drop (at + length s) d

-- the same where there is room for s, and d as it was where there is none
unfoldable pub put_at : List ℕ → ℕ → List ℕ → List ℕ
put_at d at s = cond (leb (at + length s) (length d)) (pasted d at s) d

-- the place behind what was put
unfoldable pub behind : ℕ → ℕ → ℕ → ℕ
behind room at n = cond (leb (at + n) room) (at + n) at
