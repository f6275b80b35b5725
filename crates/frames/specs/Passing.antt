-- For the private functions alone that pass over bytes of one kind at once: they do nothing that single bytes would
-- not.
use Rattle.std.specs.Prelude.{ℕ, ◌+◌, ◌-◌, ◌≤◌, ◌≡◌, List, Bool, true, cond, leb, length, drop}
use Rattle.alphabet.specs.Lists.{either}
use Rattle.frames.specs.declared.state.FrameState.{FrameState}
use Rattle.frames.specs.Wire.{opens, closes, most_dropped}
use Rattle.frames.specs.Feeding.{known, feeding}

-- the two bytes that are not gathered
abbrev pub framing : ℕ → Bool
framing = either opens closes

-- k bytes more, to the most that is counted
unfoldable pub counted_on : ℕ → ℕ → ℕ
counted_on n k = cond (leb k (most_dropped - n)) (n + k) most_dropped

-- the state and the buffer behind a run of so many bytes at the front of l
pub record PassesOver (limit : ℕ) (s : FrameState) (l d : List ℕ) (run : ℕ) (t : FrameState) (x : List ℕ) : Type 0 where
  pub within : run ≤ length l
  pub size : length x ≡ length d
  pub can : known (length d) t ≡ true
  pub on : (used : ℕ) → feeding limit s d used l ≡ feeding limit t x (used + run) (drop run l)
