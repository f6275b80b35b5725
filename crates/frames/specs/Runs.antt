-- What a caller does with a line that comes in pieces: each piece is handed in with the state and the buffer that came
-- back before, and after a stop what is left of the piece is handed in again. Nothing of the piece's cut, no `used` and
-- no place, is part of what a run gives.
use Rattle.std.specs.Prelude.{ℕ, ◌≡◌, List, [], ◌∷◌, ◌++◌, length, take, drop, Some, None, Ok}
use Rattle.frames.specs.declared.state.FrameState.{FrameState}
use Rattle.alphabet.specs.declared.answers.Refusal.{Refusal}
use Rattle.frames.specs.declared.steps.Stop.TheVariants.{Frame, Drop}
use Rattle.frames.specs.Steps.{outside}
use Rattle.frames.specs.Feeding.{fed, told}

-- a frame with its bytes, or a dropped frame with its number
pub data Happening : Type 0 where
  frame : List ℕ → Happening
  dropped : Refusal → Happening

-- `Runs s d ps es t x`: the pieces ps, handed in from the state s over the buffer d, give the happenings es, the end
-- state t and the buffer x
pub data Runs : FrameState → List ℕ → List (List ℕ) → List Happening → FrameState → List ℕ → Type 0 where
  done : {s : FrameState} {d : List ℕ} → Runs s d [] [] s d
  -- the piece is used up: the next one
  more : {s t u : FrameState} {d x p : List ℕ} {ps : List (List ℕ)} {es : List Happening} {n : ℕ}
      → (fed s p d).said ≡ Ok (told None n u)
      → Runs u (fed s p d).left ps es t x
      → Runs s d (p ∷ ps) es t x
  -- a frame, which stands at the front of the buffer
  gives : {s t u : FrameState} {d x p : List ℕ} {ps : List (List ℕ)} {es : List Happening} {n size : ℕ}
      → (fed s p d).said ≡ Ok (told (Some (Frame size)) n u)
      → Runs u (fed s p d).left (drop n p ∷ ps) es t x
      → Runs s d (p ∷ ps) (frame (take size (fed s p d).left) ∷ es) t x
  -- a dropped frame
  drops : {s t u : FrameState} {d x p : List ℕ} {ps : List (List ℕ)} {es : List Happening} {n : ℕ} {kind : Refusal}
      → (fed s p d).said ≡ Ok (told (Some (Drop kind)) n u)
      → Runs u (fed s p d).left (drop n p ∷ ps) es t x
      → Runs s d (p ∷ ps) (dropped kind ∷ es) t x

-- the bytes of the pieces, one behind another
abbrev pub line : List (List ℕ) → List ℕ
line [] = []
line (p ∷ ps) = p ++ line ps

-- "All zeros is the start"
abbrev pub start : FrameState
start = outside 0

-- some run over a buffer with that room, from the start, ends in the state
pub record Reached (room : ℕ) (s : FrameState) : Type 0 where
  pub buffer : List ℕ
  pub size : length buffer ≡ room
  pub pieces : List (List ℕ)
  pub happenings : List Happening
  pub left : List ℕ
  pub run : Runs start buffer pieces happenings s left

-- some run of these pieces
pub record Run (s : FrameState) (d : List ℕ) (ps : List (List ℕ)) : Type 0 where
  pub happenings : List Happening
  pub state : FrameState
  pub left : List ℕ
  pub run : Runs s d ps happenings state left
