-- The forms of what the frame reader gives back, by document 02, W1, and the numbers that go with each: "New numbers 40
-- (broken frame) and 41 (frame too long)"; 14 is a state that no run could have reached. Only a frame has a length.
-- With them, what the grammar of a line says of a run.
use Rattle.std.specs.Prelude.{ℕ, ◌≡◌, List, Option, Some, None, Result, Ok, Err}
use Rattle.alphabet.specs.Answers.{number_of}
use Rattle.alphabet.specs.declared.answers.Refusal.{Refusal}
use Rattle.alphabet.specs.declared.answers.Refusal.TheVariants.{NoRoom, BrokenFrame, FrameTooLong}
use Rattle.frames.specs.declared.state.FrameState.{FrameState}
use Rattle.frames.specs.declared.steps.Stop.{Stop}
use Rattle.frames.specs.declared.steps.Stop.TheVariants.{Frame, Drop}
use Rattle.frames.specs.declared.feeding.Fed.{Fed}
use Rattle.frames.specs.Feeding.{told}
use Rattle.frames.specs.Runs.{Happening}
use Rattle.frames.specs.Gathered.{laid}
use Rattle.frames.specs.Wired.{Wired, out}

pub data Framed : Result Fed Refusal → Type 0 where
  used_up : (n : ℕ) (t : FrameState) → Framed (Ok (told None n t))
  a_frame : (size n : ℕ) (t : FrameState) → Framed (Ok (told (Some (Frame size)) n t))
  broken_frame : (n : ℕ) (t : FrameState) → Framed (Ok (told (Some (Drop BrokenFrame)) n t))
  long_frame : (n : ℕ) (t : FrameState) → Framed (Ok (told (Some (Drop FrameTooLong)) n t))
  foreign_state : Framed (Err NoRoom)

-- ---- what a caller knows of any answer

-- its number: 0 where no frame is dropped and no state is refused
abbrev pub number_at : Option Stop → ℕ
number_at None = 0
number_at (Some (Frame size)) = 0
number_at (Some (Drop kind)) = number_of kind

abbrev pub number_in : Result Fed Refusal → ℕ
number_in (Ok f) = number_at f.stop
number_in (Err kind) = number_of kind

-- how many bytes of a frame stand at the front of the buffer
abbrev pub size_at : Option Stop → ℕ
size_at None = 0
size_at (Some (Frame size)) = size
size_at (Some (Drop kind)) = 0

abbrev pub size_in : Result Fed Refusal → ℕ
size_in (Ok f) = size_at f.stop
size_in (Err kind) = 0

-- how many bytes of the piece are used: none where the state is refused
abbrev pub used_in : Result Fed Refusal → ℕ
used_in (Ok f) = f.used
used_in (Err kind) = 0

-- the state that it has from then on: where the one that it handed in is refused, still that one
abbrev pub state_in : FrameState → Result Fed Refusal → FrameState
state_in s (Ok f) = f.state
state_in s (Err kind) = s

-- ---- what the grammar says of a line

-- from outside a frame with n bytes dropped before: it is wired so, and the buffer x is d with the line's bodies laid
-- over it
pub record Said (limit n : ℕ) (l : List ℕ) (es : List Happening) (t : FrameState) (d x : List ℕ) : Type 0 where
  pub bodies : List (List ℕ)
  pub derivation : Wired limit out n l es bodies t
  pub holds : x ≡ laid bodies d
