-- The telling inputs of the frame reader, one table under one statement: each row is computed. Assumes nothing.
use mathlib.Core.Path.{◌≡◌, refl}
use mathlib.Core.List.{List, [], ◌∷◌}
use Prim.Native.Nat.{ℕ}
use Rattle.alphabet.specs.Limits.{message_limit}
use Rattle.std.specs.Prelude.{Option, Some, None, Result, Ok, Err}
use Rattle.alphabet.specs.declared.answers.Refusal.{Refusal}
use Rattle.alphabet.specs.declared.answers.Refusal.TheVariants.{NoRoom, BrokenFrame, FrameTooLong}
use Rattle.frames.specs.declared.state.FrameState.{FrameState}
use Rattle.frames.specs.declared.steps.Stop.{Stop}
use Rattle.frames.specs.declared.steps.Stop.TheVariants.{Frame, Drop}
use Rattle.frames.specs.declared.feeding.Fed.{Fed}
use Rattle.frames.specs.Wire.{most_dropped, frame_limit}
use Rattle.frames.specs.Steps.{outside, inside, skipping, counted, step_outside, step_inside, step_ending, step_skipping, step_skipping_end, stepped}
use Rattle.frames.specs.Feeding.{Feeding, known, stored, told, feeding, foreign, fed}
use Rattle.frames.specs.Runs.{start}

-- a state, a piece and a buffer, and what comes back of them
record Sample : Type 0 where
  state : FrameState
  piece : List ℕ
  lent : List ℕ
  gives : Feeding (Result Fed Refusal)

abbrev answers : Option Stop → ℕ → FrameState → List ℕ → Feeding (Result Fed Refusal)
answers stop used state left = record { said = Ok (told stop used state); left = left }

abbrev refuses : Refusal → List ℕ → Feeding (Result Fed Refusal)
refuses kind left = record { said = Err kind; left = left }

abbrev sample : FrameState → List ℕ → List ℕ → Feeding (Result Fed Refusal) → Sample
sample s p d f = record { state = s; piece = p; lent = d; gives = f }

abbrev telling : List Sample
telling =
    -- 0B 41 0B: 40 behind three bytes, and already inside the next frame; 0B 0B: 40 with nothing gathered
    sample start (11 ∷ 65 ∷ 11 ∷ []) (7 ∷ 7 ∷ []) (answers (Some (Drop BrokenFrame)) 3 (inside 0 0) (65 ∷ 7 ∷ []))
    ∷ sample start (11 ∷ 11 ∷ []) [] (answers (Some (Drop BrokenFrame)) 2 (inside 0 0) [])
    -- over no buffer 0B 1C 0D is an empty frame, and 0B 41 is 41
    ∷ sample start (11 ∷ 28 ∷ 13 ∷ []) [] (answers (Some (Frame 0)) 3 (outside 0) [])
    ∷ sample start (11 ∷ 65 ∷ []) [] (answers (Some (Drop FrameTooLong)) 2 (skipping 0) [])
    -- a frame as long as the buffer is a frame, and the byte behind it is left
    ∷ sample start (11 ∷ 65 ∷ 66 ∷ 28 ∷ 13 ∷ 99 ∷ []) (7 ∷ 7 ∷ []) (answers (Some (Frame 2)) 5 (outside 0) (65 ∷ 66 ∷ []))
    -- behind 41: of 1C 78 79 the 79 alone is counted; 1C 0B begins the next frame
    ∷ sample (skipping 0) (28 ∷ 120 ∷ 121 ∷ []) (65 ∷ 66 ∷ []) (answers None 3 (outside 1) (65 ∷ 66 ∷ []))
    ∷ sample (skipping 0) (28 ∷ 11 ∷ 90 ∷ 28 ∷ 13 ∷ []) (65 ∷ 66 ∷ []) (answers (Some (Frame 1)) 5 (outside 0) (90 ∷ 66 ∷ []))
    -- 1C 1C: dropped, uncounted, and the reader is outside
    ∷ sample start (11 ∷ 28 ∷ 28 ∷ []) (7 ∷ 7 ∷ []) (answers (Some (Drop BrokenFrame)) 3 (outside 0) (7 ∷ 7 ∷ []))
    -- the count stays at the most
    ∷ sample (outside 4294967295) (65 ∷ []) [] (answers None 1 (outside 4294967295) [])
    -- a state that cannot be: 14, also for an empty piece
    ∷ sample (inside 3 0) [] (7 ∷ 7 ∷ []) (refuses NoRoom (7 ∷ 7 ∷ []))
    ∷ []

abbrev Hold : List Sample → Type 0
Hold [] = Unit {0}
Hold (x ∷ xs) = (fed x.state x.piece x.lent ≡ x.gives) × Hold xs

pub frame_samples : Hold telling
unfolding message_limit most_dropped frame_limit counted step_outside step_inside step_ending step_skipping step_skipping_end stepped known stored feeding foreign fed
frame_samples = (refl, (refl, (refl, (refl, (refl, (refl, (refl, (refl, (refl, (refl, tt))))))))))
