-- What a piece does: byte by byte to the first stop, or to the piece's end. The state is handed in with it and handed
-- back.
use Rattle.std.specs.Prelude.{ℕ, ◌+◌, List, [], ◌∷◌, Bool, false, cond, ◌&&◌, leb, eqb, length, set, Option, None, is_some, Result, Ok, Err}
use Rattle.frames.specs.declared.modes.Mode.{Mode}
use Rattle.frames.specs.declared.modes.Mode.TheVariants.{Outside, Inside, Ending, Skipping, SkippingEnd, Unknown}
use Rattle.frames.specs.declared.state.FrameState.{FrameState}
use Rattle.frames.specs.declared.steps.Stop.{Stop}
use Rattle.frames.specs.declared.feeding.Fed.{Fed}
use Rattle.alphabet.specs.declared.answers.Refusal.{Refusal}
use Rattle.alphabet.specs.declared.answers.Refusal.TheVariants.{NoRoom}
use Rattle.frames.specs.Wire.{most_dropped, frame_limit}
use Rattle.frames.specs.Steps.{stepped}

-- "A state that no run with that buffer's length could have reached is 14": where bytes are gathered there are at most
-- as many as the limit, and elsewhere there are none. That exactly these are reached is a theorem (`taken-exactly`)
abbrev pub can_hold : Mode → ℕ → ℕ → Bool
can_hold Outside limit h = eqb h 0
can_hold Inside limit h = leb h limit
can_hold Ending limit h = leb h limit
can_hold Skipping limit h = eqb h 0
can_hold SkippingEnd limit h = eqb h 0
can_hold Unknown limit h = false

unfoldable pub known : ℕ → FrameState → Bool
known room s = leb s.count most_dropped && can_hold s.mode (frame_limit room) s.held

-- the buffer behind one byte: "filling a lent buffer"
unfoldable pub stored : List ℕ → ℕ → ℕ → Bool → List ℕ
stored d h b gathers = cond gathers (set d h b) d

-- what goes back behind so many bytes: "stopping after each frame and each dropped frame"
abbrev pub told : Option Stop → ℕ → FrameState → Fed
told e n t = record { used = n; stop = e; state = t }

-- what is said, and what is left in the buffer
pub record Feeding (A : Type 0) : Type 0 where
  pub said : A
  pub left : List ℕ

-- from a state, over a buffer, with so many bytes used before
unfoldable pub feeding : ℕ → FrameState → List ℕ → ℕ → List ℕ → Feeding Fed
feeding limit s d used [] = record { said = told None used s; left = d }
feeding limit s d used (b ∷ piece) =
    cond (is_some (stepped limit s b).stop)
    (record {
      said = told (stepped limit s b).stop (used + 1) (stepped limit s b).after;
      left = stored d s.held b (stepped limit s b).gathers;
    })
    (feeding limit (stepped limit s b).after (stored d s.held b (stepped limit s b).gathers) (used + 1) piece)

-- what goes back where nothing is refused
abbrev pub taken : Feeding Fed → Feeding (Result Fed Refusal)
taken f = record { said = Ok f.said; left = f.left }

-- 14 changes nothing: the buffer is as it was, no byte of the piece is used, and the state is the caller's own
unfoldable pub foreign : List ℕ → Feeding (Result Fed Refusal)
foreign d = record { said = Err NoRoom; left = d }

-- the contract of `feed`
unfoldable pub fed : FrameState → List ℕ → List ℕ → Feeding (Result Fed Refusal)
fed s piece d = cond (known (length d) s) (taken (feeding (frame_limit (length d)) s d 0 piece)) (foreign d)
