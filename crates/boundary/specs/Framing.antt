-- What C hands in and sees of the frame reader: a state as three numbers, and what the reader stopped at as a number.
use Rattle.std.specs.Prelude.{ℕ, Option, None, Some, Result, Ok, Err}
use Rattle.alphabet.specs.Answers.{number_of}
use Rattle.alphabet.specs.declared.answers.Refusal.{Refusal}
use Rattle.frames.specs.Modes.{mode_of}
use Rattle.frames.specs.Modes.{number_of as mode_number}
use Rattle.frames.specs.declared.state.FrameState.{FrameState}
use Rattle.frames.specs.declared.feeding.Fed.{Fed}
use Rattle.frames.specs.declared.steps.Stop.{Stop}
use Rattle.frames.specs.declared.steps.Stop.TheVariants.{Frame, Drop}
use Rattle.boundary.specs.declared.framing.CFrameState.{CFrameState}
use Rattle.boundary.specs.declared.framing.CFed.{CFed}

-- "state is handed in with each piece and handed back"
abbrev pub handed_in : CFrameState → FrameState
handed_in s = record { mode = mode_of s.mode; held = s.held; count = s.count }

abbrev pub handed_back : FrameState → CFrameState
handed_back s = record { mode = mode_number s.mode; held = s.held; count = s.count }

-- what the reader stopped at: the piece's end, a frame, a frame that it dropped
abbrev pub stop_seen : Option Stop → ℕ
stop_seen None = 0
stop_seen (Some (Frame n)) = 1
stop_seen (Some (Drop kind)) = 2

-- why a frame was dropped
abbrev pub drop_seen : Option Stop → ℕ
drop_seen None = 0
drop_seen (Some (Frame n)) = 0
drop_seen (Some (Drop kind)) = number_of kind

-- how long a frame is
abbrev pub frame_seen : Option Stop → ℕ
frame_seen None = 0
frame_seen (Some (Frame n)) = n
frame_seen (Some (Drop kind)) = 0

abbrev pub told_seen : Fed → CFed
told_seen f =
    record {
      number = drop_seen f.stop;
      stop = stop_seen f.stop;
      used = f.used;
      length = frame_seen f.stop;
      state = handed_back f.state;
    }

-- where the state that was handed in is refused, it goes back as it is
abbrev pub fed_seen : CFrameState → Result Fed Refusal → CFed
fed_seen s (Ok f) = told_seen f
fed_seen s (Err kind) = record { number = number_of kind; stop = 3; used = 0; length = 0; state = s }
