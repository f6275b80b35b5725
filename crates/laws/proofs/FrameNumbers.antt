-- What the frame reader gives back is of one of five forms, so are its numbers, and no frame is longer than its limit. Assumes nothing.
use mathlib.Core.Path.{◌≡◌, refl}
use mathlib.Core.Bool.{Bool, true, false, cond}
use mathlib.Core.List.{List, [], ◌∷◌}
use Prim.Native.Nat.{ℕ, ◌+◌, ◌≤◌}
use native.Mathlib.Omega.{arith}
use lib.Dec.{leb, eqb}
use lib.ListN.{length}
use Rattle.std.specs.Prelude.{is_some, Result, Ok}
use Rattle.structure.specs.Listed.{In}
use Rattle.alphabet.specs.declared.answers.Refusal.{Refusal}
use Rattle.frames.specs.declared.modes.Mode.{Mode}
use Rattle.frames.specs.declared.modes.Mode.TheVariants.{Outside, Inside, Ending, Skipping, SkippingEnd, Unknown}
use Rattle.frames.specs.declared.state.FrameState.{FrameState}
use Rattle.frames.specs.declared.steps.Step.{Step}
use Rattle.frames.specs.declared.feeding.Fed.{Fed}
use Rattle.frames.specs.Wire.{frame_limit}
use Rattle.frames.specs.Steps.{step_outside, step_inside, step_ending, step_skipping, step_skipping_end, stepped_in, stepped}
use Rattle.frames.specs.Feeding.{stored, told, feeding, taken, foreign, known, fed}
use Rattle.frames.proofs.FeedLaws.{frame_limit_le}
use Rattle.frames.proofs.KnownLaws.{Known, is_outside, is_inside, is_ending, is_skipping, is_skipping_end, known_case, known_step}
use Rattle.laws.specs.Entries.{of_framing}
use Rattle.laws.specs.Framed.{Framed, used_up, a_frame, broken_frame, long_frame, foreign_state, number_in, size_at, size_in}
use Rattle.laws.proofs.Among.{among}

-- ---- a step stops at one of the forms, if at anything

abbrev Form : Step → Type 0
Form q = (n : ℕ) (t : FrameState) → Framed (Ok (told q.stop n t))

either : (A B : Step) (t : Bool) → Form A → Form B → Form (cond t A B)
either A B true a b = a
either A B false a b = b

in_mode : (m : Mode) (limit h n b : ℕ) → Form (stepped_in m limit h n b)
unfolding step_outside step_inside step_ending step_skipping step_skipping_end
in_mode Outside limit h n b = either _ _ (eqb b 11) used_up used_up
in_mode Inside limit h n b = either _ _ (eqb b 11) broken_frame (either _ _ (eqb b 28) used_up (either _ _ (leb limit h) long_frame used_up))
in_mode Ending limit h n b = either _ _ (eqb b 13) (a_frame h) (either _ _ (eqb b 11) broken_frame broken_frame)
in_mode Skipping limit h n b = either _ _ (eqb b 11) used_up (either _ _ (eqb b 28) used_up used_up)
in_mode SkippingEnd limit h n b = either _ _ (eqb b 11) used_up used_up
in_mode Unknown limit h n b = either _ _ (eqb b 11) used_up used_up

step_framed : (limit : ℕ) (s : FrameState) (b : ℕ) → Form (stepped limit s b)
unfolding stepped
step_framed limit s b = in_mode s.mode limit s.held s.count b

-- ---- and so does a piece

feeding_framed : (limit : ℕ) (s : FrameState) (d : List ℕ) (used : ℕ) (p : List ℕ) → Framed (Ok (feeding limit s d used p).said)
unfolding feeding
feeding_framed limit s d used [] = used_up used s
feeding_framed limit s d used (b ∷ p) =
    at (is_some (stepped limit s b).stop) (feeding_framed limit (stepped limit s b).after (stored d s.held b (stepped limit s b).gathers) (used + 1) p)
  where
    at : (t : Bool) → Framed (Ok (feeding limit (stepped limit s b).after (stored d s.held b (stepped limit s b).gathers) (used + 1) p).said)
        → Framed
        (Ok
        (cond t
        (record {
          said = told (stepped limit s b).stop (used + 1) (stepped limit s b).after;
          left = stored d s.held b (stepped limit s b).gathers;
        })
        (feeding limit (stepped limit s b).after (stored d s.held b (stepped limit s b).gathers) (used + 1) p)).said)
    at true ih = step_framed limit s b (used + 1) (stepped limit s b).after
    at false ih = ih

pub feed_framed : (s : FrameState) (p d : List ℕ) → Framed (fed s p d).said
unfolding fed foreign
feed_framed s p d = at (known (length d) s)
  where
    at : (t : Bool) → Framed (cond t (taken (feeding (frame_limit (length d)) s d 0 p)) (foreign d)).said
    at true = feeding_framed (frame_limit (length d)) s d 0 p
    at false = foreign_state

framed_number : {r : Result Fed Refusal} → Framed r → In (number_in r) of_framing
framed_number (used_up n t) = among of_framing 0 refl
framed_number (a_frame size n t) = among of_framing 0 refl
framed_number (broken_frame n t) = among of_framing 40 refl
framed_number (long_frame n t) = among of_framing 41 refl
framed_number foreign_state = among of_framing 14 refl

pub feed_numbers : (s : FrameState) (p d : List ℕ) → In (number_in (fed s p d).said) of_framing
feed_numbers s p d = framed_number (feed_framed s p d)

-- ---- a frame's length

short : (limit : ℕ) (A B : Step) (t : Bool) → size_at A.stop ≤ limit → size_at B.stop ≤ limit → size_at (cond t A B).stop ≤ limit
short limit A B true a b = a
short limit A B false a b = b

step_fits : (limit : ℕ) {s : FrameState} (b : ℕ) → Known limit s → size_at (stepped limit s b).stop ≤ limit
unfolding stepped step_outside step_inside step_ending step_skipping step_skipping_end
step_fits limit b (is_outside n m) = short limit _ _ (eqb b 11) (omega arith) (omega arith)
step_fits limit b (is_inside h n m k) =
    short limit _ _ (eqb b 11) (omega arith) (short limit _ _ (eqb b 28) (omega arith) (short limit _ _ (leb limit h) (omega arith) (omega arith)))
step_fits limit b (is_ending h n m k) = short limit _ _ (eqb b 13) k (short limit _ _ (eqb b 11) (omega arith) (omega arith))
step_fits limit b (is_skipping n m) = short limit _ _ (eqb b 11) (omega arith) (short limit _ _ (eqb b 28) (omega arith) (omega arith))
step_fits limit b (is_skipping_end n m) = short limit _ _ (eqb b 11) (omega arith) (omega arith)

feeding_fits : (limit : ℕ) (s : FrameState) (d : List ℕ) (used : ℕ) (p : List ℕ) → Known limit s → size_at (feeding limit s d used p).said.stop ≤ limit
unfolding feeding
feeding_fits limit s d used [] k = omega arith
feeding_fits limit s d used (b ∷ p) k =
    at (is_some (stepped limit s b).stop)
    (feeding_fits limit (stepped limit s b).after (stored d s.held b (stepped limit s b).gathers) (used + 1) p (known_step limit b k))
  where
    at : (t : Bool) → size_at (feeding limit (stepped limit s b).after (stored d s.held b (stepped limit s b).gathers) (used + 1) p).said.stop ≤ limit
        → size_at
        (cond t
        (record {
          said = told (stepped limit s b).stop (used + 1) (stepped limit s b).after;
          left = stored d s.held b (stepped limit s b).gathers;
        })
        (feeding limit (stepped limit s b).after (stored d s.held b (stepped limit s b).gathers) (used + 1) p)).said.stop
        ≤ limit
    at true ih = step_fits limit b k
    at false ih = ih

-- a frame has no more bytes than the limit, and so fits the buffer
pub frame_fits : (s : FrameState) (p d : List ℕ) → size_in (fed s p d).said ≤ frame_limit (length d)
unfolding fed foreign
frame_fits s p d = at (known (length d) s) refl
  where
    at : (t : Bool) → known (length d) s ≡ t → size_in (cond t (taken (feeding (frame_limit (length d)) s d 0 p)) (foreign d)).said ≤ frame_limit (length d)
    at true e = feeding_fits (frame_limit (length d)) s d 0 p (known_case (length d) s e)
    at false e = omega arith

pub frame_in_buffer : (s : FrameState) (p d : List ℕ) → size_in (fed s p d).said ≤ length d
frame_in_buffer s p d = omega (arith, frame_fits s p d, frame_limit_le (length d))
