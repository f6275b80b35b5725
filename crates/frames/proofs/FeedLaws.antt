-- Laws of feeding, for the loop that feeds: what one byte more does, and the end. Assumes nothing.
use mathlib.Core.Path.{◌≡◌, refl, sym, ◌∙◌}
use mathlib.Core.Bool.{Bool, true, false, cond}
use mathlib.Core.List.{List, ◌∷◌}
use Prim.Native.Nat.{ℕ, ◌+◌, ◌≤◌, ◌<◌}
use Rattle.std.specs.Prelude.{is_some}
use native.Mathlib.Omega.{arith}
use lib.Dec.{eqb, leb}
use lib.ListN.{length, set, length-set}
use borrow.Author.Tests.{leb-true, leb-false}
use Rattle.alphabet.proofs.BoolLaws.{false_true}
use Rattle.alphabet.specs.Limits.{message_limit}
use Rattle.frames.specs.declared.state.FrameState.{FrameState}
use Rattle.alphabet.specs.declared.answers.Refusal.TheVariants.{BrokenFrame, FrameTooLong}
use Rattle.frames.specs.declared.modes.Mode.{Mode}
use Rattle.frames.specs.declared.modes.Mode.TheVariants.{Outside, Inside, Ending, Skipping, SkippingEnd, Unknown}
use Rattle.frames.specs.declared.steps.Stop.TheVariants.{Drop}
use Rattle.frames.specs.declared.steps.Step.{Step}
use Rattle.frames.specs.Wire.{frame_limit}
use Rattle.frames.specs.Steps.{stops, quiet, gather, inside, ending, skipping, step_outside, step_inside, step_ending, step_skipping, step_skipping_end, stepped_in, stepped}
use Rattle.frames.specs.Feeding.{feeding, told, known, taken, foreign, fed, stored}

-- the limit is at most the room
pub frame_limit_le : (room : ℕ) → frame_limit room ≤ room
unfolding frame_limit
frame_limit_le room = at (leb message_limit room) refl
  where
    at : (t : Bool) → leb message_limit room ≡ t → cond t message_limit room ≤ room
    at true e = leb-true message_limit room e
    at false e = omega arith

-- ---- a byte is gathered only where there is room for it

either : (A B : Step) (t : Bool) → A.gathers ≡ false → B.gathers ≡ false → (cond t A B).gathers ≡ false
either A B true a b = a
either A B false a b = b

inside_below : (limit h n b : ℕ) → (step_inside limit h n b).gathers ≡ true → h < limit
unfolding step_inside
inside_below limit h n b = at (eqb b 11) (eqb b 28) (leb limit h) refl
  where
    at : (p q r : Bool) → leb limit h ≡ r
        → (cond p (stops (Drop BrokenFrame) (inside 0 n)) (cond q (quiet (ending h n)) (cond r (stops (Drop FrameTooLong) (skipping n)) (gather (inside (h + 1) n))))).gathers ≡ true → h < limit
    at true q r e g = false_true g
    at false true r e g = false_true g
    at false false true e g = false_true g
    at false false false e g = leb-false limit h e

in_mode : (m : Mode) (limit h n b : ℕ) → (stepped_in m limit h n b).gathers ≡ true → h < limit
unfolding step_outside step_ending step_skipping step_skipping_end
in_mode Outside limit h n b g = false_true (sym (either _ _ (eqb b 11) refl refl) ∙ g)
in_mode Inside limit h n b g = inside_below limit h n b g
in_mode Ending limit h n b g = false_true (sym (either _ _ (eqb b 13) refl (either _ _ (eqb b 11) refl refl)) ∙ g)
in_mode Skipping limit h n b g = false_true (sym (either _ _ (eqb b 11) refl (either _ _ (eqb b 28) refl refl)) ∙ g)
in_mode SkippingEnd limit h n b g = false_true (sym (either _ _ (eqb b 11) refl refl) ∙ g)
in_mode Unknown limit h n b g = false_true (sym (either _ _ (eqb b 11) refl refl) ∙ g)

pub gathers_below : (limit : ℕ) (s : FrameState) (b : ℕ) → (stepped limit s b).gathers ≡ true → s.held < limit
unfolding stepped
gathers_below limit s b g = in_mode s.mode limit s.held s.count b g

-- ---- the buffer behind a byte

pub length_stored : (d : List ℕ) (h b : ℕ) (t : Bool) → length (stored d h b t) ≡ length d
unfolding stored
length_stored d h b true = length-set d h b
length_stored d h b false = refl

pub stored_set : (d : List ℕ) (h b : ℕ) {t : Bool} → t ≡ true → stored d h b t ≡ set d h b
unfolding stored
stored_set d h b e = rw e

pub stored_not : (d : List ℕ) (h b : ℕ) {t : Bool} → t ≡ false → stored d h b t ≡ d
unfolding stored
stored_not d h b e = rw e

-- ---- feeding

module _ (limit : ℕ) (s : FrameState) (d : List ℕ) (used b : ℕ) (l : List ℕ) where
  module _ (q : Step) (x : List ℕ) (eq : q ≡ stepped limit s b) (ex : x ≡ stored d s.held b q.gathers) where
    pub feed_stop : is_some q.stop ≡ true → feeding limit s d used (b ∷ l) ≡ record { said = told q.stop (used + 1) q.after; left = x }
    unfolding feeding
    feed_stop e = rw (← eq, e, ex)

    pub feed_on : is_some q.stop ≡ false → feeding limit s d used (b ∷ l) ≡ feeding limit q.after x (used + 1) l
    unfolding feeding
    feed_on e = rw (← eq, e, ex)

-- ---- a state that can be, and one that cannot

module _ (s : FrameState) (p d : List ℕ) where
  pub fed_known : known (length d) s ≡ true → fed s p d ≡ taken (feeding (frame_limit (length d)) s d 0 p)
  unfolding fed
  fed_known e = rw e

  pub fed_foreign : known (length d) s ≡ false → fed s p d ≡ foreign d
  unfolding fed
  fed_foreign e = rw e
