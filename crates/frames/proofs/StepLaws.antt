-- The arms of one step, each from what was tested on the way to it. Assumes nothing.
use mathlib.Core.Path.{◌≡◌}
use Prim.Native.Nat.{ℕ, ◌+◌, ◌≤◌, ◌<◌}
use borrow.Author.Tests.{eq-eqb, ne_eqb, le-leb, lt-leb, lt-ltb, le-ltb}
use Rattle.frames.specs.declared.state.FrameState.{FrameState}
use Rattle.alphabet.specs.declared.answers.Refusal.TheVariants.{BrokenFrame, FrameTooLong}
use Rattle.frames.specs.declared.modes.Mode.TheVariants.{Outside, Inside, Ending, Skipping}
use Rattle.frames.specs.declared.steps.Stop.TheVariants.{Frame, Drop}
use Rattle.frames.specs.Wire.{most_dropped}
use Rattle.frames.specs.Steps.{outside, inside, ending, skipping, skipping_end, quiet, gather, stops, counted, step_outside, step_inside, step_ending, step_skipping, step_skipping_end, stepped}

pub counted_more : {n : ℕ} → n < most_dropped → counted n ≡ n + 1
unfolding counted
counted_more {n} h = rw (lt-ltb n most_dropped h)

pub counted_most : {n : ℕ} → most_dropped ≤ n → counted n ≡ n
unfolding counted
counted_most {n} h = rw (le-ltb n most_dropped h)

module _ (n b : ℕ) where
  pub outside_opens : b ≡ 11 → step_outside n b ≡ quiet (inside 0 n)
  unfolding step_outside
  outside_opens e = rw (eq-eqb b 11 e)

  pub outside_drops : (b ≡ 11 → ⊥) → step_outside n b ≡ quiet (outside (counted n))
  unfolding step_outside
  outside_drops e = rw (ne_eqb b 11 e)

  pub skipping_opens : b ≡ 11 → step_skipping n b ≡ quiet (inside 0 n)
  unfolding step_skipping
  skipping_opens e = rw (eq-eqb b 11 e)

  pub skipping_closes : (b ≡ 11 → ⊥) → b ≡ 28 → step_skipping n b ≡ quiet (skipping_end n)
  unfolding step_skipping
  skipping_closes f e = rw (ne_eqb b 11 f, eq-eqb b 28 e)

  pub skipping_on : (b ≡ 11 → ⊥) → (b ≡ 28 → ⊥) → step_skipping n b ≡ quiet (skipping n)
  unfolding step_skipping
  skipping_on f e = rw (ne_eqb b 11 f, ne_eqb b 28 e)

  pub skipped_opens : b ≡ 11 → step_skipping_end n b ≡ quiet (inside 0 n)
  unfolding step_skipping_end
  skipped_opens e = rw (eq-eqb b 11 e)

  pub skipped_on : (b ≡ 11 → ⊥) → step_skipping_end n b ≡ quiet (outside n)
  unfolding step_skipping_end
  skipped_on e = rw (ne_eqb b 11 e)

module _ (h n b : ℕ) where
  pub ending_frame : b ≡ 13 → step_ending h n b ≡ stops (Frame h) (outside n)
  unfolding step_ending
  ending_frame e = rw (eq-eqb b 13 e)

  pub ending_opens : (b ≡ 13 → ⊥) → b ≡ 11 → step_ending h n b ≡ stops (Drop BrokenFrame) (inside 0 n)
  unfolding step_ending
  ending_opens f e = rw (ne_eqb b 13 f, eq-eqb b 11 e)

  pub ending_breaks : (b ≡ 13 → ⊥) → (b ≡ 11 → ⊥) → step_ending h n b ≡ stops (Drop BrokenFrame) (outside n)
  unfolding step_ending
  ending_breaks f e = rw (ne_eqb b 13 f, ne_eqb b 11 e)

module _ (limit h n b : ℕ) where
  pub inside_opens : b ≡ 11 → step_inside limit h n b ≡ stops (Drop BrokenFrame) (inside 0 n)
  unfolding step_inside
  inside_opens e = rw (eq-eqb b 11 e)

  pub inside_closes : (b ≡ 11 → ⊥) → b ≡ 28 → step_inside limit h n b ≡ quiet (ending h n)
  unfolding step_inside
  inside_closes f e = rw (ne_eqb b 11 f, eq-eqb b 28 e)

  pub inside_long : (b ≡ 11 → ⊥) → (b ≡ 28 → ⊥) → limit ≤ h → step_inside limit h n b ≡ stops (Drop FrameTooLong) (skipping n)
  unfolding step_inside
  inside_long f g k = rw (ne_eqb b 11 f, ne_eqb b 28 g, le-leb limit h k)

  pub inside_gathers : (b ≡ 11 → ⊥) → (b ≡ 28 → ⊥) → h < limit → step_inside limit h n b ≡ gather (inside (h + 1) n)
  unfolding step_inside
  inside_gathers f g k = rw (ne_eqb b 11 f, ne_eqb b 28 g, lt-leb limit h k)

module _ (limit : ℕ) (s : FrameState) (b : ℕ) where
  pub step_outside_lem : s.mode ≡ Outside → stepped limit s b ≡ step_outside s.count b
  unfolding stepped
  step_outside_lem e = rw e

  pub step_inside_lem : s.mode ≡ Inside → stepped limit s b ≡ step_inside limit s.held s.count b
  unfolding stepped
  step_inside_lem e = rw e

  pub step_ending_lem : s.mode ≡ Ending → stepped limit s b ≡ step_ending s.held s.count b
  unfolding stepped
  step_ending_lem e = rw e

  pub step_skipping_lem : s.mode ≡ Skipping → stepped limit s b ≡ step_skipping s.count b
  unfolding stepped
  step_skipping_lem e = rw e
