-- The states that are taken are those that a run reaches: both directions. The bytes that reach a state are found by induction and never computed.
-- Assumes nothing.
use mathlib.Core.Path.{◌≡◌, refl, sym, ap, subst, ◌∙◌}
use mathlib.Core.Bool.{Bool, true, false}
use mathlib.Core.List.{List, [], ◌∷◌, ◌++◌, append-nil}
use Prim.Native.Nat.{ℕ, zero, suc, ◌+◌, ◌≤◌}
use native.Mathlib.Omega.{arith}
use lib.ListN.{length, replicate, length-replicate}
use Rattle.std.specs.Prelude.{Option, Some, None, Result, Err}
use Rattle.frames.specs.declared.state.FrameState.{FrameState}
use Rattle.frames.specs.declared.feeding.Fed.{Fed}
use Rattle.frames.specs.declared.steps.Stop.{Stop}
use Rattle.frames.specs.declared.steps.Stop.TheVariants.{Frame, Drop}
use Rattle.frames.specs.declared.steps.Step.{Step}
use Rattle.frames.specs.Wire.{most_dropped, frame_limit}
use Rattle.frames.specs.Steps.{outside, inside, ending, skipping, skipping_end, stepped, step_outside, step_inside, step_skipping}
use Rattle.alphabet.specs.declared.answers.Refusal.{Refusal}
use Rattle.alphabet.specs.declared.answers.Refusal.TheVariants.{NoRoom}
use Rattle.frames.specs.Feeding.{Feeding, stored, known, foreign, fed}
use Rattle.frames.proofs.FeedLaws.{fed_foreign}
use Rattle.frames.specs.Runs.{Runs, line, start, Reached}
use Rattle.frames.proofs.StepLaws.{counted_more, inside_long, inside_gathers}
use Rattle.frames.proofs.KnownLaws.{Known, is_outside, is_inside, is_ending, is_skipping, is_skipping_end, known_case, known_test, known_step}
use Rattle.laws.specs.Framed.{used_in, state_in}
use Rattle.laws.proofs.FrameLines.{Whole, noted, whole}
use Rattle.laws.proofs.FrameCuts.{Fit, runs_whole, runs_exist, never_refused}

-- the state behind some bytes
abbrev pub ends : ℕ → FrameState → List ℕ → FrameState
ends limit s [] = s
ends limit s (b ∷ l) = ends limit (stepped limit s b).after l

pub ends_append : (limit : ℕ) (s : FrameState) (k l : List ℕ) → ends limit s (k ++ l) ≡ ends limit (ends limit s k) l
ends_append limit s [] l = refl
ends_append limit s (b ∷ k) l = ends_append limit (stepped limit s b).after k l

noted_state : (e : Option Stop) (d : List ℕ) (w : Whole) → (noted e d w).state ≡ w.state
unfolding noted
noted_state None d w = refl
noted_state (Some (Frame size)) d w = refl
noted_state (Some (Drop kind)) d w = refl

pub whole_ends : (limit : ℕ) (s : FrameState) (d l : List ℕ) → (whole limit s d l).state ≡ ends limit s l
unfolding whole
whole_ends limit s d [] = refl
whole_ends limit s d (b ∷ l) =
    noted_state (stepped limit s b).stop _ _ ∙ whole_ends limit (stepped limit s b).after (stored d s.held b (stepped limit s b).gathers) l

-- ---- a run reaches no other state

ends_known : (limit : ℕ) {s : FrameState} (l : List ℕ) → Known limit s → Known limit (ends limit s l)
ends_known limit [] k = k
ends_known limit {s = s} (b ∷ l) k = ends_known limit {s = (stepped limit s b).after} l (known_step limit b k)

start_known : (room : ℕ) → known room start ≡ true
start_known room = known_test room (is_outside 0 (omega arith))

pub reached_known : (room : ℕ) (s : FrameState) → Reached room s → known room s ≡ true
reached_known room s r =
    let w = runs_whole room (record { size = r.size; can = start_known room }) r.run in
    let e : ends (frame_limit room) start (line r.pieces) ≡ s = sym (whole_ends (frame_limit room) start r.buffer (line r.pieces)) ∙ ap (λ (v : Whole). v.state) w in
    known_test room (subst (Known (frame_limit room)) e (ends_known (frame_limit room) (line r.pieces) (is_outside 0 (omega arith))))

-- ---- and each of these is reached

-- n bytes dropped, a frame opened, h bytes gathered
abbrev opened : ℕ → ℕ → List ℕ
opened h n = replicate n 0 ++ 11 ∷ replicate h 65

module _ (limit : ℕ) where
  -- n bytes dropped outside
  drops_on : (n k : ℕ) → k + n ≤ most_dropped → ends limit (outside k) (replicate n 0) ≡ outside (k + n)
  unfolding stepped step_outside
  drops_on zero k h = let e : k ≡ k + 0 = omega arith in ap outside e
  drops_on (suc n) k h =
      let e : k + 1 + n ≡ k + suc n = omega arith in
      ap (λ (j : ℕ). ends limit (outside j) (replicate n 0)) (counted_more {n = k} (omega arith)) ∙ drops_on n (k + 1) (omega arith) ∙ ap outside e

  gathers_on : (h k n : ℕ) → k + h ≤ limit → ends limit (inside k n) (replicate h 65) ≡ inside (k + h) n
  unfolding stepped
  gathers_on zero k n l = let e : k ≡ k + 0 = omega arith in ap (λ (j : ℕ). inside j n) e
  gathers_on (suc h) k n l =
      let e : k + 1 + h ≡ k + suc h = omega arith in
      ap (λ (q : Step). ends limit q.after (replicate h 65)) (inside_gathers limit k n 65 (λ (z : 65 ≡ 11). omega arith) (λ (z : 65 ≡ 28). omega arith) (omega arith))
      ∙ gathers_on h (k + 1) n (omega arith) ∙ ap (λ (j : ℕ). inside j n) e

  to_outside : (n : ℕ) → n ≤ most_dropped → ends limit start (replicate n 0) ≡ outside n
  to_outside n h = let e : 0 + n ≡ n = omega arith in drops_on n 0 (omega arith) ∙ ap outside e

  to_inside : (h n : ℕ) → n ≤ most_dropped → h ≤ limit → ends limit start (opened h n) ≡ inside h n
  unfolding stepped step_outside
  to_inside h n m k =
      let e : 0 + h ≡ h = omega arith in
      ends_append limit start (replicate n 0) (11 ∷ replicate h 65) ∙ ap (λ (s : FrameState). ends limit s (11 ∷ replicate h 65)) (to_outside n m)
      ∙ gathers_on h 0 n (omega arith) ∙ ap (λ (j : ℕ). inside j n) e

  to_ending : (h n : ℕ) → n ≤ most_dropped → h ≤ limit → ends limit start (opened h n ++ 28 ∷ []) ≡ ending h n
  unfolding stepped step_inside
  to_ending h n m k = ends_append limit start (opened h n) (28 ∷ []) ∙ ap (λ (s : FrameState). ends limit s (28 ∷ [])) (to_inside h n m k)

  to_skipping : (n : ℕ) → n ≤ most_dropped → ends limit start (opened limit n ++ 65 ∷ []) ≡ skipping n
  unfolding stepped
  to_skipping n m =
      ends_append limit start (opened limit n) (65 ∷ []) ∙ ap (λ (s : FrameState). ends limit s (65 ∷ [])) (to_inside limit n m (omega arith))
      ∙ ap (λ (q : Step). q.after) (inside_long limit limit n 65 (λ (z : 65 ≡ 11). omega arith) (λ (z : 65 ≡ 28). omega arith) (omega arith))

  to_skipping_end : (n : ℕ) → n ≤ most_dropped → ends limit start ((opened limit n ++ 65 ∷ []) ++ 28 ∷ []) ≡ skipping_end n
  unfolding stepped step_skipping
  to_skipping_end n m = ends_append limit start (opened limit n ++ 65 ∷ []) (28 ∷ []) ∙ ap (λ (s : FrameState). ends limit s (28 ∷ [])) (to_skipping n m)

-- bytes that end in the state reach it over any buffer of the room, in one piece
reach : (room : ℕ) (s : FrameState) (l : List ℕ) → ends (frame_limit room) start l ≡ s → Reached room s
reach room s l e =
    let d : List ℕ = replicate room 0 in
    let k : Fit room start d = record { size = length-replicate room 0; can = start_known room } in
    let r = runs_exist room (l ∷ []) start d k in
    let w = runs_whole room k r.run in
    let f : r.state ≡ s = ap (λ (v : Whole). v.state) (sym w) ∙ whole_ends (frame_limit room) start d (l ++ []) ∙ ap (ends (frame_limit room) start) (append-nil l) ∙ e in
    record {
      buffer = d;
      size = length-replicate room 0;
      pieces = l ∷ [];
      happenings = r.happenings;
      left = r.left;
      run = subst (λ (t : FrameState). Runs start d (l ∷ []) r.happenings t r.left) f r.run;
    }

reach_case : (room : ℕ) {s : FrameState} → Known (frame_limit room) s → Reached room s
reach_case room (is_outside n m) = reach room (outside n) (replicate n 0) (to_outside (frame_limit room) n m)
reach_case room (is_inside h n m k) = reach room (inside h n) (opened h n) (to_inside (frame_limit room) h n m k)
reach_case room (is_ending h n m k) = reach room (ending h n) (opened h n ++ 28 ∷ []) (to_ending (frame_limit room) h n m k)
reach_case room (is_skipping n m) = reach room (skipping n) (opened (frame_limit room) n ++ 65 ∷ []) (to_skipping (frame_limit room) n m)
reach_case room (is_skipping_end n m) = reach room (skipping_end n) ((opened (frame_limit room) n ++ 65 ∷ []) ++ 28 ∷ []) (to_skipping_end (frame_limit room) n m)

pub known_reached : (room : ℕ) (s : FrameState) → known room s ≡ true → Reached room s
known_reached room s e = reach_case room (known_case room s e)

-- "A state that no run with that buffer's length could have reached is 14", and no other is
module _ (s : FrameState) (p d : List ℕ) where
  foreign_refused : known (length d) s ≡ false → (fed s p d).said ≡ Err NoRoom
  unfolding foreign
  foreign_refused e = ap (λ (f : Feeding (Result Fed Refusal)). f.said) (fed_foreign s p d e)

  pub unreached_refused : (Reached (length d) s → ⊥) → (fed s p d).said ≡ Err NoRoom
  unreached_refused u = at (known (length d) s) refl
    where
      at : (t : Bool) → known (length d) s ≡ t → (fed s p d).said ≡ Err NoRoom
      at true e = absurd (u (known_reached (length d) s e))
      at false e = foreign_refused e

  pub reached_taken : Reached (length d) s → (fed s p d).said ≡ Err NoRoom → ⊥
  reached_taken r = never_refused s p d (reached_known (length d) s r)

  pub taken_reached : ((fed s p d).said ≡ Err NoRoom → ⊥) → Reached (length d) s
  taken_reached taken = at (known (length d) s) refl
    where
      at : (t : Bool) → known (length d) s ≡ t → Reached (length d) s
      at true e = known_reached (length d) s e
      at false e = absurd (taken (foreign_refused e))

  -- 14 changes nothing
  pub refused_leaves : (fed s p d).said ≡ Err NoRoom → (state_in s (fed s p d).said ≡ s) × ((fed s p d).left ≡ d) × (used_in (fed s p d).said ≡ 0)
  unfolding foreign
  refused_leaves r = at (known (length d) s) refl
    where
      at : (t : Bool) → known (length d) s ≡ t → (state_in s (fed s p d).said ≡ s) × ((fed s p d).left ≡ d) × (used_in (fed s p d).said ≡ 0)
      at true e = absurd (never_refused s p d e r)
      at false e = let f = fed_foreign s p d e in (rw r, rw f, rw r)
