-- The states that are known, as cases, and that a run stays among them. Assumes nothing.
use mathlib.Core.Path.{◌≡◌, refl, sym, subst, ◌∙◌}
use mathlib.Core.Bool.{Bool, true, false, cond}
use mathlib.Core.List.{List, [], ◌∷◌}
use Prim.Native.Nat.{ℕ, ◌+◌, ◌≤◌}
use Rattle.std.specs.Prelude.{is_some}
use native.Mathlib.Omega.{arith}
use lib.Dec.{eqb, leb, ltb}
use lib.ListN.{length}
use borrow.Author.Tests.{eqb-true, leb-true, leb-false, le-leb, ltb-true}
use Rattle.alphabet.proofs.BoolLaws.{false_true, and_both, both_and}
use Rattle.frames.specs.declared.state.FrameState.{FrameState}
use Rattle.alphabet.specs.declared.answers.Refusal.TheVariants.{FrameTooLong}
use Rattle.frames.specs.declared.modes.Mode.{Mode}
use Rattle.frames.specs.declared.modes.Mode.TheVariants.{Outside, Inside, Ending, Skipping, SkippingEnd, Unknown}
use Rattle.frames.specs.declared.steps.Stop.TheVariants.{Drop}
use Rattle.frames.specs.declared.steps.Step.{Step}
use Rattle.frames.specs.Wire.{most_dropped, frame_limit}
use Rattle.frames.specs.Steps.{frame_state, outside, inside, ending, skipping, skipping_end, gather, stops, counted, step_outside, step_inside, step_ending, step_skipping, step_skipping_end, stepped}
use Rattle.frames.specs.Feeding.{feeding, told, stored, can_hold, known}
use Rattle.frames.proofs.FeedLaws.{length_stored}

pub data Known (limit : ℕ) : FrameState → Type 0 where
  is_outside : (n : ℕ) → n ≤ most_dropped → Known limit (outside n)
  is_inside : (h n : ℕ) → n ≤ most_dropped → h ≤ limit → Known limit (inside h n)
  is_ending : (h n : ℕ) → n ≤ most_dropped → h ≤ limit → Known limit (ending h n)
  is_skipping : (n : ℕ) → n ≤ most_dropped → Known limit (skipping n)
  is_skipping_end : (n : ℕ) → n ≤ most_dropped → Known limit (skipping_end n)

-- ---- the test and the cases agree

pub known_test : (room : ℕ) {s : FrameState} → Known (frame_limit room) s → known room s ≡ true
unfolding known
known_test room (is_outside n m) = both_and (le-leb n most_dropped m) refl
known_test room (is_inside h n m k) = rw (le-leb n most_dropped m, le-leb h (frame_limit room) k)
known_test room (is_ending h n m k) = rw (le-leb n most_dropped m, le-leb h (frame_limit room) k)
known_test room (is_skipping n m) = both_and (le-leb n most_dropped m) refl
known_test room (is_skipping_end n m) = both_and (le-leb n most_dropped m) refl

holds_none : (limit : ℕ) (m : Mode) (h n : ℕ) → eqb h 0 ≡ true → Known limit (frame_state m 0 n) → Known limit (frame_state m h n)
holds_none limit m h n e k = subst (λ (j : ℕ). Known limit (frame_state m j n)) (sym (eqb-true h 0 e)) k

of_mode : (limit : ℕ) (m : Mode) (h n : ℕ) → n ≤ most_dropped → can_hold m limit h ≡ true → Known limit (frame_state m h n)
of_mode limit Outside h n m e = holds_none limit Outside h n e (is_outside n m)
of_mode limit Inside h n m e = is_inside h n m (leb-true h limit e)
of_mode limit Ending h n m e = is_ending h n m (leb-true h limit e)
of_mode limit Skipping h n m e = holds_none limit Skipping h n e (is_skipping n m)
of_mode limit SkippingEnd h n m e = holds_none limit SkippingEnd h n e (is_skipping_end n m)
of_mode limit Unknown h n m e = false_true e

pub known_case : (room : ℕ) (s : FrameState) → known room s ≡ true → Known (frame_limit room) s
unfolding known
known_case room s e =
    let b = and_both (leb s.count most_dropped) _ e in
    of_mode (frame_limit room) s.mode s.held s.count (leb-true s.count most_dropped b.0) b.1

-- ---- one step stays among them

pub counted_within : (n : ℕ) → n ≤ most_dropped → counted n ≤ most_dropped
unfolding counted
counted_within n h = at (ltb n most_dropped) refl
  where
    at : (t : Bool) → ltb n most_dropped ≡ t → cond t (n + 1) n ≤ most_dropped
    at true e = omega (arith, ltb-true n most_dropped e)
    at false e = h

choose : (limit : ℕ) (A B : Step) (t : Bool) → Known limit A.after → Known limit B.after → Known limit (cond t A B).after
choose limit A B true a b = a
choose limit A B false a b = b

pub known_step : (limit : ℕ) {s : FrameState} (b : ℕ) → Known limit s → Known limit (stepped limit s b).after
unfolding stepped step_outside step_inside step_ending step_skipping step_skipping_end
known_step limit b (is_outside n m) =
    choose limit _ _ (eqb b 11) (is_inside 0 n m (omega arith)) (is_outside (counted n) (counted_within n m))
known_step limit b (is_inside h n m k) =
    choose limit _ _ (eqb b 11) (is_inside 0 n m (omega arith)) (choose limit _ _ (eqb b 28) (is_ending h n m k) (at (leb limit h) refl))
  where
    at : (t : Bool) → leb limit h ≡ t → Known limit (cond t (stops (Drop FrameTooLong) (skipping n)) (gather (inside (h + 1) n))).after
    at true e = is_skipping n m
    at false e = is_inside (h + 1) n m (omega (arith, leb-false limit h e))
known_step limit b (is_ending h n m k) =
    choose limit _ _ (eqb b 13) (is_outside n m) (choose limit _ _ (eqb b 11) (is_inside 0 n m (omega arith)) (is_outside n m))
known_step limit b (is_skipping n m) =
    choose limit _ _ (eqb b 11) (is_inside 0 n m (omega arith)) (choose limit _ _ (eqb b 28) (is_skipping_end n m) (is_skipping n m))
known_step limit b (is_skipping_end n m) = choose limit _ _ (eqb b 11) (is_inside 0 n m (omega arith)) (is_outside n m)

pub known_after : (room limit : ℕ) (s : FrameState) (b : ℕ) (q : Step) → known room s ≡ true → limit ≡ frame_limit room → q ≡ stepped limit s b → known room q.after ≡ true
known_after room limit s b q k e f =
    known_test room
    (subst (λ (n : ℕ). Known n q.after) e
    (subst (λ (r : Step). Known limit r.after) (sym f) (known_step limit b (subst (λ (n : ℕ). Known n s) (sym e) (known_case room s k)))))

-- ---- and so does a piece, whose buffer keeps its length

pub feeding_known : (limit : ℕ) (s : FrameState) (d : List ℕ) (used : ℕ) (p : List ℕ) → Known limit s → Known limit (feeding limit s d used p).said.state
unfolding feeding
feeding_known limit s d used [] k = k
feeding_known limit s d used (b ∷ p) k =
    at (is_some (stepped limit s b).stop) (known_step limit b k)
    (feeding_known limit (stepped limit s b).after (stored d s.held b (stepped limit s b).gathers) (used + 1) p (known_step limit b k))
  where
    at : (t : Bool) → Known limit (stepped limit s b).after
        → Known limit (feeding limit (stepped limit s b).after (stored d s.held b (stepped limit s b).gathers) (used + 1) p).said.state
        → Known limit
        (cond t
        (record {
          said = told (stepped limit s b).stop (used + 1) (stepped limit s b).after;
          left = stored d s.held b (stepped limit s b).gathers;
        })
        (feeding limit (stepped limit s b).after (stored d s.held b (stepped limit s b).gathers) (used + 1) p)).said.state
    at true r ih = r
    at false r ih = ih

pub feeding_length : (limit : ℕ) (s : FrameState) (d : List ℕ) (used : ℕ) (p : List ℕ) → length (feeding limit s d used p).left ≡ length d
unfolding feeding
feeding_length limit s d used [] = refl
feeding_length limit s d used (b ∷ p) = at (is_some (stepped limit s b).stop) (feeding_length limit (stepped limit s b).after (stored d s.held b (stepped limit s b).gathers) (used + 1) p)
  where
    at : (t : Bool)
        → length (feeding limit (stepped limit s b).after (stored d s.held b (stepped limit s b).gathers) (used + 1) p).left
        ≡ length (stored d s.held b (stepped limit s b).gathers)
        → length
        (cond t
        (record {
          said = told (stepped limit s b).stop (used + 1) (stepped limit s b).after;
          left = stored d s.held b (stepped limit s b).gathers;
        })
        (feeding limit (stepped limit s b).after (stored d s.held b (stepped limit s b).gathers) (used + 1) p)).left
        ≡ length d
    at true ih = length_stored d s.held b (stepped limit s b).gathers
    at false ih = ih ∙ length_stored d s.held b (stepped limit s b).gathers
