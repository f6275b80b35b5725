-- Document 02, W1, for the frame reader: what a line gives does not depend on how it was cut, is what a grammar over its bytes says, and the states that are taken
-- are those that are reached. `Runs` is what a caller does: he hands in each piece with the state and the buffer that came back, and behind a stop the rest of the
-- piece. Assumes nothing.
use mathlib.Core.Path.{◌≡◌, sym, subst}
use mathlib.Core.Logic.{◌↔◌}
use mathlib.Core.List.{List}
use Prim.Native.Nat.{ℕ, ◌≤◌}
use lib.ListN.{length, get_or}
use Rattle.std.specs.Prelude.{None, Ok, Err, IsOk}
use Rattle.alphabet.specs.declared.answers.Refusal.TheVariants.{NoRoom}
use Rattle.frames.specs.declared.state.FrameState.{FrameState}
use Rattle.frames.specs.declared.feeding.Fed.{Fed}
use Rattle.frames.specs.Wire.{frame_limit, most_dropped}
use Rattle.frames.specs.Steps.{outside}
use Rattle.frames.specs.Feeding.{fed}
use Rattle.frames.specs.Runs.{Happening, Runs, Run, Reached, line}
use Rattle.frames.specs.Gathered.{gathered, last_at, laid, last_of}
use Rattle.laws.specs.Framed.{Framed, Said, size_in}
use Rattle.laws.proofs.FrameCuts as Cuts
use Rattle.laws.proofs.FrameStates.{known_reached, reached_known, unreached_refused, reached_taken, taken_reached}
use Rattle.laws.proofs.FramePlaces as Places
use Rattle.laws.proofs.FrameGrammar as Grammar
use Rattle.laws.proofs.FrameNumbers as Numbers

-- ---- "The frames, drops and end state must be the same however the bytes were cut, provided the same buffer comes back untouched each time."

-- and the buffer is the same too
pub cut_anyhow : {s t u : FrameState} {d x y : List ℕ} {ps qs : List (List ℕ)} {es fs : List Happening} → Reached (length d) s
    → Runs s d ps es t x → Runs s d qs fs u y → line ps ≡ line qs → (es ≡ fs) × (t ≡ u) × (x ≡ y)
cut_anyhow {s} {t} {u} {d} reached = Cuts.cut_anyhow (reached_known (length d) s reached)

-- for every cut there is such a run, so the above speaks of something
pub run_exists : (s : FrameState) (d : List ℕ) (ps : List (List ℕ)) → Reached (length d) s → Run s d ps
run_exists s d ps reached = Cuts.run_exists s d ps (reached_known (length d) s reached)

-- ---- "A state that no run with that buffer's length could have reached is 14", before the piece is looked at; every other is taken

pub refused_exactly : (s : FrameState) (p d : List ℕ) → ((fed s p d).said ≡ Err NoRoom) ↔ (Reached (length d) s → ⊥)
refused_exactly s p d = (λ r reached. reached_taken s p d reached r, unreached_refused s p d)

pub taken_exactly : (s : FrameState) (p d : List ℕ) → ((fed s p d).said ≡ Err NoRoom → ⊥) ↔ Reached (length d) s
taken_exactly s p d = (taken_reached s p d, reached_taken s p d)

-- ---- the line as a grammar: stray bytes; 0x0B, body, 0x1C, 0x0D; broken frames; frames too long; what is left open

-- from outside a frame, as at the start, a run gives exactly what the grammar says of the bytes, and leaves the bodies that it finds in the buffer
pub wired_exactly : (d : List ℕ) (ps : List (List ℕ)) (n : ℕ) → n ≤ most_dropped → (es : List Happening) (t : FrameState) (x : List ℕ)
    → Runs (outside n) d ps es t x ↔ Said (frame_limit (length d)) n (line ps) es t d x
wired_exactly d ps n k es t x =
    (Grammar.runs_wired d ps n k es t x, λ w. subst (λ (y : List ℕ). Runs (outside n) d ps es t y) (sym w.holds) (Grammar.wired_runs d ps n k es w.bodies t w.derivation))

-- ---- the buffer behind a line: each place, from any state that is reached; and by the bodies

pub place_holds : {s t : FrameState} {d x : List ℕ} {ps : List (List ℕ)} {es : List Happening} → Reached (length d) s → Runs s d ps es t x
    → (length x ≡ length d) × ((i : ℕ) → get_or x i 0 ≡ last_at i (gathered (frame_limit (length d)) s (line ps)) (get_or d i 0))
place_holds {s} {t} {d} reached r = let k = reached_known (length d) s reached in (Places.places_stay k r, Places.place_holds k r)

pub bodies_hold : (cs : List (List ℕ)) (d : List ℕ) (i : ℕ) → get_or (laid cs d) i 0 ≡ last_of i cs (get_or d i 0)
bodies_hold = Places.laid_holds

-- ---- what goes back

-- a dropped frame has the number that goes with it, only a frame has a length, and nothing but 14 is refused
pub feed_answers : (s : FrameState) (p d : List ℕ) → Framed (fed s p d).said
feed_answers = Numbers.feed_framed

-- from any state: a frame has no more bytes than the limit, and fits the buffer
pub frame_fits : (s : FrameState) (p d : List ℕ) → (size_in (fed s p d).said ≤ frame_limit (length d)) × (size_in (fed s p d).said ≤ length d)
frame_fits s p d = (Numbers.frame_fits s p d, Numbers.frame_in_buffer s p d)

module _ (s : FrameState) (p d : List ℕ) (reached : Reached (length d) s) where
  -- a state that is reached is taken, so what follows speaks of something
  pub is_taken : IsOk (fed s p d).said
  is_taken = Cuts.is_taken s p d (reached_known (length d) s reached)

  module _ {f : Fed} (e : (fed s p d).said ≡ Ok f) where
    -- a stop has used a byte, so whoever calls again comes to an end
    pub stop_used : (f.stop ≡ None → ⊥) → (1 ≤ f.used) × (f.used ≤ length p)
    stop_used = Cuts.stop_used s p d (reached_known (length d) s reached) e

    -- without a stop the piece is used up
    pub more_used : f.stop ≡ None → f.used ≡ length p
    more_used = Cuts.more_used s p d (reached_known (length d) s reached) e

    -- and what comes back can be handed in again
    pub comes_back : Reached (length (fed s p d).left) f.state
    comes_back = known_reached (length (fed s p d).left) f.state (Cuts.comes_back s p d (reached_known (length d) s reached) e)
