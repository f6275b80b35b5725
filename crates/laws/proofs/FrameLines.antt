-- A line taken whole, byte by byte, and that feeding a front of it leaves the same for the rest. Assumes nothing.
use mathlib.Core.Path.{◌≡◌, refl, sym, ap, ◌∙◌}
use mathlib.Core.Bool.{cond}
use mathlib.Core.List.{List, [], ◌∷◌, ◌++◌}
use Prim.Native.Nat.{ℕ, suc, ◌+◌, ◌≤◌}
use native.Mathlib.Omega.{arith}
use lib.ListN.{length, take, drop}
use Rattle.std.specs.Prelude.{Option, Some, None, is_some}
use Rattle.std.proofs.lemmas.Option.{none-some}
use Rattle.frames.specs.declared.state.FrameState.{FrameState}
use Rattle.frames.specs.declared.steps.Stop.{Stop}
use Rattle.frames.specs.declared.steps.Stop.TheVariants.{Frame, Drop}
use Rattle.frames.specs.declared.feeding.Fed.{Fed}
use Rattle.frames.specs.Steps.{stepped}
use Rattle.frames.specs.Feeding.{Feeding, feeding, told, stored}
use Rattle.frames.specs.Runs.{Happening, frame, dropped}

-- what a line gives, taken whole
pub record Whole : Type 0 where
  pub happenings : List Happening
  pub state : FrameState
  pub left : List ℕ

-- with one happening before it
abbrev pub also : Happening → Whole → Whole
also e w = record { happenings = e ∷ w.happenings; state = w.state; left = w.left }

-- with what the reader stops at before it, if anything
unfoldable pub noted : Option Stop → List ℕ → Whole → Whole
noted None d w = w
noted (Some (Frame size)) d w = also (frame (take size d)) w
noted (Some (Drop kind)) d w = also (dropped kind) w

unfoldable pub whole : ℕ → FrameState → List ℕ → List ℕ → Whole
whole limit s d [] = record { happenings = []; state = s; left = d }
whole limit s d (b ∷ bytes) =
    noted (stepped limit s b).stop (stored d s.held b (stepped limit s b).gathers)
    (whole limit (stepped limit s b).after (stored d s.held b (stepped limit s b).gathers) bytes)

-- how a piece went that was fed: n of its bytes are behind the reader, all of them where it did not stop; what it
-- stopped at, if anything, and what is left of the piece give what the whole gives, whatever follows
pub record Went (limit : ℕ) (s : FrameState) (d : List ℕ) (used : ℕ) (p : List ℕ) (f : Feeding Fed) : Type 0 where
  pub n : ℕ
  pub uses : f.said.used ≡ used + n
  pub within : n ≤ length p
  pub ends : f.said.stop ≡ None → n ≡ length p
  pub stops : (f.said.stop ≡ None → ⊥) → 1 ≤ n
  pub on : (r : List ℕ) → whole limit s d (p ++ r) ≡ noted f.said.stop f.left (whole limit f.said.state f.left (drop n p ++ r))

pub went : (limit : ℕ) (s : FrameState) (d : List ℕ) (used : ℕ) (p : List ℕ) → Went limit s d used p (feeding limit s d used p)
unfolding feeding whole noted
went limit s d used [] =
    record { n = 0; uses = omega arith; within = omega arith; ends = λ e. refl; stops = λ e. absurd (e refl); on = λ r. refl }
went limit s d used (b ∷ p) = at (stepped limit s b).stop refl (went limit (stepped limit s b).after (stored d s.held b (stepped limit s b).gathers) (used + 1) p)
  where
    at : (e : Option Stop) → (stepped limit s b).stop ≡ e
        → Went limit (stepped limit s b).after (stored d s.held b (stepped limit s b).gathers) (used + 1) p (feeding limit (stepped limit s b).after (stored d s.held b (stepped limit s b).gathers) (used + 1) p)
        → Went limit s d used (b ∷ p)
        (cond (is_some e)
        (record {
          said = told e (used + 1) (stepped limit s b).after;
          left = stored d s.held b (stepped limit s b).gathers;
        })
        (feeding limit (stepped limit s b).after (stored d s.held b (stepped limit s b).gathers) (used + 1) p))
    at None q w =
        let u = w.uses in
        let i = w.within in
        record {
          n = suc w.n;
          uses = omega arith;
          within = omega arith;
          ends = λ z. ap suc (w.ends z);
          stops = λ z. omega arith;
          on = λ r. ap (λ (e : Option Stop). noted e (stored d s.held b (stepped limit s b).gathers) (whole limit (stepped limit s b).after (stored d s.held b (stepped limit s b).gathers) (p ++ r))) q ∙ w.on r;
        }
    at (Some c) q w =
        record {
          n = 1;
          uses = refl;
          within = omega arith;
          ends = λ z. absurd (none-some c (sym z));
          stops = λ z. omega arith;
          on = λ r. ap (λ (e : Option Stop). noted e (stored d s.held b (stepped limit s b).gathers) (whole limit (stepped limit s b).after (stored d s.held b (stepped limit s b).gathers) (p ++ r))) q;
        }
