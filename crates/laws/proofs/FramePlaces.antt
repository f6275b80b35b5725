-- What each place of the buffer holds: behind a call, behind a run, and under the bodies of a line. Assumes nothing.
use mathlib.Core.Path.{◌≡◌, refl, sym, ap, ◌∙◌}
use mathlib.Core.Bool.{Bool, true, false, cond}
use mathlib.Core.List.{List, [], ◌∷◌}
use Prim.Native.Nat.{ℕ, zero, suc, ◌+◌, ◌-◌, ◌≤◌, ◌<◌}
use native.Mathlib.Omega.{arith}
use lib.Dec.{eqb, ltb}
use lib.ListN.{length, get_or, take, drop, set, get_or-append}
use lib.Seq.{get_or-set_same, get_or-set_other, get_or-drop, get_or-append-add}
use Rattle.std.specs.Prelude.{Option, Some, None, is_some}
use borrow.Author.Tests.{eqb-true, eqb-false, ltb-true, ltb-false}
use Rattle.alphabet.specs.Filling.{over}
use Rattle.frames.specs.declared.state.FrameState.{FrameState}
use Rattle.frames.specs.declared.steps.Stop.{Stop}
use Rattle.frames.specs.declared.steps.Stop.TheVariants.{Frame, Drop}
use Rattle.frames.specs.declared.feeding.Fed.{Fed}
use Rattle.frames.specs.Wire.{frame_limit}
use Rattle.frames.specs.Steps.{stepped}
use Rattle.frames.specs.Feeding.{Feeding, stored, told, feeding, known, taken, foreign, fed}
use Rattle.frames.specs.Runs.{Happening, Runs, line}
use Rattle.frames.specs.Gathered.{gathered, last_at, laid, last_of}
use Rattle.frames.proofs.FeedLaws.{frame_limit_le, gathers_below, length_stored}
use Rattle.frames.proofs.KnownLaws.{feeding_length}
use Rattle.laws.specs.Framed.{used_in}
use Rattle.laws.proofs.FrameLines.{Whole, noted, whole}
use Rattle.laws.proofs.FrameCuts.{runs_whole}

noted_left : (e : Option Stop) (d : List ℕ) (w : Whole) → (noted e d w).left ≡ w.left
unfolding noted
noted_left None d w = refl
noted_left (Some (Frame size)) d w = refl
noted_left (Some (Drop kind)) d w = refl

set_holds : (d : List ℕ) (h b i : ℕ) → h < length d → get_or (set d h b) i 0 ≡ cond (eqb i h) b (get_or d i 0)
set_holds d h b i k = at (eqb i h) refl
  where
    at : (t : Bool) → eqb i h ≡ t → get_or (set d h b) i 0 ≡ cond t b (get_or d i 0)
    at true e = ap (λ (j : ℕ). get_or (set d h b) j 0) (eqb-true i h e) ∙ get_or-set_same d h b 0 k
    at false e = get_or-set_other d h i b 0 (eqb-false i h e)

whole_holds : (limit : ℕ) (s : FrameState) (d l : List ℕ) (i : ℕ) → limit ≤ length d → get_or (whole limit s d l).left i 0 ≡ last_at i (gathered limit s l) (get_or d i 0)
unfolding whole gathered last_at stored
whole_holds limit s d [] i k = refl
whole_holds limit s d (b ∷ l) i k =
    ap (λ (x : List ℕ). get_or x i 0) (noted_left (stepped limit s b).stop _ _)
    ∙ at (stepped limit s b).gathers refl (whole_holds limit (stepped limit s b).after (stored d s.held b (stepped limit s b).gathers) l i (rw (length_stored d s.held b (stepped limit s b).gathers) k))
  where
    at : (t : Bool) → (stepped limit s b).gathers ≡ t
        → get_or (whole limit (stepped limit s b).after (stored d s.held b t) l).left i 0 ≡ last_at i (gathered limit (stepped limit s b).after l) (get_or (stored d s.held b t) i 0)
        → get_or (whole limit (stepped limit s b).after (stored d s.held b t) l).left i 0
        ≡ last_at i (cond t (record { place = s.held; byte = b } ∷ gathered limit (stepped limit s b).after l) (gathered limit (stepped limit s b).after l)) (get_or d i 0)
    at true e ih = ih ∙ ap (last_at i (gathered limit (stepped limit s b).after l)) (set_holds d s.held b i (omega (arith, gathers_below limit s b e)))
    at false e ih = ih

-- "each place of the lent buffer holds the byte last gathered there, or what it held at first"
pub place_holds : {s t : FrameState} {d x : List ℕ} {ps : List (List ℕ)} {es : List Happening} → known (length d) s ≡ true → Runs s d ps es t x
    → (i : ℕ) → get_or x i 0 ≡ last_at i (gathered (frame_limit (length d)) s (line ps)) (get_or d i 0)
place_holds {s} {t} {d} {x} {ps} {es} k r i =
    ap (λ (w : Whole). get_or w.left i 0) (sym (runs_whole (length d) (record { size = refl; can = k }) r))
    ∙ whole_holds (frame_limit (length d)) s d (line ps) i (frame_limit_le (length d))

whole_length : (limit : ℕ) (s : FrameState) (d l : List ℕ) → length (whole limit s d l).left ≡ length d
unfolding whole
whole_length limit s d [] = refl
whole_length limit s d (b ∷ l) =
    ap length (noted_left (stepped limit s b).stop _ _)
    ∙ whole_length limit (stepped limit s b).after (stored d s.held b (stepped limit s b).gathers) l
    ∙ length_stored d s.held b (stepped limit s b).gathers

-- and there are as many places as before
pub places_stay : {s t : FrameState} {d x : List ℕ} {ps : List (List ℕ)} {es : List Happening} → known (length d) s ≡ true → Runs s d ps es t x → length x ≡ length d
places_stay {s} {t} {d} {x} {ps} {es} k r =
    ap (λ (w : Whole). length w.left) (sym (runs_whole (length d) (record { size = refl; can = k }) r)) ∙ whole_length (frame_limit (length d)) s d (line ps)

-- ---- behind one call

abbrev Next : ℕ → FrameState → List ℕ → ℕ → ℕ → List ℕ → Feeding Fed
Next limit s d used b p = feeding limit (stepped limit s b).after (stored d s.held b (stepped limit s b).gathers) (used + 1) p

abbrev Here : ℕ → FrameState → List ℕ → ℕ → ℕ → Feeding Fed
Here limit s d used b =
    record {
      said = told (stepped limit s b).stop (used + 1) (stepped limit s b).after;
      left = stored d s.held b (stepped limit s b).gathers;
    }

feeding_uses : (limit : ℕ) (s : FrameState) (d : List ℕ) (used : ℕ) (p : List ℕ) → used ≤ (feeding limit s d used p).said.used
unfolding feeding
feeding_uses limit s d used [] = omega arith
feeding_uses limit s d used (b ∷ p) = at (is_some (stepped limit s b).stop) (feeding_uses limit (stepped limit s b).after (stored d s.held b (stepped limit s b).gathers) (used + 1) p)
  where
    at : (t : Bool) → used + 1 ≤ (Next limit s d used b p).said.used → used ≤ (cond t (Here limit s d used b) (Next limit s d used b p)).said.used
    at true ih = omega arith
    at false ih = omega arith

-- one byte more before those that were gathered
gathered_next : (limit : ℕ) (s : FrameState) (d : List ℕ) (b : ℕ) (l : List ℕ) (i : ℕ) → limit ≤ length d
    → last_at i (gathered limit s (b ∷ l)) (get_or d i 0) ≡ last_at i (gathered limit (stepped limit s b).after l) (get_or (stored d s.held b (stepped limit s b).gathers) i 0)
unfolding gathered last_at stored
gathered_next limit s d b l i k = at (stepped limit s b).gathers refl
  where
    at : (t : Bool) → (stepped limit s b).gathers ≡ t
        → last_at i (cond t (record { place = s.held; byte = b } ∷ gathered limit (stepped limit s b).after l) (gathered limit (stepped limit s b).after l)) (get_or d i 0)
        ≡ last_at i (gathered limit (stepped limit s b).after l) (get_or (cond t (set d s.held b) d) i 0)
    at true e = ap (last_at i (gathered limit (stepped limit s b).after l)) (sym (set_holds d s.held b i (omega (arith, gathers_below limit s b e))))
    at false e = refl

feeding_holds : (limit : ℕ) (s : FrameState) (d : List ℕ) (used : ℕ) (p : List ℕ) (i n : ℕ) → limit ≤ length d → (feeding limit s d used p).said.used ≡ used + n
    → get_or (feeding limit s d used p).left i 0 ≡ last_at i (gathered limit s (take n p)) (get_or d i 0)
unfolding feeding gathered last_at
feeding_holds limit s d used [] i zero k e = refl
feeding_holds limit s d used [] i (suc n) k e = refl
feeding_holds limit s d used (b ∷ p) i zero k e = absurd (at (is_some (stepped limit s b).stop) e)
  where
    at : (t : Bool) → (cond t (Here limit s d used b) (Next limit s d used b p)).said.used ≡ used + 0 → ⊥
    at true q = omega arith
    at false q = omega (arith, feeding_uses limit (stepped limit s b).after (stored d s.held b (stepped limit s b).gathers) (used + 1) p)
feeding_holds limit s d used (b ∷ p) i (suc n) k e =
    at (is_some (stepped limit s b).stop) e
    (λ q. feeding_holds limit (stepped limit s b).after (stored d s.held b (stepped limit s b).gathers) (used + 1) p i n (rw (length_stored d s.held b (stepped limit s b).gathers) k) q)
    ∙ sym (gathered_next limit s d b (take n p) i k)
  where
    at : (t : Bool) → (cond t (Here limit s d used b) (Next limit s d used b p)).said.used ≡ used + suc n
        → ((Next limit s d used b p).said.used ≡ used + 1 + n
        → get_or (Next limit s d used b p).left i 0 ≡ last_at i (gathered limit (stepped limit s b).after (take n p)) (get_or (stored d s.held b (stepped limit s b).gathers) i 0))
        → get_or (cond t (Here limit s d used b) (Next limit s d used b p)).left i 0
        ≡ last_at i (gathered limit (stepped limit s b).after (take n p)) (get_or (stored d s.held b (stepped limit s b).gathers) i 0)
    at true q ih =
        let z : n ≡ 0 = omega arith in
        ap (λ (m : ℕ). last_at i (gathered limit (stepped limit s b).after (take m p)) (get_or (stored d s.held b (stepped limit s b).gathers) i 0)) (sym z)
    at false q ih = let z : used + suc n ≡ used + 1 + n = omega arith in ih (q ∙ z)

-- the same sentence of one call, from any state: of the bytes that it used
pub call_holds : (s : FrameState) (p d : List ℕ) (i : ℕ)
    → get_or (fed s p d).left i 0 ≡ last_at i (gathered (frame_limit (length d)) s (take (used_in (fed s p d).said) p)) (get_or d i 0)
unfolding fed foreign gathered last_at
call_holds s p d i = at (known (length d) s)
  where
    at : (t : Bool)
        → get_or (cond t (taken (feeding (frame_limit (length d)) s d 0 p)) (foreign d)).left i 0
        ≡ last_at i (gathered (frame_limit (length d)) s (take (used_in (cond t (taken (feeding (frame_limit (length d)) s d 0 p)) (foreign d)).said) p)) (get_or d i 0)
    at true =
        let z : (feeding (frame_limit (length d)) s d 0 p).said.used ≡ 0 + (feeding (frame_limit (length d)) s d 0 p).said.used = omega arith in
        feeding_holds (frame_limit (length d)) s d 0 p i (feeding (frame_limit (length d)) s d 0 p).said.used (frame_limit_le (length d)) z
    at false = refl

pub call_size : (s : FrameState) (p d : List ℕ) → length (fed s p d).left ≡ length d
unfolding fed foreign
call_size s p d = at (known (length d) s)
  where
    at : (t : Bool) → length (cond t (taken (feeding (frame_limit (length d)) s d 0 p)) (foreign d)).left ≡ length d
    at true = feeding_length (frame_limit (length d)) s d 0 p
    at false = refl

-- ---- under the bodies of a line

get_d_behind : (c d : List ℕ) (i : ℕ) → length c ≤ i → get_or (over c d) i 0 ≡ get_or d i 0
get_d_behind c d i h =
    let e : i ≡ length c + (i - length c) = omega arith in
    ap (λ (j : ℕ). get_or (over c d) j 0) e ∙ get_or-append-add c (drop (length c) d) (i - length c) 0 ∙ get_or-drop (length c) d (i - length c) 0 ∙ ap (λ (j : ℕ). get_or d j 0) (sym e)

over_holds : (c d : List ℕ) (i : ℕ) → get_or (over c d) i 0 ≡ cond (ltb i (length c)) (get_or c i 0) (get_or d i 0)
over_holds c d i = at (ltb i (length c)) refl
  where
    at : (t : Bool) → ltb i (length c) ≡ t → get_or (over c d) i 0 ≡ cond t (get_or c i 0) (get_or d i 0)
    at true e = get_or-append c (drop (length c) d) 0 i (ltb-true i (length c) e)
    at false e = get_d_behind c d i (ltb-false i (length c) e)

pub laid_holds : (cs : List (List ℕ)) (d : List ℕ) (i : ℕ) → get_or (laid cs d) i 0 ≡ last_of i cs (get_or d i 0)
unfolding laid last_of
laid_holds [] d i = refl
laid_holds (c ∷ cs) d i = laid_holds cs (over c d) i ∙ ap (last_of i cs) (over_holds c d i)
