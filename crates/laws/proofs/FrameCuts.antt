-- However a line is cut: every run gives what the line gives taken whole, and for every cut there is a run. Assumes nothing.
use mathlib.Core.Path.{◌≡◌, refl, sym, ap, subst, ◌∙◌}
use mathlib.Core.Bool.{true}
use mathlib.Core.List.{List, [], ◌∷◌, ◌++◌}
use Prim.Native.Nat.{ℕ, zero, suc, ◌≤◌}
use native.Mathlib.Omega.{arith}
use lib.ListN.{length, take, drop, length-drop}
use Rattle.std.specs.Prelude.{Option, Some, None, Result, Ok, Err, is_ok, IsOk}
use Rattle.std.proofs.lemmas.Option.{none-some}
use Rattle.std.proofs.lemmas.List.{drop_all}
use Rattle.std.specs.Result.{result_unwrap_or}
use Rattle.alphabet.proofs.BoolLaws.{false_true}
use Rattle.frames.specs.declared.state.FrameState.{FrameState}
use Rattle.frames.specs.declared.steps.Stop.{Stop}
use Rattle.frames.specs.declared.steps.Stop.TheVariants.{Frame, Drop}
use Rattle.frames.specs.declared.feeding.Fed.{Fed}
use Rattle.alphabet.specs.declared.answers.Refusal.{Refusal}
use Rattle.alphabet.specs.declared.answers.Refusal.TheVariants.{NoRoom}
use Rattle.frames.specs.Wire.{frame_limit}
use Rattle.frames.specs.Feeding.{Feeding, feeding, told, known, taken, fed}
use Rattle.frames.specs.Runs.{Happening, frame, dropped, Runs, done, more, gives, drops, line, Run}
use Rattle.frames.proofs.FeedLaws.{fed_known}
use Rattle.frames.proofs.KnownLaws.{known_case, known_test, feeding_known, feeding_length}
use Rattle.laws.proofs.FrameLines.{Whole, also, noted, whole, Went, went}

-- a buffer with so much room, and a state that is known with it
pub record Fit (room : ℕ) (s : FrameState) (d : List ℕ) : Type 0 where
  pub size : length d ≡ room
  pub can : known room s ≡ true

module _ (room : ℕ) (s : FrameState) (d p : List ℕ) (k : Fit room s d) where
  fit_fed : fed s p d ≡ taken (feeding (frame_limit room) s d 0 p)
  fit_fed =
      fed_known s p d (subst (λ (n : ℕ). known n s ≡ true) (sym k.size) k.can) ∙ ap (λ (n : ℕ). taken (feeding (frame_limit n) s d 0 p)) k.size

  -- a known state is taken
  fit_taken : (fed s p d).said ≡ Ok (feeding (frame_limit room) s d 0 p).said
  fit_taken = ap (λ (f : Feeding (Result Fed Refusal)). f.said) fit_fed

  fit_left : (feeding (frame_limit room) s d 0 p).left ≡ (fed s p d).left
  fit_left = ap (λ (f : Feeding (Result Fed Refusal)). f.left) (sym fit_fed)

  module _ {f : Fed} (e : (fed s p d).said ≡ Ok f) where
    fit_said : (feeding (frame_limit room) s d 0 p).said ≡ f
    fit_said = ap (λ (r : Result Fed Refusal). result_unwrap_or r f) (sym fit_taken ∙ e)

    fit_feeding : feeding (frame_limit room) s d 0 p ≡ record { said = f; left = (fed s p d).left }
    fit_feeding i = record { said = fit_said i; left = fit_left i }

    pub fit_went : Went (frame_limit room) s d 0 p (record { said = f; left = (fed s p d).left })
    fit_went = subst (Went (frame_limit room) s d 0 p) fit_feeding (went (frame_limit room) s d 0 p)

    pub fit_on : Fit room f.state (fed s p d).left
    fit_on =
        record {
          size = ap length (sym fit_left) ∙ feeding_length (frame_limit room) s d 0 p ∙ k.size;
          can = subst (λ (g : Fed). known room g.state ≡ true) fit_said (known_test room (feeding_known (frame_limit room) s d 0 p (known_case room s k.can)));
        }

    -- what the reader stopped at, if anything, and what is left of the piece give what the whole gives
    fit_whole : (r : List ℕ) → whole (frame_limit room) s d (p ++ r) ≡ noted f.stop (fed s p d).left (whole (frame_limit room) f.state (fed s p d).left (drop f.used p ++ r))
    fit_whole r =
        let w = fit_went in
        let u = w.uses in
        let n : w.n ≡ f.used = omega arith in
        w.on r ∙ ap (λ (j : ℕ). noted f.stop (fed s p d).left (whole (frame_limit room) f.state (fed s p d).left (drop j p ++ r))) n

-- ---- a run gives what the line gives, taken whole

abbrev pub gave : List Happening → FrameState → List ℕ → Whole
gave es t x = record { happenings = es; state = t; left = x }

pub runs_whole : (room : ℕ) {s t : FrameState} {d x : List ℕ} {ps : List (List ℕ)} {es : List Happening} → Fit room s d → Runs s d ps es t x
    → whole (frame_limit room) s d (line ps) ≡ gave es t x
unfolding whole noted
runs_whole room k done = refl
runs_whole room k (more {s} {t} {u} {d} {x} {p} {ps} {es} {n} e r) =
    let w = fit_went room s d p k e in
    let a = w.uses in
    let b = w.ends refl in
    fit_whole room s d p k e (line ps)
    ∙ ap (λ (l : List ℕ). whole (frame_limit room) u (fed s p d).left (l ++ line ps)) (drop_all n p (omega arith))
    ∙ runs_whole room (fit_on room s d p k e) r
runs_whole room k (gives {s} {t} {u} {d} {x} {p} {ps} {es} {n} {size} e r) =
    fit_whole room s d p k e (line ps) ∙ ap (also (frame (take size (fed s p d).left))) (runs_whole room (fit_on room s d p k e) r)
runs_whole room k (drops {s} {t} {u} {d} {x} {p} {ps} {es} {n} {kind} e r) =
    fit_whole room s d p k e (line ps) ∙ ap (also (dropped kind)) (runs_whole room (fit_on room s d p k e) r)

-- "The frames, drops and end state must be the same however the bytes were cut, provided the same buffer comes back untouched each time."
pub cut_anyhow : {s t u : FrameState} {d x y : List ℕ} {ps qs : List (List ℕ)} {es fs : List Happening} → known (length d) s ≡ true
    → Runs s d ps es t x → Runs s d qs fs u y → line ps ≡ line qs → (es ≡ fs) × (t ≡ u) × (x ≡ y)
cut_anyhow {s} {t} {u} {d} {x} {y} {ps} {qs} {es} {fs} k a b e =
    let j : Fit (length d) s d = record { size = refl; can = k } in
    let w : gave es t x ≡ gave fs u y = sym (runs_whole (length d) j a) ∙ ap (whole (frame_limit (length d)) s d) e ∙ runs_whole (length d) j b in
    (ap (λ (v : Whole). v.happenings) w, ap (λ (v : Whole). v.state) w, ap (λ (v : Whole). v.left) w)

-- ---- for every cut there is a run

abbrev First : ℕ → List (List ℕ) → Type 0
First room ps = (s : FrameState) (d : List ℕ) → Fit room s d → Run s d ps

-- a run behind a piece, which is used up or was stopped in, makes one with it
with_piece : (s : FrameState) (d p : List ℕ) (ps : List (List ℕ)) (e : Option Stop) (n : ℕ) (u : FrameState) → (fed s p d).said ≡ Ok (told e n u)
    → (e ≡ None → Run u (fed s p d).left ps) → ((e ≡ None → ⊥) → Run u (fed s p d).left (drop n p ∷ ps)) → Run s d (p ∷ ps)
with_piece s d p ps None n u q on behind =
    let r = on refl in record { happenings = _; state = r.state; left = r.left; run = more q r.run }
with_piece s d p ps (Some (Frame size)) n u q on behind =
    let r = behind (λ z. none-some (Frame size) (sym z)) in record { happenings = _; state = r.state; left = r.left; run = gives q r.run }
with_piece s d p ps (Some (Drop kind)) n u q on behind =
    let r = behind (λ z. none-some (Drop kind) (sym z)) in record { happenings = _; state = r.state; left = r.left; run = drops q r.run }

run_piece : (room : ℕ) (ps : List (List ℕ)) → First room ps → (m : ℕ) (s : FrameState) (d p : List ℕ) → length p ≤ m → Fit room s d → Run s d (p ∷ ps)
run_piece room ps rest zero s d p l k =
    let q = fit_taken room s d p k in
    let f = (feeding (frame_limit room) s d 0 p).said in
    let w = fit_went room s d p k q in
    let i = w.within in
    with_piece s d p ps f.stop f.used f.state q (λ z. rest f.state (fed s p d).left (fit_on room s d p k q)) (λ z. absurd (omega (arith, w.stops z)))
run_piece room ps rest (suc m) s d p l k =
    let q = fit_taken room s d p k in
    let f = (feeding (frame_limit room) s d 0 p).said in
    let w = fit_went room s d p k q in
    let u = w.uses in
    with_piece s d p ps f.stop f.used f.state q (λ z. rest f.state (fed s p d).left (fit_on room s d p k q))
    (λ z. run_piece room ps rest m f.state (fed s p d).left (drop f.used p) (rw (length-drop f.used p) (omega (arith, w.stops z))) (fit_on room s d p k q))

pub runs_exist : (room : ℕ) (ps : List (List ℕ)) (s : FrameState) (d : List ℕ) → Fit room s d → Run s d ps
runs_exist room [] s d k = record { happenings = []; state = s; left = d; run = done }
runs_exist room (p ∷ ps) s d k = run_piece room ps (λ t x j. runs_exist room ps t x j) (length p) s d p (omega arith) k

-- so `cut_anyhow` is not empty
pub run_exists : (s : FrameState) (d : List ℕ) (ps : List (List ℕ)) → known (length d) s ≡ true → Run s d ps
run_exists s d ps k = runs_exist (length d) ps s d (record { size = refl; can = k })

-- ---- a known state is taken; a stop uses a byte, so that whoever calls again comes to an end; without a stop the piece is used up

module _ (s : FrameState) (p d : List ℕ) (k : known (length d) s ≡ true) where
  pub is_taken : IsOk (fed s p d).said
  is_taken = ap is_ok (fit_taken (length d) s d p (record { size = refl; can = k }))

  -- and 14 is not said
  pub never_refused : (fed s p d).said ≡ Err NoRoom → ⊥
  never_refused v = false_true (sym (ap is_ok v) ∙ is_taken)

  module _ {f : Fed} (e : (fed s p d).said ≡ Ok f) where
    pub stop_used : (f.stop ≡ None → ⊥) → (1 ≤ f.used) × (f.used ≤ length p)
    stop_used v =
        let w = fit_went (length d) s d p (record { size = refl; can = k }) e in
        let u = w.uses in
        let i = w.within in
        let j = w.stops v in
        (omega arith, omega arith)

    pub more_used : f.stop ≡ None → f.used ≡ length p
    more_used v =
        let w = fit_went (length d) s d p (record { size = refl; can = k }) e in
        let u = w.uses in
        let i = w.ends v in
        omega arith

    -- what comes back can be handed in again
    pub comes_back : known (length (fed s p d).left) f.state ≡ true
    comes_back =
        let j = fit_on (length d) s d p (record { size = refl; can = k }) e in
        subst (λ (n : ℕ). known n f.state ≡ true) (sym j.size) j.can
