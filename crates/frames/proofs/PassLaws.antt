-- Each way through `pass`: what a run passes over, for a state that is known. Assumes nothing.
use mathlib.Core.Path.{◌≡◌, refl, sym, ap, subst, ◌∙◌}
use mathlib.Core.Bool.{true}
use mathlib.Core.List.{List}
use Prim.Native.Nat.{ℕ, ◌+◌, ◌≤◌}
use native.Mathlib.Omega.{arith}
use lib.ListN.{length, take, drop}
use lib.Seq.{sets, sets-eq, length-sets, length-take-le}
use Rattle.alphabet.specs.Lists.{first, find}
use Rattle.alphabet.specs.Filling.{put_at}
use Rattle.alphabet.proofs.ListLaws.{first_le}
use Rattle.alphabet.proofs.FillingLaws.{put_fits}
use lib.Dec.{eqb, leb}
use borrow.Author.Tests.{eqb-true, leb-true}
use Rattle.alphabet.proofs.BoolLaws.{and_both}
use Rattle.frames.specs.declared.modes.Mode.{Mode}
use Rattle.frames.specs.declared.modes.Mode.TheVariants.{Outside, Inside, Skipping}
use Rattle.frames.specs.declared.state.FrameState.{FrameState}
use Rattle.frames.specs.Wire.{most_dropped, frame_limit}
use Rattle.frames.specs.Steps.{frame_state, inside, outside}
use Rattle.frames.specs.Feeding.{feeding, can_hold, known}
use Rattle.frames.specs.Passing.{framing, counted_on, PassesOver}
use Rattle.frames.proofs.FeedLaws.{frame_limit_le}
use Rattle.frames.proofs.KnownLaws.{Known, is_outside, is_inside, is_ending, is_skipping, is_skipping_end, known_test}
use Rattle.frames.proofs.RunLaws.{counted_on_within, outside_run, inside_run, skipping_run}

pub known_held : {limit : ℕ} {s : FrameState} → Known limit s → s.held ≤ limit
known_held (is_outside n m) = omega arith
known_held (is_inside h n m k) = k
known_held (is_ending h n m k) = k
known_held (is_skipping n m) = omega arith
known_held (is_skipping_end n m) = omega arith

module _ (limit : ℕ) (s : FrameState) (l d : List ℕ) (e : limit ≡ frame_limit (length d)) (k : known (length d) s ≡ true) where
  pub pass_count : s.count ≤ most_dropped
  unfolding known
  pass_count = leb-true s.count most_dropped (and_both (leb s.count most_dropped) _ k).0

  holds : {m : Mode} → s.mode ≡ m → can_hold m (frame_limit (length d)) s.held ≡ true
  unfolding known
  holds q = subst (λ (m : Mode). can_hold m (frame_limit (length d)) s.held ≡ true) q (and_both (leb s.count most_dropped) _ k).1

  pub pass_held : s.mode ≡ Inside → s.held ≤ limit
  pass_held q = subst (λ (n : ℕ). s.held ≤ n) (sym e) (leb-true s.held (frame_limit (length d)) (holds q))

  pub pass_room : limit ≤ length d
  pass_room = omega (arith, frame_limit_le (length d))

  fits_test : {t : FrameState} → Known limit t → known (length d) t ≡ true
  fits_test {t} j = known_test (length d) (subst (λ (n : ℕ). Known n t) e j)

  -- the state as one of its mode
  in_mode : {m : Mode} → s.mode ≡ m → (h n : ℕ) → frame_state m h n ≡ frame_state s.mode h n
  in_mode q h n = ap (λ (m : Mode). frame_state m h n) (sym q)

  in_none : {m : Mode} → s.mode ≡ m → eqb s.held 0 ≡ true → (n : ℕ) → frame_state m 0 n ≡ frame_state s.mode s.held n
  in_none q z n = in_mode q 0 n ∙ ap (λ (h : ℕ). frame_state s.mode h n) (sym (eqb-true s.held 0 z))

  pub pass_outside : (run n : ℕ) → s.mode ≡ Outside → run ≡ find 11 l → n ≡ counted_on s.count run → PassesOver limit s l d run (frame_state s.mode s.held n) d
  pass_outside run n q r c =
      let o = in_none q (holds q) in
      subst (λ (t : FrameState). PassesOver limit s l d run t d) (o n)
      (record {
        within = omega (arith, first_le (eqb 11) l);
        size = refl;
        can = fits_test (is_outside n (omega (arith, counted_on_within s.count run pass_count)));
        on = λ used. ap (λ (t : FrameState). feeding limit t d used l) (sym (o s.count)) ∙ outside_run limit 0 run used s.count d l pass_count (omega arith)
            ∙ ap (λ (j : ℕ). feeding limit (outside j) d (used + run) (drop run l)) (sym c);
      })

  pub pass_inside : (run : ℕ) (x : List ℕ) → s.mode ≡ Inside → run ≤ first framing l → s.held + run ≤ limit → x ≡ put_at d s.held (take run l)
      → PassesOver limit s l d run (frame_state s.mode (s.held + run) s.count) x
  pass_inside run x q r h p =
      let f = first_le framing l in
      let n = length-take-le run l (omega arith) in
      let w : s.held + length (take run l) ≤ length d = omega (arith, pass_room) in
      let y : x ≡ sets d s.held (take run l) = p ∙ (put_fits d (take run l) s.held w).1 ∙ sym (sets-eq (take run l) d s.held w) in
      subst (λ (t : FrameState). PassesOver limit s l d run t x) (in_mode q (s.held + run) s.count)
      (record {
        within = omega arith;
        size = ap length y ∙ length-sets d s.held (take run l);
        can = fits_test (is_inside (s.held + run) s.count pass_count h);
        on = λ used. ap (λ (t : FrameState). feeding limit t d used l) (sym (in_mode q s.held s.count)) ∙ inside_run limit s.count run used s.held d l r h
            ∙ ap (λ (j : List ℕ). feeding limit (inside (s.held + run) s.count) j (used + run) (drop run l)) (sym y);
      })

  pub pass_skipping : (run : ℕ) → s.mode ≡ Skipping → run ≡ first framing l → PassesOver limit s l d run s d
  pass_skipping run q r =
      let o = in_none q (holds q) s.count in
      record {
        within = omega (arith, first_le framing l);
        size = refl;
        can = k;
        on = λ used. ap (λ (t : FrameState). feeding limit t d used l) (sym o) ∙ skipping_run limit s.count run used d l (omega arith)
            ∙ ap (λ (t : FrameState). feeding limit t d (used + run) (drop run l)) o;
      }

  pub pass_none : PassesOver limit s l d 0 s d
  pass_none =
      record {
        within = omega arith;
        size = refl;
        can = k;
        on = λ used. let z : used ≡ used + 0 = omega arith in ap (λ (j : ℕ). feeding limit s d j l) z;
      }
