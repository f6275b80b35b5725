-- The grammar and the machine agree, both ways. Assumes nothing.
use mathlib.Core.Path.{◌≡◌, refl, sym, ap, subst, ◌∙◌}
use mathlib.Core.Bool.{Bool, true, false}
use mathlib.Core.List.{List, [], ◌∷◌, ◌++◌, append-nil}
use Prim.Native.Nat.{ℕ, zero, suc, ◌+◌, ◌-◌, ◌≤◌, ◌<◌}
use native.Mathlib.Omega.{arith}
use native.Mathlib.Decide.{dec_lt}
use native.Mathlib.Numerals.{add-one}
use lib.Dec.{eqb}
use lib.ListN.{length, take, drop, set, length-set, length-append}
use Rattle.alphabet.specs.Filling.{over}
use Rattle.frames.specs.Gathered.{laid}
use Rattle.laws.specs.Framed.{Said}
use lib.Seq.{sets, sets-eq, length-sets, take_at, take_all, length-take-le}
use borrow.Author.Tests.{eqb-true, eqb-false, le-leb, lt-leb}
use Rattle.frames.specs.declared.state.FrameState.{FrameState}
use Rattle.frames.specs.declared.steps.Stop.TheVariants.{Frame, Drop}
use Rattle.alphabet.specs.declared.answers.Refusal.TheVariants.{BrokenFrame, FrameTooLong}
use Rattle.frames.specs.Wire.{frame_limit, most_dropped}
use Rattle.frames.specs.Steps.{outside, inside, ending, skipping, skipping_end, stepped, step_outside, step_inside, step_ending, step_skipping, step_skipping_end, counted, quiet, gather, stops}
use Rattle.frames.specs.Feeding.{stored}
use Rattle.frames.specs.Runs.{Happening, frame, dropped, Runs, line}
use Rattle.frames.specs.Wired.{Plain, none, some, or_long, broken, Place, out, opened, Wired, ended, stray, begins, whole_frame, breaks, breaks_open, again, open_body, open_end, open_long, open_long_end}
use Rattle.frames.proofs.FeedLaws.{frame_limit_le}
use Rattle.frames.proofs.StepLaws.{outside_opens, outside_drops, ending_frame, ending_opens, ending_breaks, skipping_opens, skipping_closes, skipping_on, skipped_opens, skipped_on, inside_opens, inside_closes, inside_long, inside_gathers}
use Rattle.frames.proofs.KnownLaws.{known_test, is_outside}
use Rattle.laws.proofs.FrameLines.{Whole, also, noted, whole}
use Rattle.laws.proofs.FrameCuts.{Fit, runs_whole, runs_exist}

-- ---- one byte of a line that is taken whole

module _ (limit : ℕ) (s t : FrameState) (d : List ℕ) (b : ℕ) (l : List ℕ) where
  whole_quiet : stepped limit s b ≡ quiet t → whole limit s d (b ∷ l) ≡ whole limit t d l
  unfolding whole stored noted
  whole_quiet e = rw e

  whole_gather : stepped limit s b ≡ gather t → whole limit s d (b ∷ l) ≡ whole limit t (set d s.held b) l
  unfolding whole stored noted
  whole_gather e = rw e

  whole_frames : (size : ℕ) → stepped limit s b ≡ stops (Frame size) t → whole limit s d (b ∷ l) ≡ also (frame (take size d)) (whole limit t d l)
  unfolding whole stored noted
  whole_frames size e = rw e

  whole_breaks : stepped limit s b ≡ stops (Drop BrokenFrame) t → whole limit s d (b ∷ l) ≡ also broken (whole limit t d l)
  unfolding whole stored noted
  whole_breaks e = rw e

  whole_long : stepped limit s b ≡ stops (Drop FrameTooLong) t → whole limit s d (b ∷ l) ≡ also (dropped FrameTooLong) (whole limit t d l)
  unfolding whole stored noted
  whole_long e = rw e

-- the mode decides
module _ (limit h n b : ℕ) where
  by_outside : stepped limit (outside n) b ≡ step_outside n b
  unfolding stepped
  by_outside = refl

  by_inside : stepped limit (inside h n) b ≡ step_inside limit h n b
  unfolding stepped
  by_inside = refl

  by_ending : stepped limit (ending h n) b ≡ step_ending h n b
  unfolding stepped
  by_ending = refl

  by_skipping : stepped limit (skipping n) b ≡ step_skipping n b
  unfolding stepped
  by_skipping = refl

  by_skipping_end : stepped limit (skipping_end n) b ≡ step_skipping_end n b
  unfolding stepped
  by_skipping_end = refl

-- ---- a body

module _ (limit n : ℕ) where
  body_within : {c : List ℕ} → Plain c → (h : ℕ) (d l : List ℕ) → h + length c ≤ limit
      → whole limit (inside h n) d (c ++ l) ≡ whole limit (inside (h + length c) n) (sets d h c) l
  body_within none h d l k = let e : h ≡ h + 0 = omega arith in ap (λ (j : ℕ). whole limit (inside j n) d l) e
  body_within (some {b} {c} p q r) h d l k =
      let e : h + 1 + length c ≡ h + suc (length c) = omega arith in
      whole_gather limit (inside h n) (inside (h + 1) n) d b (c ++ l) (by_inside limit h n b ∙ inside_gathers limit h n b p q (omega arith))
      ∙ body_within r (h + 1) (set d h b) l (omega arith)
      ∙ ap (λ (j : ℕ). whole limit (inside (h + 1 + length c) n) (sets (set d h b) j c) l) (add-one h)
      ∙ ap (λ (j : ℕ). whole limit (inside j n) (sets (set d h b) (suc h) c) l) e

  body_skipped : {c : List ℕ} → Plain c → (d l : List ℕ) → whole limit (skipping n) d (c ++ l) ≡ whole limit (skipping n) d l
  body_skipped none d l = refl
  body_skipped (some {b} {c} p q r) d l =
      whole_quiet limit (skipping n) (skipping n) d b (c ++ l) (by_skipping limit 0 n b ∙ skipping_on n b p q) ∙ body_skipped r d l

-- what a line gives from a state, over any buffer with room to the limit
abbrev Gives : Whole → List Happening → FrameState → List ℕ → Type 0
Gives w es t x = (w.happenings ≡ es) × (w.state ≡ t) × (w.left ≡ x)

abbrev Says : ℕ → FrameState → List ℕ → List Happening → List (List ℕ) → FrameState → Type 0
Says limit s l es cs t = (d : List ℕ) → limit ≤ length d → Gives (whole limit s d l) es t (laid cs d)

gives_also : (e : Happening) (w : Whole) (es : List Happening) (t : FrameState) (x : List ℕ) → Gives w es t x → Gives (also e w) (e ∷ es) t x
gives_also e w es t x g = (ap (λ (fs : List Happening). e ∷ fs) g.0, g.1, g.2)

-- as much of a body as there is room for, behind h bytes
module _ (limit h b : ℕ) (c d : List ℕ) where
  one_more : h < limit → sets (set d h b) (h + 1) (take (limit - (h + 1)) c) ≡ sets d h (take (limit - h) (b ∷ c))
  one_more k =
      let e : limit - h ≡ suc (limit - (h + 1)) = omega arith in
      ap (λ (j : ℕ). sets (set d h b) j (take (limit - (h + 1)) c)) (add-one h) ∙ ap (λ (j : ℕ). sets d h (take j (b ∷ c))) (sym e)

  no_more : limit ≤ h → d ≡ sets d h (take (limit - h) (b ∷ c))
  no_more k = let e : limit - h ≡ 0 = omega arith in ap (λ (j : ℕ). sets d h (take j (b ∷ c))) (sym e)

body_over : (limit n : ℕ) {c : List ℕ} → Plain c → (h : ℕ) (d l : List ℕ) (es : List Happening) (cs : List (List ℕ)) (t : FrameState) → h ≤ limit → limit < h + length c → limit ≤ length d
    → Says limit (skipping n) l es cs t
    → Gives (whole limit (inside h n) d (c ++ l)) (dropped FrameTooLong ∷ es) t (laid cs (sets d h (take (limit - h) c)))
body_over limit n none h d l es cs t k j m g = absurd (omega arith)
body_over limit n (some {b} {c} p q r) h d l es cs t k j m g =
    at (dec_lt h limit) (λ (i : h < limit). body_over limit n r (h + 1) (set d h b) l es cs t (omega arith) (omega arith) (rw (length-set d h b) m) g)
  where
    at : Dec (h < limit)
        → (h < limit → Gives (whole limit (inside (h + 1) n) (set d h b) (c ++ l)) (dropped FrameTooLong ∷ es) t (laid cs (sets (set d h b) (h + 1) (take (limit - (h + 1)) c))))
        → Gives (whole limit (inside h n) d (b ∷ (c ++ l))) (dropped FrameTooLong ∷ es) t (laid cs (sets d h (take (limit - h) (b ∷ c))))
    at (yes i) ih =
        subst (λ (w : Whole). Gives w (dropped FrameTooLong ∷ es) t (laid cs (sets d h (take (limit - h) (b ∷ c)))))
        (sym (whole_gather limit (inside h n) (inside (h + 1) n) d b (c ++ l) (by_inside limit h n b ∙ inside_gathers limit h n b p q i)))
        (subst (λ (x : List ℕ). Gives (whole limit (inside (h + 1) n) (set d h b) (c ++ l)) (dropped FrameTooLong ∷ es) t (laid cs x)) (one_more limit h b c d i) (ih i))
    at (no i) ih =
        subst (λ (w : Whole). Gives w (dropped FrameTooLong ∷ es) t (laid cs (sets d h (take (limit - h) (b ∷ c)))))
        (sym
        (whole_long limit (inside h n) (skipping n) d b (c ++ l) (by_inside limit h n b ∙ inside_long limit h n b p q (omega arith))
        ∙ ap (also (dropped FrameTooLong)) (body_skipped limit n r d l)))
        (subst (λ (x : List ℕ). Gives (also (dropped FrameTooLong) (whole limit (skipping n) d l)) (dropped FrameTooLong ∷ es) t (laid cs x)) (no_more limit h b c d (omega arith))
        (gives_also (dropped FrameTooLong) (whole limit (skipping n) d l) es t (laid cs d) (g d m)))

-- ---- what a byte adds

module _ (limit : ℕ) (s u : FrameState) (b : ℕ) (l : List ℕ) (es : List Happening) (cs : List (List ℕ)) (t : FrameState) (g : Says limit u l es cs t) where
  says_quiet : stepped limit s b ≡ quiet u → Says limit s (b ∷ l) es cs t
  says_quiet e d k = subst (λ (w : Whole). Gives w es t (laid cs d)) (sym (whole_quiet limit s u d b l e)) (g d k)

  says_broken : stepped limit s b ≡ stops (Drop BrokenFrame) u → Says limit s (b ∷ l) (broken ∷ es) cs t
  says_broken e d k =
      subst (λ (w : Whole). Gives w (broken ∷ es) t (laid cs d)) (sym (whole_breaks limit s u d b l e)) (gives_also broken (whole limit u d l) es t (laid cs d) (g d k))

  -- a frame is what the front of the buffer holds
  says_frame : (size : ℕ) (c d : List ℕ) → limit ≤ length d → take size d ≡ c → stepped limit s b ≡ stops (Frame size) u → Gives (whole limit s d (b ∷ l)) (frame c ∷ es) t (laid cs d)
  says_frame size c d k f e =
      subst (λ (w : Whole). Gives w (frame c ∷ es) t (laid cs d)) (sym (whole_frames limit s u d b l size e ∙ ap (λ (x : List ℕ). also (frame x) (whole limit u d l)) f))
      (gives_also (frame c) (whole limit u d l) es t (laid cs d) (g d k))

says_nil : (limit : ℕ) (s : FrameState) → Says limit s [] [] [] s
unfolding whole laid
says_nil limit s d k = (refl, refl, refl)

-- ---- a body and what follows it

-- stores from the front on lay the bytes over the buffer
sets_over : (d c : List ℕ) → length c ≤ length d → sets d 0 c ≡ over c d
sets_over d c h =
    let z : 0 + length c ≡ length c = omega arith in
    sets-eq c d 0 (omega arith) ∙ ap (λ (j : ℕ). c ++ drop j d) z

sets_front : (d c : List ℕ) → length c ≤ length d → take (length c) (sets d 0 c) ≡ c
sets_front d c h = ap (take (length c)) (sets_over d c h) ∙ take_at c (drop (length c) d) (length c) refl

laid_next : (limit : ℕ) (c : List ℕ) (cs : List (List ℕ)) (d : List ℕ) → limit ≤ length d → laid cs (sets d 0 (take limit c)) ≡ laid (take limit c ∷ cs) d
unfolding laid
laid_next limit c cs d m = ap (laid cs) (sets_over d (take limit c) (at (dec_lt limit (length c))))
  where
    at : Dec (limit < length c) → length (take limit c) ≤ length d
    at (yes k) = omega (arith, length-take-le limit c (omega arith))
    at (no k) = rw (take_all limit c (omega arith)) (omega arith)

module _ (limit n : ℕ) (c l : List ℕ) (p : Plain c) (es : List Happening) (cs : List (List ℕ)) (t : FrameState) where
  -- a body within the limit: what follows goes on behind it
  body_fits : length c ≤ limit → ((d : List ℕ) → limit ≤ length d → take (length c) d ≡ c → Gives (whole limit (inside (length c) n) d l) es t (laid cs d))
      → Says limit (inside 0 n) (c ++ l) es (take limit c ∷ cs) t
  body_fits k f d m =
      let z : 0 + length c ≡ length c = omega arith in
      subst (λ (w : Whole). Gives w es t (laid (take limit c ∷ cs) d))
      (sym (body_within limit n p 0 d l (omega arith) ∙ ap (λ (j : ℕ). whole limit (inside j n) (sets d 0 c) l) z))
      (subst (λ (x : List ℕ). Gives (whole limit (inside (length c) n) (sets d 0 c) l) es t x)
      (ap (λ (x : List ℕ). laid cs (sets d 0 x)) (sym (take_all limit c (omega arith))) ∙ laid_next limit c cs d m)
      (f (sets d 0 c) (rw (length-sets d 0 c) m) (sets_front d c (omega arith))))

  -- a body over it: reported once, and skipped
  body_long : limit < length c → Says limit (skipping n) l es cs t → Says limit (inside 0 n) (c ++ l) (dropped FrameTooLong ∷ es) (take limit c ∷ cs) t
  body_long k g d m =
      let z : limit - 0 ≡ limit = omega arith in
      subst (λ (x : List ℕ). Gives (whole limit (inside 0 n) d (c ++ l)) (dropped FrameTooLong ∷ es) t x)
      (ap (λ (j : ℕ). laid cs (sets d 0 (take j c))) z ∙ laid_next limit c cs d m)
      (body_over limit n p 0 d l es cs t (omega arith) (omega arith) m g)

body_says : (limit n : ℕ) (c l : List ℕ) (p : Plain c) (e : Happening) (es : List Happening) (cs : List (List ℕ)) (t : FrameState)
    → ((d : List ℕ) → limit ≤ length d → take (length c) d ≡ c → Gives (whole limit (inside (length c) n) d l) (e ∷ es) t (laid cs d)) → Says limit (skipping n) l es cs t
    → Says limit (inside 0 n) (c ++ l) (or_long limit c e ∷ es) (take limit c ∷ cs) t
body_says limit n c l p e es cs t f g = at (dec_lt limit (length c))
  where
    at : Dec (limit < length c) → Says limit (inside 0 n) (c ++ l) (or_long limit c e ∷ es) (take limit c ∷ cs) t
    at (yes k) = rw (lt-leb (length c) limit k) (body_long limit n c l p es cs t k g)
    at (no k) = rw (le-leb (length c) limit (omega arith)) (body_fits limit n c l p (e ∷ es) cs t (omega arith) f)

-- ---- the grammar says what the machine gives

abbrev at_place : Place → ℕ → FrameState
at_place out n = outside n
at_place opened n = inside 0 n

not_28_11 : ◌≡◌ {A = ℕ} 28 11 → ⊥
not_28_11 z = omega arith

not_13_11 : ◌≡◌ {A = ℕ} 13 11 → ⊥
not_13_11 z = omega arith

not_11_13 : ◌≡◌ {A = ℕ} 11 13 → ⊥
not_11_13 z = omega arith

module _ (limit h n : ℕ) (l : List ℕ) (es : List Happening) (cs : List (List ℕ)) (t : FrameState) where
  closes_inside : Says limit (ending h n) l es cs t → Says limit (inside h n) (28 ∷ l) es cs t
  closes_inside g = says_quiet limit (inside h n) (ending h n) 28 l es cs t g (by_inside limit h n 28 ∙ inside_closes limit h n 28 not_28_11 refl)

  closes_skipping : Says limit (skipping_end n) l es cs t → Says limit (skipping n) (28 ∷ l) es cs t
  closes_skipping g = says_quiet limit (skipping n) (skipping_end n) 28 l es cs t g (by_skipping limit 0 n 28 ∙ skipping_closes n 28 not_28_11 refl)

  opens_skipped : Says limit (inside 0 n) l es cs t → Says limit (skipping_end n) (11 ∷ l) es cs t
  opens_skipped g = says_quiet limit (skipping_end n) (inside 0 n) 11 l es cs t g (by_skipping_end limit 0 n 11 ∙ skipped_opens n 11 refl)

  ends_skipped : (b : ℕ) → (b ≡ 11 → ⊥) → Says limit (outside n) l es cs t → Says limit (skipping_end n) (b ∷ l) es cs t
  ends_skipped b f g = says_quiet limit (skipping_end n) (outside n) b l es cs t g (by_skipping_end limit 0 n b ∙ skipped_on n b f)

pub wired_says : {limit n : ℕ} {p : Place} {l : List ℕ} {es : List Happening} {cs : List (List ℕ)} {t : FrameState} → Wired limit p n l es cs t → Says limit (at_place p n) l es cs t
wired_says {limit} (ended {n}) = says_nil limit (outside n)
wired_says {limit} (stray {n} {b} {l} {es} {cs} {t} f w) =
    says_quiet limit (outside n) (outside (counted n)) b l es cs t (wired_says w) (by_outside limit 0 n b ∙ outside_drops n b f)
wired_says {limit} (begins {n} {l} {es} {cs} {t} w) =
    says_quiet limit (outside n) (inside 0 n) 11 l es cs t (wired_says w) (by_outside limit 0 n 11 ∙ outside_opens n 11 refl)
wired_says {limit} (whole_frame {n} {c} {l} {es} {cs} {t} p w) =
    body_says limit n c (28 ∷ 13 ∷ l) p (frame c) es cs t
    (λ d m f. subst (λ (v : Whole). Gives v (frame c ∷ es) t (laid cs d))
    (sym (whole_quiet limit (inside (length c) n) (ending (length c) n) d 28 (13 ∷ l) (by_inside limit (length c) n 28 ∙ inside_closes limit (length c) n 28 not_28_11 refl)))
    (says_frame limit (ending (length c) n) (outside n) 13 l es cs t (wired_says w) (length c) c d m f (by_ending limit (length c) n 13 ∙ ending_frame (length c) n 13 refl)))
    (closes_skipping limit 0 n (13 ∷ l) es cs t (ends_skipped limit 0 n l es cs t 13 not_13_11 (wired_says w)))
wired_says {limit} (breaks {n} {b} {c} {l} {es} {cs} {t} p f g w) =
    body_says limit n c (28 ∷ b ∷ l) p broken es cs t
    (λ d m k. closes_inside limit (length c) n (b ∷ l) (broken ∷ es) cs t
    (says_broken limit (ending (length c) n) (outside n) b l es cs t (wired_says w) (by_ending limit (length c) n b ∙ ending_breaks (length c) n b f g)) d m)
    (closes_skipping limit 0 n (b ∷ l) es cs t (ends_skipped limit 0 n l es cs t b g (wired_says w)))
wired_says {limit} (breaks_open {n} {c} {l} {es} {cs} {t} p w) =
    body_says limit n c (28 ∷ 11 ∷ l) p broken es cs t
    (λ d m k. closes_inside limit (length c) n (11 ∷ l) (broken ∷ es) cs t
    (says_broken limit (ending (length c) n) (inside 0 n) 11 l es cs t (wired_says w) (by_ending limit (length c) n 11 ∙ ending_opens (length c) n 11 not_11_13 refl)) d m)
    (closes_skipping limit 0 n (11 ∷ l) es cs t (opens_skipped limit 0 n l es cs t (wired_says w)))
wired_says {limit} (again {n} {c} {l} {es} {cs} {t} p w) =
    body_says limit n c (11 ∷ l) p broken es cs t
    (λ d m k. says_broken limit (inside (length c) n) (inside 0 n) 11 l es cs t (wired_says w) (by_inside limit (length c) n 11 ∙ inside_opens limit (length c) n 11 refl) d m)
    (says_quiet limit (skipping n) (inside 0 n) 11 l es cs t (wired_says w) (by_skipping limit 0 n 11 ∙ skipping_opens n 11 refl))
wired_says {limit} (open_body {n} {c} p k) =
    subst (λ (x : List ℕ). Says limit (inside 0 n) x [] (take limit c ∷ []) (inside (length c) n)) (append-nil c)
    (body_fits limit n c [] p [] [] (inside (length c) n) k (λ d m f. says_nil limit (inside (length c) n) d m))
wired_says {limit} (open_end {n} {c} p k) =
    body_fits limit n c (28 ∷ []) p [] [] (ending (length c) n) k
    (λ d m f. closes_inside limit (length c) n [] [] [] (ending (length c) n) (says_nil limit (ending (length c) n)) d m)
wired_says {limit} (open_long {n} {c} p k) =
    subst (λ (x : List ℕ). Says limit (inside 0 n) x (dropped FrameTooLong ∷ []) (take limit c ∷ []) (skipping n)) (append-nil c)
    (body_long limit n c [] p [] [] (skipping n) k (says_nil limit (skipping n)))
wired_says {limit} (open_long_end {n} {c} p k) =
    body_long limit n c (28 ∷ []) p [] [] (skipping_end n) k (closes_skipping limit 0 n [] [] [] (skipping_end n) (says_nil limit (skipping_end n)))

-- ---- every line says something

-- a line up to its first byte that opens or closes a frame
data Cut : List ℕ → Type 0 where
  no_mark : {c : List ℕ} → Plain c → Cut c
  at_opens : {c : List ℕ} (l : List ℕ) → Plain c → Cut (c ++ 11 ∷ l)
  at_closes : {c : List ℕ} (l : List ℕ) → Plain c → Cut (c ++ 28 ∷ l)

cut_more : (b : ℕ) {l : List ℕ} → (b ≡ 11 → ⊥) → (b ≡ 28 → ⊥) → Cut l → Cut (b ∷ l)
cut_more b f g (no_mark p) = no_mark (some f g p)
cut_more b f g (at_opens l p) = at_opens l (some f g p)
cut_more b f g (at_closes l p) = at_closes l (some f g p)

cut_line : (l : List ℕ) → Cut l
cut_line [] = no_mark none
cut_line (b ∷ l) = at (eqb b 11) (eqb b 28) refl refl (cut_line l)
  where
    at : (x y : Bool) → eqb b 11 ≡ x → eqb b 28 ≡ y → Cut l → Cut (b ∷ l)
    at true y e f k = subst (λ (a : ℕ). Cut (a ∷ l)) (sym (eqb-true b 11 e)) (at_opens l none)
    at false true e f k = subst (λ (a : ℕ). Cut (a ∷ l)) (sym (eqb-true b 28 f)) (at_closes l none)
    at false false e f k = cut_more b (eqb-false b 11 e) (eqb-false b 28 f) k

record Some (limit : ℕ) (p : Place) (n : ℕ) (l : List ℕ) : Type 0 where
  happenings : List Happening
  bodies : List (List ℕ)
  state : FrameState
  derivation : Wired limit p n l happenings bodies state

-- what is shorter than m
abbrev Shorter : ℕ → ℕ → Type 0
Shorter limit m = (p : Place) (n : ℕ) (l : List ℕ) → length l < m → Some limit p n l

behind_close : (limit m n : ℕ) (c l : List ℕ) → Plain c → Shorter limit m → length l < m → Some limit opened n (c ++ 28 ∷ l)
behind_close limit m n c [] p ih k = at (dec_lt limit (length c))
  where
    at : Dec (limit < length c) → Some limit opened n (c ++ 28 ∷ [])
    at (yes j) = record { happenings = _; bodies = _; state = _; derivation = open_long_end p j }
    at (no j) = record { happenings = _; bodies = _; state = _; derivation = open_end p (omega arith) }
behind_close limit m n c (b ∷ l) p ih k = at (eqb b 13) (eqb b 11) refl refl
  where
    at : (x y : Bool) → eqb b 13 ≡ x → eqb b 11 ≡ y → Some limit opened n (c ++ 28 ∷ b ∷ l)
    at true y e f =
        let r = ih out n l (omega arith) in
        subst (λ (a : ℕ). Some limit opened n (c ++ 28 ∷ a ∷ l)) (sym (eqb-true b 13 e)) (record { happenings = _; bodies = _; state = _; derivation = whole_frame p r.derivation })
    at false true e f =
        let r = ih opened n l (omega arith) in
        subst (λ (a : ℕ). Some limit opened n (c ++ 28 ∷ a ∷ l)) (sym (eqb-true b 11 f)) (record { happenings = _; bodies = _; state = _; derivation = breaks_open p r.derivation })
    at false false e f =
        let r = ih out n l (omega arith) in
        record { happenings = _; bodies = _; state = _; derivation = breaks p (eqb-false b 13 e) (eqb-false b 11 f) r.derivation }

behind_open : (limit m n : ℕ) {l : List ℕ} → Cut l → Shorter limit m → length l < suc m → Some limit opened n l
behind_open limit m n (no_mark {c} p) ih k = at (dec_lt limit (length c))
  where
    at : Dec (limit < length c) → Some limit opened n c
    at (yes j) = record { happenings = _; bodies = _; state = _; derivation = open_long p j }
    at (no j) = record { happenings = _; bodies = _; state = _; derivation = open_body p (omega arith) }
behind_open limit m n (at_opens {c} l p) ih k =
    let r = ih opened n l (omega (arith, length-append c (11 ∷ l))) in
    record { happenings = _; bodies = _; state = _; derivation = again p r.derivation }
behind_open limit m n (at_closes {c} l p) ih k = behind_close limit m n c l p ih (omega (arith, length-append c (28 ∷ l)))

from_out : (limit m n : ℕ) (l : List ℕ) → Shorter limit m → length l < suc m → Some limit out n l
from_out limit m n [] ih k = record { happenings = _; bodies = _; state = _; derivation = ended }
from_out limit m n (b ∷ l) ih k = at (eqb b 11) refl
  where
    at : (x : Bool) → eqb b 11 ≡ x → Some limit out n (b ∷ l)
    at true e =
        let r = ih opened n l (omega arith) in
        subst (λ (a : ℕ). Some limit out n (a ∷ l)) (sym (eqb-true b 11 e)) (record { happenings = _; bodies = _; state = _; derivation = begins r.derivation })
    at false e = let r = ih out (counted n) l (omega arith) in record { happenings = _; bodies = _; state = _; derivation = stray (eqb-false b 11 e) r.derivation }

shorter : (limit m : ℕ) → Shorter limit m
shorter limit zero p n l k = absurd (omega arith)
shorter limit (suc m) out n l k = from_out limit m n l (shorter limit m) k
shorter limit (suc m) opened n l k = behind_open limit m n (cut_line l) (shorter limit m) k

-- ---- both ways

out_fits : (d : List ℕ) (n : ℕ) → n ≤ most_dropped → Fit (length d) (outside n) d
out_fits d n k = record { size = refl; can = known_test (length d) (is_outside n k) }

module _ (d : List ℕ) (ps : List (List ℕ)) (n : ℕ) (k : n ≤ most_dropped) where
  -- what the grammar says of the bytes, some run gives, however they are cut, and leaves its bodies in the buffer
  pub wired_runs : (es : List Happening) (cs : List (List ℕ)) (t : FrameState) → Wired (frame_limit (length d)) out n (line ps) es cs t → Runs (outside n) d ps es t (laid cs d)
  wired_runs es cs t w =
      let r = runs_exist (length d) ps (outside n) d (out_fits d n k) in
      let v = runs_whole (length d) (out_fits d n k) r.run in
      let g = wired_says w d (frame_limit_le (length d)) in
      let e : r.happenings ≡ es = ap (λ (x : Whole). x.happenings) (sym v) ∙ g.0 in
      let f : r.state ≡ t = ap (λ (x : Whole). x.state) (sym v) ∙ g.1 in
      let h : r.left ≡ laid cs d = ap (λ (x : Whole). x.left) (sym v) ∙ g.2 in
      subst (λ (x : List Happening). Runs (outside n) d ps x t (laid cs d)) e
      (subst (λ (x : FrameState). Runs (outside n) d ps r.happenings x (laid cs d)) f (subst (λ (x : List ℕ). Runs (outside n) d ps r.happenings r.state x) h r.run))

  -- and what a run gives, the grammar says
  pub runs_wired : (es : List Happening) (t : FrameState) (x : List ℕ) → Runs (outside n) d ps es t x → Said (frame_limit (length d)) n (line ps) es t d x
  runs_wired es t x r =
      let s = shorter (frame_limit (length d)) (suc (length (line ps))) out n (line ps) (omega arith) in
      let v = runs_whole (length d) (out_fits d n k) r in
      let g = wired_says s.derivation d (frame_limit_le (length d)) in
      let e : s.happenings ≡ es = sym g.0 ∙ ap (λ (w : Whole). w.happenings) v in
      let f : s.state ≡ t = sym g.1 ∙ ap (λ (w : Whole). w.state) v in
      record {
        bodies = s.bodies;
        derivation =
            subst (λ (y : List Happening). Wired (frame_limit (length d)) out n (line ps) y s.bodies t) e
            (subst (λ (y : FrameState). Wired (frame_limit (length d)) out n (line ps) s.happenings s.bodies y) f s.derivation);
        holds = ap (λ (w : Whole). w.left) (sym v) ∙ g.2;
      }
