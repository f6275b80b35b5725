-- Bytes that stand plainly, one behind another, say what each says, whatever the sequences are. Assumes nothing.
use mathlib.Core.Path.{◌≡◌, refl, sym, ap, ap₂, ◌∙◌}
use mathlib.Core.List.{List, [], ◌∷◌, ◌++◌, map}
use mathlib.Core.Bool.{Bool, true, false, cond}
use Prim.Native.Nat.{ℕ, zero, suc, ◌+◌, ◌≤◌, ◌<◌}
use native.Mathlib.Nat.{add-zero}
use native.Mathlib.Decide.{dec_lt}
use native.Mathlib.Omega.{arith}
use lib.ListN.{length, get_or, take, drop, length-append, length-drop, length-map}
use lib.Dec.{eqb}
use lib.Seq.{length-take-le, drop-drop, get_or-drop}
use borrow.Author.Tests.{le-ltb, eqb-false}
use Rattle.alphabet.proofs.ListLaws.{first_le, first_here, first_past, first_passes, first_before, find_own}
use Rattle.alphabet.specs.Lists.{first, find}
use Rattle.plain.specs.Plain.{special}
use Rattle.plain.proofs.PlainLaws.{plain_is}
use Rattle.escaping.specs.Escape.{escape_of}
use Rattle.text.specs.Unescape.{Sequences, emit, step, before, scan}
use Rattle.text.specs.Judging.{is_text, text_of}
use Rattle.text.proofs.StepLaws.{step_plain, scan_emit, before_before, before_none, before_text, Scanning, text_allowed}

module _ {A : Type 0} (q : Sequences A) (ds : List ℕ) (five : length ds ≡ 5) where
  pub step_run : (b : ℕ) (r : List ℕ) → special ds b ≡ false → step q ds b r ≡ emit (q.plain b ∷ []) 0
  step_run b r e =
      let p = plain_is ds b e in
      let far = p.1 in
      step_plain q ds b r (λ (w : b ≡ escape_of ds). let o = find_own ds 3 (omega arith) in let z = ap (λ (x : ℕ). find x ds) w in omega arith) p.0 far

  pub scan_run : (at : ℕ) (l : List ℕ) (n : ℕ) → n ≤ first (special ds) l → scan q ds at 0 l ≡ before (map q.plain (take n l)) (scan q ds (at + n) 0 (drop n l))
  unfolding first scan
  scan_run at l zero h = before_none (scan q ds at 0 l) ∙ ap (λ (k : ℕ). before [] (scan q ds k 0 l)) (sym (add-zero at))
  scan_run at [] (suc n) h = refl
  scan_run at (b ∷ r) (suc n) h = by (special ds b) refl h (scan_run (at + 1) r n)
    where
      by : (t : Bool) → special ds b ≡ t → suc n ≤ cond t 0 (suc (first (special ds) r))
          → (n ≤ first (special ds) r → scan q ds (at + 1) 0 r ≡ before (map q.plain (take n r)) (scan q ds ((at + 1) + n) 0 (drop n r)))
          → scan q ds at 0 (b ∷ r) ≡ before (q.plain b ∷ map q.plain (take n r)) (scan q ds (at + suc n) 0 (drop n r))
      by true e h ih = absurd (omega arith)
      by false e h ih =
          let k : (at + 1) + n ≡ at + suc n = omega arith in
          let m = map q.plain (take n r) in
          scan_emit q ds at b r (q.plain b ∷ []) 0 (step_run b r e) ∙ ap (before (q.plain b ∷ [])) (ih (omega arith) ∙ ap (λ (j : ℕ). before m (scan q ds j 0 (drop n r))) k)
          ∙ before_before (q.plain b ∷ []) m (scan q ds (at + suc n) 0 (drop n r))

-- ---- the same from a place on, as a loop meets it

module _ {A : Type 0} (q : Sequences A) (ds s : List ℕ) (i n : ℕ) (h : n ≤ first (special ds) (drop i s)) (five : length ds ≡ 5) where
  abbrev run : List A
  run = map q.plain (take n (drop i s))

  pub scan_from : scan q ds i 0 (drop i s) ≡ before (map q.plain (take n (drop i s))) (scan q ds (i + n) 0 (drop (i + n) s))
  scan_from = scan_run q ds five i (drop i s) n h ∙ ap (λ (l : List ℕ). before run (scan q ds (i + n) 0 l)) (drop-drop n i s)

  pub scanning_run : (m : ℕ) → i + n ≤ length s → Scanning q ds s i m → Scanning q ds s (i + n) (m + n)
  scanning_run m k g =
      let d = length-drop i s in
      let t = length-take-le n (drop i s) (omega arith) in
      record {
        front = g.front ++ run;
        whole = g.whole ∙ ap (before g.front) scan_from ∙ before_before g.front run (scan q ds (i + n) 0 (drop (i + n) s));
        size = length-append g.front run ∙ ap₂ ◌+◌ g.size (length-map (take n (drop i s)) q.plain ∙ t);
      }

  pub text_run : is_text (scan q ds i 0 (drop i s)) ≡ true
      → (is_text (scan q ds (i + n) 0 (drop (i + n) s)) ≡ true)
      × (text_of (scan q ds i 0 (drop i s)) ≡ map q.plain (take n (drop i s)) ++ text_of (scan q ds (i + n) 0 (drop (i + n) s)))
  text_run good =
      let z = before_text run (scan q ds (i + n) 0 (drop (i + n) s)) (ap is_text (sym scan_from) ∙ good) in
      (z.0, ap text_of scan_from ∙ z.1)

-- in a rest that has no fault a run begins at every byte but an escape delimiter
pub run_begins : {A : Type 0} (q : Sequences A) (ds s : List ℕ) (i : ℕ) → i < length s → is_text (scan q ds i 0 (drop i s)) ≡ true → (get_or s i 0 ≡ escape_of ds → ⊥) → 0 < first (special ds) (drop i s)
unfolding special
run_begins q ds s i h good o =
    let a = text_allowed q ds s i h good o in
    let e = first_past (special ds) s i h (rw (a.0, le-ltb (find (get_or s i 0) ds) 5 a.1)) in
    omega arith

-- and it reaches to the next of them
module _ {A : Type 0} (q : Sequences A) (ds s : List ℕ) (i : ℕ) (five : length ds ≡ 5) (good : is_text (scan q ds i 0 (drop i s)) ≡ true) where
  abbrev end : ℕ
  end = first (special ds) (drop i s)

  no_other : end < find (escape_of ds) (drop i s) → ⊥
  no_other h =
      let n = first_le (eqb (escape_of ds)) (drop i s) in
      let d = length-drop i s in
      let g = get_or-drop i s end 0 in
      let o : get_or s (i + end) 0 ≡ escape_of ds → ⊥ = λ w. eqb-false (escape_of ds) _ (first_before (eqb (escape_of ds)) (drop i s) end h) (sym (g ∙ w)) in
      let b = run_begins q ds s (i + end) (omega arith) (text_run q ds s i end (omega arith) five good).0 o in
      let z = first_here (special ds) s (i + end) (omega arith) (ap (special ds) (sym g) ∙ first_passes (special ds) (drop i s) (omega arith)) in
      omega arith

  pub run_reaches : find (escape_of ds) (drop i s) ≤ first (special ds) (drop i s)
  run_reaches = at (dec_lt end (find (escape_of ds) (drop i s)))
    where
      at : Dec (end < find (escape_of ds) (drop i s)) → find (escape_of ds) (drop i s) ≤ end
      at (yes h) = absurd (no_other h)
      at (no h) = omega arith
