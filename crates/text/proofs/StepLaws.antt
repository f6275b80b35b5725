-- The scan of a text, a step at a time, for any set of sequences. Assumes nothing.
use mathlib.Core.Path.{◌≡◌, refl, sym, ap, subst, ◌∙◌}
use mathlib.Core.List.{List, [], ◌∷◌, ◌++◌, append_assoc, append-nil}
use mathlib.Core.Bool.{Bool, true, false, cond}
use Prim.Native.Nat.{ℕ, zero, suc, ◌+◌, ◌≤◌, ◌<◌}
use native.Mathlib.Nat.{add-zero}
use native.Mathlib.Omega.{arith}
use lib.Dec.{ltb, eqb}
use lib.ListN.{length, get_or, take, drop, length-append, drop_of_length-le}
use lib.Seq.{drop-drop, length-take-le}
use borrow.Author.Tests.{eq-eqb, ne_eqb, lt-ltb, le-ltb, ltb-true, ltb-false}
use Rattle.std.specs.Prelude.{Ok, Err}
use Rattle.alphabet.proofs.BoolLaws.{false_true}
use Rattle.alphabet.proofs.ListLaws.{drop_next}
use Rattle.alphabet.specs.Lists.{find}
use Rattle.alphabet.specs.Bytes.{printable}
use Rattle.alphabet.specs.Answers.{Refusable}
use Rattle.alphabet.proofs.CheckLaws.{fails_same}
use Rattle.alphabet.specs.declared.answers.Fault.{Fault}
use Rattle.alphabet.specs.declared.answers.Refusal.{Refusal}
use Rattle.alphabet.specs.declared.answers.Refusal.TheVariants.{NotAllowed, Separator, UnknownEscape, UnclosedEscape}
use Rattle.escaping.specs.Escape.{escape_of}
use Rattle.text.specs.Unescape.{Sequences, plain_text, Step, stop, emit, sequence, step, before, scan}
use Rattle.escaping.specs.Outcomes.{Outcome, text, fault}
use Rattle.text.specs.Judging.{is_text, text_of, seen}
use Rattle.text.specs.declared.unescaping.Said.{Said}
use Rattle.text.proofs.SequenceLaws.{meaning_short}

-- ---- what a step is

pub sequence_known : {A : Type 0} (q : Sequences A) (ds r : List ℕ) (n : ℕ) → n < length r → q.known (take n r) ≡ true → sequence q ds r n ≡ emit (q.meaning ds (take n r)) (n + 1)
unfolding sequence
sequence_known q ds r n h k = rw (lt-ltb _ _ h) (rw k)

module _ {A : Type 0} (q : Sequences A) (ds : List ℕ) (b : ℕ) (r : List ℕ) where
  pub step_opens : b ≡ escape_of ds → step q ds b r ≡ sequence q ds r (find (escape_of ds) r)
  unfolding step
  step_opens o = rw (eq-eqb b (escape_of ds) o)

  pub step_known : (n : ℕ) → b ≡ escape_of ds → find (escape_of ds) r ≡ n → n < length r → q.known (take n r) ≡ true → step q ds b r ≡ emit (q.meaning ds (take n r)) (n + 1)
  unfolding step sequence
  step_known n o e h k = rw (eq-eqb b (escape_of ds) o) (rw e (rw (lt-ltb _ _ h) (rw k)))

  pub step_unknown : (n : ℕ) → b ≡ escape_of ds → find (escape_of ds) r ≡ n → n < length r → q.known (take n r) ≡ false → step q ds b r ≡ stop UnknownEscape
  unfolding step sequence
  step_unknown n o e h k = rw (eq-eqb b (escape_of ds) o) (rw e (rw (lt-ltb _ _ h) (rw k)))

  pub step_unclosed : b ≡ escape_of ds → length r ≤ find (escape_of ds) r → step q ds b r ≡ stop UnclosedEscape
  unfolding step sequence
  step_unclosed o h = rw (eq-eqb b (escape_of ds) o) (rw (le-ltb _ _ h))

  pub step_unprintable : (b ≡ escape_of ds → ⊥) → printable b ≡ false → step q ds b r ≡ stop NotAllowed
  unfolding step
  step_unprintable n a = rw (ne_eqb b (escape_of ds) n) (rw a)

  pub step_separator : (b ≡ escape_of ds → ⊥) → printable b ≡ true → find b ds < 5 → step q ds b r ≡ stop Separator
  unfolding step
  step_separator n a h = rw (ne_eqb b (escape_of ds) n) (rw a (rw (lt-ltb _ _ h)))

  pub step_plain : (b ≡ escape_of ds → ⊥) → printable b ≡ true → 5 ≤ find b ds → step q ds b r ≡ emit (q.plain b ∷ []) 0
  unfolding step
  step_plain n a h = rw (ne_eqb b (escape_of ds) n) (rw a (rw (le-ltb _ _ h)))

-- ---- what holds of every step that says something: what holds of a plain byte, and of each sequence that is closed and known

abbrev Emits : {A : Type 0} → (List A → ℕ → Type 0) → Step A → Type 0
Emits P (stop k) = Unit {0}
Emits P (emit xs k) = P xs k

module _ {A : Type 0} (q : Sequences A) (ds : List ℕ) (b : ℕ) (r : List ℕ) (P : List A → ℕ → Type 0)
    (one : P (q.plain b ∷ []) 0) (more : (n : ℕ) → n < length r → q.known (take n r) ≡ true → P (q.meaning ds (take n r)) (n + 1)) where
  sequence_emits : (n : ℕ) → Emits P (sequence q ds r n)
  unfolding sequence
  sequence_emits n = at (ltb n (length r)) refl (q.known (take n r)) refl
    where
      at : (t : Bool) → ltb n (length r) ≡ t → (u : Bool) → q.known (take n r) ≡ u
          → Emits P (cond t (cond u (emit (q.meaning ds (take n r)) (n + 1)) (stop UnknownEscape)) (stop UnclosedEscape))
      at true e true f = more n (ltb-true n (length r) e) f
      at true e false f = tt
      at false e u f = tt

  step_all : Emits P (step q ds b r)
  unfolding step
  step_all = at (eqb b (escape_of ds)) (printable b) (ltb (find b ds) 5)
    where
      at : (t u v : Bool) → Emits P (cond t (sequence q ds r (find (escape_of ds) r)) (cond u (cond v (stop Separator) (emit (q.plain b ∷ []) 0)) (stop NotAllowed)))
      at true u v = sequence_emits (find (escape_of ds) r)
      at false true true = tt
      at false true false = one
      at false false v = tt

  pub step_emits : (xs : List A) (k : ℕ) → step q ds b r ≡ emit xs k → P xs k
  step_emits xs k e = subst (Emits P) e step_all

-- ---- how far a step goes

pub step_reaches : {A : Type 0} (q : Sequences A) (ds : List ℕ) (b : ℕ) (r : List ℕ) (xs : List A) (k : ℕ) → step q ds b r ≡ emit xs k → k ≤ length r
step_reaches {A} q ds b r = step_emits q ds b r (λ (xs : List A) (k : ℕ). k ≤ length r) (omega arith) (λ n h e. omega arith)

-- and in plain text, how much it says
pub step_bounds : (ds : List ℕ) (b : ℕ) (r xs : List ℕ) (k : ℕ) → step plain_text ds b r ≡ emit xs k → (length xs ≤ k + 1) × (k ≤ length r)
step_bounds ds b r xs k e = (step_emits plain_text ds b r (λ (xs : List ℕ) (k : ℕ). length xs ≤ k + 1) (omega arith) short xs k e, step_reaches plain_text ds b r xs k e)
  where
    short : (n : ℕ) → n < length r → plain_text.known (take n r) ≡ true → length (plain_text.meaning ds (take n r)) ≤ (n + 1) + 1
    short n h e =
        let l = length-take-le n r (omega arith) in
        let m = meaning_short ds (take n r) in
        omega arith

-- what the code's step says
pub seen_fault : (at : ℕ) {f : Fault} (t : Step ℕ) → seen at t ≡ Err f → (t ≡ stop f.kind) × (at ≡ f.place)
unfolding seen
seen_fault at (stop j) e = let q = fails_same e in (ap (λ (k : Refusal). stop k) q.0, q.1)
seen_fault at (emit xs j) e = absurd (let z : ◌≡◌ {A = ℕ} 0 1 = cc in omega arith)

said_or : Said → Refusable Said → Said
said_or other (Ok said) = said
said_or other (Err f) = other

pub seen_bytes : (at : ℕ) {said : Said} (t : Step ℕ) → seen at t ≡ Ok said → (xs : List ℕ) × (t ≡ emit xs said.skip) × (length xs ≡ said.length)
unfolding seen said_or
seen_bytes at (stop j) e = absurd (let z : ◌≡◌ {A = ℕ} 0 1 = cc in omega arith)
seen_bytes at {said = said} (emit xs j) e = let q = ap (said_or said) e in (xs, ap (λ (s : Said). emit xs s.skip) q, ap (λ (s : Said). s.length) q)

-- ---- something said before an outcome

pub before_before : {A : Type 0} (xs ys : List A) (r : Outcome A) → before xs (before ys r) ≡ before (xs ++ ys) r
before_before xs ys (Ok t) = ap text (sym (append_assoc xs ys t))
before_before xs ys (Err f) = refl

pub before_none : {A : Type 0} (r : Outcome A) → r ≡ before [] r
before_none (Ok t) = refl
before_none (Err f) = refl

pub before_text : {A : Type 0} (xs : List A) (r : Outcome A) → is_text (before xs r) ≡ true → (is_text r ≡ true) × (text_of (before xs r) ≡ xs ++ text_of r)
unfolding is_text text_of
before_text xs (Ok t) e = (refl, refl)
before_text xs (Err f) e = false_true e

text_not_fault : {A : Type 0} (r : Outcome A) (k : Refusal) (p : ℕ) → is_text r ≡ true → r ≡ fault k p → ⊥
unfolding is_text
text_not_fault (Ok t) k p e q = let z : ◌≡◌ {A = ℕ} 0 1 = cc in omega arith
text_not_fault (Err f) k p e q = false_true e

-- ---- the scan

module _ {A : Type 0} (q : Sequences A) (ds : List ℕ) where
  pub scan_emit : (at b : ℕ) (r : List ℕ) (xs : List A) (k : ℕ) → step q ds b r ≡ emit xs k → scan q ds at 0 (b ∷ r) ≡ before xs (scan q ds (at + 1) k r)
  unfolding scan
  scan_emit at b r xs k e = rw e

  pub scan_stop : (at b : ℕ) (r : List ℕ) (k : Refusal) → step q ds b r ≡ stop k → scan q ds at 0 (b ∷ r) ≡ fault k at
  unfolding scan
  scan_stop at b r k e = rw e

  pub scan_skip : (at k : ℕ) (s : List ℕ) → scan q ds at k s ≡ scan q ds (at + k) 0 (drop k s)
  unfolding scan
  scan_skip at zero s = ap (λ (n : ℕ). scan q ds n 0 s) (sym (add-zero at))
  scan_skip at (suc k) [] = refl
  scan_skip at (suc k) (b ∷ r) =
      let e : (at + 1) + k ≡ at + suc k = omega arith in
      scan_skip (at + 1) k r ∙ ap (λ (n : ℕ). scan q ds n 0 (drop k r)) e

  -- ---- the rest of the scan, from i on

  module _ (s : List ℕ) (i : ℕ) where
    -- past one step
    pub rest_emit : (i' k : ℕ) (xs : List A) → i < length s → step q ds (get_or s i 0) (drop (i + 1) s) ≡ emit xs k → i' ≡ (i + 1) + k
        → scan q ds i 0 (drop i s) ≡ before xs (scan q ds i' 0 (drop i' s))
    rest_emit i' k xs h e ei =
        ap (scan q ds i 0) (drop_next s i h) ∙ scan_emit i (get_or s i 0) (drop (i + 1) s) xs k e
        ∙ ap (before xs) (scan_skip (i + 1) k (drop (i + 1) s) ∙ ap (scan q ds ((i + 1) + k) 0) (drop-drop k (i + 1) s))
        ∙ ap (λ (n : ℕ). before xs (scan q ds n 0 (drop n s))) (sym ei)

    -- that stops
    pub rest_stop : (k : Refusal) → i < length s → step q ds (get_or s i 0) (drop (i + 1) s) ≡ stop k → scan q ds i 0 (drop i s) ≡ fault k i
    rest_stop k h e = ap (scan q ds i 0) (drop_next s i h) ∙ scan_stop i (get_or s i 0) (drop (i + 1) s) k e

    -- of which there is nothing
    pub scan_end : length s ≤ i → scan q ds i 0 (drop i s) ≡ text []
    unfolding scan
    scan_end h = rw (drop_of_length-le s h)

-- ---- a scan that has come to place i and has said n things so far

pub record Scanning {A : Type 0} (q : Sequences A) (ds s : List ℕ) (i n : ℕ) : Type 0 where
  pub front : List A
  pub whole : scan q ds 0 0 s ≡ before front (scan q ds i 0 (drop i s))
  pub size : length front ≡ n

pub scanning_start : {A : Type 0} (q : Sequences A) (ds s : List ℕ) → Scanning q ds s 0 0
scanning_start q ds s = record { front = []; whole = before_none (scan q ds 0 0 s); size = refl }

module _ {A : Type 0} {q : Sequences A} {ds s : List ℕ} {i n : ℕ} where
  pub scanning_more : (xs : List A) (k i' n' : ℕ) → Scanning q ds s i n → i < length s → step q ds (get_or s i 0) (drop (i + 1) s) ≡ emit xs k
      → i' ≡ (i + 1) + k → n' ≡ n + length xs → Scanning q ds s i' n'
  scanning_more xs k i' n' g h e ei en =
      record {
        front = g.front ++ xs;
        whole = g.whole ∙ ap (before g.front) (rest_emit q ds s i i' k xs h e ei) ∙ before_before g.front xs (scan q ds i' 0 (drop i' s));
        size = length-append g.front xs ∙ ap (λ (m : ℕ). m + length xs) g.size ∙ sym en;
      }

  pub scanning_stop : (k : Refusal) → Scanning q ds s i n → i < length s → step q ds (get_or s i 0) (drop (i + 1) s) ≡ stop k → scan q ds 0 0 s ≡ fault k i
  scanning_stop k g h e = g.whole ∙ ap (before g.front) (rest_stop q ds s i k h e)

  pub scanning_end : (g : Scanning q ds s i n) → length s ≤ i → scan q ds 0 0 s ≡ text g.front
  scanning_end g h = g.whole ∙ ap (before g.front) (scan_end q ds s i h) ∙ ap text (append-nil g.front)

-- ---- a rest that has no fault

module _ {A : Type 0} (q : Sequences A) (ds s : List ℕ) (i : ℕ) (h : i < length s) (good : is_text (scan q ds i 0 (drop i s)) ≡ true) where
  text_step : (k : Refusal) → step q ds (get_or s i 0) (drop (i + 1) s) ≡ stop k → ⊥
  text_step k e = text_not_fault (scan q ds i 0 (drop i s)) k i good (rest_stop q ds s i k h e)

  pub text_past : (i' k : ℕ) (xs : List A) → step q ds (get_or s i 0) (drop (i + 1) s) ≡ emit xs k → i' ≡ (i + 1) + k
      → (is_text (scan q ds i' 0 (drop i' s)) ≡ true) × (text_of (scan q ds i 0 (drop i s)) ≡ xs ++ text_of (scan q ds i' 0 (drop i' s)))
  text_past i' k xs e ei =
      let o = rest_emit q ds s i i' k xs h e ei in
      let z = before_text xs (scan q ds i' 0 (drop i' s)) (ap is_text (sym o) ∙ good) in
      (z.0, ap text_of o ∙ z.1)

  -- at an escape delimiter the sequence is closed and known
  pub text_opens : get_or s i 0 ≡ escape_of ds
      → (find (escape_of ds) (drop (i + 1) s) < length (drop (i + 1) s)) × (q.known (take (find (escape_of ds) (drop (i + 1) s)) (drop (i + 1) s)) ≡ true)
  text_opens o = at (ltb n (length r)) refl (q.known (take n r)) refl
    where
      r : List ℕ
      r = drop (i + 1) s

      n : ℕ
      n = find (escape_of ds) r

      at : (t : Bool) → ltb n (length r) ≡ t → (u : Bool) → q.known (take n r) ≡ u → (n < length r) × (q.known (take n r) ≡ true)
      at true e true f = (ltb-true n (length r) e, f)
      at true e false f = absurd (text_step UnknownEscape (step_unknown q ds (get_or s i 0) r n o refl (ltb-true n (length r) e) f))
      at false e u f = absurd (text_step UnclosedEscape (step_unclosed q ds (get_or s i 0) r o (ltb-false n (length r) e)))

  -- at any other byte it is plain
  pub text_allowed : (get_or s i 0 ≡ escape_of ds → ⊥) → (printable (get_or s i 0) ≡ true) × (5 ≤ find (get_or s i 0) ds)
  text_allowed o = at (printable (get_or s i 0)) refl (ltb (find (get_or s i 0) ds) 5) refl
    where
      b : ℕ
      b = get_or s i 0

      r : List ℕ
      r = drop (i + 1) s

      at : (t : Bool) → printable b ≡ t → (u : Bool) → ltb (find b ds) 5 ≡ u → (printable b ≡ true) × (5 ≤ find b ds)
      at true e true f = absurd (text_step Separator (step_separator q ds b r o e (ltb-true (find b ds) 5 f)))
      at true e false f = (e, ltb-false (find b ds) 5 f)
      at false e u f = absurd (text_step NotAllowed (step_unprintable q ds b r o e))
