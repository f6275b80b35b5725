-- What becomes of a text once its page is laid. Assumes nothing.
use mathlib.Core.Path.{◌≡◌, refl, sym, ap, subst, ◌∙◌}
use mathlib.Core.List.{List, [], ◌++◌, append-nil}
use mathlib.Core.Bool.{Bool, true, false, cond, ◌&&◌}
use Prim.Native.Nat.{ℕ, ◌+◌, ◌≤◌, ◌<◌}
use native.Mathlib.Omega.{arith}
use lib.Dec.{leb, ltb}
use lib.ListN.{length, take, drop}
use lib.Seq.{take_at}
use borrow.Author.Tests.{le-leb, lt-leb, leb-true}
use Rattle.std.specs.Prelude.{Err, Ok}
use Rattle.alphabet.specs.Answers.{Check, Refusable, passes, fails, fails_if}
use Rattle.alphabet.specs.declared.answers.Fault.{Fault}
use Rattle.alphabet.specs.Filling.{over, put_at}
use Rattle.alphabet.proofs.FillingLaws.{put_fits}
use Rattle.alphabet.specs.declared.answers.Refusal.{Refusal}
use Rattle.alphabet.specs.declared.answers.Refusal.TheVariants.{NoRoom, Layout}
use Rattle.alphabet.proofs.BoolLaws.{false_true}
use Rattle.escaping.specs.Outcomes.{Outcome, text, fault, fitting, answer, filled}
use Rattle.escaping.proofs.OutcomeLaws.{refused, told as text_told, fault_same, never_stops, fitting_stops}
use Rattle.text.specs.Judging.{text_check, text_of}
use Rattle.text.proofs.OutcomeLaws.{judged_text, judged_fault, check_stops, check_goes}
use Rattle.text.specs.Unescape.{before}
use Rattle.format_commands.specs.Items.{Item, items_of}
use Rattle.format_commands.proofs.CommandLaws.{held_own}
use Rattle.formatting.specs.declared.page.Page.{Page}
use Rattle.formatting.specs.Sheet.{Sheet, at_first, laid, unfit, is_empty, shown, end_line, lead, put, end_word, note_cr, Lines, lines, none, written, moves, lines_from, lines_of}
use Rattle.formatting.specs.Formatting.{told, laid_out, formatting}
use Rattle.formatting.specs.Pages.{first_page, closed, out_with, shown_of, Output, Wrote, Matches, Sound, Reaches, Follows, at, nowhere}
use Rattle.formatting.specs.Laying.{found_of, laid_before, Lays, Finishes, concluded, laid_in, Typesets}
use Rattle.formatting.proofs.OutputLaws.{over_more}
use Rattle.formatting.proofs.EndLaws.{shown_is}
use Rattle.formatting.proofs.ActLaws.{closed_same, closes, Closes}

-- ---- the first page, and the last line

pub first_sound : (w : Bool) (t d : List ℕ) → length t ≡ 200 → Sound (first_page w) t d
first_sound w t d b =
    record {
      slight = record { line = omega arith; owed = omega arith; word = omega arith; margin = omega arith; left = omega arith; reach = λ (k : 0 < 0). absurd (omega arith) };
      place = omega arith;
      broad = b;
    }

first_matches : (w : Bool) (t d : List ℕ) → Matches d at_first (first_page w) t d
unfolding is_empty
first_matches w t d =
    record {
      output = record { done = λ (q : false ≡ false). refl; holds = λ (q : false ≡ false) (k : w ≡ true). refl; beyond = λ (q : false ≡ true). absurd (false_true q) };
      size = refl;
      fit = refl;
      line = refl;
      owed = sym (held_own 0 (omega arith));
      word = refl;
      margin = refl;
      left = sym (held_own 0 (omega arith));
      fill = refl;
      centre = refl;
      after = refl;
      bytes = refl;
      narrow = λ (q : true ≡ false). absurd (false_true (sym q));
      begun = λ (q : true ≡ false). absurd (false_true (sym q));
    }

written_note : (s : Sheet) (b : Bool) → written (end_word (note_cr b s)) ≡ written (end_word s)
unfolding written end_word put end_line shown lead
written_note s b = by (is_empty s.word) (leb (length s.line + lead s + length s.word) 200) (s.fill && leb (s.margin + length s.word) 200)
  where
    by : (x y z : Bool)
        → written (cond x (laid (note_cr b s)) (cond y (laid (put (lead (note_cr b s)) (note_cr b s))) (cond z (laid (put s.margin (end_line (note_cr b s)))) unfit)))
        ≡ written (cond x (laid s) (cond y (laid (put (lead s) s)) (cond z (laid (put s.margin (end_line s))) unfit)))
    by true y z = refl
    by false true z = refl
    by false false true = refl
    by false false false = refl

last_lines : (s s' : Sheet) → end_word (note_cr false s) ≡ laid s' → lines_from s [] ≡ lines (s'.out ++ shown s')
unfolding lines_from moves written
last_lines s s' q = sym (written_note s false) ∙ ap written q

pub finishes : (c k r : Page) (t d d' : List ℕ) → k ≡ closed c → r ≡ out_with r.place r.short k → Wrote (shown_of k t) k d r d' → Finishes c t d r d'
finishes c k r t d d' e l w =
    record {
      within = w.within;
      size = w.size;
      still = λ (q : c.writes ≡ false). w.still (ap (λ (p : Page). p.writes) e ∙ (closed_same c).0 ∙ q);
      unfit = ap (λ (p : Page). p.unfit) l ∙ ap (λ (p : Page). p.unfit) e ∙ (closed_same c).1;
      goes = λ (d₀ : List ℕ) (s : Sheet) (m : Matches d₀ s c t d). by d₀ s (closes m);
    }
  where
    by : (d₀ : List ℕ) (s : Sheet) → Closes d₀ s c t d → (u : List ℕ) × (lines_from s [] ≡ lines u) × Output d₀ u c.writes r.place r.short d'
    by d₀ s z =
        let n : Matches d₀ z.sheet k t d = subst (λ (p : Page). Matches d₀ z.sheet p t d) (sym e) z.matches in
        let same : k.writes ≡ c.writes = ap (λ (p : Page). p.writes) e ∙ (closed_same c).0 in (
          z.sheet.out ++ shown z.sheet,
          last_lines s z.sheet z.ends,
          subst (λ (v : Bool). Output d₀ (z.sheet.out ++ shown z.sheet) v r.place r.short d') same
              (subst (λ (v : List ℕ). Output d₀ (z.sheet.out ++ v) k.writes r.place r.short d') (shown_is n) (w.output d₀ z.sheet.out n.size n.output)),
        )

-- ---- a text that was measured or written

fit_text : (room : ℕ) (u : List ℕ) → length u ≤ room → fitting room (text u) ≡ text u
unfolding fitting
fit_text room u h = rw (le-leb (length u) room h)

fit_long : (room : ℕ) (u : List ℕ) → room < length u → fitting room (text u) ≡ fault NoRoom 0
unfolding fitting
fit_long room u h = rw (lt-leb (length u) room h)

fit_fault : (room : ℕ) (k : Refusal) (p : ℕ) → fitting room (fault k p) ≡ fault k p
unfolding fitting
fit_fault room k p = refl

not_text : (k : Refusal) (p : ℕ) (u : List ℕ) → ◌≡◌ {A = Outcome ℕ} (fault k p) (text u) → ⊥
not_text k p u e = let z : ◌≡◌ {A = ℕ} 0 1 = cc in omega arith

text_same : (v y : List ℕ) → text v ≡ text y → v ≡ y
text_same v y e = cc

-- what a page that was laid says of what was found
laid_fails : (found : Check) (c : Page) {f : Fault} → laid_before found c ≡ Err f → found ≡ Err f
laid_fails (Ok _) c q = absurd (let z : ◌≡◌ {A = ℕ} 0 1 = cc in omega arith)
laid_fails (Err g) c q = fault_same q

page_or : Page → Refusable Page → Page
page_or other (Ok c) = c
page_or other (Err f) = other

laid_passes : (found : Check) (c : Page) {p : Page} → laid_before found c ≡ Ok p → (found ≡ passes) × (c ≡ p)
unfolding page_or
laid_passes (Ok _) c q = (refl, ap (page_or c) q)
laid_passes (Err g) c q = absurd (let z : ◌≡◌ {A = ℕ} 0 1 = cc in omega arith)

-- and what it says at the end, where the room was too short
pub concludes_short : (c : Page) {f : Fault} → c.unfit ≡ false → fails_if c.short NoRoom 0 ≡ Err f → concluded c ≡ Err f
unfolding concluded
concludes_short c {f} u q = rw u (by c.short q)
  where
    by : (b : Bool) → fails_if b NoRoom 0 ≡ Err f → cond b (fails {T = ℕ} NoRoom 0) (Ok c.place) ≡ Err f
    by true q = fault_same q
    by false q = absurd (never_stops q)

abbrev counted : ℕ → Refusable ℕ
counted n = Ok n

-- what is given back where the outcome is known
typeset_so : (ds s : List ℕ) (w : Bool) (d d' : List ℕ) (r : Refusable ℕ) (o : Outcome ℕ) → laid_in ds s (length d) ≡ o → r ≡ answer o → length d' ≡ length d → (w ≡ false → d' ≡ d) → ((u : List ℕ) → o ≡ text u → w ≡ true → d' ≡ over u d)
    → Typesets ds s w d r d'
typeset_so ds s w d d' r o e g n f h =
    record { size = n; gives = g ∙ ap answer (sym e); still = f; holds = λ (u : List ℕ) (q : laid_in ds s (length d) ≡ text u) (k : w ≡ true). h u (sym e ∙ q) k }

pub typeset_fails : (ds s : List ℕ) (w : Bool) (t d t' d' : List ℕ) (r : Refusable Page) {f : Fault} → Lays ds s (first_page w) t d r t' d' → r ≡ Err f → Typesets ds s w d (Err f) d'
unfolding answer laid_out found_of fitting
typeset_fails ds s w t d t' d' r {f} l e =
    typeset_so ds s w d d' (Err f) (Err f)
    (ap (λ (o : Outcome Item). fitting (length d) (laid_out o)) (l.reads ∙ ap (λ (q : Check). before l.items (found_of q)) (laid_fails l.found l.page (sym l.gives ∙ e)))) refl l.follows.size l.follows.still
    (λ (u : List ℕ) (q : Err f ≡ text u) (h : w ≡ true). absurd (not_text f.kind f.place u q))

-- no fault was found
pub record Passed (ds s : List ℕ) (c : Page) (t d : List ℕ) (p : Page) (t' d' : List ℕ) : Type 0 where
  pub items : List Item
  pub reads : items_of ds s ≡ before items (text [])
  pub follows : Follows items c t d p t' d'

pub passed : {ds s : List ℕ} {c : Page} {t d : List ℕ} {r : Refusable Page} {p : Page} {t' d' : List ℕ} → Lays ds s c t d r t' d' → r ≡ Ok p → Passed ds s c t d p t' d'
unfolding found_of
passed {c = c} {t = t} {d = d} {t' = t'} {d' = d'} l e =
    let z = laid_passes l.found l.page (sym l.gives ∙ e) in
    record { items = l.items; reads = l.reads ∙ ap (λ (q : Check). before l.items (found_of q)) z.0; follows = subst (λ (x : Page). Follows l.items c t d x t' d') z.1 l.follows }

-- the lines of all the items are those that are left
module _ (ds s : List ℕ) (w : Bool) (t d t' d' : List ℕ) (r : Page) (l : Passed ds s (first_page w) t d r t' d') where
  laid_in_lem : (y : Lines) → lines_of l.items ≡ y → laid_in ds s (length d) ≡ fitting (length d) (told y)
  unfolding laid_out
  laid_in_lem y q =
      ap (λ (o : Outcome Item). fitting (length d) (laid_out o)) (l.reads ∙ ap text (append-nil l.items))
      ∙ ap (λ (v : Lines). fitting (length d) (told v)) q

  module _ (c' : Page) (d'' : List ℕ) (f : Finishes r t' d' c' d'') (q : Refusable ℕ) (g : q ≡ concluded c') where
    kept : w ≡ false → d'' ≡ d
    kept h = f.still (l.follows.writes ∙ h) ∙ l.follows.still h

    sized : length d'' ≡ length d
    sized = f.size ∙ l.follows.size

    -- something could not be laid
    unlaid : lines_of l.items ≡ none → c'.unfit ≡ true → Typesets ds s w d q d''
    unfolding told answer concluded
    unlaid z u =
        typeset_so ds s w d d'' q (fault Layout 0) (laid_in_lem none z ∙ fit_fault (length d) Layout 0) (g ∙ rw u) sized kept
        (λ (v : List ℕ) (x : fault Layout 0 ≡ text v) (h : w ≡ true). absurd (not_text Layout 0 v x))

    -- or the lines are too long, or they are there
    told_lines : (v : List ℕ) → lines_of l.items ≡ lines v → c'.unfit ≡ false → Output d v w c'.place c'.short d'' → Typesets ds s w d q d''
    unfolding told answer concluded
    told_lines v z u o = by c'.short refl
      where
        by : (b : Bool) → c'.short ≡ b → Typesets ds s w d q d''
        by true h =
            typeset_so ds s w d d'' q (fault NoRoom 0) (laid_in_lem (lines v) z ∙ fit_long (length d) v (o.beyond h)) (g ∙ rw (u, h)) sized kept
            (λ (y : List ℕ) (x : fault NoRoom 0 ≡ text y) (k : w ≡ true). absurd (not_text NoRoom 0 y x))
        by false h =
            let n = o.done h in
            let i = f.within in
            let j = sized in
            typeset_so ds s w d d'' q (text v) (laid_in_lem (lines v) z ∙ fit_text (length d) v (omega arith)) (g ∙ rw (u, h) (ap counted n)) sized kept
            (λ (y : List ℕ) (x : text v ≡ text y) (k : w ≡ true). o.holds h k ∙ ap (λ (a : List ℕ). over a d) (text_same v y x))

    pub typeset_passes : Typesets ds s w d q d''
    typeset_passes = by (l.follows.goes d at_first (first_matches w t d))
      where
        by : Reaches d at_first l.items r t' d' → Typesets ds s w d q d''
        by (at s' x m) =
            let z = f.goes d s' m in
            told_lines z.0 (ap lines_of (sym (append-nil l.items)) ∙ x [] ∙ z.1) (f.unfit ∙ m.fit) (subst (λ (b : Bool). Output d z.0 b c'.place c'.short d'') l.follows.writes z.2)
        by (nowhere x u) = unlaid (ap lines_of (sym (append-nil l.items)) ∙ x []) (f.unfit ∙ u)

-- ---- the outcome, case by case

module _ (ds s : List ℕ) (room : ℕ) where
  pub formatting_stops : {f : Fault} → text_check ds s ≡ Err f → formatting ds s room ≡ Err f
  unfolding formatting
  formatting_stops q = check_stops ds s (laid_in ds s room) q

  pub formatting_laid : text_check ds s ≡ passes → formatting ds s room ≡ laid_in ds s room
  unfolding formatting
  formatting_laid q = check_goes ds s (laid_in ds s room) q

-- the walk begins at the first page
pub lays_first : {ds s : List ℕ} (w : Bool) (p : Page) {t d t' d' : List ℕ} {r : Refusable Page} → p ≡ first_page w → Lays ds s p t d r t' d' → Lays ds s (first_page w) t d r t' d'
lays_first {ds} {s} w p {t} {d} {t'} {d'} {r} e l = subst (λ (k : Page). Lays ds s k t d r t' d') e l

-- lines, and the answer to them
lines_answer : (ds s d : List ℕ) (u : List ℕ) (n : ℕ) → laid_in ds s (length d) ≡ text u → length u ≡ n → (counted n ≡ answer (laid_in ds s (length d))) × (over u d ≡ filled (laid_in ds s (length d)) d)
lines_answer ds s d u n y e = let r = text_told d y in (ap counted (sym e) ∙ sym r.0, sym r.1)

-- measured with a fault, or measured and then written
module _ (ds s d d₁ : List ℕ) (f : Refusable ℕ) (m : Typesets ds s false d f d₁) where
  pub format_refused : {g : Fault} → f ≡ Err g → (answer (laid_in ds s (length d)) ≡ Err g) × (d₁ ≡ filled (laid_in ds s (length d)) d)
  format_refused e = let r = refused d (judged_fault (laid_in ds s (length d)) (sym m.gives ∙ e)) in (r.0, m.still refl ∙ sym r.1)

  pub format_written : (n : ℕ) (g : Refusable ℕ) (d₂ : List ℕ) → f ≡ Ok n → Typesets ds s true d₁ g d₂ → (g ≡ answer (laid_in ds s (length d))) × (d₂ ≡ filled (laid_in ds s (length d)) d)
  format_written n g d₂ e w =
      let y = judged_text (laid_in ds s (length d)) n (sym m.gives ∙ e) in
      let u = text_of (laid_in ds s (length d)) in
      let same : d₁ ≡ d = m.still refl in
      (w.gives ∙ ap (λ (v : List ℕ). answer (laid_in ds s (length v))) same, w.holds u (ap (λ (v : List ℕ). laid_in ds s (length v)) same ∙ y.0) refl ∙ ap (over u) same ∙ sym (text_told d y.0).1)

-- written as a draft over p, and handed over to the buffer d
module _ (ds s d p p₁ : List ℕ) (f : Refusable ℕ) (m : Typesets ds s true p f p₁) (n : ℕ) (e : f ≡ Ok n) where
  lines_told : (u : List ℕ) × (laid_in ds s (length p) ≡ text u) × (length u ≡ n)
  lines_told = let y = judged_text (laid_in ds s (length p)) n (sym m.gives ∙ e) in (text_of (laid_in ds s (length p)), y.0, y.1)

  fit_told : (o : Outcome ℕ) (u : List ℕ) (room : ℕ) → fitting room o ≡ text u → (o ≡ text u) × (length u ≤ room)
  unfolding fitting
  fit_told (Err g) u room h = absurd (not_text g.kind g.place u h)
  fit_told (Ok t) u room h = by (leb (length t) room) refl h
    where
      by : (b : Bool) → leb (length t) room ≡ b → cond b (text t) (fault NoRoom 0) ≡ text u → (text t ≡ text u) × (length u ≤ room)
      by true q h = let z = ap length (text_same t u h) in let l = leb-true (length t) room q in (h, omega arith)
      by false q h = absurd (not_text NoRoom 0 u h)

  draft_lines : (laid_out (items_of ds s) ≡ text lines_told.0) × (length lines_told.0 ≤ length p)
  draft_lines = fit_told (laid_out (items_of ds s)) lines_told.0 (length p) lines_told.1

  pub draft_size : n ≤ length p₁
  draft_size = let a = draft_lines.1 in let b = lines_told.2 in let c = m.size in omega arith

  pub draft_short : {b : Bool} {g : Fault} → b ≡ ltb (length d) n → fails_if b NoRoom 0 ≡ Err g → (answer (laid_in ds s (length d)) ≡ Err g) × (filled (laid_in ds s (length d)) d ≡ d)
  draft_short h q = refused d (ap (fitting (length d)) draft_lines.0 ∙ fitting_stops (length d) lines_told.0 (h ∙ ap (ltb (length d)) (sym lines_told.2)) q)

  pub draft_handed : n ≤ length d → (d₁ : List ℕ) → d₁ ≡ put_at d 0 (take n p₁) → (counted n ≡ answer (laid_in ds s (length d))) × (d₁ ≡ filled (laid_in ds s (length d)) d)
  draft_handed h d₁ g =
      let u = lines_told.0 in
      let z = lines_told.2 in
      let r = lines_answer ds s d u n (ap (fitting (length d)) draft_lines.0 ∙ fit_text (length d) u (omega arith)) z in
      let held : take n p₁ ≡ u = ap (take n) (m.holds u lines_told.1 refl) ∙ take_at u (drop (length u) p) n z in
      (r.0, g ∙ ap (put_at d 0) held ∙ (put_fits d u 0 (omega arith)).1 ∙ over_more d [] u d 0 refl refl ∙ r.1)
