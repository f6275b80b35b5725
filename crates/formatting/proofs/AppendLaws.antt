-- Bytes that are put down on the line: the page goes as their items go. Assumes nothing.
use mathlib.Core.Path.{◌≡◌, refl, sym, ap, subst, ◌∙◌}
use mathlib.Core.List.{List, [], ◌∷◌, ◌++◌, map, append_assoc}
use mathlib.Core.Bool.{Bool, true, false, not, ◌||◌}
use Prim.Native.Nat.{ℕ, suc, ◌+◌, ◌≤◌, ◌<◌}
use native.Mathlib.Omega.{arith}
use lib.Dec.{eqb}
use lib.ListN.{length, take, length-append, length-replicate}
use borrow.Author.Tests.{ne_eqb}
use Rattle.alphabet.proofs.BoolLaws.{and_both}
use Rattle.format_commands.specs.Commands.{held_size}
use Rattle.format_commands.specs.Items.{Item, byte}
use Rattle.formatting.specs.declared.page.Page.{Page}
use Rattle.formatting.specs.Sheet.{Sheet, Laid, laid, then_laid, blanks, is_empty, lead, end_word, note_cr, of_word, space, move, moves, written, lines_from}
use Rattle.formatting.specs.Going.{Goes}
use Rattle.formatting.specs.Runs.{clear}
use Rattle.formatting.specs.Pages.{lead_of, reach_of, Slight, line_with, noted, Settled, word, blank, words, ahead, Matches, Sound, Reaches, at, Follows}
use Rattle.formatting.proofs.SheetLaws.{on, lead_at, content, blank_is, Runs, runs_ink, runs_blanks, runs_words}
use Rattle.formatting.proofs.PageLaws.{held_min, reach_exact, length_some}
use Rattle.formatting.proofs.LineLaws.{begins_less, put_down, down_length, put_begins}

-- ---- the numbers stay small

module _ (c : Page) (u : List ℕ) (h : reach_of c + length u ≤ 200) (s : Slight c) where
  some_line : (n o : ℕ) → 0 < n → lead_of (noted false (line_with n o 0 c)) ≡ o
  unfolding lead_of
  some_line n o k = rw (ne_eqb n 0 (λ (e : n ≡ 0). omega arith)) (omega arith)

  pub settled_slight : {c' : Page} → Settled c u c' → Slight c'
  unfolding reach_of lead_of
  settled_slight (word e) =
      record {
        line = s.line;
        owed = s.owed;
        word = omega arith;
        margin = s.margin;
        left = s.left;
        reach = λ k. omega arith;
      }
  settled_slight (blank k q e f z) =
      let n : length u ≡ k + length q = ap length e ∙ length-append (blanks k) q ∙ ap (λ (m : ℕ). m + length q) (length-replicate k 32) in
      record {
        line = s.line;
        owed = omega arith;
        word = omega arith;
        margin = s.margin;
        left = s.left;
        reach = λ k. omega arith;
      }
  settled_slight (words p q k e f i z) =
      let n : length u ≡ length p + (suc k + length q) = ap length e ∙ length-append p (blanks (suc k) ++ q) ∙ ap (λ (m : ℕ). length p + m) (length-append (blanks (suc k)) q ∙ ap (λ (m : ℕ). m + length q) (length-replicate (suc k) 32)) in
      let l = some_line (reach_of c + length p) (suc k) (omega arith) in
      record {
        line = omega arith;
        owed = omega arith;
        word = omega arith;
        margin = s.margin;
        left = s.left;
        reach = λ k. omega arith;
      }

-- ---- the page beside the sheet

-- a byte that is no LF does not ask what stood before it
first_note : (s : Sheet) (b : ℕ) (u : List ℕ) (r : List Item) → clear (b ∷ u) ≡ true → moves s (byte b ∷ r) ≡ moves (note_cr false s) (byte b ∷ r)
unfolding moves move space
first_note s b u r e = by (of_word b) refl
  where
    blank_note : moves s (byte 32 ∷ r) ≡ moves (note_cr false s) (byte 32 ∷ r)
    blank_note = refl

    by : (t : Bool) → of_word b ≡ t → moves s (byte b ∷ r) ≡ moves (note_cr false s) (byte b ∷ r)
    by true q = rw q refl
    by false q =
        let z = blank_is b u q e in
        ap (λ (n : ℕ). moves s (byte n ∷ r)) z ∙ blank_note ∙ ap (λ (n : ℕ). moves (note_cr false s) (byte n ∷ r)) (sym z)

run_note : (s : Sheet) (u : List ℕ) (r : List Item) → 0 < length u → clear u ≡ true → moves s (map byte u ++ r) ≡ moves (note_cr false s) (map byte u ++ r)
run_note s [] r h e = absurd (omega arith)
run_note s (b ∷ u) r h e = first_note s b u (map byte u ++ r) e

empty_length : (l : List ℕ) → length l ≡ 0 → l ≡ []
empty_length [] e = refl
empty_length (x ∷ r) e = absurd (omega arith)

clear_front : (p q : List ℕ) → clear (p ++ q) ≡ true → clear p ≡ true
unfolding clear
clear_front [] q e = refl
clear_front (b ∷ p) q e = let z = and_both (not (eqb b 10 || eqb b 13)) (clear (p ++ q)) e in rw z.0 (clear_front p q z.1)

goes_run : (s s' : Sheet) (u : List ℕ) → ((r : List Item) → moves s (map byte u ++ r) ≡ moves s' r) → Goes (laid s) (map byte u) (laid s')
unfolding lines_from
goes_run s s' u f r = ap (λ (m : Laid). written (then_laid m end_word)) (f r)

module _ {d₀ : List ℕ} {s : Sheet} {c : Page} {t d : List ℕ} (m : Matches d₀ s c t d) (u : List ℕ) (broad : length t ≡ 200) (h : reach_of c + length u ≤ 200) (some : 0 < length u) where
  -- the sheet behind bytes that hold the same line, debt and word
  matches_run : (l' : List ℕ) (o' : ℕ) (w' : List ℕ) (n o w : ℕ) → Runs s s.line s.owed s.word u l' o' w' → n ≡ length l' → o ≡ held_size o' → w ≡ length w'
      → Matches d₀ (on s l' o' w') (noted false (line_with n o w c)) (put_down c t u) d
  unfolding lead
  matches_run l' o' w' n o w g en eo ew =
      let whole : take (length (ahead s ++ u)) (put_down c t u) ≡ ahead s ++ u = put_begins m u broad h in
      let same : content s l' o' w' ≡ ahead s ++ u = g.same ∙ sym (append_assoc (s.line ++ blanks (lead s)) s.word u) in
      let begun : take (length (content s l' o' w')) (put_down c t u) ≡ content s l' o' w' = ap (λ (v : List ℕ). take (length v) (put_down c t u)) same ∙ whole ∙ sym same in
      let long : length (content s l' o' w') ≡ length (ahead s) + length u = ap length same ∙ length-append (ahead s) u in
      let x = (reach_exact m (omega arith)).0 in
      record {
        output = m.output;
        size = m.size;
        fit = m.fit;
        line = en;
        owed = eo;
        word = ew;
        margin = m.margin;
        left = m.left;
        fill = m.fill;
        centre = m.centre;
        after = refl;
        bytes = begins_less (put_down c t u) l' (blanks (lead_at s l' o')) (begins_less (put_down c t u) (l' ++ blanks (lead_at s l' o')) w' begun);
        narrow = λ (e : is_empty w' ≡ false). omega arith;
        begun = λ (e : is_empty w' ≡ false). begun;
      }

  owed_small : c.owed + length u ≤ 200
  unfolding reach_of lead_of
  owed_small = omega arith

  content_length : (p : List ℕ) → length (content s s.line s.owed (s.word ++ p)) ≡ length (ahead s) + length p
  unfolding lead
  content_length p = ap length (sym (append_assoc (s.line ++ blanks (lead s)) s.word p)) ∙ length-append (ahead s) p

  owed_exact : s.owed ≡ c.owed
  unfolding reach_of lead_of
  owed_exact = let a = m.owed in let b = held_min s.owed in omega arith

  -- bytes of the word, blanks and a word, or words that ended
  settled_reaches : {c' : Page} → clear u ≡ true → Settled c u c' → Reaches d₀ s (map byte u) c' (put_down c t u) d
  settled_reaches e (word i) =
      let g = runs_ink s s.line s.word u s.owed i in
      at (on s s.line s.owed (s.word ++ u)) (goes_run s _ u (λ (r : List Item). run_note s u r some e ∙ g.moved r))
      (matches_run s.line s.owed (s.word ++ u) c.line c.owed (c.word + length u) g m.line m.owed (ap (λ (n : ℕ). n + length u) m.word ∙ sym (length-append s.word u)))
  settled_reaches e (blank k q f i z) =
      let w : s.word ≡ [] = empty_length s.word (sym m.word ∙ z) in
      let g : Runs s s.line s.owed s.word u s.line (s.owed + k) q =
      subst (λ (v : List ℕ). Runs s s.line s.owed v u s.line (s.owed + k) q) (sym w)
      (subst (λ (v : List ℕ). Runs s s.line s.owed [] v s.line (s.owed + k) q) (sym f) (runs_blanks s s.line q s.owed k i)) in
      let n : length u ≡ k + length q = ap length f ∙ length-append (blanks k) q ∙ ap (λ (m : ℕ). m + length q) (length-replicate k 32) in
      let o = owed_exact in
      let x = held_min (s.owed + k) in
      let y = owed_small in
      at (on s s.line (s.owed + k) q) (goes_run s _ u (λ (r : List Item). run_note s u r some e ∙ g.moved r))
      (matches_run s.line (s.owed + k) q c.line (c.owed + k) (length q) g m.line (omega arith) refl)
  settled_reaches e (words p q k f fm i z) =
      let n : length u ≡ length p + (suc k + length q) = ap length f ∙ length-append p (blanks (suc k) ++ q) ∙ ap (λ (m : ℕ). length p + m) (length-append (blanks (suc k)) q ∙ ap (λ (m : ℕ). m + length q) (length-replicate (suc k) 32)) in
      let a : length (content s s.line s.owed (s.word ++ p)) ≡ length (ahead s) + length p = content_length p in
      let b = (reach_exact m (omega arith)).0 in
      let l = length-append s.word p in
      let x = m.word in
      let y = held_min (suc k) in
      let bright : clear p ≡ true = clear_front p (blanks (suc k) ++ q) (ap clear (sym f) ∙ e) in
      let g : Runs s s.line s.owed s.word u (content s s.line s.owed (s.word ++ p)) (suc k) q =
      subst (λ (v : List ℕ). Runs s s.line s.owed s.word v (content s s.line s.owed (s.word ++ p)) (suc k) q) (sym f)
      (runs_words s p s.line s.word q s.owed k (length_some (s.word ++ p) (omega arith)) bright fm i (omega arith)) in
      at (on s (content s s.line s.owed (s.word ++ p)) (suc k) q) (goes_run s _ u (λ (r : List Item). run_note s u r some e ∙ g.moved r))
      (matches_run (content s s.line s.owed (s.word ++ p)) (suc k) q (reach_of c + length p) (suc k) (length q) g (omega arith) (omega arith) refl)

settled_same : {c : Page} {u : List ℕ} {c' : Page} → Settled c u c' → (c'.writes ≡ c.writes) × (c'.unfit ≡ c.unfit) × (c'.place ≡ c.place)
settled_same (word i) = (refl, refl, refl)
settled_same (blank k q f i z) = (refl, refl, refl)
settled_same (words p q k f fm i z) = (refl, refl, refl)

-- bytes that fit behind what stands on the line
pub append_follows : (c c' : Page) (t d u t' : List ℕ) → Sound c t d → reach_of c + length u ≤ 200 → 0 < length u → clear u ≡ true → Settled c u c' → t' ≡ put_down c t u → Follows (map byte u) c t d c' t' d
append_follows c c' t d u t' f h n e g q =
    let x = settled_same g in
    subst (λ (v : List ℕ). Follows (map byte u) c t d c' v d) (sym q)
    (record {
      sound = record { slight = settled_slight c u h f.slight g; place = subst (λ (k : ℕ). k ≤ length d) (sym x.2) f.place; broad = down_length c t u f.broad };
      writes = x.0;
      size = refl;
      still = λ (w : c.writes ≡ false). refl;
      spoilt = λ (w : c.unfit ≡ true). x.1 ∙ w;
      goes = λ (d₀ : List ℕ) (s : Sheet) (m : Matches d₀ s c t d). settled_reaches m u f.broad h n e g;
    })
