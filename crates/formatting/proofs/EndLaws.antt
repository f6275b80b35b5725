-- A line that is ended, and a word that goes to the next: the page goes as the sheet goes. Assumes nothing.
use mathlib.Core.Path.{◌≡◌, refl, sym, ap, ap₂, subst, ◌∙◌}
use mathlib.Core.List.{List, [], ◌∷◌, ◌++◌, append_assoc}
use mathlib.Core.Bool.{Bool, true, false, cond, not, ◌&&◌}
use Prim.Native.Nat.{ℕ, ◌+◌, ◌-◌, ◌/◌, ◌≤◌, ◌<◌}
use native.Mathlib.Omega.{arith}
use lib.Dec.{ltb}
use lib.ListN.{length, take, drop, replicate, length-append, length-replicate, length-drop, take-append-drop}
use lib.Seq.{take_at, drop-append_seam, take-append_seam, length-take-le}
use borrow.Author.Tests.{lt-ltb, le-ltb}
use Rattle.alphabet.specs.Filling.{put_at}
use Rattle.alphabet.proofs.FillingLaws.{put_fits}
use Rattle.format_commands.proofs.CommandLaws.{held_own}
use Rattle.formatting.specs.declared.page.Page.{Page}
use Rattle.formatting.specs.Sheet.{Sheet, blanks, is_empty, shown, lead, end_line}
use Rattle.formatting.specs.Pages.{lead_of, reach_of, Slight, new_line, indent_of, out_with, shown_of, Output, Wrote, ahead, Matches, Sound, Wraps}
use Rattle.formatting.proofs.SheetLaws.{ahead_length}
use Rattle.formatting.proofs.PageLaws.{reach_exact, reach_least, some_length, lead_most}
use Rattle.formatting.proofs.OutputLaws.{put_length}
use Rattle.formatting.proofs.LineLaws.{begins_more}

-- ---- the word's bytes

-- what was kept of a word is the word
pub kept_word : (k w k' : List ℕ) → length w ≤ length k → k' ≡ put_at k 0 w → take (length w) k' ≡ w
kept_word k w k' h e = ap (take (length w)) (e ∙ (put_fits k w 0 (omega arith)).1) ∙ take-append_seam w (drop (0 + length w) k)

pub kept_part : (k l k' : List ℕ) (from word n : ℕ) → n ≡ word → from + word ≤ length l → word ≤ length k → k' ≡ put_at k 0 (take n (drop from l)) → take word k' ≡ take word (drop from l)
kept_part k l k' from word n e h b f =
    let d = length-drop from l in
    let x : length (take word (drop from l)) ≡ word = length-take-le word (drop from l) (omega arith) in
    ap (λ (i : ℕ). take i k') (sym x) ∙ kept_word k (take word (drop from l)) k' (omega arith) (f ∙ ap (λ (i : ℕ). put_at k 0 (take i (drop from l))) e)

-- blanks, and a word behind them
pub moved_word : (t w t' t'' : List ℕ) (n : ℕ) → length t ≡ 200 → n + length w ≤ 200 → t' ≡ put_at t 0 (blanks n) → t'' ≡ put_at t' n w → take (length (blanks n ++ w)) t'' ≡ blanks n ++ w
moved_word t w t' t'' n b h e f =
    let l = length-replicate {A = ℕ} n 32 in
    let a = ap length e ∙ put_length t (blanks n) 0 in
    ap (take (length (blanks n ++ w))) (f ∙ (put_fits t' w n (omega arith)).1)
    ∙ begins_more t' (blanks n) w n (sym l) (ap (take n) (e ∙ (put_fits t (blanks n) 0 (omega arith)).1) ∙ take_at (blanks n) (drop (0 + length (blanks n)) t) n l) (omega arith)

-- ---- the line as it is shown

not_empty_ltb : (l : List ℕ) → not (is_empty l) ≡ ltb 0 (length l)
unfolding is_empty
not_empty_ltb [] = sym (le-ltb 0 0 (omega arith))
not_empty_ltb (x ∷ r) = sym (lt-ltb 0 (length (x ∷ r)) (omega arith))

-- a sheet at the start of a line
abbrev pub line_of : List ℕ → Sheet → Sheet
line_of out s = record { out = out; line = []; owed = 0; word = s.word; margin = s.margin; left = s.margin; fill = s.fill; centre = false; after_cr = s.after_cr }

lead_line : (out : List ℕ) (s : Sheet) → lead (line_of out s) ≡ s.margin
unfolding lead is_empty
lead_line out s = omega arith

module _ {d₀ : List ℕ} {s : Sheet} {c : Page} {t d : List ℕ} (m : Matches d₀ s c t d) where
  pub shown_is : shown_of c t ≡ shown s
  unfolding indent_of shown
  shown_is =
      rw (m.centre, m.line, m.bytes)
      (ap (λ (q : Bool). blanks (cond (s.centre && q) ((200 - length s.line) / 2) 0) ++ s.line) (sym (not_empty_ltb s.line)) ∙ by (s.centre && not (is_empty s.line)))
    where
      by : (q : Bool) → blanks (cond q ((200 - length s.line) / 2) 0) ++ s.line ≡ cond q (blanks ((200 - length s.line) / 2) ++ s.line) s.line
      by true = refl
      by false = refl

  -- the line and n LF were written, and the word that is left stands behind the margin
  pub line_ended : (n : ℕ) (out : List ℕ) (c' : Page) (t' d' : List ℕ) → out ≡ s.out ++ (shown s ++ replicate n 10) → s.margin ≤ 200
      → c' ≡ new_line (out_with c'.place c'.short c) → Wrote (shown_of c t ++ replicate n 10) c d c' d'
      → (is_empty s.word ≡ false → (s.margin + length s.word ≤ 200) × (take (length (blanks s.margin ++ s.word)) t' ≡ blanks s.margin ++ s.word))
      → Matches d₀ (line_of out s) c' t' d'
  line_ended n out c' t' d' eo hm e w b =
      subst (λ (k : Page). Matches d₀ (line_of out s) k t' d') (sym e)
      (record {
        output = subst (λ (v : List ℕ). Output d₀ v c.writes c'.place c'.short d') (ap (λ (v : List ℕ). s.out ++ (v ++ replicate n 10)) shown_is ∙ sym eo) (w.output d₀ s.out m.size m.output);
        size = w.size ∙ m.size;
        fit = m.fit;
        line = refl;
        owed = sym (held_own 0 (omega arith));
        word = m.word;
        margin = m.margin;
        left = m.margin ∙ sym (held_own s.margin (omega arith));
        fill = m.fill;
        centre = refl;
        after = m.after;
        bytes = refl;
        narrow = λ (q : is_empty s.word ≡ false). let x = (b q).0 in let y = ahead_length (line_of out s) in let z = lead_line out s in omega arith;
        begun = λ (q : is_empty s.word ≡ false). ap (λ (k : ℕ). take (length (blanks k ++ s.word)) t') (lead_line out s) ∙ (b q).1 ∙ ap (λ (k : ℕ). blanks k ++ s.word) (sym (lead_line out s));
      })

  -- the word stands behind the line and its debt
  pub word_bytes : is_empty s.word ≡ false → take c.word (drop (c.line + lead_of c) t) ≡ s.word
  word_bytes q =
      let h = m.narrow q in
      let x = reach_exact m (let r = reach_least m in omega arith) in
      let front : length (s.line ++ blanks (lead s)) ≡ c.line + lead_of c =
      length-append s.line (blanks (lead s)) ∙ ap (λ (k : ℕ). length s.line + k) (length-replicate (lead s) 32) ∙ ap₂ ◌+◌ (sym m.line) x.1 in
      let whole : t ≡ (s.line ++ blanks (lead s)) ++ (s.word ++ drop (length (ahead s)) t) =
      sym (take-append-drop (length (ahead s)) t) ∙ ap (λ (v : List ℕ). v ++ drop (length (ahead s)) t) (m.begun q) ∙ append_assoc (s.line ++ blanks (lead s)) s.word (drop (length (ahead s)) t) in
      ap₂ (λ (n k : ℕ). take n (drop k t)) m.word (sym front)
      ∙ ap (λ (v : List ℕ). take (length s.word) (drop (length (s.line ++ blanks (lead s))) v)) whole
      ∙ ap (take (length s.word)) (drop-append_seam (s.line ++ blanks (lead s)) (s.word ++ drop (length (ahead s)) t))
      ∙ take-append_seam s.word (drop (length (ahead s)) t)

-- ---- the numbers at the start of a line

reach_line : (c : Page) (n : ℕ) (t : Bool) → reach_of (new_line (out_with n t c)) ≡ c.margin + c.word
unfolding reach_of lead_of
reach_line c n t = omega arith

pub reach_new : (c c' : Page) → c' ≡ new_line (out_with c'.place c'.short c) → reach_of c' ≡ c.margin + c.word
reach_new c c' e = ap reach_of e ∙ reach_line c c'.place c'.short

pub slight_new : (c c' : Page) → Slight c → c' ≡ new_line (out_with c'.place c'.short c) → (0 < c.word → c.margin + c.word ≤ 200) → Slight c'
slight_new c c' s e h =
    let r = reach_new c c' e in
    let l = ap (λ (k : Page). k.line) e in
    let o = ap (λ (k : Page). k.owed) e in
    let w = ap (λ (k : Page). k.word) e in
    let g = ap (λ (k : Page). k.margin) e in
    let f = ap (λ (k : Page). k.left) e in
    let sm = s.margin in
    let sw = s.word in
    record {
      line = omega arith;
      owed = omega arith;
      word = omega arith;
      margin = omega arith;
      left = omega arith;
      reach = λ (k : 0 < c'.word). let z = h (omega arith) in omega arith;
    }

pub unfit_new : (c c' : Page) → c' ≡ new_line (out_with c'.place c'.short c) → (c'.unfit ≡ c.unfit) × (c'.writes ≡ c.writes)
unfit_new c c' e = (ap (λ (k : Page). k.unfit) e, ap (λ (k : Page). k.writes) e)

-- ---- a word that goes to the next line

module _ (c c' : Page) (t d t' d' : List ℕ) (f : Sound c t d) (h : c.margin + c.word ≤ 200) (e : c' ≡ new_line (out_with c'.place c'.short c))
    (w : Wrote (shown_of c t ++ 10 ∷ []) c d c' d') (broad : length t' ≡ 200) where
  wraps_so : ((d₀ : List ℕ) (s : Sheet) → Matches d₀ s c t d → Matches d₀ (end_line s) c' t' d') → Wraps c t d c' t' d'
  wraps_so g =
      record {
        sound = record { slight = slight_new c c' f.slight e (λ (k : 0 < c.word). h); place = w.within; broad = broad };
        writes = (unfit_new c c' e).1;
        size = w.size;
        still = w.still;
        spoilt = λ (q : c.unfit ≡ true). (unfit_new c c' e).0 ∙ q;
        reach = reach_new c c' e;
        goes = g;
      }

  ends : (d₀ : List ℕ) (s : Sheet) → Matches d₀ s c t d → (is_empty s.word ≡ false → take (length (blanks s.margin ++ s.word)) t' ≡ blanks s.margin ++ s.word) → Matches d₀ (end_line s) c' t' d'
  unfolding end_line
  ends d₀ s m b =
      let g = m.margin in
      let x = m.word in
      let sm = f.slight.margin in
      line_ended m 1 (s.out ++ shown s ++ 10 ∷ []) c' t' d' (append_assoc s.out (shown s) (10 ∷ [])) (omega arith) e w (λ (q : is_empty s.word ≡ false). (omega arith, b q))

  pub wraps_none : c.word ≡ 0 → Wraps c t d c' t' d'
  wraps_none z = wraps_so (λ (d₀ : List ℕ) (s : Sheet) (m : Matches d₀ s c t d). ends d₀ s m (λ (q : is_empty s.word ≡ false). let k = some_length s.word q in let x = m.word in absurd (omega arith)))

  pub wraps_some : (n : ℕ) → n ≡ c.line + lead_of c → take (length (blanks c.margin ++ take c.word (drop n t))) t' ≡ blanks c.margin ++ take c.word (drop n t) → Wraps c t d c' t' d'
  wraps_some n en b =
      wraps_so (λ (d₀ : List ℕ) (s : Sheet) (m : Matches d₀ s c t d). ends d₀ s m (λ (q : is_empty s.word ≡ false).
      let v : blanks c.margin ++ take c.word (drop n t) ≡ blanks s.margin ++ s.word =
      ap₂ (λ (k : ℕ) (u : List ℕ). blanks k ++ u) m.margin (ap (λ (k : ℕ). take c.word (drop k t)) en ∙ word_bytes m q) in
      ap (λ (u : List ℕ). take (length u) t') (sym v) ∙ b ∙ v))

-- where a word begins
pub from_small : (c : Page) → Slight c → (c.line + lead_of c ≤ 602) × (0 < c.word → c.line + lead_of c + c.word ≤ 200)
unfolding reach_of
from_small c s = let l = lead_most c s in let k = s.line in (omega arith, s.reach)
