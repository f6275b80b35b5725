-- One byte more of a word: it fits, it takes the word to the next line, or no line can take it. Assumes nothing.
use mathlib.Core.Path.{◌≡◌, refl, sym, ap, ◌∙◌}
use mathlib.Core.List.{List, [], ◌∷◌, ◌++◌}
use mathlib.Core.Bool.{Bool, true, false, not, ◌&&◌, ◌||◌}
use Prim.Native.Nat.{ℕ, ◌+◌, ◌≤◌}
use native.Mathlib.Omega.{arith}
use lib.Dec.{leb, ltb, eqb}
use lib.ListN.{length, length-append}
use borrow.Author.Tests.{ltb-false, lt-leb}
use Rattle.alphabet.proofs.BoolLaws.{false_true}
use Rattle.format_commands.specs.Items.{Item, byte}
use Rattle.formatting.specs.declared.page.Page.{Page}
use Rattle.formatting.specs.Sheet.{Sheet, lead, end_line, add_byte, of_word}
use Rattle.formatting.specs.Runs.{clear}
use Rattle.formatting.specs.Pages.{lead_of, reach_of, Slight, Matches, Sound, Reaches, at, nowhere, Follows, Wraps}
use Rattle.formatting.proofs.SheetLaws.{ahead_length, Passes, Stuck, goes_early, goes_stuck, snoc_some}
use Rattle.formatting.proofs.PageLaws.{reach_least}

pub clear_word : (b : ℕ) → of_word b ≡ true → clear (b ∷ []) ≡ true
unfolding clear
clear_word b e = by (eqb b 32) (eqb b 13) (eqb b 10) e
  where
    by : (x y z : Bool) → not (x || (y || z)) ≡ true → (not (z || y) && true) ≡ true
    by true y z e = false_true e
    by false true true e = e
    by false true false e = e
    by false false true e = e
    by false false false e = refl

passes : {d₀ : List ℕ} {s : Sheet} {c : Page} {t d : List ℕ} (b : ℕ) → Matches d₀ s c t d → 200 ≤ reach_of c → Passes (add_byte b s)
unfolding lead
passes {d₀} {s} {c} b m h =
    let r = reach_least m in
    let a = ahead_length s in
    let n = length-append s.word (b ∷ []) in
    (snoc_some s.word b, omega arith)

module _ (b : ℕ) (ink : of_word b ≡ true) (c : Page) (t d : List ℕ) (full : 200 ≤ reach_of c) where
  pub grow_wraps : (k c' : Page) (t₁ d₁ t' d' : List ℕ) → c.fill ≡ true → Wraps c t d k t₁ d₁ → Follows (byte b ∷ []) k t₁ d₁ c' t' d' → Follows (byte b ∷ []) c t d c' t' d'
  grow_wraps k c' t₁ d₁ t' d' e w f =
      record {
        sound = f.sound;
        writes = f.writes ∙ w.writes;
        size = f.size ∙ w.size;
        still = λ (q : c.writes ≡ false). f.still (w.writes ∙ q) ∙ w.still q;
        spoilt = λ (q : c.unfit ≡ true). f.spoilt (w.spoilt q);
        goes = λ (d₀ : List ℕ) (s : Sheet) (m : Matches d₀ s c t d). by d₀ s m (f.goes d₀ (end_line s) (w.goes d₀ s m));
      }
    where
      by : (d₀ : List ℕ) (s : Sheet) → Matches d₀ s c t d → Reaches d₀ (end_line s) (byte b ∷ []) c' t' d' → Reaches d₀ s (byte b ∷ []) c' t' d'
      by d₀ s m (at s' g n) = at s' (λ (r : List Item). goes_early s b ink (passes b m full) (sym m.fill ∙ e) r ∙ g r) n
      by d₀ s m (nowhere g q) = nowhere (λ (r : List Item). goes_early s b ink (passes b m full) (sym m.fill ∙ e) r ∙ g r) q

  abbrev spoilt : Page
  spoilt = record { writes = c.writes; place = c.place; short = c.short; unfit = true; line = c.line; owed = c.owed; word = c.word; margin = c.margin; left = c.left; fill = c.fill; centre = c.centre; after = c.after }

  stuck_so : {d₀ : List ℕ} {s : Sheet} → (c.fill && ltb (c.margin + c.word) 200) ≡ false → Matches d₀ s c t d → Stuck (add_byte b s)
  stuck_so {d₀} {s} e m =
      (passes b m full, ap (λ (q : Bool). q && leb (s.margin + length (s.word ++ b ∷ [])) 200) (sym m.fill) ∙ by c.fill e)
    where
      by : (q : Bool) → (q && ltb (c.margin + c.word) 200) ≡ false → (q && leb (s.margin + length (s.word ++ b ∷ [])) 200) ≡ false
      by true e =
          let l = ltb-false (c.margin + c.word) 200 e in
          let n = length-append s.word (b ∷ []) in
          let x = m.margin in
          let y = m.word in
          lt-leb (s.margin + length (s.word ++ b ∷ [])) 200 (omega arith)
      by false e = refl

  slight_spoilt : Slight c → Slight spoilt
  unfolding reach_of lead_of
  slight_spoilt s = record { line = s.line; owed = s.owed; word = s.word; margin = s.margin; left = s.left; reach = s.reach }

  pub grow_stuck : Sound c t d → (c.fill && ltb (c.margin + c.word) 200) ≡ false → Follows (byte b ∷ []) c t d spoilt t d
  grow_stuck f e =
      record {
        sound = record { slight = slight_spoilt f.slight; place = f.place; broad = f.broad };
        writes = refl;
        size = refl;
        still = λ (q : c.writes ≡ false). refl;
        spoilt = λ (q : c.unfit ≡ true). refl;
        goes = λ (d₀ : List ℕ) (s : Sheet) (m : Matches d₀ s c t d). nowhere (goes_stuck s b ink (stuck_so e m)) refl;
      }
