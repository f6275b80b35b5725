-- Items that end the word: the page goes as they go. Assumes nothing.
use mathlib.Core.Path.{◌≡◌, refl, sym, ap, subst, ◌∙◌}
use mathlib.Core.List.{List, [], ◌∷◌, ◌++◌, append_assoc}
use mathlib.Core.Bool.{Bool, true, false, ◌&&◌}
use Prim.Native.Nat.{ℕ, ◌+◌, ◌≤◌, ◌<◌}
use native.Mathlib.Omega.{arith}
use lib.Dec.{eqb}
use lib.ListN.{length, replicate}
use borrow.Author.Tests.{eq-eqb, ne_eqb, eqb-true, eqb-false}
use Rattle.alphabet.proofs.BoolLaws.{false_true}
use Rattle.format_commands.specs.Commands.{held_size}
use Rattle.format_commands.specs.Items.{Item, byte}
use Rattle.format_commands.proofs.CommandLaws.{held_own}
use Rattle.formatting.specs.declared.page.Page.{Page}
use Rattle.formatting.specs.Sheet.{Sheet, Laid, laid, unfit, then_laid, is_empty, shown, end_line, lead, put, end_word, note_cr, owe, of_word, space, move, moves}
use Rattle.formatting.specs.Pages.{lead_of, reach_of, Slight, line_with, new_line, owing, noted, out_with, shown_of, Wrote, Matches, Sound, Reaches, at, nowhere, Follows, closed, Tells, Acts}
use Rattle.formatting.proofs.SheetLaws.{goes_moves, moves_one, end_some, end_none}
use Rattle.formatting.proofs.PageLaws.{held_min, some_length, empty_is, ended_none, ended_some, reach_exact, reach_least}
use Rattle.formatting.proofs.EndLaws.{line_of, line_ended, slight_new, unfit_new}

pub absurd_word : {A : Type 0} {t : Bool} → t ≡ true → t ≡ false → A
absurd_word e f = absurd (false_true (sym f ∙ e))

-- ---- the word has ended

closed_some : (c : Page) → (c.word ≡ 0 → ⊥) → closed c ≡ noted false (line_with (reach_of c) 0 0 c)
closed_some c e = ap (noted false) (ended_some c e)

closed_none : (c : Page) → c.word ≡ 0 → closed c ≡ noted false c
closed_none c e = ap (noted false) (ended_none c e)

module _ (c : Page) (s : Slight c) where
  noted_slight : (b : Bool) → Slight (noted b c)
  unfolding reach_of lead_of
  noted_slight b = record { line = s.line; owed = s.owed; word = s.word; margin = s.margin; left = s.left; reach = s.reach }

  ended_slight : (c.word ≡ 0 → ⊥) → Slight (noted false (line_with (reach_of c) 0 0 c))
  ended_slight n =
      let r = s.reach (omega arith) in
      record { line = r; owed = omega arith; word = omega arith; margin = s.margin; left = s.left; reach = λ (k : 0 < 0). absurd (omega arith) }

  pub closed_slight : (Slight (closed c)) × ((closed c).word ≡ 0)
  closed_slight = by (eqb c.word 0) refl
    where
      by : (t : Bool) → eqb c.word 0 ≡ t → (Slight (closed c)) × ((closed c).word ≡ 0)
      by true e =
          let q = closed_none c (eqb-true c.word 0 e) in
          (subst Slight (sym q) (noted_slight false), ap (λ (k : Page). k.word) q ∙ eqb-true c.word 0 e)
      by false e =
          let q = closed_some c (eqb-false c.word 0 e) in
          (subst Slight (sym q) (ended_slight (eqb-false c.word 0 e)), ap (λ (k : Page). k.word) q)

pub closed_same : (c : Page) → ((closed c).writes ≡ c.writes) × ((closed c).unfit ≡ c.unfit) × ((closed c).place ≡ c.place)
closed_same c = by (eqb c.word 0) refl
  where
    by : (t : Bool) → eqb c.word 0 ≡ t → ((closed c).writes ≡ c.writes) × ((closed c).unfit ≡ c.unfit) × ((closed c).place ≡ c.place)
    by true e = let q = closed_none c (eqb-true c.word 0 e) in (ap (λ (k : Page). k.writes) q, ap (λ (k : Page). k.unfit) q, ap (λ (k : Page). k.place) q)
    by false e = let q = closed_some c (eqb-false c.word 0 e) in (ap (λ (k : Page). k.writes) q, ap (λ (k : Page). k.unfit) q, ap (λ (k : Page). k.place) q)

pub closed_sound : (c : Page) (t d : List ℕ) → Sound c t d → Sound (closed c) t d
closed_sound c t d f =
    record { slight = (closed_slight c f.slight).0; place = subst (λ (n : ℕ). n ≤ length d) (sym (closed_same c).2) f.place; broad = f.broad }

pub closing_sound : (c k : Page) (t d : List ℕ) → Sound c t d → k ≡ closed c → (Sound k t d) × (k.word ≡ 0)
closing_sound c k t d f e = (subst (λ (q : Page). Sound q t d) (sym e) (closed_sound c t d f), ap (λ (q : Page). q.word) e ∙ (closed_slight c f.slight).1)

-- the sheet once the word has ended
pub record Closes (d₀ : List ℕ) (s : Sheet) (c : Page) (t d : List ℕ) : Type 0 where
  pub sheet : Sheet
  pub ends : end_word (note_cr false s) ≡ laid sheet
  pub matches : Matches d₀ sheet (closed c) t d
  pub none : is_empty sheet.word ≡ true

module _ {d₀ : List ℕ} {s : Sheet} {c : Page} {t d : List ℕ} (m : Matches d₀ s c t d) where
  noted_matches : (b : Bool) → Matches d₀ (note_cr b s) (noted b c) t d
  unfolding lead
  noted_matches b =
      record { output = m.output; size = m.size; fit = m.fit; line = m.line; owed = m.owed; word = m.word; margin = m.margin; left = m.left; fill = m.fill; centre = m.centre; after = refl; bytes = m.bytes; narrow = m.narrow; begun = m.begun }

  put_matches : is_empty s.word ≡ false → Matches d₀ (put (lead s) (note_cr false s)) (noted false (line_with (reach_of c) 0 0 c)) t d
  unfolding put lead is_empty
  put_matches e =
      let h = m.narrow e in
      let r = reach_least m in
      record {
        output = m.output;
        size = m.size;
        fit = m.fit;
        line = sym (reach_exact m (omega arith)).0;
        owed = sym (held_own 0 (omega arith));
        word = refl;
        margin = m.margin;
        left = m.left;
        fill = m.fill;
        centre = m.centre;
        after = refl;
        bytes = m.begun e;
        narrow = λ (q : true ≡ false). absurd (false_true (sym q));
        begun = λ (q : true ≡ false). absurd (false_true (sym q));
      }

  end_put : is_empty s.word ≡ false → end_word (note_cr false s) ≡ laid (put (lead s) (note_cr false s))
  unfolding lead
  end_put e = end_some (note_cr false s) e (m.narrow e)

  put_none : is_empty (put (lead s) (note_cr false s)).word ≡ true
  unfolding put is_empty
  put_none = refl

  pub closes : Closes d₀ s c t d
  closes = by (is_empty s.word) refl
    where
      by : (q : Bool) → is_empty s.word ≡ q → Closes d₀ s c t d
      by true e =
          let z : c.word ≡ 0 = m.word ∙ ap length (empty_is s.word e) in
          record { sheet = note_cr false s; ends = end_none (note_cr false s) e; matches = subst (λ (k : Page). Matches d₀ (note_cr false s) k t d) (sym (closed_none c z)) (noted_matches false); none = e }
      by false e =
          let l = some_length s.word e in
          let x = m.word in
          record {
            sheet = put (lead s) (note_cr false s);
            ends = end_put e;
            matches = subst (λ (k : Page). Matches d₀ (put (lead s) (note_cr false s)) k t d) (sym (closed_some c (λ (z : c.word ≡ 0). omega arith))) (put_matches e);
            none = put_none;
          }

-- an item that ends the word and acts
pub acts_follow : (x : Item) (act : Sheet → Laid) (c : Page) (t d : List ℕ) (c' : Page) (t' d' : List ℕ) → Acts act (closed c) t d c' t' d'
    → ((s : Sheet) → s.after_cr ≡ c.after → moves s (x ∷ []) ≡ then_laid (end_word (note_cr false s)) act) → Follows (x ∷ []) c t d c' t' d'
acts_follow x act c t d c' t' d' f g =
    record {
      sound = f.sound;
      writes = f.writes ∙ (closed_same c).0;
      size = f.size;
      still = λ (q : c.writes ≡ false). f.still ((closed_same c).0 ∙ q);
      spoilt = λ (q : c.unfit ≡ true). f.spoilt ((closed_same c).1 ∙ q);
      goes = λ (d₀ : List ℕ) (s : Sheet) (m : Matches d₀ s c t d). on d₀ s m (closes m);
    }
  where
    by : (d₀ : List ℕ) (s : Sheet) (l : Laid) → moves s (x ∷ []) ≡ l → Tells d₀ l c' t' d' → Reaches d₀ s (x ∷ []) c' t' d'
    by d₀ s (laid s') e n = at s' (goes_moves s (x ∷ []) (laid s') e) n
    by d₀ s unfit e n = nowhere (goes_moves s (x ∷ []) unfit e) n

    on : (d₀ : List ℕ) (s : Sheet) → Matches d₀ s c t d → Closes d₀ s c t d → Reaches d₀ s (x ∷ []) c' t' d'
    on d₀ s m k = by d₀ s (act k.sheet) (g s (sym m.after) ∙ ap (λ (l : Laid). then_laid l act) k.ends) (f.goes d₀ k.sheet k.matches k.none)

-- ---- a blank, and the end of a line

module _ {d₀ : List ℕ} {s : Sheet} {c : Page} {t d : List ℕ} (m : Matches d₀ s c t d) (none : is_empty s.word ≡ true) where
  pub owing_matches : (n : ℕ) → Matches d₀ (owe n s) (owing n c) t d
  owing_matches n =
      let a = m.owed in
      let x = held_min s.owed in
      let y = held_min (s.owed + n) in
      let z = held_min (held_size s.owed + n) in
      let e : held_size (held_size s.owed + n) ≡ held_size (s.owed + n) = omega arith in
      record { output = m.output; size = m.size; fit = m.fit; line = m.line; owed = ap (λ (k : ℕ). held_size (k + n)) m.owed ∙ e; word = m.word; margin = m.margin; left = m.left; fill = m.fill; centre = m.centre; after = m.after; bytes = m.bytes; narrow = absurd_word none; begun = absurd_word none }

pub owing_slight : (c : Page) (n : ℕ) → Slight c → c.word ≡ 0 → Slight (owing n c)
owing_slight c n s z =
    let h = held_min (c.owed + n) in
    record { line = s.line; owed = omega arith; word = s.word; margin = s.margin; left = s.left; reach = λ (k : 0 < c.word). absurd (omega arith) }

-- an act that writes nothing: the page changes, and its bytes stay
pub acts_plain : (act : Sheet → Laid) (c c' : Page) (t d : List ℕ) → Sound c t d → Slight c' → c'.place ≡ c.place → c'.writes ≡ c.writes → (c.unfit ≡ true → c'.unfit ≡ true)
    → ((d₀ : List ℕ) (s : Sheet) → Matches d₀ s c t d → is_empty s.word ≡ true → Tells d₀ (act s) c' t d) → Acts act c t d c' t d
acts_plain act c c' t d f s p w u g =
    record {
      sound = record { slight = s; place = subst (λ (n : ℕ). n ≤ length d) (sym p) f.place; broad = f.broad };
      writes = w;
      size = refl;
      still = λ (q : c.writes ≡ false). refl;
      spoilt = u;
      goes = g;
    }

pub acts_owe : (n : ℕ) (c : Page) (t d : List ℕ) → Sound c t d → c.word ≡ 0 → Acts (λ (s : Sheet). laid (owe n s)) c t d (owing n c) t d
acts_owe n c t d f z =
    acts_plain (λ (s : Sheet). laid (owe n s)) c (owing n c) t d f (owing_slight c n f.slight z) refl refl (λ (q : c.unfit ≡ true). q)
    (λ (d₀ : List ℕ) (s : Sheet) (m : Matches d₀ s c t d) (e : is_empty s.word ≡ true). owing_matches m e n)

pub acts_none : (c : Page) (t d : List ℕ) → Sound c t d → Acts (λ (s : Sheet). laid s) c t d c t d
acts_none c t d f =
    acts_plain (λ (s : Sheet). laid s) c c t d f f.slight refl refl (λ (q : c.unfit ≡ true). q) (λ (d₀ : List ℕ) (s : Sheet) (m : Matches d₀ s c t d) (e : is_empty s.word ≡ true). m)

-- the line and n LF were written
pub acts_ended : (n : ℕ) (out : Sheet → List ℕ) (c c' : Page) (t d d' : List ℕ) → Sound c t d → c.word ≡ 0 → c' ≡ new_line (out_with c'.place c'.short c)
    → Wrote (shown_of c t ++ replicate n 10) c d c' d' → ((s : Sheet) → out s ≡ s.out ++ (shown s ++ replicate n 10)) → Acts (λ (s : Sheet). laid (line_of (out s) s)) c t d c' t d'
acts_ended n out c c' t d d' f z e w o =
    record {
      sound = record { slight = slight_new c c' f.slight e (λ (k : 0 < c.word). absurd (omega arith)); place = w.within; broad = f.broad };
      writes = (unfit_new c c' e).1;
      size = w.size;
      still = w.still;
      spoilt = λ (q : c.unfit ≡ true). (unfit_new c c' e).0 ∙ q;
      goes = λ (d₀ : List ℕ) (s : Sheet) (m : Matches d₀ s c t d) (e₁ : is_empty s.word ≡ true).
          line_ended m n (out s) c' t d' (o s) (let a = m.margin in let b = f.slight.margin in omega arith) e w (absurd_word e₁);
    }

-- and then something more
pub acts_map : (f h : Sheet → Sheet) (c k c' : Page) (t d t' d' : List ℕ) → Acts (λ (s : Sheet). laid (f s)) c t d k t' d' → Slight c' → c'.place ≡ k.place → c'.writes ≡ k.writes → c'.unfit ≡ k.unfit
    → ((d₀ : List ℕ) (s : Sheet) → Matches d₀ s c t d → is_empty s.word ≡ true → Matches d₀ (f s) k t' d' → Matches d₀ (h s) c' t' d') → Acts (λ (s : Sheet). laid (h s)) c t d c' t' d'
acts_map f h c k c' t d t' d' a s p w u g =
    record {
      sound = record { slight = s; place = subst (λ (n : ℕ). n ≤ length d') (sym p) a.sound.place; broad = a.sound.broad };
      writes = w ∙ a.writes;
      size = a.size;
      still = a.still;
      spoilt = λ (q : c.unfit ≡ true). u ∙ a.spoilt q;
      goes = λ (d₀ : List ℕ) (s : Sheet) (m : Matches d₀ s c t d) (e : is_empty s.word ≡ true). g d₀ s m e (a.goes d₀ s m e);
    }

pub acts_line : (c c' : Page) (t d d' : List ℕ) → Sound c t d → c.word ≡ 0 → c' ≡ new_line (out_with c'.place c'.short c) → Wrote (shown_of c t ++ 10 ∷ []) c d c' d' → Acts (λ (s : Sheet). laid (end_line s)) c t d c' t d'
unfolding end_line
acts_line c c' t d d' f z e w = acts_ended 1 (λ (s : Sheet). s.out ++ shown s ++ 10 ∷ []) c c' t d d' f z e w (λ (s : Sheet). append_assoc s.out (shown s) (10 ∷ []))

-- ---- a byte that is no byte of a word

module _ (b : ℕ) (other : of_word b ≡ false) (c : Page) (t d : List ℕ) where
  space_act : (act : Sheet → Sheet) → ((s : Sheet) → act s ≡ space b c.after s) → (s : Sheet) → s.after_cr ≡ c.after → moves s (byte b ∷ []) ≡ then_laid (end_word (note_cr false s)) (λ (u : Sheet). laid (act u))
  unfolding move
  space_act act g s e = moves_one s (byte b) ∙ rw other (rw e (by (end_word (note_cr false s))))
    where
      by : (l : Laid) → then_laid l (λ (u : Sheet). laid (space b c.after u)) ≡ then_laid l (λ (u : Sheet). laid (act u))
      by (laid u) = ap laid (sym (g u))
      by unfit = refl

  pub space_follows : (act : Sheet → Sheet) (c' : Page) (t' d' : List ℕ) → ((s : Sheet) → act s ≡ space b c.after s) → Acts (λ (s : Sheet). laid (act s)) (closed c) t d c' t' d' → Follows (byte b ∷ []) c t d c' t' d'
  space_follows act c' t' d' g a = acts_follow (byte b) (λ (s : Sheet). laid (act s)) c t d c' t' d' a (space_act act g)

  pub space_blank : b ≡ 32 → (s : Sheet) → owe 1 s ≡ space b c.after s
  unfolding space
  space_blank e s = rw (eq-eqb b 32 e)

  pub space_again : (b ≡ 32 → ⊥) → (eqb b 10 && c.after) ≡ true → (s : Sheet) → s ≡ space b c.after s
  unfolding space
  space_again n e s = rw (ne_eqb b 32 n) (rw e)

  pub space_ends : (b ≡ 32 → ⊥) → (eqb b 10 && c.after) ≡ false → (s : Sheet) → note_cr (eqb b 13) (end_line s) ≡ space b c.after s
  unfolding space
  space_ends n e s = rw (ne_eqb b 32 n) (rw e)

  pub acts_noted : (k : Page) (d' : List ℕ) → Acts (λ (s : Sheet). laid (end_line s)) (closed c) t d k t d' → Acts (λ (s : Sheet). laid (note_cr (eqb b 13) (end_line s))) (closed c) t d (noted (eqb b 13) k) t d'
  acts_noted k d' a =
      acts_map end_line (λ (s : Sheet). note_cr (eqb b 13) (end_line s)) (closed c) k (noted (eqb b 13) k) t d t d' a (noted_slight k a.sound.slight (eqb b 13)) refl refl refl
      (λ (d₀ : List ℕ) (s : Sheet) (m : Matches d₀ s (closed c) t d) (e : is_empty s.word ≡ true) (n : Matches d₀ (end_line s) k t d'). noted_matches n (eqb b 13))

-- ---- the same, as the code has it

module _ (b : ℕ) (other : of_word b ≡ false) (c : Page) (t d : List ℕ) (f : Sound c t d) (k : Page) (e : k ≡ closed c) where
  closing : {act : Sheet → Laid} {c' : Page} {t' d' : List ℕ} → Acts act k t d c' t' d' → Acts act (closed c) t d c' t' d'
  closing {act} {c'} {t'} {d'} a = subst (λ (q : Page). Acts act q t d c' t' d') e a

  pub sound_closing : Sound k t d
  sound_closing = (closing_sound c k t d f e).0

  pub none_closing : k.word ≡ 0
  none_closing = (closing_sound c k t d f e).1

  pub take_blank : (r : Page) → b ≡ 32 → r ≡ owing 1 k → Follows (byte b ∷ []) c t d r t d
  take_blank r z g =
      subst (λ (q : Page). Follows (byte b ∷ []) c t d q t d) (sym g)
      (space_follows b other c t d (owe 1) (owing 1 k) t d (space_blank b other c t d z) (closing (acts_owe 1 k t d sound_closing none_closing)))

  pub take_again : (b ≡ 32 → ⊥) → (eqb b 10 && c.after) ≡ true → Follows (byte b ∷ []) c t d k t d
  take_again n z = space_follows b other c t d (λ (s : Sheet). s) k t d (space_again b other c t d n z) (closing (acts_none k t d sound_closing))

  pub take_end : (b ≡ 32 → ⊥) → (eqb b 10 && c.after) ≡ false → (r : Page) (d' : List ℕ) → r ≡ new_line (out_with r.place r.short k) → Wrote (shown_of k t ++ 10 ∷ []) k d r d'
      → Follows (byte b ∷ []) c t d (noted (eqb b 13) r) t d'
  take_end n z r d' g w =
      space_follows b other c t d (λ (s : Sheet). note_cr (eqb b 13) (end_line s)) (noted (eqb b 13) r) t d' (space_ends b other c t d n z)
      (acts_noted b other c t d r d' (closing (acts_line k r t d d' sound_closing none_closing g w)))
