-- What a command does to the page is what it does to the sheet. Assumes nothing.
use mathlib.Core.Path.{◌≡◌, refl, sym, ap, ap₂, subst, ◌∙◌}
use mathlib.Core.List.{List, [], ◌∷◌, ◌++◌, append_assoc}
use mathlib.Core.Bool.{Bool, true, false, cond, not, ◌&&◌, ◌||◌}
use Prim.Native.Nat.{ℕ, ◌+◌, ◌-◌, ◌≤◌, ◌<◌}
use native.Mathlib.Omega.{arith}
use lib.Dec.{leb, ltb, eqb}
use lib.ListN.{length, take, replicate, length-append, length-replicate, replicate-append-replicate}
use borrow.Author.Tests.{eq-eqb, ne_eqb, le-leb, lt-leb, leb-true, leb-false}
use Rattle.alphabet.proofs.BoolLaws.{false_true, and_both}
use Rattle.std.specs.Prelude.{Option, Some, None}
use Rattle.format_commands.specs.declared.numbers.Amount.{Amount}
use Rattle.format_commands.specs.declared.orders.Order.{Order}
use Rattle.format_commands.specs.declared.orders.Order.TheVariants.{Highlight, Break, Centre, Fill, Unfill, Down, Across, Margin, Once}
use Rattle.format_commands.specs.Commands.{order_of, held_size, held, held_order}
use Rattle.format_commands.specs.Items.{order}
use Rattle.format_commands.proofs.CommandLaws.{held_own, held_most}
use Rattle.formatting.specs.declared.page.Page.{Page}
use Rattle.formatting.specs.Sheet.{Sheet, Laid, laid, unfit, then_laid, blanks, is_empty, shown, end_line, end_word, position, note_cr, owe, set_left, set_margin, set_fill, set_centre, empty_lines, natural, fits, moved, down, obey, quiet, obeyed, move}
use Rattle.formatting.specs.Pages.{Slight, new_line, indent_of, position_of, out_with, shown_of, Wrote, Matches, Sound, at, Follows, closed, Tells, Acts, left_at, margin_at, filling, centring, spoiling}
use Rattle.formatting.proofs.SheetLaws.{moves_one, goes_moves}
use Rattle.formatting.proofs.PageLaws.{held_min, empty_eqb}
use Rattle.formatting.proofs.EndLaws.{shown_is}
use Rattle.formatting.proofs.ActLaws.{absurd_word, acts_plain, acts_ended, acts_map, acts_follow}

-- the same act, said otherwise
pub acts_same : (act act' : Sheet → Laid) (c : Page) (t d : List ℕ) (c' : Page) (t' d' : List ℕ) → ((s : Sheet) → act s ≡ act' s) → Acts act c t d c' t' d' → Acts act' c t d c' t' d'
acts_same act act' c t d c' t' d' e a =
    record {
      sound = a.sound;
      writes = a.writes;
      size = a.size;
      still = a.still;
      spoilt = a.spoilt;
      goes = λ (d₀ : List ℕ) (s : Sheet) (m : Matches d₀ s c t d) (n : is_empty s.word ≡ true). subst (λ (l : Laid). Tells d₀ l c' t' d') (e s) (a.goes d₀ s m n);
    }

-- the same order, known to be one
pub acts_order : (o o' : Order) (c : Page) (t d : List ℕ) (c' : Page) (t' d' : List ℕ) → o ≡ o' → Acts (obey (Some o')) c t d c' t' d' → Acts (obey (Some o)) c t d c' t' d'
acts_order o o' c t d c' t' d' e a = subst (λ (q : Order). Acts (obey (Some q)) c t d c' t' d') (sym e) a

-- ---- what changes a number alone

module _ (c : Page) (s : Slight c) (z : c.word ≡ 0) where
  left_slight : (n : ℕ) → n ≤ 201 → Slight (left_at n c)
  left_slight n h = record { line = s.line; owed = s.owed; word = s.word; margin = s.margin; left = h; reach = λ (k : 0 < c.word). absurd (omega arith) }

  margin_slight : (n : ℕ) → n ≤ 200 → Slight (margin_at n c)
  margin_slight n h = record { line = s.line; owed = s.owed; word = s.word; margin = h; left = omega arith; reach = λ (k : 0 < c.word). absurd (omega arith) }

  fill_slight : (b : Bool) → Slight (filling b c)
  fill_slight b = record { line = s.line; owed = s.owed; word = s.word; margin = s.margin; left = s.left; reach = λ (k : 0 < c.word). absurd (omega arith) }

  centre_slight : Slight (centring c)
  centre_slight = record { line = s.line; owed = s.owed; word = s.word; margin = s.margin; left = s.left; reach = λ (k : 0 < c.word). absurd (omega arith) }

  spoilt_slight : Slight (spoiling c)
  spoilt_slight = record { line = s.line; owed = s.owed; word = s.word; margin = s.margin; left = s.left; reach = λ (k : 0 < c.word). absurd (omega arith) }

module _ {d₀ : List ℕ} {s : Sheet} {c : Page} {t d : List ℕ} (m : Matches d₀ s c t d) (none : is_empty s.word ≡ true) where
  left_matches : (n k : ℕ) → n ≡ held_size k → Matches d₀ (set_left k s) (left_at n c) t d
  left_matches n k e =
      record { output = m.output; size = m.size; fit = m.fit; line = m.line; owed = m.owed; word = m.word; margin = m.margin; left = e; fill = m.fill; centre = m.centre; after = m.after; bytes = m.bytes; narrow = absurd_word none; begun = absurd_word none }

  margin_matches : (n k : ℕ) → n ≡ k → k ≤ 200 → Matches d₀ (set_margin k s) (margin_at n c) t d
  margin_matches n k e h =
      record { output = m.output; size = m.size; fit = m.fit; line = m.line; owed = m.owed; word = m.word; margin = e; left = e ∙ sym (held_own k (omega arith)); fill = m.fill; centre = m.centre; after = m.after; bytes = m.bytes; narrow = absurd_word none; begun = absurd_word none }

  fill_matches : (b : Bool) → Matches d₀ (set_fill b s) (filling b c) t d
  fill_matches b =
      record { output = m.output; size = m.size; fit = m.fit; line = m.line; owed = m.owed; word = m.word; margin = m.margin; left = m.left; fill = refl; centre = m.centre; after = m.after; bytes = m.bytes; narrow = absurd_word none; begun = absurd_word none }

  centre_matches : Matches d₀ (set_centre s) (centring c) t d
  centre_matches =
      record { output = m.output; size = m.size; fit = m.fit; line = m.line; owed = m.owed; word = m.word; margin = m.margin; left = m.left; fill = m.fill; centre = refl; after = m.after; bytes = m.bytes; narrow = absurd_word none; begun = absurd_word none }

  -- "the length of the line as written (`left` where it is empty) + `owed`"
  shown_length : length (shown s) ≡ indent_of c + c.line
  shown_length =
      ap length (sym (shown_is m)) ∙ length-append (blanks (indent_of c)) (take c.line t)
      ∙ ap₂ ◌+◌ (length-replicate (indent_of c) 32) (ap length (ap (λ (n : ℕ). take n t) m.line ∙ m.bytes) ∙ sym m.line)

  position_is : position_of c ≡ held_size (position s)
  unfolding position_of position held_size indent_of is_empty
  position_is =
      rw (m.left, m.owed, ← shown_length) (ap (λ (n : ℕ). held_size (cond (eqb n 0) (held_size s.left) (length (shown s)) + held_size s.owed)) m.line
      ∙ ap (λ (b : Bool). held_size (cond b (held_size s.left) (length (shown s)) + held_size s.owed)) (sym (empty_eqb s.line)) ∙ by (is_empty s.line))
    where
      by : (b : Bool) → held_size (cond b (held_size s.left) (length (shown s)) + held_size s.owed) ≡ held_size (cond b s.left (length (shown s)) + s.owed)
      by true =
          let x = held_min s.left in
          let y = held_min s.owed in
          let u = held_min (held_size s.left + held_size s.owed) in
          let v = held_min (s.left + s.owed) in
          omega arith
      by false =
          let y = held_min s.owed in
          let u = held_min (length (shown s) + held_size s.owed) in
          let v = held_min (length (shown s) + s.owed) in
          omega arith

pub down_none : (n : ℕ) (s : Sheet) → n ≡ 0 → down n s ≡ s
unfolding down
down_none n s e = rw (eq-eqb n 0 e)

down_more : (n : ℕ) (s : Sheet) → (n ≡ 0 → ⊥) → down n s ≡ set_left (position s) (empty_lines (n - 1) (end_line s))
unfolding down
down_more n s e = rw (ne_eqb n 0 e)

position_small : (c : Page) → position_of c ≤ 201
unfolding position_of
position_small c = held_most (cond (eqb c.line 0) c.left (indent_of c + c.line) + c.owed)

-- ---- each command

module _ (c : Page) (t d : List ℕ) (f : Sound c t d) (z : c.word ≡ 0) where
  pub acts_spoilt : (act : Sheet → Laid) → ((s : Sheet) → is_empty s.word ≡ true → (c.margin ≡ s.margin) → act s ≡ unfit) → Acts act c t d (spoiling c) t d
  acts_spoilt act e =
      acts_plain act c (spoiling c) t d f (spoilt_slight c f.slight z) refl refl (λ (q : c.unfit ≡ true). refl)
      (λ (d₀ : List ℕ) (s : Sheet) (m : Matches d₀ s c t d) (n : is_empty s.word ≡ true). subst (λ (l : Laid). Tells d₀ l (spoiling c) t d) (sym (e s n m.margin)) refl)

  pub acts_fill : (b : Bool) → Acts (λ (s : Sheet). laid (set_fill b s)) c t d (filling b c) t d
  acts_fill b =
      acts_plain (λ (s : Sheet). laid (set_fill b s)) c (filling b c) t d f (fill_slight c f.slight z b) refl refl (λ (q : c.unfit ≡ true). q)
      (λ (d₀ : List ℕ) (s : Sheet) (m : Matches d₀ s c t d) (n : is_empty s.word ≡ true). fill_matches m n b)

  pub acts_margin : (a : Amount) (n : ℕ) → fits c.margin a ≡ true → n ≡ moved c.margin a → n ≤ 200 → Acts (obey (Some (Margin a))) c t d (margin_at n c) t d
  unfolding obey
  acts_margin a n e q h =
      acts_plain (obey (Some (Margin a))) c (margin_at n c) t d f (margin_slight c f.slight z n h) refl refl (λ (q : c.unfit ≡ true). q)
      (λ (d₀ : List ℕ) (s : Sheet) (m : Matches d₀ s c t d) (k : is_empty s.word ≡ true).
      let same : moved c.margin a ≡ moved s.margin a = ap (λ (x : ℕ). moved x a) m.margin in
      subst (λ (l : Laid). Tells d₀ l (margin_at n c) t d) (sym (ap (λ (b : Bool). cond b (laid (set_margin (moved s.margin a) s)) unfit) (ap (λ (x : ℕ). fits x a) (sym m.margin) ∙ e)))
      (margin_matches m k n (moved s.margin a) (q ∙ same) (let y = q ∙ same in omega arith)))

  pub acts_once : (a : Amount) (n : ℕ) → fits c.margin a ≡ true → n ≡ moved c.margin a → n ≤ 200 → Acts (obey (Some (Once a))) c t d (left_at n c) t d
  unfolding obey
  acts_once a n e q h =
      acts_plain (obey (Some (Once a))) c (left_at n c) t d f (left_slight c f.slight z n (omega arith)) refl refl (λ (q : c.unfit ≡ true). q)
      (λ (d₀ : List ℕ) (s : Sheet) (m : Matches d₀ s c t d) (k : is_empty s.word ≡ true).
      let same : moved c.margin a ≡ moved s.margin a = ap (λ (x : ℕ). moved x a) m.margin in
      subst (λ (l : Laid). Tells d₀ l (left_at n c) t d) (sym (ap (λ (b : Bool). cond b (laid (set_left (moved s.margin a) s)) unfit) (ap (λ (x : ℕ). fits x a) (sym m.margin) ∙ e)))
      (left_matches m k n (moved s.margin a) (q ∙ same ∙ sym (held_own (moved s.margin a) (let y = q ∙ same in omega arith)))))

  -- the line and n LF were written, and the next line begins at the same column
  pub acts_down : (n : ℕ) (k : Page) (d' : List ℕ) (p : ℕ) → (n ≡ 0 → ⊥) → k ≡ new_line (out_with k.place k.short c) → Wrote (shown_of c t ++ replicate n 10) c d k d' → p ≡ position_of c
      → Acts (λ (s : Sheet). laid (down n s)) c t d (left_at p k) t d'
  unfolding end_line
  acts_down n k d' p h e w q =
      let a = acts_ended n (λ (s : Sheet). s.out ++ shown s ++ 10 ∷ [] ++ replicate (n - 1) 10) c k t d d' f z e w (λ (s : Sheet). lines_out s) in
      acts_same (λ (s : Sheet). laid (set_left (position s) (empty_lines (n - 1) (end_line s)))) (λ (s : Sheet). laid (down n s)) c t d (left_at p k) t d' (λ (s : Sheet). ap laid (sym (down_some s)))
      (acts_map (λ (s : Sheet). empty_lines (n - 1) (end_line s)) (λ (s : Sheet). set_left (position s) (empty_lines (n - 1) (end_line s))) c k (left_at p k) t d t d' a
      (left_slight k a.sound.slight (ap (λ (x : Page). x.word) e ∙ z) p (small p q)) refl refl refl
      (λ (d₀ : List ℕ) (s : Sheet) (m : Matches d₀ s c t d) (i : is_empty s.word ≡ true) (j : Matches d₀ (empty_lines (n - 1) (end_line s)) k t d'). left_matches j i p (position s) (q ∙ position_is m i)))
    where
      lines_out : (s : Sheet) → s.out ++ shown s ++ 10 ∷ [] ++ replicate (n - 1) 10 ≡ s.out ++ (shown s ++ replicate n 10)
      lines_out s =
          let g : 1 + (n - 1) ≡ n = omega arith in
          append_assoc (s.out ++ shown s) (10 ∷ []) (replicate (n - 1) 10) ∙ ap (λ (v : List ℕ). s.out ++ shown s ++ v) (replicate-append-replicate 1 (n - 1) 10 ∙ ap (λ (i : ℕ). replicate i 10) g)
          ∙ append_assoc s.out (shown s) (replicate n 10)

      down_some : (s : Sheet) → down n s ≡ set_left (position s) (empty_lines (n - 1) (end_line s))
      down_some s = down_more n s h

      small : (p : ℕ) → p ≡ position_of c → p ≤ 201
      small p q = let y = position_small c in omega arith

  -- the line is ended, and the next one is centred
  pub acts_centre : (k : Page) (d' : List ℕ) → Acts (λ (s : Sheet). laid (end_line s)) c t d k t d' → k.word ≡ 0 → Acts (obey (Some Centre)) c t d (centring k) t d'
  unfolding obey end_line
  acts_centre k d' a h =
      acts_map end_line (λ (s : Sheet). set_centre (end_line s)) c k (centring k) t d t d' a (centre_slight k a.sound.slight h) refl refl refl
      (λ (d₀ : List ℕ) (s : Sheet) (m : Matches d₀ s c t d) (i : is_empty s.word ≡ true) (j : Matches d₀ (end_line s) k t d'). centre_matches j i)

-- ---- a number that is held

natural_small : (a : Amount) → natural a ≡ true → a.size ≤ 200
natural_small a e = leb-true a.size 200 (and_both (leb a.size 200) _ e).0

held_leb : (n : ℕ) → leb (held_size n) 200 ≡ leb n 200
held_leb n = by (leb n 200) refl
  where
    by : (t : Bool) → leb n 200 ≡ t → leb (held_size n) 200 ≡ t
    by true e = let h = leb-true n 200 e in let x = held_min n in le-leb (held_size n) 200 (omega arith)
    by false e = let h = leb-false n 200 e in let x = held_min n in lt-leb (held_size n) 200 (omega arith)

-- a number that is held is obeyed as the exact one
small_held : (P : ℕ → Laid) (q : ℕ → Bool) (n : ℕ) → cond (leb (held_size n) 200 && q (held_size n)) (P (held_size n)) unfit ≡ cond (leb n 200 && q n) (P n) unfit
small_held P q n = by (leb n 200) refl
  where
    by : (t : Bool) → leb n 200 ≡ t → cond (leb (held_size n) 200 && q (held_size n)) (P (held_size n)) unfit ≡ cond (leb n 200 && q n) (P n) unfit
    by true e =
        let h = leb-true n 200 e in
        let x : held_size n ≡ n = held_own n (omega arith) in
        ap (λ (k : ℕ). cond (leb k 200 && q k) (P k) unfit) x
    by false e = ap (λ (b : Bool). cond (b && q (held_size n)) (P (held_size n)) unfit) (held_leb n ∙ e) ∙ sym (ap (λ (b : Bool). cond (b && q n) (P n) unfit) e)

pub obey_held : (o : Option Order) (s : Sheet) → obey (held_order o) s ≡ obey o s
unfolding obey held held_order
obey_held None s = refl
obey_held (Some Highlight) s = refl
obey_held (Some Break) s = refl
obey_held (Some Centre) s = refl
obey_held (Some Fill) s = refl
obey_held (Some Unfill) s = refl
obey_held (Some (Down a)) s = small_held (λ (n : ℕ). laid (down n s)) (λ (n : ℕ). not (a.minus && ltb 0 n)) a.size
obey_held (Some (Across a)) s = small_held (λ (n : ℕ). laid (owe n s)) (λ (n : ℕ). not (a.minus && ltb 0 n)) a.size
obey_held (Some (Margin a)) s =
    small_held (λ (n : ℕ). laid (set_margin (cond a.minus (s.margin - n) (s.margin + n)) s)) (λ (n : ℕ). (a.minus && leb n s.margin) || (not a.minus && leb (s.margin + n) 200)) a.size
obey_held (Some (Once a)) s =
    small_held (λ (n : ℕ). laid (set_left (cond a.minus (s.margin - n) (s.margin + n)) s)) (λ (n : ℕ). (a.minus && leb n s.margin) || (not a.minus && leb (s.margin + n) 200)) a.size

pub quiet_held : (o : Option Order) → quiet (held_order o) ≡ quiet o
unfolding held held_order
quiet_held None = refl
quiet_held (Some Highlight) = refl
quiet_held (Some Break) = refl
quiet_held (Some Centre) = refl
quiet_held (Some Fill) = refl
quiet_held (Some Unfill) = refl
quiet_held (Some (Down a)) = refl
quiet_held (Some (Across a)) = refl
quiet_held (Some (Margin a)) = refl
quiet_held (Some (Once a)) = refl

-- ---- a command as an item

move_quiet : (s : Sheet) (inside : List ℕ) → quiet (order_of inside) ≡ true → move s (order inside) ≡ laid s
unfolding move obeyed
move_quiet s inside e = rw e

move_loud : (s : Sheet) (inside : List ℕ) → quiet (order_of inside) ≡ false → move s (order inside) ≡ then_laid (end_word (note_cr false s)) (obey (order_of inside))
unfolding move obeyed
move_loud s inside e = rw e

module _ (inside : List ℕ) (o : Option Order) (e : o ≡ held_order (order_of inside)) (c : Page) (t d : List ℕ) (f : Sound c t d) where
  is_quiet : quiet (order_of inside) ≡ quiet o
  is_quiet = sym (quiet_held (order_of inside)) ∙ ap quiet (sym e)

  pub order_quiet : quiet o ≡ true → Follows (order inside ∷ []) c t d c t d
  order_quiet q =
      record {
        sound = f;
        writes = refl;
        size = refl;
        still = λ (w : c.writes ≡ false). refl;
        spoilt = λ (w : c.unfit ≡ true). w;
        goes = λ (d₀ : List ℕ) (s : Sheet) (m : Matches d₀ s c t d). at s (goes_moves s (order inside ∷ []) (laid s) (moves_one s (order inside) ∙ silent s)) m;
      }
    where
      silent : (s : Sheet) → move s (order inside) ≡ laid s
      silent s = move_quiet s inside (is_quiet ∙ q)

  pub order_follows : (k c' : Page) (d' : List ℕ) → quiet o ≡ false → k ≡ closed c → Acts (obey o) k t d c' t d' → Follows (order inside ∷ []) c t d c' t d'
  order_follows k c' d' q g a =
      acts_follow (order inside) (obey (order_of inside)) c t d c' t d'
      (subst (λ (p : Page). Acts (obey (order_of inside)) p t d c' t d') g (acts_same (obey o) (obey (order_of inside)) k t d c' t d' (λ (s : Sheet). ap (λ (x : Option Order). obey x s) e ∙ obey_held (order_of inside) s) a))
      (λ (s : Sheet) (h : s.after_cr ≡ c.after). moves_one s (order inside) ∙ move_loud s inside (is_quiet ∙ q))

-- ---- numbers in their ranges, as the code tests them

module _ (m : ℕ) (a : Amount) where
  pub fits_wide : 200 < a.size → fits m a ≡ false
  fits_wide h = ap (λ (b : Bool). b && ((a.minus && leb a.size m) || (not a.minus && leb (m + a.size) 200))) (lt-leb a.size 200 h)

  pub fits_small : a.size ≤ 200 → fits m a ≡ ((a.minus && leb a.size m) || (not a.minus && leb (m + a.size) 200))
  fits_small h = ap (λ (b : Bool). b && ((a.minus && leb a.size m) || (not a.minus && leb (m + a.size) 200))) (le-leb a.size 200 h)

  pub fits_back : fits m a ≡ true → a.minus ≡ true → a.size ≤ m
  fits_back e n = leb-true a.size m (by (leb a.size 200) (leb a.size m) (leb (m + a.size) 200) (ap (λ (b : Bool). leb a.size 200 && ((b && leb a.size m) || (not b && leb (m + a.size) 200))) (sym n) ∙ e))
    where
      by : (x y z : Bool) → (x && ((true && y) || (false && z))) ≡ true → y ≡ true
      by true true z e = refl
      by true false z e = e
      by false y z e = false_true e

  pub fits_on : fits m a ≡ true → a.minus ≡ false → m + a.size ≤ 200
  fits_on e n = leb-true (m + a.size) 200 (by (leb a.size 200) (leb a.size m) (leb (m + a.size) 200) (ap (λ (b : Bool). leb a.size 200 && ((b && leb a.size m) || (not b && leb (m + a.size) 200))) (sym n) ∙ e))
    where
      by : (x y z : Bool) → (x && ((false && y) || (true && z))) ≡ true → z ≡ true
      by true y true e = refl
      by true y false e = e
      by false y z e = false_true e

  pub moved_small : fits m a ≡ true → m ≤ 200 → moved m a ≤ 200
  moved_small e h = by a.minus refl
    where
      by : (b : Bool) → a.minus ≡ b → cond b (m - a.size) (m + a.size) ≤ 200
      by true n = omega arith
      by false n = fits_on e n

pub natural_most : (a : Amount) → natural a ≡ true → a.size ≤ 200
natural_most a e = natural_small a e

module _ (a : Amount) (s : Sheet) where
  pub obey_down : natural a ≡ true → laid (down a.size s) ≡ obey (Some (Down a)) s
  unfolding obey
  obey_down e = rw e

  pub stop_down : natural a ≡ false → obey (Some (Down a)) s ≡ unfit
  unfolding obey
  stop_down e = rw e

  pub obey_across : natural a ≡ true → laid (owe a.size s) ≡ obey (Some (Across a)) s
  unfolding obey
  obey_across e = rw e

  pub stop_across : natural a ≡ false → obey (Some (Across a)) s ≡ unfit
  unfolding obey
  stop_across e = rw e

  pub stop_margin : (m : ℕ) → fits m a ≡ false → m ≡ s.margin → obey (Some (Margin a)) s ≡ unfit
  unfolding obey
  stop_margin m e q = rw (ap (λ (x : ℕ). fits x a) (sym q) ∙ e)

  pub stop_once : (m : ℕ) → fits m a ≡ false → m ≡ s.margin → obey (Some (Once a)) s ≡ unfit
  unfolding obey
  stop_once m e q = rw (ap (λ (x : ℕ). fits x a) (sym q) ∙ e)

pub obey_plain : (s : Sheet) → (obey (Some Highlight) s ≡ laid s) × (obey (Some Break) s ≡ laid (end_line s)) × (obey (Some Fill) s ≡ laid (set_fill true s)) × (obey (Some Unfill) s ≡ laid (set_fill false s))
unfolding obey
obey_plain s = (refl, refl, refl, refl)
