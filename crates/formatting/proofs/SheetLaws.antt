-- The layout in lists: items one behind another, bytes that fit on the line, and a word that passes its end.
-- Assumes nothing.
use mathlib.Core.Path.{◌≡◌, refl, sym, ap, ap₂, subst, ◌∙◌}
use mathlib.Core.List.{List, [], ◌∷◌, ◌++◌, map, append_assoc, append-nil, map-append}
use mathlib.Core.Bool.{Bool, true, false, cond, not, ◌&&◌, ◌||◌}
use Prim.Native.Nat.{ℕ, zero, suc, ◌+◌, ◌≤◌, ◌<◌}
use native.Mathlib.Omega.{arith}
use lib.Dec.{leb, eqb}
use lib.ListN.{length, length-append, length-replicate, replicate-append-replicate}
use borrow.Author.Tests.{le-leb, lt-leb, leb-true, leb-false, eqb-true}
use native.Mathlib.Nat.{add-zero}
use Rattle.alphabet.proofs.BoolLaws.{false_true, and_both}
use Rattle.format_commands.specs.Commands.{order_of}
use Rattle.format_commands.specs.Items.{Item, byte, order}
use Rattle.formatting.specs.Sheet.{Sheet, Laid, laid, unfit, then_laid, blanks, is_empty, shown, end_line, lead, put, end_word, note_cr, add_byte, obey, quiet, obeyed, of_word, space, move, moves, Lines, none, written, lines_from}
use Rattle.formatting.specs.Runs.{clear, firm, inked}
use Rattle.formatting.specs.Going.{lines_after, Goes}
use Rattle.formatting.specs.Pages.{ahead}

-- ---- items one behind another

pub moves_append : (s : Sheet) (xs r : List Item) → moves s (xs ++ r) ≡ then_laid (moves s xs) (λ (t : Sheet). moves t r)
unfolding moves
moves_append s [] r = refl
moves_append s (x ∷ xs) r = by (move s x) (λ (t : Sheet). moves_append t xs r)
  where
    by : (m : Laid) → ((t : Sheet) → moves t (xs ++ r) ≡ then_laid (moves t xs) (λ (u : Sheet). moves u r))
        → then_laid m (λ (t : Sheet). moves t (xs ++ r)) ≡ then_laid (then_laid m (λ (t : Sheet). moves t xs)) (λ (u : Sheet). moves u r)
    by (laid t) more = more t
    by unfit more = refl

pub goes_then : (l m n : Laid) (xs ys : List Item) → Goes l xs m → Goes m ys n → Goes l (xs ++ ys) n
goes_then l m n xs ys f g r = ap (lines_after l) (append_assoc xs ys r) ∙ f (ys ++ r) ∙ g r

pub goes_none : (l : Laid) → Goes l [] l
goes_none l r = refl

pub goes_unfit : (xs : List Item) → Goes unfit xs unfit
goes_unfit xs r = refl

pub goes_moves : (s : Sheet) (xs : List Item) (m : Laid) → moves s xs ≡ m → Goes (laid s) xs m
unfolding lines_from written
goes_moves s xs m e r = ap (λ (q : Laid). written (then_laid q end_word)) (moves_append s xs r ∙ ap (λ (q : Laid). then_laid q (λ (t : Sheet). moves t r)) e) ∙ by m
  where
    by : (m : Laid) → written (then_laid (then_laid m (λ (t : Sheet). moves t r)) end_word) ≡ lines_after m r
    by (laid t) = refl
    by unfit = refl

pub moves_one : (s : Sheet) (x : Item) → moves s (x ∷ []) ≡ move s x
unfolding moves
moves_one s x = by (move s x)
  where
    by : (m : Laid) → then_laid m (λ (t : Sheet). laid t) ≡ m
    by (laid t) = refl
    by unfit = refl

-- ---- a line that is still being filled

pub ahead_length : (s : Sheet) → length (ahead s) ≡ length s.line + lead s + length s.word
ahead_length s = simp (length-append, length-replicate) refl

-- the state s, with another line, another debt and another word, and not behind CR
abbrev pub on : Sheet → List ℕ → ℕ → List ℕ → Sheet
on s l o w = record { out = s.out; line = l; owed = o; word = w; margin = s.margin; left = s.left; fill = s.fill; centre = s.centre; after_cr = false }

abbrev pub lead_at : Sheet → List ℕ → ℕ → ℕ
lead_at s l o = o + cond (is_empty l && not s.centre) s.left 0

abbrev pub content : Sheet → List ℕ → ℕ → List ℕ → List ℕ
content s l o w = l ++ blanks (lead_at s l o) ++ w

pub lead_on : (s : Sheet) (l : List ℕ) (o : ℕ) (w : List ℕ) → lead (on s l o w) ≡ lead_at s l o
unfolding lead
lead_on s l o w = refl

-- a word that fits ends on the line
pub end_some : (s : Sheet) → is_empty s.word ≡ false → length (ahead s) ≤ 200 → end_word s ≡ laid (put (lead s) s)
unfolding end_word
end_some s e h = let n = ahead_length s in rw e (rw (le-leb (length s.line + lead s + length s.word) 200 (omega arith)))

pub end_none : (s : Sheet) → is_empty s.word ≡ true → end_word s ≡ laid s
unfolding end_word
end_none s e = rw e

pub snoc_some : (w : List ℕ) (b : ℕ) → is_empty (w ++ b ∷ []) ≡ false
unfolding is_empty
snoc_some [] b = refl
snoc_some (x ∷ w) b = refl

-- words with blanks between them: the last byte is no blank
pub data Words : List ℕ → Type 0 where
  last : (b : ℕ) → of_word b ≡ true → Words (b ∷ [])
  inner : {p : List ℕ} (b : ℕ) → of_word b ≡ true → Words p → Words (b ∷ p)
  blank : {p : List ℕ} → Words p → Words (32 ∷ p)

pub clear_rest : (b : ℕ) (r : List ℕ) → clear (b ∷ r) ≡ true → clear r ≡ true
unfolding clear
clear_rest b r c = (and_both (not (eqb b 10 || eqb b 13)) (clear r) c).1

pub blank_is : (b : ℕ) (r : List ℕ) → of_word b ≡ false → clear (b ∷ r) ≡ true → b ≡ 32
unfolding clear
blank_is b r p c = at (eqb b 32) refl (eqb b 13) (eqb b 10) p (and_both (not (eqb b 10 || eqb b 13)) (clear r) c).0
  where
    at : (t : Bool) → eqb b 32 ≡ t → (u v : Bool) → not (t || (u || v)) ≡ false → not (v || u) ≡ true → b ≡ 32
    at true e u v x y = eqb-true b 32 e
    at false e true true x y = false_true y
    at false e true false x y = false_true y
    at false e false true x y = false_true y
    at false e false false x y = false_true (sym x)

firm_word : (b : ℕ) → firm (b ∷ []) ≡ true → b ≡ 32 → ⊥
unfolding firm
firm_word b f e = false_true (sym (ap (λ (n : ℕ). not (eqb n 32)) e) ∙ f)

pub words_of : (p : List ℕ) → is_empty p ≡ false → clear p ≡ true → firm p ≡ true → Words p
unfolding is_empty firm
words_of [] n c f = false_true (sym n)
words_of (b ∷ []) n c f = at (of_word b) refl
  where
    at : (t : Bool) → of_word b ≡ t → Words (b ∷ [])
    at true e = last b e
    at false e = absurd (firm_word b f (blank_is b [] e c))
words_of (b ∷ x ∷ r) n c f = at (of_word b) refl (words_of (x ∷ r) refl (clear_rest b (x ∷ r) c) f)
  where
    at : (t : Bool) → of_word b ≡ t → Words (x ∷ r) → Words (b ∷ x ∷ r)
    at true e m = inner b e m
    at false e m = subst (λ (k : ℕ). Words (k ∷ x ∷ r)) (sym (blank_is b (x ∷ r) e c)) (blank m)

module _ (s : Sheet) where
  word_byte : (l w : List ℕ) (o b : ℕ) → of_word b ≡ true → move (on s l o w) (byte b) ≡ laid (on s l o (w ++ b ∷ []))
  unfolding move
  word_byte l w o b e = rw e

  blank_none : (l : List ℕ) (o : ℕ) → move (on s l o []) (byte 32) ≡ laid (on s l (o + 1) [])
  unfolding move space is_empty
  blank_none l o = rw (end_none (on s l o []) refl)

  blank_some : (l w : List ℕ) (o : ℕ) → is_empty w ≡ false → length (content s l o w) ≤ 200 → move (on s l o w) (byte 32) ≡ laid (on s (content s l o w) 1 [])
  unfolding move space lead put
  blank_some l w o e h = rw (end_some (on s l o w) e h)

  -- bytes of a word, one behind another
  pub ink_moves : (q l w : List ℕ) (o : ℕ) (r : List Item) → inked q ≡ true → moves (on s l o w) (map byte q ++ r) ≡ moves (on s l o (w ++ q)) r
  unfolding moves inked
  ink_moves [] l w o r e = ap (λ (v : List ℕ). moves (on s l o v) r) (sym (append-nil w))
  ink_moves (b ∷ q) l w o r e =
      let both = and_both (of_word b) (inked q) e in
      ap (λ (m : Laid). then_laid m (λ (t : Sheet). moves t (map byte q ++ r))) (word_byte l w o b both.0)
      ∙ ink_moves q l (w ++ b ∷ []) o r both.1 ∙ ap (λ (v : List ℕ). moves (on s l o v) r) (append_assoc w (b ∷ []) q)

  -- blanks, one behind another
  pub blank_moves : (k : ℕ) (l : List ℕ) (o : ℕ) (r : List Item) → moves (on s l o []) (map byte (blanks k) ++ r) ≡ moves (on s l (o + k) []) r
  unfolding moves
  blank_moves zero l o r = ap (λ (n : ℕ). moves (on s l n []) r) (sym (add-zero o))
  blank_moves (suc k) l o r =
      let e : (o + 1) + k ≡ o + suc k = omega arith in
      ap (λ (m : Laid). then_laid m (λ (t : Sheet). moves t (map byte (blanks k) ++ r))) (blank_none l o)
      ∙ blank_moves k l (o + 1) r ∙ ap (λ (n : ℕ). moves (on s l n []) r) e

  pub some_content : (l v p : List ℕ) (o k : ℕ) → is_empty v ≡ false → content s (content s l o v) k p ≡ content s l o (v ++ (blanks k ++ p))
  unfolding is_empty
  some_content l [] p o k e = false_true (sym e)
  some_content l (x ∷ v) p o k e = by (l ++ blanks (lead_at s l o))
    where
      zeros : (z : List ℕ) → z ++ blanks (k + 0) ++ p ≡ z ++ (blanks k ++ p)
      zeros z = ap (λ (n : ℕ). z ++ blanks n ++ p) (add-zero k) ∙ append_assoc z (blanks k) p

      by : (z : List ℕ) → (z ++ x ∷ v) ++ blanks (k + cond (is_empty (z ++ x ∷ v) && not s.centre) s.left 0) ++ p ≡ z ++ ((x ∷ v) ++ (blanks k ++ p))
      by [] = zeros (x ∷ v)
      by (y ∷ z) = zeros (y ∷ (z ++ x ∷ v)) ∙ append_assoc (y ∷ z) (x ∷ v) (blanks k ++ p)

  pub none_content : (l p : List ℕ) (o k : ℕ) → content s l (o + k) p ≡ content s l o (blanks k ++ p)
  none_content l p o k =
      let x = cond (is_empty l && not s.centre) s.left 0 in
      let e : (o + k) + x ≡ (o + x) + k = omega arith in
      ap (λ (n : ℕ). l ++ blanks n ++ p) e ∙ ap (λ (v : List ℕ). l ++ v ++ p) (sym (replicate-append-replicate (o + x) k 32)) ∙ simp append_assoc

  -- words up to a blank
  words_moves : {p : List ℕ} → Words p → (l w : List ℕ) (o : ℕ) (r : List Item) → length (content s l o (w ++ p)) ≤ 200
      → moves (on s l o w) (map byte p ++ byte 32 ∷ r) ≡ moves (on s (content s l o (w ++ p)) 1 []) r
  unfolding moves is_empty
  words_moves (last b e) l w o r h =
      ap (λ (m : Laid). then_laid m (λ (t : Sheet). moves t (byte 32 ∷ r))) (word_byte l w o b e)
      ∙ ap (λ (m : Laid). then_laid m (λ (t : Sheet). moves t r)) (blank_some l (w ++ b ∷ []) o (snoc_some w b) h)
  words_moves (inner {p} b e m) l w o r h =
      let a = append_assoc w (b ∷ []) p in
      ap (λ (m : Laid). then_laid m (λ (t : Sheet). moves t (map byte p ++ byte 32 ∷ r))) (word_byte l w o b e)
      ∙ words_moves m l (w ++ b ∷ []) o r (subst (λ (v : List ℕ). length (content s l o v) ≤ 200) (sym a) h)
      ∙ ap (λ (v : List ℕ). moves (on s (content s l o v) 1 []) r) a
  words_moves (blank {p} m) l [] o r h =
      let a = none_content l p o 1 in
      ap (λ (m : Laid). then_laid m (λ (t : Sheet). moves t (map byte p ++ byte 32 ∷ r))) (blank_none l o)
      ∙ words_moves m l [] (o + 1) r (subst (λ (v : List ℕ). length v ≤ 200) (sym a) h)
      ∙ ap (λ (v : List ℕ). moves (on s v 1 []) r) a
  words_moves (blank {p} m) l (x ∷ w) o r h =
      let a = some_content l (x ∷ w) p o 1 refl in
      let n = length-append (content s l o (x ∷ w)) (32 ∷ p) in
      let f = append_assoc (l ++ blanks (lead_at s l o)) (x ∷ w) (32 ∷ p) in
      let g = ap length f in
      ap (λ (m : Laid). then_laid m (λ (t : Sheet). moves t (map byte p ++ byte 32 ∷ r))) (blank_some l (x ∷ w) o refl (omega arith))
      ∙ words_moves m (content s l o (x ∷ w)) [] 1 r (subst (λ (v : List ℕ). length v ≤ 200) (sym a) h)
      ∙ ap (λ (v : List ℕ). moves (on s v 1 []) r) a

  -- where bytes lead that go on the line: to another line, debt and word, which hold the same bytes
  pub record Runs (l : List ℕ) (o : ℕ) (w u l' : List ℕ) (o' : ℕ) (w' : List ℕ) : Type 0 where
    pub moved : (r : List Item) → moves (on s l o w) (map byte u ++ r) ≡ moves (on s l' o' w') r
    pub same : content s l' o' w' ≡ content s l o (w ++ u)

  pub runs_ink : (l w q : List ℕ) (o : ℕ) → inked q ≡ true → Runs l o w q l o (w ++ q)
  runs_ink l w q o e = record { moved = λ (r : List Item). ink_moves q l w o r e; same = refl }

  -- behind words come blanks, and what may be a word's beginning
  behind : (l w q : List ℕ) (o k : ℕ) → inked q ≡ true → (r : List Item) → moves (on s l o []) (map byte (blanks k ++ q) ++ r) ≡ moves (on s l (o + k) q) r
  behind l w q o k e r =
      ap (moves (on s l o [])) (ap (λ (v : List Item). v ++ r) (map-append byte (blanks k) q) ∙ append_assoc (map byte (blanks k)) (map byte q) r)
      ∙ blank_moves k l o (map byte q ++ r) ∙ ink_moves q l [] (o + k) r e

  pub runs_blanks : (l q : List ℕ) (o k : ℕ) → inked q ≡ true → Runs l o [] (blanks k ++ q) l (o + k) q
  runs_blanks l q o k e = record { moved = behind l [] q o k e; same = none_content l q o k }

  closes : (p l w : List ℕ) (o : ℕ) (r : List Item) → is_empty (w ++ p) ≡ false → clear p ≡ true → firm p ≡ true → length (content s l o (w ++ p)) ≤ 200
      → moves (on s l o w) (map byte p ++ byte 32 ∷ r) ≡ moves (on s (content s l o (w ++ p)) 1 []) r
  unfolding is_empty moves
  closes [] l w o r n c f h =
      let a = append-nil w in
      ap (λ (m : Laid). then_laid m (λ (t : Sheet). moves t r)) (blank_some l w o (ap is_empty (sym a) ∙ n) (subst (λ (v : List ℕ). length (content s l o v) ≤ 200) a h))
      ∙ ap (λ (v : List ℕ). moves (on s (content s l o v) 1 []) r) (sym a)
  closes (b ∷ p) l w o r n c f h = words_moves (words_of (b ∷ p) refl c f) l w o r h

  pub runs_words : (p l w q : List ℕ) (o k : ℕ) → is_empty (w ++ p) ≡ false → clear p ≡ true → firm p ≡ true → inked q ≡ true → length (content s l o (w ++ p)) ≤ 200
      → Runs l o w (p ++ (blanks (suc k) ++ q)) (content s l o (w ++ p)) (suc k) q
  runs_words p l w q o k n c f e h =
      record {
        moved = λ (r : List Item).
            let g : 1 + k ≡ suc k = omega arith in
            ap (moves (on s l o w)) (ap (λ (v : List Item). v ++ r) (map-append byte p (blanks (suc k) ++ q)) ∙ append_assoc (map byte p) (map byte (blanks (suc k) ++ q)) r)
            ∙ closes p l w o (map byte (blanks k ++ q) ++ r) n c f h ∙ behind (content s l o (w ++ p)) [] q 1 k e r
            ∙ ap (λ (n : ℕ). moves (on s (content s l o (w ++ p)) n q) r) g;
        same = some_content l (w ++ p) q o (suc k) n ∙ ap (content s l o) (append_assoc w p (blanks (suc k) ++ q));
      }

-- ---- a word that passes the line's end

-- where a word does not fit behind the line
abbrev pub Passes : Sheet → Type 0
Passes s = (is_empty s.word ≡ false) × (200 < length s.line + lead s + length s.word)

more_word : (s : Sheet) (b : ℕ) → Passes s → Passes (add_byte b s)
unfolding lead
more_word s b h = let n = length-append s.word (b ∷ []) in let m = h.1 in (snoc_some s.word b, omega arith)

end_passes : (s : Sheet) → Passes s → end_word s ≡ cond (s.fill && leb (s.margin + length s.word) 200) (laid (put s.margin (end_line s))) unfit
unfolding end_word
end_passes s h = rw h.0 (rw (lt-leb (length s.line + lead s + length s.word) 200 h.1))

lead_new : (s : Sheet) → lead (end_line s) ≡ s.margin
unfolding lead end_line is_empty
lead_new s = omega arith

new_word : (s : Sheet) → (end_line s).word ≡ s.word
unfolding end_line
new_word s = refl

new_length : (s : Sheet) → length (ahead (end_line s)) ≡ s.margin + length s.word
unfolding end_line
new_length s =
    let n : length (ahead (end_line s)) ≡ 0 + lead (end_line s) + length s.word = ahead_length (end_line s) in
    let m = lead_new s in
    omega arith

-- the line may be ended as soon as the word passes its end
end_early : (s : Sheet) → Passes s → s.fill ≡ true → end_word s ≡ end_word (end_line s)
unfolding end_line
end_early s h f = by (leb (s.margin + length s.word) 200) refl
  where
    by : (t : Bool) → leb (s.margin + length s.word) 200 ≡ t → end_word s ≡ end_word (end_line s)
    by true e =
        let l = leb-true (s.margin + length s.word) 200 e in
        let n = new_length s in
        end_passes s h ∙ ap₂ (λ (a b : Bool). cond (a && b) (laid (put s.margin (end_line s))) unfit) f e
        ∙ ap (λ (k : ℕ). laid (put k (end_line s))) (sym (lead_new s)) ∙ sym (end_some (end_line s) h.0 (omega arith))
    by false e =
        let l = leb-false (s.margin + length s.word) 200 e in
        let m = lead_new s in
        end_passes s h ∙ ap₂ (λ (a b : Bool). cond (a && b) (laid (put s.margin (end_line s))) unfit) f e
        ∙ sym (end_passes (end_line s) (h.0, let z : 200 < 0 + lead (end_line s) + length s.word = omega arith in z) ∙ ap₂ (λ (a b : Bool). cond (a && b) (laid (put s.margin (end_line (end_line s)))) unfit) f e)

-- the same state, and the same with its line ended: they come to the same lines
early : (s : Sheet) (r : List Item) → Passes s → s.fill ≡ true → lines_from s r ≡ lines_from (end_line s) r
unfolding lines_from moves end_line move obeyed shown lead
early s [] h f = ap written (end_early s h f)
early s (byte b ∷ r) h f = by (of_word b) (early (add_byte b s) r (more_word s b h) f)
  where
    by : (t : Bool) → lines_from (add_byte b s) r ≡ lines_from (end_line (add_byte b s)) r
        → written (then_laid (then_laid (cond t (laid (add_byte b s)) (then_laid (end_word (note_cr false s)) (λ (t : Sheet). laid (space b s.after_cr t)))) (λ (t : Sheet). moves t r)) end_word)
        ≡ written (then_laid (then_laid (cond t (laid (add_byte b (end_line s))) (then_laid (end_word (note_cr false (end_line s))) (λ (t : Sheet). laid (space b s.after_cr t)))) (λ (t : Sheet). moves t r)) end_word)
    by true more = more
    by false more = ap (λ (m : Laid). written (then_laid (then_laid (then_laid m (λ (t : Sheet). laid (space b s.after_cr t))) (λ (t : Sheet). moves t r)) end_word)) (end_early (note_cr false s) h f)
early s (order c ∷ r) h f = by (quiet (order_of c)) (early s r h f)
  where
    by : (t : Bool) → lines_from s r ≡ lines_from (end_line s) r
        → written (then_laid (then_laid (cond t (laid s) (then_laid (end_word (note_cr false s)) (obey (order_of c)))) (λ (t : Sheet). moves t r)) end_word)
        ≡ written (then_laid (then_laid (cond t (laid (end_line s)) (then_laid (end_word (note_cr false (end_line s))) (obey (order_of c)))) (λ (t : Sheet). moves t r)) end_word)
    by true more = more
    by false more = ap (λ (m : Laid). written (then_laid (then_laid (then_laid m (obey (order_of c))) (λ (t : Sheet). moves t r)) end_word)) (end_early (note_cr false s) h f)

-- where no line can take the word
abbrev pub Stuck : Sheet → Type 0
Stuck s = (Passes s) × ((s.fill && leb (s.margin + length s.word) 200) ≡ false)

more_stuck : (s : Sheet) (b : ℕ) → Stuck s → Stuck (add_byte b s)
more_stuck s b h = (more_word s b h.0, by s.fill h.1)
  where
    by : (t : Bool) → (t && leb (s.margin + length s.word) 200) ≡ false → (t && leb (s.margin + length (s.word ++ b ∷ [])) 200) ≡ false
    by true e =
        let l = leb-false (s.margin + length s.word) 200 e in
        let n = length-append s.word (b ∷ []) in
        lt-leb (s.margin + length (s.word ++ b ∷ [])) 200 (omega arith)
    by false e = refl

end_stuck : (s : Sheet) → Stuck s → end_word s ≡ unfit
end_stuck s h = end_passes s h.0 ∙ ap (λ (t : Bool). cond t (laid (put s.margin (end_line s))) unfit) h.1

stuck : (s : Sheet) (r : List Item) → Stuck s → lines_from s r ≡ none
unfolding lines_from moves move obeyed written lead
stuck s [] h = ap written (end_stuck s h)
stuck s (byte b ∷ r) h = by (of_word b) (stuck (add_byte b s) r (more_stuck s b h))
  where
    by : (t : Bool) → lines_from (add_byte b s) r ≡ none
        → written (then_laid (then_laid (cond t (laid (add_byte b s)) (then_laid (end_word (note_cr false s)) (λ (t : Sheet). laid (space b s.after_cr t)))) (λ (t : Sheet). moves t r)) end_word) ≡ none
    by true more = more
    by false more = ap (λ (m : Laid). written (then_laid (then_laid (then_laid m (λ (t : Sheet). laid (space b s.after_cr t))) (λ (t : Sheet). moves t r)) end_word)) (end_stuck (note_cr false s) h)
stuck s (order c ∷ r) h = by (quiet (order_of c)) (stuck s r h)
  where
    by : (t : Bool) → lines_from s r ≡ none
        → written (then_laid (then_laid (cond t (laid s) (then_laid (end_word (note_cr false s)) (obey (order_of c)))) (λ (t : Sheet). moves t r)) end_word) ≡ none
    by true more = more
    by false more = ap (λ (m : Laid). written (then_laid (then_laid (then_laid m (obey (order_of c))) (λ (t : Sheet). moves t r)) end_word)) (end_stuck (note_cr false s) h)

-- a byte more, where the word then passes the line's end
module _ (s : Sheet) (b : ℕ) (ink : of_word b ≡ true) where
  goes_byte : (s : Sheet) → moves s (byte b ∷ []) ≡ laid (add_byte b s)
  unfolding move
  goes_byte s = moves_one s (byte b) ∙ rw ink

  ended_more : lines_from (end_line (add_byte b s)) ≡ lines_from (add_byte b (end_line s))
  unfolding end_line shown
  ended_more = refl

  pub goes_early : Passes (add_byte b s) → s.fill ≡ true → (r : List Item) → lines_from s (byte b ∷ r) ≡ lines_from (end_line s) (byte b ∷ r)
  goes_early h f r =
      goes_moves s (byte b ∷ []) (laid (add_byte b s)) (goes_byte s) r ∙ early (add_byte b s) r h f ∙ ap (λ (g : List Item → Lines). g r) ended_more
      ∙ sym (goes_moves (end_line s) (byte b ∷ []) (laid (add_byte b (end_line s))) (goes_byte (end_line s)) r)

  pub goes_stuck : Stuck (add_byte b s) → Goes (laid s) (byte b ∷ []) unfit
  goes_stuck h r = goes_moves s (byte b ∷ []) (laid (add_byte b s)) (goes_byte s) r ∙ stuck (add_byte b s) r h
