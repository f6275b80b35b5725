-- Whatever is laid is lines of at most 200 bytes, none of which ends in a blank, and has no CR. Assumes nothing.
use mathlib.Core.Path.{◌≡◌, refl, sym, ap, subst, ◌∙◌}
use mathlib.Core.List.{List, [], ◌∷◌, ◌++◌, append_assoc, append-nil}
use mathlib.Core.Bool.{Bool, true, false, cond, not, ◌&&◌, ◌||◌}
use Prim.Native.Nat.{ℕ, zero, suc, ◌+◌, ◌-◌, ◌/◌, ◌≤◌}
use native.Mathlib.Omega.{arith}
use lib.Dec.{leb, eqb}
use lib.ListN.{length, replicate, length-append, length-replicate}
use borrow.Author.Tests.{leb-true, eq-eqb, ne_eqb}
use Rattle.std.specs.Prelude.{Option, Some, None}
use Rattle.alphabet.specs.Bytes.{ascii}
use Rattle.alphabet.specs.Lists.{first, find}
use Rattle.alphabet.specs.Parts.{split}
use Rattle.alphabet.proofs.BoolLaws.{false_true, and_both, both_and}
use Rattle.alphabet.proofs.PartLaws.{split_cons, split_last}
use Rattle.format_commands.specs.declared.orders.Order.{Order}
use Rattle.format_commands.specs.declared.orders.Order.TheVariants.{Highlight, Break, Centre, Fill, Unfill, Down, Across, Margin, Once}
use Rattle.format_commands.specs.Commands.{order_of}
use Rattle.format_commands.specs.Items.{Item, byte, order}
use Rattle.formatting.specs.Sheet.{Sheet, at_first, Laid, laid, unfit, then_laid, blanks, is_empty, shown, end_line, lead, put, end_word, position, note_cr, add_byte, owe, set_left, set_margin, empty_lines, natural, fits, moved, down, obey, of_word, space, quiet, obeyed, move, moves, lines, written, lines_from, lines_of}
use Rattle.formatting.specs.Runs.{clear, firm, inked}
use Rattle.laws.specs.Ruled.{GoodLine, GoodLines, Ruled}

-- ---- bytes of a word, blanks, and what is put together of them

of_word_lem : (b : ℕ) → of_word b ≡ true → (eqb b 32 ≡ false) × ((eqb b 10 || eqb b 13) ≡ false)
of_word_lem b = at (eqb b 32) (eqb b 13) (eqb b 10)
  where
    at : (t u v : Bool) → not (t || (u || v)) ≡ true → (t ≡ false) × ((v || u) ≡ false)
    at false false false e = (refl, refl)
    at false false true e = false_true e
    at false true v e = false_true e
    at true u v e = false_true e

clear_append : (a b : List ℕ) → clear a ≡ true → clear b ≡ true → clear (a ++ b) ≡ true
unfolding clear
clear_append [] b e f = f
clear_append (x ∷ a) b e f =
    let z = and_both (not (eqb x 10 || eqb x 13)) (clear a) e in
    both_and z.0 (clear_append a b z.1 f)

clear_blanks : (n : ℕ) → clear (blanks n) ≡ true
unfolding clear
clear_blanks zero = refl
clear_blanks (suc n) = clear_blanks n

clear_word : (w : List ℕ) → inked w ≡ true → clear w ≡ true
unfolding clear inked
clear_word [] e = refl
clear_word (b ∷ r) e =
    let z = and_both (of_word b) (inked r) e in
    both_and (ap not (of_word_lem b z.0).1) (clear_word r z.1)

firm_word : (w : List ℕ) → inked w ≡ true → firm w ≡ true
unfolding firm inked
firm_word [] e = refl
firm_word (b ∷ []) e = ap not (of_word_lem b (and_both (of_word b) true e).0).0
firm_word (b ∷ c ∷ r) e = firm_word (c ∷ r) (and_both (of_word b) (of_word c && inked r) e).1

firm_append : (a : List ℕ) (b : ℕ) (w : List ℕ) → firm (b ∷ w) ≡ true → firm (a ++ b ∷ w) ≡ true
unfolding firm
firm_append [] b w e = e
firm_append (x ∷ []) b w e = e
firm_append (x ∷ y ∷ a) b w e = firm_append (y ∷ a) b w e

firm_behind : (a w : List ℕ) → is_empty w ≡ false → firm w ≡ true → firm (a ++ w) ≡ true
unfolding is_empty
firm_behind a [] n e = false_true (sym n)
firm_behind a (b ∷ w) n e = firm_append a b w e

pub inked_append : (w : List ℕ) (b : ℕ) → inked w ≡ true → of_word b ≡ true → inked (w ++ b ∷ []) ≡ true
unfolding inked
inked_append [] b e f = both_and f refl
inked_append (x ∷ w) b e f = let z = and_both (of_word x) (inked w) e in both_and z.0 (inked_append w b z.1 f)

-- ---- lines put together

not_end : (b : ℕ) → not (eqb b 10 || eqb b 13) ≡ true → eqb 10 b ≡ false
not_end b e = ne_eqb 10 b (λ (q : 10 ≡ b). at (eqb b 10) (eqb b 13) (eq-eqb b 10 (sym q)) e)
  where
    at : (t u : Bool) → t ≡ true → not (t || u) ≡ true → ⊥
    at true u p f = false_true f
    at false u p f = false_true p

clear_free : (l : List ℕ) → clear l ≡ true → find 10 l ≡ length l
unfolding clear first
clear_free [] e = refl
clear_free (b ∷ r) e =
    let z = and_both (not (eqb b 10 || eqb b 13)) (clear r) e in
    rw (not_end b z.0) (ap suc (clear_free r z.1))

-- a good line, with its LF and with good lines behind it
line_ruled : (l r : List ℕ) → GoodLine l → Ruled r → Ruled (l ++ 10 ∷ r)
unfolding Ruled GoodLines
line_ruled l r g h = rw (split_cons 10 l r (clear_free l g.is_clear)) (g, h)

last_ruled : (l : List ℕ) → GoodLine l → Ruled l
unfolding Ruled GoodLines
last_ruled l g = let e = clear_free l g.is_clear in rw (split_last 10 l (omega arith)) (g, tt)

-- what was written ends in LF, or is nothing: good lines behind it stay such
abbrev Ended : List ℕ → Type 0
Ended o = (r : List ℕ) → Ruled r → Ruled (o ++ r)

ended_line : (o l : List ℕ) → Ended o → GoodLine l → Ended (o ++ l ++ 10 ∷ [])
ended_line o l e g r h =
    let q : o ++ (l ++ 10 ∷ r) ≡ (o ++ l ++ 10 ∷ []) ++ r = simp append_assoc in
    subst Ruled q (e (l ++ 10 ∷ r) (line_ruled l r g h))

good_nothing : GoodLine []
unfolding clear firm
good_nothing = record { width = omega arith; is_clear = refl; is_firm = refl }

ended_empty : (n : ℕ) (o : List ℕ) → Ended o → Ended (o ++ replicate n 10)
ended_empty zero o e r h = subst (λ (k : List ℕ). Ruled (k ++ r)) (sym (append-nil o)) (e r h)
ended_empty (suc n) o e r h =
    subst Ruled (sym (append_assoc o (replicate (suc n) 10) r)) (e (replicate (suc n) 10 ++ r) (more (suc n)))
  where
    more : (k : ℕ) → Ruled (replicate k 10 ++ r)
    more zero = h
    more (suc k) = line_ruled [] (replicate k 10 ++ r) good_nothing (more k)

-- ---- the state

record Tidy (s : Sheet) : Type 0 where
  ended : Ended s.out
  fits : length s.line ≤ 200
  is_clear : clear s.line ≡ true
  is_firm : firm s.line ≡ true
  is_inked : inked s.word ≡ true

abbrev TidyLaid : Laid → Type 0
TidyLaid (laid s) = Tidy s
TidyLaid unfit = Unit {0}

shown_good : (s : Sheet) → Tidy s → GoodLine (shown s)
unfolding shown
shown_good s t = at s.centre (is_empty s.line) refl
  where
    n : ℕ
    n = (200 - length s.line) / 2

    itself : GoodLine s.line
    itself = record { width = t.fits; is_clear = t.is_clear; is_firm = t.is_firm }

    at : (u v : Bool) → is_empty s.line ≡ v → GoodLine (cond (u && not v) (blanks n ++ s.line) s.line)
    at true false e =
        record {
          width =
              let h = t.fits in
              let l : length (blanks n ++ s.line) ≡ n + length s.line = simp (length-append, length-replicate) refl in
              omega arith;
          is_clear = clear_append (blanks n) s.line (clear_blanks n) t.is_clear;
          is_firm = firm_behind (blanks n) s.line e t.is_firm;
        }
    at true true e = itself
    at false v e = itself

tidy_line : (s : Sheet) → Tidy s → Tidy (end_line s)
unfolding end_line clear firm
tidy_line s t =
    record {
      ended = ended_line s.out (shown s) t.ended (shown_good s t);
      fits = omega arith;
      is_clear = refl;
      is_firm = refl;
      is_inked = t.is_inked;
    }

tidy_put : (n : ℕ) (s : Sheet) → Tidy s → is_empty s.word ≡ false → length s.line + n + length s.word ≤ 200 → Tidy (put n s)
unfolding put inked
tidy_put n s t e h =
    let l : length (s.line ++ blanks n ++ s.word) ≡ length s.line + n + length s.word = simp (length-append, length-replicate) refl in
    record {
      ended = t.ended;
      fits = omega arith;
      is_clear = clear_append (s.line ++ blanks n) s.word (clear_append s.line (blanks n) t.is_clear (clear_blanks n)) (clear_word s.word t.is_inked);
      is_firm = firm_behind (s.line ++ blanks n) s.word e (firm_word s.word t.is_inked);
      is_inked = refl;
    }

line_parts : (s : Sheet) → (length (end_line s).line ≡ 0) × ((end_line s).word ≡ s.word)
unfolding end_line
line_parts s = (refl, refl)

tidy_word : (s : Sheet) → Tidy s → TidyLaid (end_word s)
unfolding end_word
tidy_word s t = at (is_empty s.word) refl (leb (length s.line + lead s + length s.word) 200) refl s.fill (leb (s.margin + length s.word) 200) refl
  where
    at : (a : Bool) → is_empty s.word ≡ a → (b : Bool) → leb (length s.line + lead s + length s.word) 200 ≡ b → (c d : Bool) → leb (s.margin + length s.word) 200 ≡ d
        → TidyLaid (cond a (laid s) (cond b (laid (put (lead s) s)) (cond (c && d) (laid (put s.margin (end_line s))) unfit)))
    at true ea b eb c d ed = t
    at false ea true eb c d ed = tidy_put (lead s) s t ea (leb-true _ 200 eb)
    at false ea false eb true true ed =
        let z = line_parts s in
        let z0 = z.0 in
        let z1 = ap length z.1 in
        let h = leb-true (s.margin + length s.word) 200 ed in
        tidy_put s.margin (end_line s) (tidy_line s t) (ap is_empty z.1 ∙ ea) (omega arith)
    at false ea false eb true false ed = tt
    at false ea false eb false d ed = tt

-- ---- the items

-- the same lines and word, with other settings
tidy_as : (s u : Sheet) → Tidy s → u.out ≡ s.out → u.line ≡ s.line → u.word ≡ s.word → Tidy u
tidy_as s u t o l w =
    record {
      ended = subst Ended (sym o) t.ended;
      fits = subst (λ (k : List ℕ). length k ≤ 200) (sym l) t.fits;
      is_clear = ap clear l ∙ t.is_clear;
      is_firm = ap firm l ∙ t.is_firm;
      is_inked = ap inked w ∙ t.is_inked;
    }

tidy_down : (n : ℕ) (s : Sheet) → Tidy s → Tidy (down n s)
unfolding down
tidy_down n s t = at (eqb n 0)
  where
    u : Tidy (end_line s)
    u = tidy_line s t

    at : (b : Bool) → Tidy (cond b s (set_left (position s) (empty_lines (n - 1) (end_line s))))
    at true = t
    at false =
        record {
          ended = ended_empty (n - 1) (end_line s).out u.ended;
          fits = u.fits;
          is_clear = u.is_clear;
          is_firm = u.is_firm;
          is_inked = u.is_inked;
        }

tidy_if : (b : Bool) (s : Sheet) → Tidy s → TidyLaid (cond b (laid s) unfit)
tidy_if true s t = t
tidy_if false s t = tt

tidy_obey : (o : Option Order) (s : Sheet) → Tidy s → TidyLaid (obey o s)
unfolding obey
tidy_obey None s t = tt
tidy_obey (Some Highlight) s t = t
tidy_obey (Some Break) s t = tidy_line s t
tidy_obey (Some Centre) s t = tidy_as (end_line s) _ (tidy_line s t) refl refl refl
tidy_obey (Some Fill) s t = tidy_as s _ t refl refl refl
tidy_obey (Some Unfill) s t = tidy_as s _ t refl refl refl
tidy_obey (Some (Down a)) s t = tidy_if (natural a) (down a.size s) (tidy_down a.size s t)
tidy_obey (Some (Across a)) s t = tidy_if (natural a) (owe a.size s) (tidy_as s _ t refl refl refl)
tidy_obey (Some (Margin a)) s t = tidy_if (fits s.margin a) (set_margin (moved s.margin a) s) (tidy_as s _ t refl refl refl)
tidy_obey (Some (Once a)) s t = tidy_if (fits s.margin a) (set_left (moved s.margin a) s) (tidy_as s _ t refl refl refl)

tidy_space : (b : ℕ) (cr : Bool) (s : Sheet) → Tidy s → Tidy (space b cr s)
unfolding space
tidy_space b cr s t = at (eqb b 32) (eqb b 10 && cr)
  where
    at : (u v : Bool) → Tidy (cond u (owe 1 s) (cond v s (note_cr (eqb b 13) (end_line s))))
    at true v = tidy_as s _ t refl refl refl
    at false true = t
    at false false = tidy_as (end_line s) _ (tidy_line s t) refl refl refl

tidy_then : (x : Laid) (f : Sheet → Laid) → TidyLaid x → ((s : Sheet) → Tidy s → TidyLaid (f s)) → TidyLaid (then_laid x f)
tidy_then (laid s) f t g = g s t
tidy_then unfit f t g = tt

tidy_move : (s : Sheet) (x : Item) → Tidy s → TidyLaid (move s x)
unfolding move obeyed
tidy_move s (byte b) t = at (of_word b) refl
  where
    at : (u : Bool) → of_word b ≡ u → TidyLaid (cond u (laid (add_byte b s)) (then_laid (end_word (note_cr false s)) (λ (y : Sheet). laid (space b s.after_cr y))))
    at true e = record { ended = t.ended; fits = t.fits; is_clear = t.is_clear; is_firm = t.is_firm; is_inked = inked_append s.word b t.is_inked e }
    at false e =
        tidy_then (end_word (note_cr false s)) (λ (y : Sheet). laid (space b s.after_cr y)) (tidy_word (note_cr false s) (tidy_as s _ t refl refl refl))
        (λ (y : Sheet) (k : Tidy y). tidy_space b s.after_cr y k)
tidy_move s (order c) t = at (quiet (order_of c))
  where
    at : (u : Bool) → TidyLaid (cond u (laid s) (then_laid (end_word (note_cr false s)) (obey (order_of c))))
    at true = t
    at false =
        tidy_then (end_word (note_cr false s)) (obey (order_of c)) (tidy_word (note_cr false s) (tidy_as s _ t refl refl refl))
        (λ (y : Sheet) (k : Tidy y). tidy_obey (order_of c) y k)

tidy_moves : (s : Sheet) (r : List Item) → Tidy s → TidyLaid (moves s r)
unfolding moves
tidy_moves s [] t = t
tidy_moves s (x ∷ r) t = tidy_then (move s x) (λ (u : Sheet). moves u r) (tidy_move s x t) (λ (y : Sheet) (k : Tidy y). tidy_moves y r k)

tidy_first : Tidy at_first
unfolding clear firm inked
tidy_first = record { ended = λ (r : List ℕ) (h : Ruled r). h; fits = omega arith; is_clear = refl; is_firm = refl; is_inked = refl }

ruled_of : (x : Laid) (t : List ℕ) → TidyLaid x → written x ≡ lines t → Ruled t
unfolding written
ruled_of (laid s) t k e = let q : s.out ++ shown s ≡ t = cc in subst Ruled q (k.ended (shown s) (last_ruled (shown s) (shown_good s k)))
ruled_of unfit t k e = absurd (let z : ◌≡◌ {A = ℕ} 0 1 = cc in omega arith)

-- "Every line is at most 200 bytes. No line ends in a blank. There is no CR in the result."
pub laid_ruled : (r : List Item) (t : List ℕ) → lines_of r ≡ lines t → Ruled t
unfolding lines_from
laid_ruled r t e = ruled_of (then_laid (moves at_first r) end_word) t (tidy_then (moves at_first r) end_word (tidy_moves at_first r tidy_first) tidy_word) e

-- ---- and not every text is so: too long, a blank at a line's end, or a CR

pub long_not_ruled : Ruled (replicate 201 120) → ⊥
unfolding Ruled GoodLines split
long_not_ruled g = let h : 201 ≤ 200 = g.0.width in omega arith

pub blank_not_ruled : Ruled (ascii "a \nb") → ⊥
unfolding Ruled GoodLines split firm
blank_not_ruled g = false_true g.0.is_firm

pub cr_not_ruled : Ruled (ascii "a\n\rb") → ⊥
unfolding Ruled GoodLines split clear
cr_not_ruled g = false_true g.1.0.is_clear
