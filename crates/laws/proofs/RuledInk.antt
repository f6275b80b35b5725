-- The bytes of what is laid, other than blank and LF, are those of the text, in order. Assumes nothing.
use mathlib.Core.Path.{◌≡◌, refl, sym, ap, subst, ◌∙◌}
use mathlib.Core.List.{List, [], ◌∷◌, ◌++◌, append_assoc, append-nil}
use mathlib.Core.Bool.{Bool, true, false, cond, not, ◌&&◌}
use Prim.Native.Nat.{ℕ, zero, suc, ◌+◌, ◌-◌, ◌/◌}
use native.Mathlib.Omega.{arith}
use lib.Dec.{leb, eqb}
use lib.ListN.{length, replicate}
use Rattle.std.specs.Prelude.{Option, Some, None}
use Rattle.alphabet.proofs.BoolLaws.{false_true}
use Rattle.format_commands.specs.Commands.{order_of}
use Rattle.format_commands.specs.declared.orders.Order.{Order}
use Rattle.format_commands.specs.declared.orders.Order.TheVariants.{Highlight, Break, Centre, Fill, Unfill, Down, Across, Margin, Once}
use Rattle.format_commands.specs.Items.{Item, byte, order}
use Rattle.formatting.specs.Sheet.{Sheet, at_first, Laid, laid, unfit, then_laid, blanks, is_empty, shown, end_line, lead, put, end_word, position, note_cr, add_byte, owe, set_left, set_margin, empty_lines, natural, fits, moved, down, obey, of_word, space, quiet, obeyed, move, moves, lines, written, lines_from, lines_of}
use Rattle.laws.specs.Ruled.{ink, bytes_of}

ink_append : (a b : List ℕ) → ink (a ++ b) ≡ ink a ++ ink b
unfolding ink
ink_append [] b = refl
ink_append (x ∷ a) b = at (of_word x) (ink_append a b)
  where
    at : (t : Bool) → ink (a ++ b) ≡ ink a ++ ink b → cond t (x ∷ ink (a ++ b)) (ink (a ++ b)) ≡ cond t (x ∷ ink a) (ink a) ++ ink b
    at true e = ap (λ (k : List ℕ). x ∷ k) e
    at false e = e

ink_blanks : (n : ℕ) → ink (blanks n) ≡ []
unfolding ink
ink_blanks zero = refl
ink_blanks (suc n) = ink_blanks n

ink_ends : (n : ℕ) → ink (replicate n 10) ≡ []
unfolding ink
ink_ends zero = refl
ink_ends (suc n) = ink_ends n

ink_end : ink (10 ∷ []) ≡ []
unfolding ink
ink_end = refl

ink_none : ink [] ≡ []
unfolding ink
ink_none = refl

ink_shown : (s : Sheet) → ink (shown s) ≡ ink s.line
unfolding shown
ink_shown s = at (s.centre && not (is_empty s.line))
  where
    w : ℕ
    w = (200 - length s.line) / 2

    at : (t : Bool) → ink (cond t (blanks w ++ s.line) s.line) ≡ ink s.line
    at true = ink_append (blanks w) s.line ∙ ap (λ (k : List ℕ). k ++ ink s.line) (ink_blanks w)
    at false = refl

-- ---- the state

-- what was read of the text so far
sofar : Sheet → List ℕ
sofar s = ink s.out ++ (ink s.line ++ ink s.word)

abbrev Keeps : List ℕ → Laid → Type 0
Keeps xs (laid s) = sofar s ≡ xs
Keeps xs unfit = Unit {0}

line_ink : (o h l w : List ℕ) → ink h ≡ ink l → ink (o ++ h ++ 10 ∷ []) ++ (ink [] ++ ink w) ≡ ink o ++ (ink l ++ ink w)
line_ink o h l w e =
    let a : ink (o ++ h ++ 10 ∷ []) ≡ ink o ++ ink l =
    ink_append (o ++ h) (10 ∷ []) ∙ ap (λ (k : List ℕ). ink (o ++ h) ++ k) ink_end ∙ append-nil (ink (o ++ h)) ∙ ink_append o h ∙ ap (λ (k : List ℕ). ink o ++ k) e in
    ap (λ (k : List ℕ). k ++ (ink [] ++ ink w)) a ∙ ap (λ (k : List ℕ). (ink o ++ ink l) ++ (k ++ ink w)) ink_none ∙ append_assoc (ink o) (ink l) (ink w)

put_ink : (n : ℕ) (o l w : List ℕ) → ink o ++ (ink (l ++ blanks n ++ w) ++ ink []) ≡ ink o ++ (ink l ++ ink w)
put_ink n o l w =
    let a : ink (l ++ blanks n ++ w) ≡ ink l ++ ink w =
    ink_append (l ++ blanks n) w
    ∙ ap (λ (k : List ℕ). k ++ ink w) (ink_append l (blanks n) ∙ ap (λ (k : List ℕ). ink l ++ k) (ink_blanks n) ∙ append-nil (ink l)) in
    ap (λ (k : List ℕ). ink o ++ k) (ap (λ (k : List ℕ). ink (l ++ blanks n ++ w) ++ k) ink_none ∙ append-nil (ink (l ++ blanks n ++ w)) ∙ a)

keep_line : (s : Sheet) → sofar (end_line s) ≡ sofar s
unfolding end_line sofar
keep_line s = line_ink s.out (shown s) s.line s.word (ink_shown s)

keep_put : (n : ℕ) (s : Sheet) → sofar (put n s) ≡ sofar s
unfolding put sofar
keep_put n s = put_ink n s.out s.line s.word

keep_word : (s : Sheet) → Keeps (sofar s) (end_word s)
unfolding end_word
keep_word s = at (is_empty s.word) (leb (length s.line + lead s + length s.word) 200) (s.fill && leb (s.margin + length s.word) 200)
  where
    at : (a b c : Bool) → Keeps (sofar s) (cond a (laid s) (cond b (laid (put (lead s) s)) (cond c (laid (put s.margin (end_line s))) unfit)))
    at true b c = refl
    at false true c = keep_put (lead s) s
    at false false true = keep_put s.margin (end_line s) ∙ keep_line s
    at false false false = tt

-- ---- the items

keep_empty : (n : ℕ) (s : Sheet) → sofar (empty_lines n s) ≡ sofar s
unfolding sofar
keep_empty n s = simp (ink_append, ink_ends, append-nil)

keep_left : (n : ℕ) (s : Sheet) → sofar (set_left n s) ≡ sofar s
unfolding sofar
keep_left n s = refl

keep_down : (n : ℕ) (s : Sheet) → sofar (down n s) ≡ sofar s
unfolding down
keep_down n s = at (eqb n 0)
  where
    at : (b : Bool) → sofar (cond b s (set_left (position s) (empty_lines (n - 1) (end_line s)))) ≡ sofar s
    at true = refl
    at false = keep_left (position s) (empty_lines (n - 1) (end_line s)) ∙ keep_empty (n - 1) (end_line s) ∙ keep_line s

keep_if : (b : Bool) (s : Sheet) (xs : List ℕ) → sofar s ≡ xs → Keeps xs (cond b (laid s) unfit)
keep_if true s xs e = e
keep_if false s xs e = tt

keep_obey : (o : Option Order) (s : Sheet) → Keeps (sofar s) (obey o s)
unfolding obey sofar
keep_obey None s = tt
keep_obey (Some Highlight) s = refl
keep_obey (Some Break) s = keep_line s
keep_obey (Some Centre) s = keep_line s
keep_obey (Some Fill) s = refl
keep_obey (Some Unfill) s = refl
keep_obey (Some (Down a)) s = keep_if (natural a) (down a.size s) (sofar s) (keep_down a.size s)
keep_obey (Some (Across a)) s = keep_if (natural a) (owe a.size s) (sofar s) refl
keep_obey (Some (Margin a)) s = keep_if (fits s.margin a) (set_margin (moved s.margin a) s) (sofar s) refl
keep_obey (Some (Once a)) s = keep_if (fits s.margin a) (set_left (moved s.margin a) s) (sofar s) refl

keep_space : (b : ℕ) (cr : Bool) (s : Sheet) → sofar (space b cr s) ≡ sofar s
unfolding space sofar
keep_space b cr s = at (eqb b 32) (eqb b 10 && cr)
  where
    at : (u v : Bool) → sofar (cond u (owe 1 s) (cond v s (note_cr (eqb b 13) (end_line s)))) ≡ sofar s
    at true v = refl
    at false true = refl
    at false false = keep_line s

keep_then : (x : Laid) (f : Sheet → Laid) (xs ys : List ℕ) → Keeps xs x → ((s : Sheet) → sofar s ≡ xs → Keeps ys (f s)) → Keeps ys (then_laid x f)
keep_then (laid s) f xs ys e g = g s e
keep_then unfit f xs ys e g = tt

of_byte : (b : ℕ) (t : Bool) → of_word b ≡ t → ink (b ∷ []) ≡ cond t (b ∷ []) []
unfolding ink
of_byte b t e = rw e

sofar_note : (s : Sheet) → sofar (note_cr false s) ≡ sofar s
unfolding sofar
sofar_note s = refl

sofar_add : (b : ℕ) (s : Sheet) → sofar (add_byte b s) ≡ sofar s ++ ink (b ∷ [])
unfolding sofar
sofar_add b s = simp (ink_append, append_assoc)

keep_move : (s : Sheet) (x : Item) → Keeps (sofar s ++ ink (bytes_of (x ∷ []))) (move s x)
unfolding move obeyed bytes_of
keep_move s (byte b) = at (of_word b) refl
  where
    at : (u : Bool) → of_word b ≡ u → Keeps (sofar s ++ ink (b ∷ [])) (cond u (laid (add_byte b s)) (then_laid (end_word (note_cr false s)) (λ (y : Sheet). laid (space b s.after_cr y))))
    at true e = sofar_add b s
    at false e =
        keep_then (end_word (note_cr false s)) (λ (y : Sheet). laid (space b s.after_cr y)) (sofar (note_cr false s)) (sofar s ++ ink (b ∷ [])) (keep_word (note_cr false s))
        (λ (y : Sheet) (k : sofar y ≡ sofar (note_cr false s)).
        keep_space b s.after_cr y ∙ k ∙ sofar_note s ∙ sym (append-nil (sofar s)) ∙ ap (λ (z : List ℕ). sofar s ++ z) (sym (of_byte b false e)))
keep_move s (order c) = at (quiet (order_of c))
  where
    nothing_more : sofar s ++ ink [] ≡ sofar s
    nothing_more = ap (λ (z : List ℕ). sofar s ++ z) ink_none ∙ append-nil (sofar s)

    at : (u : Bool) → Keeps (sofar s ++ ink []) (cond u (laid s) (then_laid (end_word (note_cr false s)) (obey (order_of c))))
    at true = sym nothing_more
    at false =
        keep_then (end_word (note_cr false s)) (obey (order_of c)) (sofar (note_cr false s)) (sofar s ++ ink []) (keep_word (note_cr false s))
        (λ (y : Sheet) (k : sofar y ≡ sofar (note_cr false s)). subst (λ (z : List ℕ). Keeps z (obey (order_of c) y)) (k ∙ sofar_note s ∙ sym nothing_more) (keep_obey (order_of c) y))

bytes_cons : (x : Item) (r : List Item) → ink (bytes_of (x ∷ r)) ≡ ink (bytes_of (x ∷ [])) ++ ink (bytes_of r)
unfolding bytes_of
bytes_cons (byte b) r = ink_append (b ∷ []) (bytes_of r)
bytes_cons (order o) r = ap (λ (z : List ℕ). z ++ ink (bytes_of r)) (sym ink_none)

bytes_none : bytes_of [] ≡ []
unfolding bytes_of
bytes_none = refl

keep_moves : (s : Sheet) (r : List Item) → Keeps (sofar s ++ ink (bytes_of r)) (moves s r)
unfolding moves
keep_moves s [] = sym (ap (λ (z : List ℕ). sofar s ++ ink z) bytes_none ∙ ap (λ (z : List ℕ). sofar s ++ z) ink_none ∙ append-nil (sofar s))
keep_moves s (x ∷ r) =
    keep_then (move s x) (λ (u : Sheet). moves u r) (sofar s ++ ink (bytes_of (x ∷ []))) (sofar s ++ ink (bytes_of (x ∷ r))) (keep_move s x)
    (λ (y : Sheet) (k : sofar y ≡ sofar s ++ ink (bytes_of (x ∷ []))).
    subst (λ (z : List ℕ). Keeps z (moves y r))
    (ap (λ (z : List ℕ). z ++ ink (bytes_of r)) k ∙ append_assoc (sofar s) (ink (bytes_of (x ∷ []))) (ink (bytes_of r)) ∙ ap (λ (z : List ℕ). sofar s ++ z) (sym (bytes_cons x r)))
    (keep_moves y r))

-- ---- the end

abbrev Shows : List ℕ → Laid → Type 0
Shows xs (laid s) = ink (s.out ++ shown s) ≡ xs
Shows xs unfit = Unit {0}

empty_ink : (w : List ℕ) → is_empty w ≡ true → ink w ≡ []
unfolding is_empty ink
empty_ink [] e = refl
empty_ink (b ∷ r) e = false_true e

shows_put : (n : ℕ) (s : Sheet) → ink ((put n s).out ++ shown (put n s)) ≡ sofar (put n s)
unfolding put sofar
shows_put n s = simp (ink_append, ink_shown, ink_none, append-nil)

shows_empty : (s : Sheet) → is_empty s.word ≡ true → ink (s.out ++ shown s) ≡ sofar s
unfolding sofar
shows_empty s e = simp (ink_append, ink_shown, empty_ink s.word e, append-nil)

shows_word : (s : Sheet) (xs : List ℕ) → sofar s ≡ xs → Shows xs (end_word s)
unfolding end_word
shows_word s xs q = at (is_empty s.word) refl (leb (length s.line + lead s + length s.word) 200) (s.fill && leb (s.margin + length s.word) 200)
  where
    at : (a : Bool) → is_empty s.word ≡ a → (b c : Bool) → Shows xs (cond a (laid s) (cond b (laid (put (lead s) s)) (cond c (laid (put s.margin (end_line s))) unfit)))
    at true e b c = shows_empty s e ∙ q
    at false e true c = shows_put (lead s) s ∙ keep_put (lead s) s ∙ q
    at false e false true = shows_put s.margin (end_line s) ∙ keep_put s.margin (end_line s) ∙ keep_line s ∙ q
    at false e false false = tt

shows_then : (x : Laid) (xs : List ℕ) → Keeps xs x → Shows xs (then_laid x end_word)
shows_then (laid s) xs e = shows_word s xs e
shows_then unfit xs e = tt

shows_lines : (x : Laid) (xs t : List ℕ) → Shows xs x → written x ≡ lines t → ink t ≡ xs
unfolding written
shows_lines (laid s) xs t k e = let q : t ≡ s.out ++ shown s = cc in ap ink q ∙ k
shows_lines unfit xs t k e = absurd (let z : ◌≡◌ {A = ℕ} 0 1 = cc in omega arith)

sofar_first : sofar at_first ≡ []
unfolding sofar ink
sofar_first = refl

-- "The bytes of the result other than blank and LF are, in order, those of the text's bytes other than blank, CR and
-- LF."
pub laid_keeps : (r : List Item) (t : List ℕ) → lines_of r ≡ lines t → ink t ≡ ink (bytes_of r)
unfolding lines_from
laid_keeps r t e =
    shows_lines (then_laid (moves at_first r) end_word) (sofar at_first ++ ink (bytes_of r)) t (shows_then (moves at_first r) (sofar at_first ++ ink (bytes_of r)) (keep_moves at_first r)) e
    ∙ ap (λ (z : List ℕ). z ++ ink (bytes_of r)) sofar_first
