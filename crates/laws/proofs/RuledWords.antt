-- A text with no command keeps its words, and has lines exactly where each of them has at most 200 bytes. Rests on
-- RuledLines and formatting's SheetLaws.
use mathlib.Core.Path.{◌≡◌, refl, sym, ap, subst, ◌∙◌}
use mathlib.Core.List.{List, [], ◌∷◌, ◌++◌, map, append_assoc, append-nil}
use mathlib.Core.Bool.{Bool, true, false, cond, ◌&&◌, and_assoc, and-false}
use Prim.Native.Nat.{ℕ, zero, suc, ◌+◌, ◌≤◌}
use native.Mathlib.Omega.{arith}
use lib.Dec.{leb, eqb}
use lib.ListN.{length}
use borrow.Author.Tests.{leb-true, leb-false, le-leb, lt-leb}
use Rattle.alphabet.proofs.BoolLaws.{false_true, and_both, both_and}
use Rattle.format_commands.specs.Items.{byte}
use Rattle.formatting.specs.Sheet.{Sheet, Laid, laid, unfit, then_laid, blanks, is_empty, shown, end_line, lead, put, end_word, note_cr, add_byte, owe, of_word, space, move, moves, Lines, lines, none, written, lines_from, lines_of}
use Rattle.formatting.specs.Runs.{inked}
use Rattle.formatting.proofs.SheetLaws.{end_none}
use Rattle.laws.specs.Ruled.{kept, words_from, words, narrow}
use Rattle.laws.proofs.RuledLines.{inked_append}

-- ---- the words of what is put together

kept_append : (w : List ℕ) (us vs : List (List ℕ)) → kept w us ++ vs ≡ kept w (us ++ vs)
kept_append [] us vs = refl
kept_append (b ∷ w) us vs = refl

-- a byte that is of no word stands between
words_apart : (w a : List ℕ) (b : ℕ) (r : List ℕ) → of_word b ≡ false → words_from w (a ++ b ∷ r) ≡ words_from w a ++ words r
unfolding words_from
words_apart w [] b r e = rw e (sym (kept_append w [] (words_from [] r)))
words_apart w (x ∷ a) b r e = at (of_word x) (words_apart (w ++ x ∷ []) a b r e) (words_apart [] a b r e)
  where
    at : (t : Bool) → words_from (w ++ x ∷ []) (a ++ b ∷ r) ≡ words_from (w ++ x ∷ []) a ++ words_from [] r
        → words_from [] (a ++ b ∷ r) ≡ words_from [] a ++ words_from [] r
        → cond t (words_from (w ++ x ∷ []) (a ++ b ∷ r)) (kept w (words_from [] (a ++ b ∷ r)))
        ≡ cond t (words_from (w ++ x ∷ []) a) (kept w (words_from [] a)) ++ words_from [] r
    at true p q = p
    at false p q = ap (kept w) q ∙ sym (kept_append w (words_from [] a) (words_from [] r))

words_blanks : (n : ℕ) (r : List ℕ) → words (blanks n ++ r) ≡ words r
unfolding words_from
words_blanks zero r = refl
words_blanks (suc n) r = words_blanks n r

words_none : words [] ≡ []
unfolding words_from
words_none = refl

words_inked : (v w : List ℕ) → inked w ≡ true → words_from v w ≡ kept (v ++ w) []
unfolding words_from inked
words_inked v [] e = ap (λ (k : List ℕ). kept k []) (sym (append-nil v))
words_inked v (b ∷ w) e =
    let z = and_both (of_word b) (inked w) e in
    rw z.0 (words_inked (v ++ b ∷ []) w z.1 ∙ ap (λ (k : List ℕ). kept k []) (append_assoc v (b ∷ []) w))

-- what was written ends in LF, or is nothing
abbrev Closed : List ℕ → Type 0
Closed o = (r : List ℕ) → words (o ++ r) ≡ words o ++ words r

closed_end : (a : List ℕ) → Closed (a ++ 10 ∷ [])
closed_end a r =
    ap words (append_assoc a (10 ∷ []) r) ∙ words_apart [] a 10 r refl
    ∙ ap (λ (k : List (List ℕ)). k ++ words r) (sym (words_apart [] a 10 [] refl ∙ ap (λ (k : List (List ℕ)). words a ++ k) words_none ∙ append-nil (words a)))

-- behind a line with bytes on it there is a blank before the next word
abbrev Spaced : List ℕ → ℕ → Type 0
Spaced [] n = Unit {0}
Spaced (x ∷ l) n = 1 ≤ n

words_put : (o l w : List ℕ) (n : ℕ) → Closed o → Spaced l n → words (o ++ (l ++ blanks n ++ w)) ≡ words (o ++ l) ++ words w
words_put o [] w n c h =
    c (blanks n ++ w) ∙ ap (λ (k : List (List ℕ)). words o ++ k) (words_blanks n w) ∙ ap (λ (k : List ℕ). words k ++ words w) (sym (append-nil o))
words_put o (x ∷ l) w zero c h = absurd (omega arith)
words_put o (x ∷ l) w (suc n) c h =
    let q : o ++ ((x ∷ l) ++ blanks (suc n) ++ w) ≡ (o ++ x ∷ l) ++ 32 ∷ (blanks n ++ w) = simp append_assoc in
    ap words q ∙ words_apart [] (o ++ x ∷ l) 32 (blanks n ++ w) refl ∙ ap (λ (k : List (List ℕ)). words (o ++ x ∷ l) ++ k) (words_blanks n w)

words_end : (a : List ℕ) → words (a ++ 10 ∷ []) ≡ words a
words_end a = words_apart [] a 10 [] refl ∙ ap (λ (k : List (List ℕ)). words a ++ k) words_none ∙ append-nil (words a)

-- ---- which are narrow

narrow_append : (us vs : List (List ℕ)) → narrow (us ++ vs) ≡ (narrow us && narrow vs)
unfolding narrow
narrow_append [] vs = refl
narrow_append (u ∷ us) vs = rw (narrow_append us vs) (sym (and_assoc (leb (length u) 200) (narrow us) (narrow vs)))

-- ---- the state, where there are no commands

abbrev page : List ℕ → List ℕ → ℕ → List ℕ → Bool → Sheet
page o l n w c = record { out = o; line = l; owed = n; word = w; margin = 0; left = 0; fill = true; centre = false; after_cr = c }

page_lead : (o l w : List ℕ) (n : ℕ) (c : Bool) → lead (page o l n w c) ≡ n
unfolding lead
page_lead o l w n c = at (is_empty l && true)
  where
    at : (t : Bool) → n + cond t 0 0 ≡ n
    at true = omega arith
    at false = omega arith

data Ends (o l w : List ℕ) (c : Bool) : Laid → Type 0 where
  placed : (o' l' : List ℕ) → Closed o' → words (o' ++ l') ≡ words (o ++ l) ++ w ∷ [] → leb (length w) 200 ≡ true → Ends o l w c (laid (page o' l' 0 [] c))
  wide : leb (length w) 200 ≡ false → Ends o l w c unfit

ends : (o l w : List ℕ) (x n : ℕ) (c : Bool) → Closed o → Spaced l n → inked (x ∷ w) ≡ true → Ends o l (x ∷ w) c (end_word (page o l n (x ∷ w) c))
unfolding end_word is_empty put end_line shown
ends o l w x n c k h e =
    rw (page_lead o l (x ∷ w) n c)
    (at (leb (length l + n + length (x ∷ w)) 200) refl (leb (0 + length (x ∷ w)) 200) refl)
  where
    one : words (x ∷ w) ≡ (x ∷ w) ∷ []
    one = words_inked [] (x ∷ w) e

    at : (t : Bool) → leb (length l + n + length (x ∷ w)) 200 ≡ t → (u : Bool) → leb (0 + length (x ∷ w)) 200 ≡ u
        → Ends o l (x ∷ w) c (cond t (laid (page o (l ++ blanks n ++ x ∷ w) 0 [] c)) (cond (true && u) (laid (page (o ++ l ++ 10 ∷ []) (x ∷ w) 0 [] c)) unfit))
    at true p u q =
        placed o (l ++ blanks n ++ x ∷ w) k (words_put o l (x ∷ w) n k h ∙ ap (λ (z : List (List ℕ)). words (o ++ l) ++ z) one)
        (let z = leb-true (length l + n + length (x ∷ w)) 200 p in le-leb (length (x ∷ w)) 200 (omega arith))
    at false p true q =
        placed (o ++ l ++ 10 ∷ []) (x ∷ w) (closed_end (o ++ l))
        (closed_end (o ++ l) (x ∷ w) ∙ ap (λ (z : List (List ℕ)). z ++ words (x ∷ w)) (words_end (o ++ l)) ∙ ap (λ (z : List (List ℕ)). words (o ++ l) ++ z) one)
        (let z = leb-true (0 + length (x ∷ w)) 200 q in le-leb (length (x ∷ w)) 200 (omega arith))
    at false p false q = wide (let z = leb-false (0 + length (x ∷ w)) 200 q in lt-leb (length (x ∷ w)) 200 (omega arith))

-- ---- byte for byte

data Plainly (ws : List (List ℕ)) : Lines → Type 0 where
  whole : (t : List ℕ) → narrow ws ≡ true → words t ≡ ws → Plainly ws (lines t)
  over : narrow ws ≡ false → Plainly ws none

-- behind a CR nothing was read
abbrev Calm : Bool → List ℕ → Type 0
Calm true w = w ≡ []
Calm false w = Unit {0}

some_not : (x : ℕ) (w : List ℕ) → ◌≡◌ {A = List ℕ} (x ∷ w) [] → ⊥
some_not x w e = let z : ◌≡◌ {A = ℕ} 0 1 = cc in omega arith

narrow_more : (us : List (List ℕ)) (w : List ℕ) → narrow us ≡ true → leb (length w) 200 ≡ true → narrow (us ++ w ∷ []) ≡ true
unfolding narrow
narrow_more us w e f = narrow_append us (w ∷ []) ∙ both_and e (both_and f refl)

narrow_not : (us : List (List ℕ)) (w : List ℕ) (vs : List (List ℕ)) → leb (length w) 200 ≡ false → narrow (us ++ w ∷ vs) ≡ false
unfolding narrow
narrow_not us w vs f = narrow_append us (w ∷ vs) ∙ rw f (and-false (narrow us))

abbrev Goes : List ℕ → Type 0
Goes r =
    (o l w : List ℕ) (n : ℕ) (c : Bool) → Closed o → Spaced l n → Calm c w → inked w ≡ true → narrow (words (o ++ l)) ≡ true
    → Plainly (words (o ++ l) ++ words_from w r) (lines_from (page o l n w c) (map byte r))

-- at the text's end
at_end : Goes []
unfolding lines_from moves written shown words_from is_empty
at_end o l [] n c k h a e g =
    rw (end_none (page o l n [] c) refl) (subst (λ (z : List (List ℕ)). Plainly z (lines (o ++ l))) (sym (append-nil (words (o ++ l)))) (whole (o ++ l) g refl))
at_end o l (x ∷ w) n c k h a e g = at (end_word (page o l n (x ∷ w) c)) (ends o l w x n c k h e)
  where
    at : (q : Laid) → Ends o l (x ∷ w) c q → Plainly (words (o ++ l) ++ (x ∷ w) ∷ []) (written q)
    at q (placed o' l' k' f u) = whole (o' ++ l') (narrow_more (words (o ++ l)) (x ∷ w) g u) f
    at q (wide u) = over (narrow_not (words (o ++ l)) (x ∷ w) [] u)

module _ (b : ℕ) (r : List ℕ) (go : Goes r) where
  -- at a blank, CR or LF with no word before it; `c` says whether a CR was
  at_space : (o l : List ℕ) (n : ℕ) (c : Bool) → Closed o → (c ≡ true → Spaced l n) → narrow (words (o ++ l)) ≡ true → Plainly (words (o ++ l) ++ words r) (lines_from (space b c (page o l n [] false)) (map byte r))
  unfolding space end_line shown inked
  at_space o l n c k h g = at (eqb b 32) (eqb b 10 && c) refl
    where
      same : words ((o ++ l ++ 10 ∷ []) ++ []) ≡ words (o ++ l)
      same = ap words (append-nil (o ++ l ++ 10 ∷ [])) ∙ words_end (o ++ l)

      calm : (t : Bool) → Calm t []
      calm true = refl
      calm false = tt

      at : (t u : Bool) → (eqb b 10 && c) ≡ u → Plainly (words (o ++ l) ++ words r)
          (lines_from (cond t (owe 1 (page o l n [] false)) (cond u (page o l n [] false) (note_cr (eqb b 13) (end_line (page o l n [] false))))) (map byte r))
      at true u p = go o l [] (n + 1) false k (more l n) tt refl g
        where
          more : (l : List ℕ) (n : ℕ) → Spaced l (n + 1)
          more [] n = tt
          more (x ∷ l) n = omega arith
      at false true p = go o l [] n false k (h (and_both (eqb b 10) c p).1) tt refl g
      at false false p =
          subst (λ (z : List (List ℕ)). Plainly (z ++ words r) (lines_from (page (o ++ l ++ 10 ∷ []) [] 0 [] (eqb b 13)) (map byte r))) same
          (go (o ++ l ++ 10 ∷ []) [] [] 0 (eqb b 13) (closed_end (o ++ l)) tt (calm (eqb b 13)) refl (ap narrow same ∙ g))

  -- at a blank, CR or LF, with or without a word before it
  at_gap : (o l w : List ℕ) (n : ℕ) (c : Bool) → Closed o → Spaced l n → Calm c w → inked w ≡ true → narrow (words (o ++ l)) ≡ true
      → Plainly (words (o ++ l) ++ kept w (words r))
      (written (then_laid (then_laid (then_laid (end_word (page o l n w false)) (λ (y : Sheet). laid (space b c y))) (λ (y : Sheet). moves y (map byte r))) end_word))
  unfolding lines_from written is_empty
  at_gap o l [] n c k h a e g = rw (end_none (page o l n [] false) refl) (at_space o l n c k (λ (t : c ≡ true). h) g)
  at_gap o l (x ∷ w) n true k h a e g = absurd (some_not x w a)
  at_gap o l (x ∷ w) n false k h a e g = at (end_word (page o l n (x ∷ w) false)) (ends o l w x n false k h e)
    where
      at : (q : Laid) → Ends o l (x ∷ w) false q
          → Plainly (words (o ++ l) ++ (x ∷ w) ∷ words r) (written (then_laid (then_laid (then_laid q (λ (y : Sheet). laid (space b false y))) (λ (y : Sheet). moves y (map byte r))) end_word))
      at q (placed o' l' k' f u) =
          subst (λ (z : List (List ℕ)). Plainly z (lines_from (space b false (page o' l' 0 [] false)) (map byte r)))
          (ap (λ (z : List (List ℕ)). z ++ words r) f ∙ append_assoc (words (o ++ l)) ((x ∷ w) ∷ []) (words r))
          (at_space o' l' 0 false k' (λ (t : false ≡ true). false_true t) (ap narrow f ∙ narrow_more (words (o ++ l)) (x ∷ w) g u))
      at q (wide u) = over (narrow_not (words (o ++ l)) (x ∷ w) (words r) u)

  at_byte : Goes (b ∷ r)
  unfolding lines_from moves move words_from
  at_byte o l w n c k h a e g = at (of_word b) refl
    where
      at : (t : Bool) → of_word b ≡ t
          → Plainly (words (o ++ l) ++ cond t (words_from (w ++ b ∷ []) r) (kept w (words_from [] r)))
          (written (then_laid (then_laid (cond t (laid (add_byte b (page o l n w c))) (then_laid (end_word (page o l n w false)) (λ (y : Sheet). laid (space b c y)))) (λ (y : Sheet). moves y (map byte r))) end_word))
      at true p = go o l (w ++ b ∷ []) n false k h tt (inked_append w b e p) g
      at false p = at_gap o l w n c k h a e g

plainly : (r : List ℕ) → Goes r
plainly [] = at_end
plainly (b ∷ r) = at_byte b r (plainly r)

plainly_all : (s : List ℕ) → Plainly (words s) (lines_of (map byte s))
unfolding inked narrow
plainly_all s =
    subst (λ (z : List (List ℕ)). Plainly (z ++ words s) (lines_of (map byte s))) words_none
    (plainly s [] [] [] 0 false (λ (r : List ℕ). ap (λ (z : List (List ℕ)). z ++ words r) (sym words_none)) tt tt refl (ap narrow words_none))

-- "So no line is ever longer than 200": a text with no command has lines where each of its words has at most 200 bytes,
-- and the words of the lines are those of the text, in order
pub plain_laid : (s : List ℕ) → narrow (words s) ≡ true → (t : List ℕ) × (lines_of (map byte s) ≡ lines t) × (words t ≡ words s)
plain_laid s n = at (lines_of (map byte s)) (plainly_all s)
  where
    at : (q : Lines) → Plainly (words s) q → (t : List ℕ) × (q ≡ lines t) × (words t ≡ words s)
    at q (whole t m e) = (t, refl, e)
    at q (over m) = false_true (sym m ∙ n)

-- "Else 42", and nowhere else
pub plain_unfit : (s : List ℕ) → narrow (words s) ≡ false → lines_of (map byte s) ≡ none
plain_unfit s n = at (lines_of (map byte s)) (plainly_all s)
  where
    at : (q : Lines) → Plainly (words s) q → q ≡ none
    at q (whole t m e) = false_true (sym n ∙ m)
    at q (over m) = refl
