-- Which numbers escaping, unescaping and formatting give back; the place where text breaks off decides unescaping's and
-- formatting's. Assumes nothing.
use mathlib.Core.Path.{refl}
use mathlib.Core.List.{List, [], ◌∷◌}
use mathlib.Core.Bool.{Bool, true, false, cond}
use Prim.Native.Nat.{ℕ, zero, suc, ◌+◌}
use lib.Dec.{leb, ltb, eqb}
use lib.ListN.{length, take}
use Rattle.std.specs.Prelude.{Err, Ok}
use Rattle.alphabet.specs.Lists.{find}
use Rattle.alphabet.specs.Bytes.{printable, is_null}
use Rattle.alphabet.specs.Delimiters.{first_wrong_delimiter}
use Rattle.alphabet.specs.Answers.{number_of, number_given}
use Rattle.alphabet.specs.declared.answers.Refusal.TheVariants.{Delimiter, NotAllowed, Separator, UnknownEscape, UnclosedEscape, NoRoom, NullText}
use Rattle.escaping.specs.Escape.{escape_of, escape}
use Rattle.text.specs.Unescape.{Sequences, plain_text, Step, stop, emit, sequence, step, before, after, scan}
use Rattle.escaping.specs.Outcomes.{Outcome, text, fault}
use Rattle.escaping.specs.Outcomes.{fitting, escaping, answer}
use Rattle.text.specs.Unescape.{unescaping}
use Rattle.format_commands.specs.Items.{Item, formatted_text, items_of}
use Rattle.formatting.specs.Sheet.{Lines, lines, none, lines_of}
use Rattle.formatting.specs.Formatting.{told, laid_out, formatting}
use Rattle.structure.specs.Listed.{In}
use Rattle.laws.specs.Entries.{of_escaping, of_unescaping, of_formatting}
use Rattle.laws.proofs.Among.{among}

-- a text, or a fault with a number of a list
abbrev pub Told : {A : Type 0} → List ℕ → Outcome A → Type 0
Told l (Ok t) = Unit {0}
Told l (Err f) = In (number_of f.kind) l

abbrev Stops : {A : Type 0} → List ℕ → Step A → Type 0
Stops l (stop k) = In (number_of k) l
Stops l (emit xs k) = Unit {0}

before_told : {A : Type 0} (l : List ℕ) (xs : List A) (o : Outcome A) → Told l o → Told l (before xs o)
before_told l xs (Ok t) h = tt
before_told l xs (Err f) h = h

after_told : {A : Type 0} (l : List ℕ) (t : Step A) (at : ℕ) (rest : ℕ → Outcome A) → Stops l t → ((k : ℕ) → Told l (rest k)) → Told l (after t at rest)
after_told l (stop k) at rest h m = h
after_told l (emit xs k) at rest h m = before_told l xs (rest k) (m k)

-- a list that has the four numbers of the scan
module _ {A : Type 0} (q : Sequences A) (ds l : List ℕ) (four : In 4 l) (eleven : In 11 l) (twelve : In 12 l) (thirteen : In 13 l) where
  sequence_stops : (r : List ℕ) (n : ℕ) → Stops l (sequence q ds r n)
  unfolding sequence
  sequence_stops r n = at (ltb n (length r)) (q.known (take n r))
    where
      at : (t u : Bool) → Stops l (cond t (cond u (emit (q.meaning ds (take n r)) (n + 1)) (stop UnknownEscape)) (stop UnclosedEscape))
      at true true = tt
      at true false = twelve
      at false u = thirteen

  step_stops : (b : ℕ) (r : List ℕ) → Stops l (step q ds b r)
  unfolding step
  step_stops b r = at (eqb b (escape_of ds)) (printable b) (ltb (find b ds) 5)
    where
      at : (t u v : Bool) → Stops l (cond t (sequence q ds r (find (escape_of ds) r)) (cond u (cond v (stop Separator) (emit (q.plain b ∷ []) 0)) (stop NotAllowed)))
      at true u v = sequence_stops r (find (escape_of ds) r)
      at false true true = eleven
      at false true false = tt
      at false false v = four

  pub scan_told : (at k : ℕ) (s : List ℕ) → Told l (scan q ds at k s)
  unfolding scan
  scan_told at k [] = tt
  scan_told at (suc k) (b ∷ r) = scan_told (at + 1) k r
  scan_told at zero (b ∷ r) = after_told l (step q ds b r) at (λ (k : ℕ). scan q ds (at + 1) k r) (step_stops b r) (λ (k : ℕ). scan_told (at + 1) k r)

pub fitting_told : (l : List ℕ) (room : ℕ) (o : Outcome ℕ) → In 14 l → Told l o → Told l (fitting room o)
unfolding fitting
fitting_told l room (Err f) i h = h
fitting_told l room (Ok t) i h = at (leb (length t) room)
  where
    at : (u : Bool) → Told l (cond u (text t) (fault NoRoom 0))
    at true = tt
    at false = i

pub answer_told : (l : List ℕ) (o : Outcome ℕ) → In 0 l → Told l o → In (number_given (answer o)) l
unfolding answer
answer_told l (Ok t) z h = z
answer_told l (Err f) z h = h

pub escaping_numbers : (ds t : List ℕ) (room : ℕ) → In (number_given (answer (escaping ds t room))) of_escaping
unfolding escaping
escaping_numbers ds t room = answer_told of_escaping (escaping ds t room) (among of_escaping 0 refl) (at (ltb (first_wrong_delimiter ds) 5))
  where
    at : (u : Bool) → Told of_escaping (cond u (fault Delimiter (first_wrong_delimiter ds)) (fitting room (text (escape ds t))))
    at true = among of_escaping 3 refl
    at false = fitting_told of_escaping room (text (escape ds t)) (among of_escaping 14 refl) tt

-- "3, 15", and then what the text itself says
asked_told : (ds s l : List ℕ) (o : Outcome ℕ) → In 3 l → In 15 l → Told l o
    → Told l (cond (ltb (first_wrong_delimiter ds) 5) (fault Delimiter (first_wrong_delimiter ds)) (cond (is_null s) (fault NullText 0) o))
asked_told ds s l o three fifteen h = at (ltb (first_wrong_delimiter ds) 5) (is_null s)
  where
    at : (u v : Bool) → Told l (cond u (fault Delimiter (first_wrong_delimiter ds)) (cond v (fault NullText 0) o))
    at true v = three
    at false true = fifteen
    at false false = h

pub unescaping_numbers : (ds s : List ℕ) (room : ℕ) → In (number_given (answer (unescaping ds s room))) of_unescaping
unfolding unescaping
unescaping_numbers ds s room =
    let l = of_unescaping in
    let o = scan plain_text ds 0 0 s in
    answer_told l (unescaping ds s room) (among l 0 refl)
    (asked_told ds s l (fitting room o) (among l 3 refl) (among l 15 refl)
    (fitting_told l room o (among l 14 refl) (scan_told plain_text ds l (among l 4 refl) (among l 11 refl) (among l 12 refl) (among l 13 refl) 0 0 s)))

laid_told : (l : List ℕ) (o : Outcome Item) → In 42 l → Told l o → Told l (laid_out o)
unfolding laid_out told
laid_told l (Err f) i h = h
laid_told l (Ok xs) i h = at (lines_of xs)
  where
    at : (q : Lines) → Told l (told q)
    at (lines t) = tt
    at none = i

pub formatting_numbers : (ds s : List ℕ) (room : ℕ) → In (number_given (answer (formatting ds s room))) of_formatting
unfolding formatting
formatting_numbers ds s room =
    let l = of_formatting in
    let o = items_of ds s in
    answer_told l (formatting ds s room) (among l 0 refl)
    (asked_told ds s l (fitting room (laid_out o)) (among l 3 refl) (among l 15 refl)
    (fitting_told l room (laid_out o) (among l 14 refl)
    (laid_told l o (among l 42 refl) (scan_told formatted_text ds l (among l 4 refl) (among l 11 refl) (among l 12 refl) (among l 13 refl) 0 0 s))))
