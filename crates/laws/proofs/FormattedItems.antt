-- A text that unescaping reads has its bytes as items, and whatever is a command is unknown to unescaping: so
-- formatting is unescaping with more sequences. Assumes nothing.
use mathlib.Core.Path.{◌≡◌, refl, sym, ap, subst, ◌∙◌}
use mathlib.Core.List.{List, [], ◌∷◌, ◌++◌, map, map-append}
use mathlib.Core.Bool.{Bool, true, false, cond, ◌&&◌, ◌||◌, and-false}
use Prim.Native.Nat.{ℕ, zero, suc, ◌+◌}
use native.Mathlib.Omega.{arith}
use lib.Dec.{ltb, eqb}
use lib.ListN.{length, take, drop}
use borrow.Author.Tests.{eqb-true}
use Rattle.alphabet.proofs.CheckLaws.{fails_same}
use Rattle.std.specs.Prelude.{Option, Some, None, is_some}
use Rattle.alphabet.specs.Bytes.{printable}
use Rattle.alphabet.specs.Lists.{first, find, same}
use Rattle.alphabet.specs.Hex.{all_hex}
use Rattle.alphabet.specs.declared.answers.Refusal.{Refusal}
use Rattle.alphabet.specs.declared.answers.Refusal.TheVariants.{NotAllowed, Separator, UnknownEscape, UnclosedEscape}
use Rattle.alphabet.proofs.BoolLaws.{false_true}
use Rattle.escaping.specs.Escape.{escape_of}
use Rattle.escaping.specs.Outcomes.{Outcome, text, fault}
use Rattle.text.specs.Unescape.{known, meaning, plain_text, Step, stop, emit, sequence, step, before, after, scan}
use Rattle.format_commands.specs.declared.numbers.Amount.{Amount}
use Rattle.format_commands.specs.declared.orders.Order.TheVariants.{Highlight}
use Rattle.format_commands.specs.Commands.{digits_of, signed_of, number_of, numbered, order_of, command}
use Rattle.format_commands.specs.Items.{Item, byte, order, formatted_text, items_of}

-- ---- "there every sequence below is 12"

-- one letter: H and N are no letters of the table
letter_plain : (l : ℕ) → known (l ∷ []) ≡ true → command (l ∷ []) ≡ false
unfolding known command order_of same number_of signed_of digits_of numbered first
letter_plain l e = rw (and-false (eqb l 46)) (at (eqb l 72) refl (eqb l 78) refl)
  where
    at : (t : Bool) → eqb l 72 ≡ t → (u : Bool) → eqb l 78 ≡ u → is_some (cond (t && true) (Some Highlight) (cond (u && true) (Some Highlight) None)) ≡ false
    at true p u q = false_true (sym (ap (λ (k : ℕ). known (k ∷ [])) (eqb-true l 72 p)) ∙ e)
    at false p true q = false_true (sym (ap (λ (k : ℕ). known (k ∷ [])) (eqb-true l 78 q)) ∙ e)
    at false p false q = refl

-- X and more
numbered_plain : (a : ℕ) (r : List ℕ) (n : Option Amount) → is_some (numbered (88 ∷ a ∷ r) n) ≡ false
unfolding numbered same
numbered_plain a r None = refl
numbered_plain a r (Some n) = refl

pairs_plain : (a : ℕ) (r : List ℕ) → command (88 ∷ a ∷ r) ≡ false
unfolding command order_of same
pairs_plain a r = at (number_of (drop 3 (88 ∷ a ∷ r)))
  where
    at : (n : Option Amount) → is_some (numbered (take 3 (88 ∷ a ∷ r)) n) ≡ false
    at n = numbered_plain a (take 1 r) n

known_plain : (c : List ℕ) → known c ≡ true → command c ≡ false
unfolding known
known_plain [] e = false_true e
known_plain (l ∷ []) e = letter_plain l e
known_plain (l ∷ a ∷ r) e = at (eqb l 88) refl e
  where
    at : (t : Bool) → eqb l 88 ≡ t → (t && all_hex (a ∷ r)) ≡ true → command (l ∷ a ∷ r) ≡ false
    at true p q = ap (λ (k : ℕ). command (k ∷ a ∷ r)) (eqb-true l 88 p) ∙ pairs_plain a r
    at false p q = false_true q

pub plain_refuses : (c : List ℕ) → command c ≡ true → known c ≡ false
plain_refuses c e = at (known c) refl
  where
    at : (t : Bool) → known c ≡ t → t ≡ false
    at true p = false_true (sym (known_plain c p) ∙ e)
    at false p = refl

-- ---- the two scans side by side

-- bytes are bytes as items, a fault is the same fault; but where unescaping has 12, it may be a command
data Alike : Step ℕ → Step Item → Type 0 where
  says : (xs : List ℕ) (k : ℕ) → Alike (emit xs k) (emit (map byte xs) k)
  stops : (k : Refusal) → Alike (stop k) (stop k)
  more : (s : Step Item) → Alike (stop UnknownEscape) s

steps_alike : (ds : List ℕ) (b : ℕ) (r : List ℕ) → Alike (step plain_text ds b r) (step formatted_text ds b r)
unfolding step sequence
steps_alike ds b r = at (eqb b (escape_of ds)) (printable b) (ltb (find b ds) 5) (ltb n (length r)) (known c) refl (command c) refl
  where
    n : ℕ
    n = find (escape_of ds) r

    c : List ℕ
    c = take n r

    at : (t u v w x : Bool) → known c ≡ x → (y : Bool) → command c ≡ y
        → Alike (cond t (cond w (cond x (emit (meaning ds c) (n + 1)) (stop UnknownEscape)) (stop UnclosedEscape)) (cond u (cond v (stop Separator) (emit (b ∷ []) 0)) (stop NotAllowed)))
        (cond t (cond w (cond (y || x) (emit (cond y (order c ∷ []) (map byte (meaning ds c))) (n + 1)) (stop UnknownEscape)) (stop UnclosedEscape)) (cond u (cond v (stop Separator) (emit (byte b ∷ []) 0)) (stop NotAllowed)))
    at true u v true true p true q = false_true (sym (plain_refuses c q) ∙ p)
    at true u v true true p false q = says (meaning ds c) (n + 1)
    at true u v true false p y q = more _
    at true u v false x p y q = stops UnclosedEscape
    at false true true w x p y q = stops Separator
    at false true false w x p y q = says (b ∷ []) 0
    at false false v w x p y q = stops NotAllowed

data AlikeAll : Outcome ℕ → Outcome Item → Type 0 where
  says : (t : List ℕ) → AlikeAll (text t) (text (map byte t))
  stops : (k : Refusal) (p : ℕ) → AlikeAll (fault k p) (fault k p)
  more : (p : ℕ) (o : Outcome Item) → AlikeAll (fault UnknownEscape p) o

before_alike : (xs : List ℕ) {o : Outcome ℕ} {q : Outcome Item} → AlikeAll o q → AlikeAll (before xs o) (before (map byte xs) q)
before_alike xs (AlikeAll.says t) = subst (λ (z : List Item). AlikeAll (text (xs ++ t)) (text z)) (map-append byte xs t) (AlikeAll.says (xs ++ t))
before_alike xs (AlikeAll.stops k p) = AlikeAll.stops k p
before_alike xs (AlikeAll.more p o) = AlikeAll.more p (before (map byte xs) o)

after_alike : {s : Step ℕ} {t : Step Item} (at : ℕ) (f : ℕ → Outcome ℕ) (g : ℕ → Outcome Item) → Alike s t → ((k : ℕ) → AlikeAll (f k) (g k)) → AlikeAll (after s at f) (after t at g)
after_alike at f g (Alike.says xs k) h = before_alike xs (h k)
after_alike at f g (Alike.stops k) h = AlikeAll.stops k at
after_alike at f g (Alike.more s) h = AlikeAll.more at (after s at g)

scans_alike : (ds : List ℕ) (at skip : ℕ) (s : List ℕ) → AlikeAll (scan plain_text ds at skip s) (scan formatted_text ds at skip s)
unfolding scan
scans_alike ds at skip [] = AlikeAll.says []
scans_alike ds at (suc skip) (b ∷ r) = scans_alike ds (at + 1) skip r
scans_alike ds at zero (b ∷ r) =
    after_alike at (λ (k : ℕ). scan plain_text ds (at + 1) k r) (λ (k : ℕ). scan formatted_text ds (at + 1) k r) (steps_alike ds b r)
    (λ (k : ℕ). scans_alike ds (at + 1) k r)

-- a text that unescaping reads has its bytes as items
pub items_of_text : (ds s t : List ℕ) → scan plain_text ds 0 0 s ≡ text t → items_of ds s ≡ text (map byte t)
items_of_text ds s t e = at (scan plain_text ds 0 0 s) (items_of ds s) (scans_alike ds 0 0 s) e
  where
    at : (o : Outcome ℕ) (q : Outcome Item) → AlikeAll o q → o ≡ text t → q ≡ text (map byte t)
    at o q (AlikeAll.says u) f = let z : u ≡ t = cc in ap (λ (k : List ℕ). text (map byte k)) z
    at o q (AlikeAll.stops k p) f = absurd (let z : ◌≡◌ {A = ℕ} 0 1 = cc in omega arith)
    at o q (AlikeAll.more p x) f = absurd (let z : ◌≡◌ {A = ℕ} 0 1 = cc in omega arith)

-- and what unescaping refuses with 4, 11 or 13 is refused so here, at the same place
pub items_of_fault : (ds s : List ℕ) (k : Refusal) (p : ℕ) → scan plain_text ds 0 0 s ≡ fault k p → (k ≡ UnknownEscape → ⊥) → items_of ds s ≡ fault k p
items_of_fault ds s k p e n = at (scan plain_text ds 0 0 s) (items_of ds s) (scans_alike ds 0 0 s) e
  where
    at : (o : Outcome ℕ) (q : Outcome Item) → AlikeAll o q → o ≡ fault k p → q ≡ fault k p
    at o q (AlikeAll.says u) f = absurd (let z : ◌≡◌ {A = ℕ} 0 1 = cc in omega arith)
    at o q (AlikeAll.stops j i) f = let same = fails_same f in let a : j ≡ k = same.0 in let b : i ≡ p = same.1 in ap (λ (x : Refusal). fault x i) a ∙ ap (fault k) b
    at o q (AlikeAll.more i x) f = absurd (n (sym (fails_same f).0))
