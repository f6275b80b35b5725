-- Laws of the question `read MSG`: what its words ask, and the two numbers of its answer. Assumes nothing.
use Prim.Native.Nat.{ℕ}
use mathlib.Core.Path.{◌≡◌, refl, sym, ap, subst, ◌∙◌}
use mathlib.Core.List.{List, [], ◌∷◌, ◌++◌}
use native.Mathlib.Omega.{arith}
use lib.ListN.{length, get_or}
use Rattle.std.specs.Prelude.{Option, Some, None, is_some, IfSome, OnSome, IfNone}
use Rattle.std.specs.Result.{result_err}
use Rattle.alphabet.proofs.BoolLaws.{false_true}
use Rattle.alphabet.specs.declared.answers.Fault.{Fault}
use Rattle.io.specs.Digits.{last_digits}
use Rattle.asking.specs.Hex.{said}
use Rattle.asking.specs.Messages.{held_of}
use Rattle.reading.specs.Reading.{reading}
use Rattle.answering.specs.Answers.{TwoPut, fault_number, fault_place, no_question}
use Rattle.judge_questions.specs.Readings.{read_asked, TwoNumbers, ReadNumbers, ReadAnswer, numbers, unknown}

pub asked_two : (ws : List (List ℕ)) → length ws ≡ 2 → read_asked ws ≡ said (get_or ws 1 [])
unfolding read_asked
asked_two [] h = absurd (omega arith)
asked_two (v ∷ []) h = absurd (omega arith)
asked_two (v ∷ m ∷ []) h = refl
asked_two (v ∷ m ∷ w ∷ ws) h = absurd (omega arith)

pub asked_other : (ws : List (List ℕ)) → (length ws ≡ 2 → ⊥) → read_asked ws ≡ None
unfolding read_asked
asked_other [] h = refl
asked_other (v ∷ []) h = refl
asked_other (v ∷ m ∷ []) h = absurd (h refl)
asked_other (v ∷ m ∷ w ∷ ws) h = refl

-- two numbers put into an answer that had nothing
pub two_numbers : {before after : List ℕ} {number place : ℕ} → before ≡ [] → TwoPut before after number place 10 → TwoNumbers after
two_numbers {number = number} {place = place} e p =
    record {
      number = number;
      place = place;
      first = p.first.count;
      second = p.second.count;
      fewest = (p.first.fewest, p.second.fewest);
      line = p.second.grown ∙ ap (λ (l : List ℕ). l ++ (last_digits 10 p.second.count place ++ (10 ∷ []))) (p.first.grown ∙ ap (λ (l : List ℕ). l ++ (last_digits 10 p.first.count number ++ (32 ∷ []))) e);
    }

-- the two that reading gives
pub read_numbers : (message : List ℕ) {before after : List ℕ} (fault : Option Fault) → before ≡ [] → fault ≡ result_err (reading (held_of message))
    → TwoPut before after (fault_number fault) (fault_place fault) 10 → ReadNumbers message after
read_numbers m fault e f p = rw (sym e, sym f) p

-- the answer to `read`, where a message is said and where none is
pub answered : (put : Option (Unit {0})) (asked : Option (List ℕ)) (before after : List ℕ) → is_some put ≡ is_some asked → OnSome put (TwoNumbers before)
    → OnSome put (after ≡ before) → IfNone put (after ≡ no_question) → ReadAnswer asked after
answered (Some u) (Some m) b a e n s q = numbers (subst TwoNumbers (sym s) n)
answered (Some u) None b a e n s q = false_true (sym e)
answered None (Some m) b a e n s q = false_true e
answered None None b a e n s q = subst (λ (l : List ℕ). ReadAnswer None l) (sym q) unknown

pub answered_which : (put : Option (Unit {0})) (asked : Option (List ℕ)) (before after : List ℕ) → is_some put ≡ is_some asked
    → OnSome put (IfSome asked (λ message. ReadNumbers message before)) → OnSome put (after ≡ before) → IfSome asked (λ message. ReadNumbers message after)
answered_which (Some u) (Some m) b a e n s = subst (ReadNumbers m) (sym s) n
answered_which (Some u) None b a e n s = tt
answered_which None (Some m) b a e n s = false_true e
answered_which None None b a e n s = tt
