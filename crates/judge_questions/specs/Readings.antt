-- The question `read MSG`: what it asks, and what is answered. Assumes nothing.
use Rattle.std.specs.Prelude.{ℕ, ◌≡◌, List, [], ◌∷◌, ◌++◌, Option, Some, None}
use Rattle.std.specs.Result.{result_err}
use Rattle.io.specs.Digits.{last_digits, IsDigitCount}
use Rattle.answering.specs.Answers.{TwoPut, fault_number, fault_place, no_question}
use Rattle.asking.specs.Hex.{said}
use Rattle.asking.specs.Messages.{held_of}
use Rattle.reading.specs.Reading.{reading}

-- the verb `read`
abbrev pub read_verb : List ℕ
read_verb = 114 ∷ 101 ∷ 97 ∷ 100 ∷ []

-- the message of `read MSG`, where there are just these two words
unfoldable pub read_asked : List (List ℕ) → Option (List ℕ)
read_asked [] = None
read_asked (verb ∷ []) = None
read_asked (verb ∷ message ∷ []) = said message
read_asked (verb ∷ message ∷ more ∷ rest) = None

-- `NUMBER PLACE`: two numbers in decimal, each of the fewest digits that hold it, and how many digits those are
pub record TwoNumbers (answer : List ℕ) : Type 0 where
  pub number : ℕ
  pub place : ℕ
  pub first : ℕ
  pub second : ℕ
  pub fewest : IsDigitCount 10 1 number first × IsDigitCount 10 1 place second
  pub line : answer ≡ (last_digits 10 first number ++ (32 ∷ [])) ++ (last_digits 10 second place ++ (10 ∷ []))

-- the answer to `read MSG`: two numbers, and which they are is for the library to say; or that it is no question
pub data ReadAnswer : Option (List ℕ) → List ℕ → Type 0 where
  numbers : {message answer : List ℕ} → TwoNumbers answer → ReadAnswer (Some message) answer
  unknown : ReadAnswer None no_question

-- which two they are: the number and the place of the fault that reading finds in the message, or in no bytes where the
-- program doesn't hold it; and 0 and 0 where it finds none
abbrev pub ReadNumbers : List ℕ → List ℕ → Type 0
ReadNumbers message answer =
    let fault = result_err (reading (held_of message)) in
    TwoPut [] answer (fault_number fault) (fault_place fault) 10
