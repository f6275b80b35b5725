-- What is put into an answer. Assumes nothing.
use Rattle.std.specs.Prelude.{ℕ, ◌+◌, ◌≤◌, ◌≡◌, List, [], ◌∷◌, ◌++◌, length, Option, Some, None}
use Rattle.alphabet.specs.Answers.{number_of}
use Rattle.alphabet.specs.declared.answers.Fault.{Fault}
use Rattle.io.specs.Digits.{last_digits, IsDigitCount}

-- there is room in an answer for so many bytes more: the longest has 600,000
abbrev pub Fits : List ℕ → ℕ → Type 0
Fits answer more = length answer + more ≤ 600000

-- `?`, the answer to a line that is no question
abbrev pub no_question : List ℕ
no_question = 63 ∷ 10 ∷ []

-- the number of a refusal and its place, and 0 and 0 where nothing is refused
abbrev pub fault_number : Option Fault → ℕ
fault_number (Some fault) = number_of fault.kind
fault_number None = 0

abbrev pub fault_place : Option Fault → ℕ
fault_place (Some fault) = fault.place
fault_place None = 0

-- an answer has grown by a number in decimal, of the fewest digits that hold it, and at most 20, and the byte that ends it
pub record NumberPut (before after : List ℕ) (number end : ℕ) : Type 0 where
  pub count : ℕ
  pub few : count ≤ 20
  pub fewest : IsDigitCount 10 1 number count
  pub grown : after ≡ before ++ (last_digits 10 count number ++ (end ∷ []))

-- it has grown by two numbers, of which a space ends the first
pub record TwoPut (before after : List ℕ) (number place end : ℕ) : Type 0 where
  pub between : List ℕ
  pub first : NumberPut before between number 32
  pub second : NumberPut between after place end
