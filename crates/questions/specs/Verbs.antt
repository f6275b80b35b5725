-- The verbs of the questions that there are. Assumes nothing.
use Rattle.std.specs.Prelude.{ℕ, List, [], ◌∷◌}
use Rattle.element_questions.specs.Verbs as element
use Rattle.judge_questions.specs.Verbs as judge
use Rattle.judge_questions.specs.Readings.{read_verb}
use Rattle.text_questions.specs.Verbs as text
use Rattle.frame_questions.specs.Verbs as frame

-- `read`, `ack`, and those of each family
pub data Verb : List ℕ → Type 0 where
  read : Verb read_verb
  ack : Verb (97 ∷ 99 ∷ 107 ∷ [])
  of_element : {word : List ℕ} → element.Verb word → Verb word
  of_judgement : {word : List ℕ} → judge.Verb word → Verb word
  of_text_verb : {word : List ℕ} → text.Verb word → Verb word
  of_frame : {word : List ℕ} → frame.Verb word → Verb word
