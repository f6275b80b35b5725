-- What comes of writing or reading a text, by document 01, 'Numbers given back', and what an outcome makes of the
-- answer and of the buffer.
use Rattle.std.specs.Prelude.{ℕ, List, Option, Some, None, Ok, Err, cond, length, leb, ltb}
use Rattle.alphabet.specs.Answers.{Refusable, Check, fails, fails_if}
use Rattle.alphabet.specs.Filling.{over}
use Rattle.alphabet.specs.Delimiters.{first_wrong_delimiter}
use Rattle.alphabet.specs.declared.answers.Refusal.{Refusal}
use Rattle.alphabet.specs.declared.answers.Refusal.TheVariants.{Delimiter, NoRoom}
use Rattle.escaping.specs.Escape.{escape}

-- a text, or a fault and its place; a text is bytes, where it is written, and may be more than bytes, where it is read
abbrev pub Outcome : Type 0 → Type 0
Outcome A = Refusable (List A)

abbrev pub text : {A : Type 0} → List A → Outcome A
text t = Ok t

abbrev pub fault : {A : Type 0} → Refusal → ℕ → Outcome A
fault kind place = fails kind place

-- "result longer than the buffer", which has room for `room` bytes; its place is "else 0"
unfoldable pub fitting : ℕ → Outcome ℕ → Outcome ℕ
fitting room (Err f) = Err f
fitting room (Ok t) = cond (leb (length t) room) (text t) (fault NoRoom 0)

-- "3": the first that is not permitted, or the same as an earlier one
abbrev pub delimiters_check : List ℕ → Check
delimiters_check ds = fails_if (ltb (first_wrong_delimiter ds) 5) Delimiter (first_wrong_delimiter ds)

-- "Escaping: 3, then 14."
unfoldable pub escaping : List ℕ → List ℕ → ℕ → Outcome ℕ
escaping ds t room =
    cond (ltb (first_wrong_delimiter ds) 5) (fault Delimiter (first_wrong_delimiter ds)) (fitting room (text (escape ds t)))

-- "its length is given"; "A refusal gives number and place"
unfoldable pub answer : Outcome ℕ → Refusable ℕ
answer (Ok t) = Ok (length t)
answer (Err f) = Err f

-- "A written text fills the front of its buffer"; a refusal "writes nothing"
unfoldable pub filled : Outcome ℕ → List ℕ → List ℕ
filled (Ok t) d = over t d
filled (Err f) d = d

-- ---- what private functions give

-- n, where so many bytes go into `room`
unfoldable pub room_for : ℕ → ℕ → Option ℕ
room_for room n = cond (leb n room) (Some n) None
