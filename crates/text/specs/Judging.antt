-- What the private functions of reading a text give: of a step, and of a whole text; and the check that comes before
-- either, which formatted text has too.
use Rattle.std.specs.Prelude.{ℕ, List, [], Bool, true, false, Ok, Err, length}
use Rattle.alphabet.specs.Answers.{Refusable, Check, fails, fails_if, or_else}
use Rattle.alphabet.specs.Bytes.{is_null}
use Rattle.alphabet.specs.declared.answers.Refusal.TheVariants.{NullText}
use Rattle.escaping.specs.Outcomes.{Outcome, delimiters_check}
use Rattle.text.specs.Unescape.{Step, stop, emit}
use Rattle.text.specs.declared.unescaping.Said.{Said}

-- "3, then 15": no text is read under wrong delimiters, and null has none
abbrev pub text_check : List ℕ → List ℕ → Check
text_check ds s = or_else (delimiters_check ds) (fails_if (is_null s) NullText 0)

-- whether there is a text, and the text
unfoldable pub is_text : {A : Type 0} → Outcome A → Bool
is_text (Ok t) = true
is_text (Err f) = false

unfoldable pub text_of : {A : Type 0} → Outcome A → List A
text_of (Ok t) = t
text_of (Err f) = []

-- what the judge gives of a step at a place
unfoldable pub seen : ℕ → Step ℕ → Refusable Said
seen at (stop k) = fails k at
seen at (emit xs k) = Ok (record { length = length xs; skip = k })
