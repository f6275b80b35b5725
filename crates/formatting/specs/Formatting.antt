-- The outcome of formatting a text, by docs/FORMATTED.md: its refusals in their order, and its lines.
use Rattle.std.specs.Prelude.{ℕ, List, cond, ltb, Ok, Err}
use Rattle.alphabet.specs.Bytes.{is_null}
use Rattle.alphabet.specs.Delimiters.{first_wrong_delimiter}
use Rattle.alphabet.specs.declared.answers.Refusal.TheVariants.{Delimiter, NullText, Layout}
use Rattle.escaping.specs.Outcomes.{Outcome, text, fault, fitting}
use Rattle.format_commands.specs.Items.{Item, items_of}
use Rattle.formatting.specs.Sheet.{Lines, lines, none, lines_of}

-- "then 42 (place 0)": "it is looked for only where the whole text holds no 4, 11, 12 or 13, and it carries no place"
unfoldable pub told : Lines → Outcome ℕ
told (lines t) = text t
told none = fault Layout 0

unfoldable pub laid_out : Outcome Item → Outcome ℕ
laid_out (Ok xs) = told (lines_of xs)
laid_out (Err f) = Err f

-- "3, 15, then the leftmost of 4, 11, 12, 13, then 42 (place 0), then 14"
unfoldable pub formatting : List ℕ → List ℕ → ℕ → Outcome ℕ
formatting ds s room =
    cond (ltb (first_wrong_delimiter ds) 5) (fault Delimiter (first_wrong_delimiter ds))
    (cond (is_null s) (fault NullText 0) (fitting room (laid_out (items_of ds s))))
