-- What comes of formatting a text, and when, by docs/FORMATTED.md: its items by the grammar of the crate `text`, its
-- lines by `Sheet`. `FormattedGrammar` shows that this is the outcome that the contract names, and no other.
use Rattle.std.specs.Prelude.{ℕ, ◌≤◌, ◌<◌, ◌≡◌, List, length}
use Rattle.alphabet.specs.Bytes.{ascii}
use Rattle.alphabet.specs.Delimiters.{first_wrong_delimiter}
use Rattle.alphabet.specs.declared.answers.Refusal.{Refusal}
use Rattle.alphabet.specs.declared.answers.Refusal.TheVariants.{Delimiter, NoRoom, NullText, Layout}
use Rattle.escaping.specs.Outcomes.{Outcome, text, fault}
use Rattle.text.specs.Reads.{Reads, Refuses}
use Rattle.format_commands.specs.Items.{Item, formatted_text}
use Rattle.formatting.specs.Sheet.{lines, none, lines_of}

-- the delimiters are permitted and the text is not null
pub record Asked (ds s : List ℕ) : Type 0 where
  pub permitted : 5 ≤ first_wrong_delimiter ds
  pub some : s ≡ ascii "\"\"" → ⊥

-- "3, 15, then the leftmost of 4, 11, 12, 13, then 42 (place 0), then 14": each outcome, and when it is
pub data Formats (ds s : List ℕ) (room : ℕ) : Outcome ℕ → Type 0 where
  delimiter : first_wrong_delimiter ds < 5 → Formats ds s room (fault Delimiter (first_wrong_delimiter ds))
  null : 5 ≤ first_wrong_delimiter ds → s ≡ ascii "\"\"" → Formats ds s room (fault NullText 0)
  refused : Asked ds s → (k : Refusal) (p : ℕ) → Refuses formatted_text ds s k p → Formats ds s room (fault k p)
  unfit : Asked ds s → (xs : List Item) → Reads formatted_text ds s xs → lines_of xs ≡ none → Formats ds s room (fault Layout 0)
  long : Asked ds s → (xs : List Item) → Reads formatted_text ds s xs → (t : List ℕ) → lines_of xs ≡ lines t → room < length t → Formats ds s room (fault NoRoom 0)
  written : Asked ds s → (xs : List Item) → Reads formatted_text ds s xs → (t : List ℕ) → lines_of xs ≡ lines t → length t ≤ room → Formats ds s room (text t)
