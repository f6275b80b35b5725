-- Document 02, W5, of formatted text, by docs/FORMATTED.md: each outcome exactly where the grammar and the layout have
-- it; whatever comes out is plain lines with the text's own bytes; a text without commands comes out as unescaping
-- gives it, where it fits on a line; and unescaping refuses every command. Assumes nothing.
use mathlib.Core.Path.{◌≡◌, subst}
use mathlib.Core.Logic.{◌↔◌}
use mathlib.Core.Bool.{true, false}
use mathlib.Core.List.{List, ◌∷◌, ◌++◌}
use Prim.Native.Nat.{ℕ, ◌≤◌}
use lib.ListN.{length}
use Rattle.alphabet.specs.Bytes.{is_null}
use Rattle.alphabet.specs.Delimiters.{first_wrong_delimiter}
use Rattle.alphabet.specs.Lists.{find}
use Rattle.alphabet.specs.declared.answers.Refusal.TheVariants.{UnknownEscape, Layout}
use Rattle.escaping.specs.Escape.{escape_of, escape}
use Rattle.escaping.specs.Outcomes.{Outcome, text, fault, fitting}
use Rattle.text.specs.Unescape.{plain_text, unescaping}
use Rattle.text.specs.Reads.{Reads}
use Rattle.format_commands.specs.Commands.{command}
use Rattle.format_commands.specs.Items.{Item, formatted_text}
use Rattle.formatting.specs.Formatting.{formatting}
use Rattle.laws.specs.Formats.{Formats}
use Rattle.formatting.specs.Runs.{clear, firm}
use Rattle.laws.specs.Ruled.{Ruled, ink, bytes_of, words, narrow}
use Rattle.laws.proofs.RoundTrip.{AreBytes}
use Rattle.laws.proofs.Grammar.{reads_scan}
use Rattle.laws.proofs.FormattedGrammar.{formats, formats_only, items_read, command_twelve}
use Rattle.laws.proofs.FormattedOutcomes.{formatting_ruled, formatting_keeps, formatting_same, formatting_escape, formatting_words, formatting_wide}

-- "Every line is at most 200 bytes. No line ends in a blank. There is no CR in the result.": the lines are the parts at
-- LF
pub format_ruled : (ds s : List ℕ) (room : ℕ) (t : List ℕ) → formatting ds s room ≡ text t → Ruled t
format_ruled = formatting_ruled

module _ (ds : List ℕ) (five : length ds ≡ 5) where
  -- "3, 15, then the leftmost of 4, 11, 12, 13, then 42 (place 0), then 14"
  pub formats_exactly : (s : List ℕ) (room : ℕ) (o : Outcome ℕ) → Formats ds s room o ↔ (formatting ds s room ≡ o)
  formats_exactly s room o = (formats_only ds five s room o, λ e. subst (Formats ds s room) e (formats ds five s room))

  -- "The bytes of the result other than blank and LF are, in order, those of the text's bytes other than blank, CR and
  -- LF."
  pub format_keeps : (s : List ℕ) (room : ℕ) (t : List ℕ) → formatting ds s room ≡ text t → (xs : List Item) × Reads formatted_text ds s xs × (ink t ≡ ink (bytes_of xs))
  format_keeps s room t e = let k = formatting_keeps ds s room t e in (k.0, (items_read ds five s k.0).1 k.1, k.2)

  -- "Text of at most 200 bytes with no command, CR or LF, not ending in a blank, comes out as unescaping gives it"
  pub format_same : (s t : List ℕ) (room : ℕ) → Reads plain_text ds s t → length t ≤ 200 → clear t ≡ true → firm t ≡ true → formatting ds s room ≡ unescaping ds s room
  format_same s t room m = formatting_same ds s t room (reads_scan plain_text ds five s t m)

  -- "`format(escape(t)) = t`"
  pub format_escape : first_wrong_delimiter ds ≡ 5 → (t : List ℕ) (room : ℕ) → AreBytes t → length t ≤ 200 → clear t ≡ true → firm t ≡ true → length t ≤ room
      → formatting ds (escape ds t) room ≡ text t
  format_escape fine t room = formatting_escape ds five fine t room

  -- text with no command: where each of its words has at most 200 bytes it comes out with the same words, if there is
  -- room; "Else 42", and nowhere else
  module _ (s u : List ℕ) (room : ℕ) (h : 5 ≤ first_wrong_delimiter ds) (n : is_null s ≡ false) (m : Reads plain_text ds s u) where
    pub format_words : narrow (words u) ≡ true → (t : List ℕ) × (formatting ds s room ≡ fitting room (text t)) × (words t ≡ words u)
    format_words = formatting_words ds s u room h n (reads_scan plain_text ds five s u m)

    pub format_wide : narrow (words u) ≡ false → formatting ds s room ≡ fault Layout 0
    format_wide = formatting_wide ds s u room h n (reads_scan plain_text ds five s u m)

  -- "plain text types still refuse them all": the first command, behind any text that unescaping reads, is 12 there
  pub command_refused : (u t c r : List ℕ) → Reads plain_text ds u t → find (escape_of ds) c ≡ length c → command c ≡ true → (room : ℕ) → 5 ≤ first_wrong_delimiter ds
      → is_null (u ++ escape_of ds ∷ (c ++ escape_of ds ∷ r)) ≡ false → unescaping ds (u ++ escape_of ds ∷ (c ++ escape_of ds ∷ r)) room ≡ fault UnknownEscape (length u)
  command_refused u t c r m f k = command_twelve ds five u t c r m f k
