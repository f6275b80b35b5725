-- Demand 2, of text beside the round trip: what is read is what document 01's grammar and its escape table say, each outcome exactly where they have it, and a
-- text is written exactly as its rules say, each delimiter by its own row of the table. Assumes nothing.
use mathlib.Core.Path.{◌≡◌, subst}
use mathlib.Core.Logic.{◌↔◌}
use mathlib.Core.Bool.{true}
use mathlib.Core.List.{List, [], ◌∷◌}
use Prim.Native.Nat.{ℕ}
use lib.ListN.{length}
use Rattle.alphabet.specs.Delimiters.{first_wrong_delimiter}
use Rattle.escaping.specs.Escape.{escape_byte}
use Rattle.escaping.specs.Escape as Text
use Rattle.text.specs.Unescape.{known, meaning}
use Rattle.escaping.specs.Outcomes.{Outcome}
use Rattle.text.specs.Unescape.{unescaping}
use Rattle.text.specs.Reads.{Unescapes}
use Rattle.laws.proofs.Grammar.{unescapes, unescapes_only}
use Rattle.laws.proofs.RoundTrip.{AreBytes}
use Rattle.grammars.specs.Escapes.{Letter, Escapes, Writes}
use Rattle.grammars.proofs.EscapeRows as Rows
use Rattle.grammars.proofs.Writing as Writing

-- "Unescaping: 3, then 15, then the leftmost of 4, 11, 12, 13, then 14.": each outcome exactly where the grammar has it
pub unescapes_exactly : (ds : List ℕ) → length ds ≡ 5 → (s : List ℕ) (room : ℕ) (o : Outcome ℕ) → Unescapes ds s room o ↔ (unescaping ds s room ≡ o)
unescapes_exactly ds five s room o = (unescapes_only ds five s room o, λ e. subst (Unescapes ds s room) e (unescapes ds five s room))

module _ (field component repetition escape subcomponent : ℕ) where
  abbrev ds : List ℕ
  ds = field ∷ component ∷ repetition ∷ escape ∷ subcomponent ∷ []

  -- "`\F\` field, `\S\` component, `\T\` subcomponent, `\R\` repetition, `\E\` escape, `\Xhh..\` one or more pairs": a sequence is known, with these bytes,
  -- exactly where a row of the table has it
  pub escapes_exactly : (c t : List ℕ) → AreBytes c → Escapes field component repetition escape subcomponent c t ↔ ((known c ≡ true) × (meaning ds c ≡ t))
  escapes_exactly c t small = (
    Rows.escapes_known field component repetition escape subcomponent small,
    λ k. subst (Escapes field component repetition escape subcomponent c) k.1 (Rows.known_escapes field component repetition escape subcomponent c small k.0),
  )

  -- "Escaping writes the five delimiters by letter"
  pub delimiter_written : first_wrong_delimiter ds ≡ 5 → {l b : ℕ} → Letter field component repetition escape subcomponent l b → escape_byte ds b ≡ escape ∷ l ∷ escape ∷ []
  delimiter_written fine r = Rows.row_written field component repetition escape subcomponent fine r

  -- "Escaping writes the five delimiters by letter, every byte that isn't allowed and CR as its own `\Xhh\` with capital digits, the rest plainly. House: text that
  -- is exactly two quotes is written `\X2222\`, so that it isn't null.": what is written is what these rules write, and nothing else
  pub writes_exactly : first_wrong_delimiter ds ≡ 5 → (t w : List ℕ) → AreBytes t → Writes field component repetition escape subcomponent t w ↔ (Text.escape ds t ≡ w)
  writes_exactly fine t w small = (
    Writing.writes_is field component repetition escape subcomponent fine small,
    λ e. subst (Writes field component repetition escape subcomponent t) e (Writing.escape_writes field component repetition escape subcomponent fine t small),
  )
