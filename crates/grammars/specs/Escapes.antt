-- The escape table of document 01, 'Text', as its rows: what may stand between two escape delimiters, and the bytes
-- that it says. A second saying of `known` and `meaning` of crates/text, without a search in a list of letters. And how
-- a text is written, as rules: a second saying of `escape` there.
use Rattle.std.specs.Prelude.{ℕ, ◌+◌, ◌*◌, ◌/◌, ◌%◌, ◌<◌, ◌≡◌, List, [], ◌∷◌, ◌++◌, true, false, get_or}
use Rattle.alphabet.specs.Bytes.{carriage_return, ascii, byte_of}
use Rattle.grammars.specs.Tables.{marked, allowed_bytes, hex_digits, hex_number}

-- "`\F\` field, `\S\` component, `\T\` subcomponent, `\R\` repetition, `\E\` escape": each letter beside the byte of
-- the header that it means
pub data Letter (field component repetition escape subcomponent : ℕ) : ℕ → ℕ → Type 0 where
  F : Letter field component repetition escape subcomponent (byte_of "F") field
  S : Letter field component repetition escape subcomponent (byte_of "S") component
  T : Letter field component repetition escape subcomponent (byte_of "T") subcomponent
  R : Letter field component repetition escape subcomponent (byte_of "R") repetition
  E : Letter field component repetition escape subcomponent (byte_of "E") escape

-- "pairs of hex digits of either case", and the byte that each pair says
pub data Pairs : List ℕ → List ℕ → Type 0 where
  none : Pairs [] []
  pair : {l t : List ℕ} (a b : ℕ) → hex_number a < 16 → hex_number b < 16 → Pairs l t → Pairs (a ∷ b ∷ l) ((hex_number a * 16 + hex_number b) ∷ t)

-- a letter of the table, or "`\Xhh..\` one or more pairs"
pub data Escapes (field component repetition escape subcomponent : ℕ) : List ℕ → List ℕ → Type 0 where
  letter : {l b : ℕ} → Letter field component repetition escape subcomponent l b → Escapes field component repetition escape subcomponent (l ∷ []) (b ∷ [])
  hex : {a b : ℕ} {l t : List ℕ} → Pairs (a ∷ b ∷ l) t → Escapes field component repetition escape subcomponent (byte_of "X" ∷ a ∷ b ∷ l) t

-- a byte that no row has
abbrev pub NoDelimiter : ℕ → ℕ → ℕ → ℕ → ℕ → ℕ → Type 0
NoDelimiter field component repetition escape subcomponent b = (l : ℕ) → Letter field component repetition escape subcomponent l b → ⊥

-- "as its own `\Xhh\` with capital digits"
abbrev pub own_hex : ℕ → ℕ → List ℕ
own_hex escape b = escape ∷ byte_of "X" ∷ get_or hex_digits (b / 16) 0 ∷ get_or hex_digits (b % 16) 0 ∷ escape ∷ []

-- "Escaping writes the five delimiters by letter, every byte that isn't allowed and CR as its own `\Xhh\` with capital
-- digits, the rest plainly.": a byte and what it is written as
pub data WritesByte (field component repetition escape subcomponent : ℕ) : ℕ → List ℕ → Type 0 where
  by_letter : {l b : ℕ} → Letter field component repetition escape subcomponent l b → WritesByte field component repetition escape subcomponent b (escape ∷ l ∷ escape ∷ [])
  not_allowed : (b : ℕ) → NoDelimiter field component repetition escape subcomponent b → marked allowed_bytes b ≡ false
      → WritesByte field component repetition escape subcomponent b (own_hex escape b)
  return : NoDelimiter field component repetition escape subcomponent carriage_return → WritesByte field component repetition escape subcomponent carriage_return (own_hex escape carriage_return)
  plainly : (b : ℕ) → NoDelimiter field component repetition escape subcomponent b → marked allowed_bytes b ≡ true → (b ≡ carriage_return → ⊥)
      → WritesByte field component repetition escape subcomponent b (b ∷ [])

-- byte by byte
pub data WritesBytes (field component repetition escape subcomponent : ℕ) : List ℕ → List ℕ → Type 0 where
  end : WritesBytes field component repetition escape subcomponent [] []
  next : {b : ℕ} {t w v : List ℕ} → WritesByte field component repetition escape subcomponent b w → WritesBytes field component repetition escape subcomponent t v
      → WritesBytes field component repetition escape subcomponent (b ∷ t) (w ++ v)

-- "House: text that is exactly two quotes is written `\X2222\`, so that it isn't null."
pub data Writes (field component repetition escape subcomponent : ℕ) : List ℕ → List ℕ → Type 0 where
  two_quotes_lem : Writes field component repetition escape subcomponent (ascii "\"\"") (escape ∷ (ascii "X2222" ++ (escape ∷ [])))
  other : {t w : List ℕ} → (t ≡ ascii "\"\"" → ⊥) → WritesBytes field component repetition escape subcomponent t w → Writes field component repetition escape subcomponent t w
