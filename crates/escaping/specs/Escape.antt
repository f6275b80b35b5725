-- How text is written, by document 01, 'Text'. The delimiters are the list of the five, in the message's order: field,
-- component, repetition, escape, subcomponent.
use Rattle.std.specs.Prelude.{ℕ, ◌/◌, ◌%◌, List, [], ◌∷◌, ◌++◌, cond, get_or, ltb}
use Rattle.alphabet.specs.Lists.{find}
use Rattle.alphabet.specs.Bytes.{ascii, byte_of, printable, hex_digit, is_null}

-- "`\F\` field, `\S\` component, `\T\` subcomponent, `\R\` repetition, `\E\` escape": the letters in the delimiters'
-- order
abbrev pub letters : List ℕ
letters = ascii "FSRET"

-- "`\` for the escape delimiter"
abbrev pub escape_of : List ℕ → ℕ
escape_of ds = get_or ds 3 0

-- "Escaping writes the five delimiters by letter, every byte that isn't allowed and CR as its own `\Xhh\` with capital
-- digits, the rest plainly."
unfoldable pub escape_byte : List ℕ → ℕ → List ℕ
escape_byte ds b =
    cond (ltb (find b ds) 5)
    (escape_of ds ∷ get_or letters (find b ds) 0 ∷ escape_of ds ∷ [])
    (cond (printable b) (b ∷ []) (escape_of ds ∷ byte_of "X" ∷ hex_digit (b / 16) ∷ hex_digit (b % 16) ∷ escape_of ds ∷ []))

-- a text byte by byte, each "as its own"
unfoldable pub escape_bytes : List ℕ → List ℕ → List ℕ
escape_bytes ds [] = []
escape_bytes ds (b ∷ r) = escape_byte ds b ++ escape_bytes ds r

-- "`\X2222\`"
abbrev pub two_quotes : List ℕ → List ℕ
two_quotes ds = escape_of ds ∷ (ascii "X2222" ++ escape_of ds ∷ [])

-- "text that is exactly two quotes is written `\X2222\`, so that it isn't null"
unfoldable pub escape : List ℕ → List ℕ → List ℕ
escape ds t = cond (is_null t) (two_quotes ds) (escape_bytes ds t)
