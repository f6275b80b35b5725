-- What plain lines are, by docs/FORMATTED.md, 'What follows'. `RuledLines` shows that whatever is laid is so, and
-- `RuledInk` that it has the text's bytes.
use Rattle.std.specs.Prelude.{ℕ, ◌≤◌, ◌≡◌, List, [], ◌∷◌, ◌++◌, Bool, true, cond, ◌&&◌, length, leb}
use Rattle.alphabet.specs.Parts.{split}
use Rattle.format_commands.specs.Items.{Item, byte, order}
use Rattle.formatting.specs.Sheet.{of_word}
use Rattle.formatting.specs.Runs.{clear, firm}

-- "Every line is at most 200 bytes. No line ends in a blank. There is no CR in the result."
pub record GoodLine (l : List ℕ) : Type 0 where
  pub width : length l ≤ 200
  pub is_clear : clear l ≡ true
  pub is_firm : firm l ≡ true

unfoldable pub GoodLines : List (List ℕ) → Type 0
GoodLines [] = Unit {0}
GoodLines (l ∷ ls) = GoodLine l × GoodLines ls

-- the lines are what stands before, between and behind the LFs
unfoldable pub Ruled : List ℕ → Type 0
Ruled t = GoodLines (split 10 t)

-- the bytes other than blank, CR and LF
unfoldable pub ink : List ℕ → List ℕ
ink [] = []
ink (b ∷ r) = cond (of_word b) (b ∷ ink r) (ink r)

-- the bytes of a text among its items
unfoldable pub bytes_of : List Item → List ℕ
bytes_of [] = []
bytes_of (byte b ∷ r) = b ∷ bytes_of r
bytes_of (order o ∷ r) = bytes_of r

-- ---- words

-- a word before others, where it has a byte
abbrev pub kept : List ℕ → List (List ℕ) → List (List ℕ)
kept [] ws = ws
kept (b ∷ r) ws = (b ∷ r) ∷ ws

-- "A word is a run of bytes other than blank, CR and LF": the words of bytes, of which some of the first were read
unfoldable pub words_from : List ℕ → List ℕ → List (List ℕ)
words_from w [] = kept w []
words_from w (b ∷ r) = cond (of_word b) (words_from (w ++ b ∷ []) r) (kept w (words_from [] r))

abbrev pub words : List ℕ → List (List ℕ)
words s = words_from [] s

-- whether each has at most 200 bytes
unfoldable pub narrow : List (List ℕ) → Bool
narrow [] = true
narrow (w ∷ ws) = leb (length w) 200 && narrow ws
