-- From items to lines, by docs/FORMATTED.md: the state of the scan and what each item does to it. Numbers are exact.
use Rattle.std.specs.Prelude.{ℕ, ◌+◌, ◌-◌, ◌/◌, List, [], ◌∷◌, ◌++◌, Bool, true, false, Option, Some, None, cond, not, ◌&&◌, ◌||◌, length, replicate, leb, ltb, eqb}
use Rattle.format_commands.specs.declared.numbers.Amount.{Amount}
use Rattle.format_commands.specs.declared.orders.Order.{Order}
use Rattle.format_commands.specs.declared.orders.Order.TheVariants.{Highlight, Break, Centre, Fill, Unfill, Down, Across, Margin, Once}
use Rattle.format_commands.specs.Commands.{order_of}
use Rattle.format_commands.specs.Items.{Item, byte, order}

-- "Blank is 0x20 and nothing else"
abbrev pub blanks : ℕ → List ℕ
blanks n = replicate n 32

-- "One scan from the left, with this state"; `out` is what was written
pub record Sheet : Type 0 where
  pub out : List ℕ
  pub line : List ℕ
  pub owed : ℕ
  pub word : List ℕ
  pub margin : ℕ
  pub left : ℕ
  pub fill : Bool
  pub centre : Bool
  pub after_cr : Bool

abbrev pub at_first : Sheet
at_first =
    record { out = []; line = []; owed = 0; word = []; margin = 0; left = 0; fill = true; centre = false; after_cr = false }

-- the state goes on, or "42"
pub data Laid : Type 0 where
  laid : Sheet → Laid
  unfit : Laid

abbrev pub then_laid : Laid → (Sheet → Laid) → Laid
then_laid (laid s) f = f s
then_laid unfit f = unfit

unfoldable pub is_empty : List ℕ → Bool
is_empty [] = true
is_empty (b ∷ r) = false

-- "If it is centred and not empty, (200 - its length) / 2 blanks, rounded down, go before it."
unfoldable pub shown : Sheet → List ℕ
shown s = cond (s.centre && not (is_empty s.line)) (blanks ((200 - length s.line) / 2) ++ s.line) s.line

-- "ending a line: write the line, then LF. Then `line` is empty, `owed` 0, `left` = `margin`, `centre` no."
unfoldable pub end_line : Sheet → Sheet
end_line s =
    record { out = s.out ++ shown s ++ 10 ∷ []; line = []; owed = 0; word = s.word; margin = s.margin; left = s.margin; fill = s.fill; centre = false; after_cr = s.after_cr }

-- "lead = `owed`, plus `left` if the line is empty and not centred"
unfoldable pub lead : Sheet → ℕ
lead s = s.owed + cond (is_empty s.line && not s.centre) s.left 0

-- "the lead's blanks and the word go on the line; `owed` = 0"
unfoldable pub put : ℕ → Sheet → Sheet
put n s =
    record { out = s.out; line = s.line ++ blanks n ++ s.word; owed = 0; word = []; margin = s.margin; left = s.left; fill = s.fill; centre = s.centre; after_cr = s.after_cr }

-- "ending a word (where there is one): 1. If line + lead + word are at most 200 bytes .. 2. Else, if `fill` and
-- `margin` + word are at most 200: end the line; `margin` blanks and the word begin the next. 3. Else 42."
unfoldable pub end_word : Sheet → Laid
end_word s =
    cond (is_empty s.word) (laid s)
    (cond (leb (length s.line + lead s + length s.word) 200) (laid (put (lead s) s))
    (cond (s.fill && leb (s.margin + length s.word) 200) (laid (put s.margin (end_line s))) unfit))

-- "the length of the line as written (`left` where it is empty) + `owed`"
unfoldable pub position : Sheet → ℕ
position s = cond (is_empty s.line) s.left (length (shown s)) + s.owed

-- ---- the parts that an item sets

abbrev pub note_cr : Bool → Sheet → Sheet
note_cr b s =
    record { out = s.out; line = s.line; owed = s.owed; word = s.word; margin = s.margin; left = s.left; fill = s.fill; centre = s.centre; after_cr = b }

abbrev pub add_byte : ℕ → Sheet → Sheet
add_byte b s =
    record { out = s.out; line = s.line; owed = s.owed; word = s.word ++ b ∷ []; margin = s.margin; left = s.left; fill = s.fill; centre = s.centre; after_cr = false }

abbrev pub owe : ℕ → Sheet → Sheet
owe n s =
    record { out = s.out; line = s.line; owed = s.owed + n; word = s.word; margin = s.margin; left = s.left; fill = s.fill; centre = s.centre; after_cr = s.after_cr }

abbrev pub set_left : ℕ → Sheet → Sheet
set_left n s =
    record { out = s.out; line = s.line; owed = s.owed; word = s.word; margin = s.margin; left = n; fill = s.fill; centre = s.centre; after_cr = s.after_cr }

abbrev pub set_margin : ℕ → Sheet → Sheet
set_margin n s =
    record { out = s.out; line = s.line; owed = s.owed; word = s.word; margin = n; left = n; fill = s.fill; centre = s.centre; after_cr = s.after_cr }

abbrev pub set_fill : Bool → Sheet → Sheet
set_fill b s =
    record { out = s.out; line = s.line; owed = s.owed; word = s.word; margin = s.margin; left = s.left; fill = b; centre = s.centre; after_cr = s.after_cr }

abbrev pub set_centre : Sheet → Sheet
set_centre s =
    record { out = s.out; line = s.line; owed = s.owed; word = s.word; margin = s.margin; left = s.left; fill = s.fill; centre = true; after_cr = s.after_cr }

abbrev pub empty_lines : ℕ → Sheet → Sheet
empty_lines n s =
    record { out = s.out ++ replicate n 10; line = s.line; owed = s.owed; word = s.word; margin = s.margin; left = s.left; fill = s.fill; centre = s.centre; after_cr = s.after_cr }

-- ---- what each item does

-- "A number must lie in 0..200 for `.sp` and `.sk`"
abbrev pub natural : Amount → Bool
natural a = leb a.size 200 && not (a.minus && ltb 0 a.size)

-- "in -200..200 for `.in` and `.ti`", "`margin` + n must be 0..200"
abbrev pub fits : ℕ → Amount → Bool
fits margin a = leb a.size 200 && ((a.minus && leb a.size margin) || (not a.minus && leb (margin + a.size) 200))

abbrev pub moved : ℕ → Amount → ℕ
moved margin a = cond a.minus (margin - a.size) (margin + a.size)

-- "where n is not 0: the position is noted; the line is ended, and n - 1 empty lines with it; then `left` = that
-- position"
unfoldable pub down : ℕ → Sheet → Sheet
down n s = cond (eqb n 0) s (set_left (position s) (empty_lines (n - 1) (end_line s)))

-- what a command does behind its word
unfoldable pub obey : Option Order → Sheet → Laid
obey None s = unfit
obey (Some Highlight) s = laid s
obey (Some Break) s = laid (end_line s)
obey (Some Centre) s = laid (set_centre (end_line s))
obey (Some Fill) s = laid (set_fill true s)
obey (Some Unfill) s = laid (set_fill false s)
obey (Some (Down a)) s = cond (natural a) (laid (down a.size s)) unfit
obey (Some (Across a)) s = cond (natural a) (laid (owe a.size s)) unfit
obey (Some (Margin a)) s = cond (fits s.margin a) (laid (set_margin (moved s.margin a) s)) unfit
obey (Some (Once a)) s = cond (fits s.margin a) (laid (set_left (moved s.margin a) s)) unfit

-- "A word is a run of bytes other than blank, CR and LF"
abbrev pub of_word : ℕ → Bool
of_word b = not (eqb b 32 || (eqb b 13 || eqb b 10))

-- "blank: `owed` + 1", "CR, LF, or CR with LF behind it: ends the line, once"; `cr` is whether the item before was CR
unfoldable pub space : ℕ → Bool → Sheet → Sheet
space b cr s = cond (eqb b 32) (owe 1 s) (cond (eqb b 10 && cr) s (note_cr (eqb b 13) (end_line s)))

abbrev pub quiet : Option Order → Bool
quiet None = false
quiet (Some Highlight) = true
quiet (Some Break) = false
quiet (Some Centre) = false
quiet (Some Fill) = false
quiet (Some Unfill) = false
quiet (Some (Down a)) = false
quiet (Some (Across a)) = false
quiet (Some (Margin a)) = false
quiet (Some (Once a)) = false

-- a command "first ends the word"; a highlight "leaves no trace, not even between two halves of a word"
unfoldable pub obeyed : Option Order → Sheet → Laid
obeyed o s = cond (quiet o) (laid s) (then_laid (end_word (note_cr false s)) (obey o))

unfoldable pub move : Sheet → Item → Laid
move s (byte b) = cond (of_word b) (laid (add_byte b s)) (then_laid (end_word (note_cr false s)) (λ (t : Sheet). laid (space b s.after_cr t)))
move s (order c) = obeyed (order_of c) s

-- "One scan from the left"
unfoldable pub moves : Sheet → List Item → Laid
moves s [] = laid s
moves s (x ∷ r) = then_laid (move s x) (λ (t : Sheet). moves t r)

-- the plain lines, or 42
pub data Lines : Type 0 where
  lines : List ℕ → Lines
  none : Lines

unfoldable pub written : Laid → Lines
written (laid s) = lines (s.out ++ shown s)
written unfit = none

-- "end of the text: ends the word; the line is written, with no LF"
unfoldable pub lines_from : Sheet → List Item → Lines
lines_from s r = written (then_laid (moves s r) end_word)

abbrev pub lines_of : List Item → Lines
lines_of r = lines_from at_first r
