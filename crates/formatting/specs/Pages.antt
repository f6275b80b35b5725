-- The page in numbers, for the contracts of private functions: each definition is that of `Sheet`, of lengths in the
-- place of lists, and with what is owed and where a line begins held at 201. `Follows` says of a function that it does
-- what items do, whatever follows them.
use Rattle.std.specs.Prelude.{ℕ, suc, ◌+◌, ◌-◌, ◌/◌, ◌≤◌, ◌<◌, ◌≡◌, List, [], ◌∷◌, ◌++◌, Bool, true, false, Some, cond, not, ◌&&◌, length, take, ltb, eqb}
use Rattle.alphabet.specs.Filling.{over}
use Rattle.format_commands.specs.declared.orders.Order.{Order}
use Rattle.format_commands.specs.Commands.{order_of, held_size, held_order}
use Rattle.format_commands.specs.Items.{Item, order}
use Rattle.formatting.specs.declared.page.Page.{Page}
use Rattle.formatting.specs.Sheet.{Sheet, Laid, laid, unfit, blanks, is_empty, lead, end_line}
use Rattle.formatting.specs.Going.{Goes}
use Rattle.formatting.specs.Runs.{firm, inked}

-- ---- the numbers

-- the page before the first item
abbrev pub first_page : Bool → Page
first_page writes =
    record { writes = writes; place = 0; short = false; unfit = false; line = 0; owed = 0; word = 0; margin = 0; left = 0; fill = true; centre = false; after = false }

unfoldable pub lead_of : Page → ℕ
lead_of c = c.owed + cond (eqb c.line 0 && not c.centre) c.left 0

unfoldable pub reach_of : Page → ℕ
reach_of c = c.line + lead_of c + c.word

-- no number passes what a line and its parts may have
pub record Slight (c : Page) : Type 0 where
  pub line : c.line ≤ 200
  pub owed : c.owed ≤ 201
  pub word : c.word ≤ 200
  pub margin : c.margin ≤ 200
  pub left : c.left ≤ 201
  pub reach : 0 < c.word → reach_of c ≤ 200

abbrev pub line_with : ℕ → ℕ → ℕ → Page → Page
line_with line owed word c =
    record { writes = c.writes; place = c.place; short = c.short; unfit = c.unfit; line = line; owed = owed; word = word; margin = c.margin; left = c.left; fill = c.fill; centre = c.centre; after = c.after }

unfoldable pub word_ended : Page → Page
word_ended c = cond (eqb c.word 0) c (line_with (reach_of c) 0 0 c)

abbrev pub new_line : Page → Page
new_line c =
    record { writes = c.writes; place = c.place; short = c.short; unfit = c.unfit; line = 0; owed = 0; word = c.word; margin = c.margin; left = c.margin; fill = c.fill; centre = false; after = c.after }

abbrev pub owing : ℕ → Page → Page
owing n c = line_with c.line (held_size (c.owed + n)) c.word c

unfoldable pub indent_of : Page → ℕ
indent_of c = cond (c.centre && ltb 0 c.line) ((200 - c.line) / 2) 0

unfoldable pub position_of : Page → ℕ
position_of c = held_size (cond (eqb c.line 0) c.left (indent_of c + c.line) + c.owed)

abbrev pub noted : Bool → Page → Page
noted after c =
    record { writes = c.writes; place = c.place; short = c.short; unfit = c.unfit; line = c.line; owed = c.owed; word = c.word; margin = c.margin; left = c.left; fill = c.fill; centre = c.centre; after = after }

-- with another count of what was written
abbrev pub out_with : ℕ → Bool → Page → Page
out_with place short c =
    record { writes = c.writes; place = place; short = short; unfit = c.unfit; line = c.line; owed = c.owed; word = c.word; margin = c.margin; left = c.left; fill = c.fill; centre = c.centre; after = c.after }

-- n bytes more, in a room: they are counted where they go into it
unfoldable pub spent_of : ℕ → ℕ → Page → Page
spent_of n room c = cond (ltb (room - c.place) n) (out_with c.place true c) (out_with (c.place + n) c.short c)

-- the line as it is shown: t holds it at its front
abbrev pub shown_of : Page → List ℕ → List ℕ
shown_of c t = blanks (indent_of c) ++ take c.line t

-- bytes that were put down behind what stands on the line, and the page behind them: bytes of the word alone; blanks
-- and a word where there was none; or words that ended, blanks behind them, and a word
pub data Settled (c : Page) (u : List ℕ) : Page → Type 0 where
  word : inked u ≡ true → Settled c u (noted false (line_with c.line c.owed (c.word + length u) c))
  blank : (k : ℕ) (q : List ℕ) → u ≡ blanks k ++ q → inked q ≡ true → c.word ≡ 0 → Settled c u (noted false (line_with c.line (c.owed + k) (length q) c))
  words : (p q : List ℕ) (k : ℕ) → u ≡ p ++ (blanks (suc k) ++ q) → firm p ≡ true → inked q ≡ true → 0 < c.word + length p
      → Settled c u (noted false (line_with (reach_of c + length p) (suc k) (length q) c))

-- ---- what was written

-- `out` was written to the front of d₀, where there was room for it
pub record Output (d₀ out : List ℕ) (writes : Bool) (place : ℕ) (short : Bool) (d : List ℕ) : Type 0 where
  pub done : short ≡ false → place ≡ length out
  pub holds : short ≡ false → writes ≡ true → d ≡ over out d₀
  pub beyond : short ≡ true → length d₀ < length out

-- the bytes xs were written behind the rest, where there was room, and nothing else was touched
pub record Wrote (xs : List ℕ) (c : Page) (d : List ℕ) (c' : Page) (d' : List ℕ) : Type 0 where
  pub within : c'.place ≤ length d'
  pub size : length d' ≡ length d
  pub still : c.writes ≡ false → d' ≡ d
  pub output : (d₀ out : List ℕ) → length d ≡ length d₀ → Output d₀ out c.writes c.place c.short d → Output d₀ (out ++ xs) c.writes c'.place c'.short d'

-- ---- the page beside the sheet

-- the bytes of the line, of its debt and of the word, as far as there is a word
abbrev pub ahead : Sheet → List ℕ
ahead s = s.line ++ blanks (lead s) ++ s.word

-- the page c has the numbers of the sheet s, t the bytes of its line and its word, and d what was written of it over d₀
pub record Matches (d₀ : List ℕ) (s : Sheet) (c : Page) (t d : List ℕ) : Type 0 where
  pub output : Output d₀ s.out c.writes c.place c.short d
  pub size : length d ≡ length d₀
  pub fit : c.unfit ≡ false
  pub line : c.line ≡ length s.line
  pub owed : c.owed ≡ held_size s.owed
  pub word : c.word ≡ length s.word
  pub margin : c.margin ≡ s.margin
  pub left : c.left ≡ held_size s.left
  pub fill : c.fill ≡ s.fill
  pub centre : c.centre ≡ s.centre
  pub after : c.after ≡ s.after_cr
  pub bytes : take (length s.line) t ≡ s.line
  pub narrow : is_empty s.word ≡ false → length (ahead s) ≤ 200
  pub begun : is_empty s.word ≡ false → take (length (ahead s)) t ≡ ahead s

-- what a function may rest on
pub record Sound (c : Page) (t d : List ℕ) : Type 0 where
  pub slight : Slight c
  pub place : c.place ≤ length d
  pub broad : length t ≡ 200

-- where items lead: to a sheet that the page matches, or to none
pub data Reaches (d₀ : List ℕ) (s : Sheet) (xs : List Item) (c : Page) (t d : List ℕ) : Type 0 where
  at : (s' : Sheet) → Goes (laid s) xs (laid s') → Matches d₀ s' c t d → Reaches d₀ s xs c t d
  nowhere : Goes (laid s) xs unfit → c.unfit ≡ true → Reaches d₀ s xs c t d

-- from one page to another, as the items xs go
pub record Follows (xs : List Item) (c : Page) (t d : List ℕ) (c' : Page) (t' d' : List ℕ) : Type 0 where
  pub sound : Sound c' t' d'
  pub writes : c'.writes ≡ c.writes
  pub size : length d' ≡ length d
  pub still : c.writes ≡ false → d' ≡ d
  pub spoilt : c.unfit ≡ true → c'.unfit ≡ true
  pub goes : (d₀ : List ℕ) (s : Sheet) → Matches d₀ s c t d → Reaches d₀ s xs c' t' d'

-- the line is ended before a word that stays
pub record Wraps (c : Page) (t d : List ℕ) (c' : Page) (t' d' : List ℕ) : Type 0 where
  pub sound : Sound c' t' d'
  pub writes : c'.writes ≡ c.writes
  pub size : length d' ≡ length d
  pub still : c.writes ≡ false → d' ≡ d
  pub spoilt : c.unfit ≡ true → c'.unfit ≡ true
  pub reach : reach_of c' ≡ c.margin + c.word
  pub goes : (d₀ : List ℕ) (s : Sheet) → Matches d₀ s c t d → Matches d₀ (end_line s) c' t' d'

-- the page once the word before an item has ended
abbrev pub closed : Page → Page
closed c = noted false (word_ended c)

-- the page beside what was laid
abbrev pub Tells : List ℕ → Laid → Page → List ℕ → List ℕ → Type 0
Tells d₀ (laid s) c t d = Matches d₀ s c t d
Tells d₀ unfit c t d = c.unfit ≡ true

-- from a page without a word to another, as `act` goes from sheet to sheet
pub record Acts (act : Sheet → Laid) (c : Page) (t d : List ℕ) (c' : Page) (t' d' : List ℕ) : Type 0 where
  pub sound : Sound c' t' d'
  pub writes : c'.writes ≡ c.writes
  pub size : length d' ≡ length d
  pub still : c.writes ≡ false → d' ≡ d
  pub spoilt : c.unfit ≡ true → c'.unfit ≡ true
  pub goes : (d₀ : List ℕ) (s : Sheet) → Matches d₀ s c t d → is_empty s.word ≡ true → Tells d₀ (act s) c' t' d'

-- with a line that begins elsewhere, with another margin, filled or not, centred, or spoilt
abbrev pub left_at : ℕ → Page → Page
left_at n c =
    record { writes = c.writes; place = c.place; short = c.short; unfit = c.unfit; line = c.line; owed = c.owed; word = c.word; margin = c.margin; left = n; fill = c.fill; centre = c.centre; after = c.after }

abbrev pub margin_at : ℕ → Page → Page
margin_at n c =
    record { writes = c.writes; place = c.place; short = c.short; unfit = c.unfit; line = c.line; owed = c.owed; word = c.word; margin = n; left = n; fill = c.fill; centre = c.centre; after = c.after }

abbrev pub filling : Bool → Page → Page
filling b c =
    record { writes = c.writes; place = c.place; short = c.short; unfit = c.unfit; line = c.line; owed = c.owed; word = c.word; margin = c.margin; left = c.left; fill = b; centre = c.centre; after = c.after }

abbrev pub centring : Page → Page
centring c =
    record { writes = c.writes; place = c.place; short = c.short; unfit = c.unfit; line = c.line; owed = c.owed; word = c.word; margin = c.margin; left = c.left; fill = c.fill; centre = true; after = c.after }

abbrev pub spoiling : Page → Page
spoiling c =
    record { writes = c.writes; place = c.place; short = c.short; unfit = true; line = c.line; owed = c.owed; word = c.word; margin = c.margin; left = c.left; fill = c.fill; centre = c.centre; after = c.after }

-- as the command goes of which `asked` is what its bytes ask for, held
abbrev pub Obeys : Order → Page → List ℕ → List ℕ → Page → List ℕ → List ℕ → Type 0
Obeys asked c t d c' t' d' = (inside : List ℕ) → Some asked ≡ held_order (order_of inside) → Follows (order inside ∷ []) c t d c' t' d'
