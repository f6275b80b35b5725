-- What the walk along a text gives, for the contracts of private functions.
use Rattle.std.specs.Prelude.{ℕ, ◌≤◌, ◌≡◌, List, [], Bool, true, false, Ok, Err, cond, length}
use Rattle.alphabet.specs.Answers.{Check, Refusable, fails}
use Rattle.alphabet.specs.Bytes.{printable}
use Rattle.alphabet.specs.Filling.{over}
use Rattle.alphabet.specs.declared.answers.Refusal.{Refusal}
use Rattle.alphabet.specs.declared.answers.Refusal.TheVariants.{NotAllowed, Separator, NoRoom, Layout}
use Rattle.escaping.specs.Outcomes.{Outcome, text, fitting, answer}
use Rattle.text.specs.Unescape.{before}
use Rattle.format_commands.specs.Items.{Item, items_of}
use Rattle.formatting.specs.declared.page.Page.{Page}
use Rattle.formatting.specs.Sheet.{Sheet, lines, lines_from}
use Rattle.formatting.specs.Formatting.{laid_out}
use Rattle.formatting.specs.Pages.{Output, Matches, Follows}

-- "raw separator other than the escape in text", "first byte not allowed"
unfoldable pub wrong_plain : ℕ → Refusal
wrong_plain b = cond (printable b) Separator NotAllowed

-- nothing more, or a fault
unfoldable pub found_of : Check → Outcome Item
found_of (Ok _) = text []
found_of (Err f) = Err f

-- the page that is laid, where no fault stands behind it
abbrev pub laid_before : Check → Page → Refusable Page
laid_before (Ok _) c = Ok c
laid_before (Err f) c = Err f

-- items were read and laid, and behind them the text ends or has a fault
pub record Lays (ds s : List ℕ) (c : Page) (t d : List ℕ) (r : Refusable Page) (t' d' : List ℕ) : Type 0 where
  pub items : List Item
  pub page : Page
  pub found : Check
  pub gives : r ≡ laid_before found page
  pub reads : items_of ds s ≡ before items (found_of found)
  pub follows : Follows items c t d page t' d'

-- the last line was written: the page, and what stands in the buffer then
pub record Finishes (c : Page) (t d : List ℕ) (c' : Page) (d' : List ℕ) : Type 0 where
  pub within : c'.place ≤ length d'
  pub size : length d' ≡ length d
  pub still : c.writes ≡ false → d' ≡ d
  pub unfit : c'.unfit ≡ c.unfit
  pub goes : (d₀ : List ℕ) (s : Sheet) → Matches d₀ s c t d → (u : List ℕ) × (lines_from s [] ≡ lines u) × Output d₀ u c.writes c'.place c'.short d'

-- what a page says at the end: "42 comes just before 14"
unfoldable pub concluded : Page → Refusable ℕ
concluded c = cond c.unfit (fails Layout 0) (cond c.short (fails NoRoom 0) (Ok c.place))

-- a text that was laid, in a room: what becomes of it
abbrev pub laid_in : List ℕ → List ℕ → ℕ → Outcome ℕ
laid_in ds s room = fitting room (laid_out (items_of ds s))

-- what is given back, and what the buffer d holds where lines are written
pub record Typesets (ds s : List ℕ) (writes : Bool) (d : List ℕ) (r : Refusable ℕ) (d' : List ℕ) : Type 0 where
  pub size : length d' ≡ length d
  pub gives : r ≡ answer (laid_in ds s (length d))
  pub still : writes ≡ false → d' ≡ d
  pub holds : (u : List ℕ) → laid_in ds s (length d) ≡ text u → writes ≡ true → d' ≡ over u d
