-- Laws of pieces that stand one behind another, and that are references, as a loop goes over them; and of their room. Assumes nothing.
use mathlib.Core.Path.{◌≡◌, refl, ap, ◌∙◌}
use mathlib.Core.Bool.{Bool, true, false, cond}
use mathlib.Core.List.{List, [], ◌++◌, map}
use Prim.Native.Nat.{ℕ, ◌+◌, ◌≤◌, ◌<◌}
use native.Mathlib.Numerals.{add-one}
use native.Mathlib.Omega.{arith}
use lib.Dec.{ltb}
use lib.ListN.{length, get_or, drop, length-append, drop_of_length-le}
use lib.Seq.{drop-cons}
use borrow.Author.Tests.{ltb-true, ltb-false, le-leb, lt-leb}
use denote.Ref.{Bor}
use Rattle.alphabet.specs.Filling.{over}
use Rattle.together.specs.Together.{together, least, fitted}

abbrev Piece : Type 0
Piece = Bor (List ℕ)

-- what stands for a piece past the last
abbrev pub none : Piece
none = record { ref_ptr = (0, 0); now = [] }

abbrev pub bytes : List Piece → List ℕ
bytes l = together (map (λ x. x.now) l)

pub pieces_next : (l : List Piece) (i : ℕ) → i < length l → bytes (drop i l) ≡ (get_or l i none).now ++ bytes (drop (i + 1) l)
unfolding together
pieces_next l i h = rw (add-one, drop-cons l i none h)

pub pieces_end : (l : List Piece) (i : ℕ) → length l ≤ i → bytes (drop i l) ≡ []
unfolding together
pieces_end l i h = ap bytes (drop_of_length-le l h)

pub count_next : (l : List Piece) (i : ℕ) → i < length l → length (bytes (drop i l)) ≡ length (get_or l i none).now + length (bytes (drop (i + 1) l))
count_next l i h = ap length (pieces_next l i h) ∙ length-append (get_or l i none).now (bytes (drop (i + 1) l))

-- ---- room

pub least_both : (a b : ℕ) → (least a b ≤ a) × (least a b ≤ b)
least_both a b = at (ltb a b) refl
  where
    at : (t : Bool) → ltb a b ≡ t → (cond t a b ≤ a) × (cond t a b ≤ b)
    at true e = (omega arith, omega (arith, ltb-true a b e))
    at false e = (omega (arith, ltb-false a b e), omega arith)

module _ (room : ℕ) (w d : List ℕ) where
  pub fitted_takes : length w ≤ room → fitted room w d ≡ over w d
  unfolding fitted
  fitted_takes h = rw (le-leb (length w) room h)

  pub fitted_short : room < length w → fitted room w d ≡ d
  unfolding fitted
  fitted_short h = rw (lt-leb (length w) room h)

pub least_above : (a b n : ℕ) → n ≤ a → n ≤ b → n ≤ least a b
least_above a b n h k = at (ltb a b)
  where
    at : (t : Bool) → n ≤ cond t a b
    at true = h
    at false = k
