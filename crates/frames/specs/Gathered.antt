-- What is gathered in the buffer. Document 02, W1: "each place of the lent buffer holds the byte last gathered there,
-- or what it held at first". Said twice: of the bytes that the reader gathers one by one from any state, and of the
-- bodies that the grammar finds in a line (specs/Wired.antt).
use Rattle.std.specs.Prelude.{ℕ, List, [], ◌∷◌, cond, eqb, ltb, length, get_or}
use Rattle.alphabet.specs.Filling.{over}
use Rattle.frames.specs.declared.state.FrameState.{FrameState}
use Rattle.frames.specs.Steps.{stepped}

pub record Gathered : Type 0 where
  pub place : ℕ
  pub byte : ℕ

-- from a state, with a limit: each byte that is gathered goes behind those held
unfoldable pub gathered : ℕ → FrameState → List ℕ → List Gathered
gathered limit s [] = []
gathered limit s (b ∷ bytes) =
    cond (stepped limit s b).gathers
    (record { place = s.held; byte = b } ∷ gathered limit (stepped limit s b).after bytes)
    (gathered limit (stepped limit s b).after bytes)

-- the byte last gathered at a place, or what it held at first
unfoldable pub last_at : ℕ → List Gathered → ℕ → ℕ
last_at i [] first = first
last_at i (g ∷ gs) first = last_at i gs (cond (eqb i g.place) g.byte first)

-- bodies that are gathered one after another, each from the front of the buffer on
unfoldable pub laid : List (List ℕ) → List ℕ → List ℕ
laid [] d = d
laid (c ∷ cs) d = laid cs (over c d)

-- the byte that the last body which reaches so far has at a place, or what it held at first
unfoldable pub last_of : ℕ → List (List ℕ) → ℕ → ℕ
last_of i [] first = first
last_of i (c ∷ cs) first = last_of i cs (cond (ltb i (length c)) (get_or c i 0) first)
