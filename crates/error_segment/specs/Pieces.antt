-- The ERR segment as the pieces that the code writes one behind another, for private functions alone.
use Rattle.std.specs.Prelude.{ℕ, ◌-◌, ◌≤◌, ◌≡◌, List, [], ◌∷◌, ◌++◌, length, get_or, take, drop, Option, Some, None}
use Rattle.alphabet.specs.declared.parts.Part.{Part}
use Rattle.alphabet.specs.Bytes.{carriage_return, ascii}
use Rattle.error_segment.specs.Errors.{faulty, sequence_of}
use Rattle.error_segment.specs.declared.locating.Located.{Located}
use Rattle.error_segment.specs.declared.numerals.Numeral.{Numeral}

-- the digits of a numeral
abbrev pub said : Numeral → List ℕ
said n = drop n.start n.digits

-- where some bytes of a message stand; nowhere, there are none
abbrev pub StandsAt : List ℕ → List ℕ → Option Part → Type 0
StandsAt m bytes (Some part) = (part.start ≤ part.end) × (part.end ≤ length m) × (take (part.end - part.start) (drop part.start m) ≡ bytes)
StandsAt m bytes None = bytes ≡ []

-- where the segment of a number stands, and its sequence
abbrev pub LocatedAt : List ℕ → ℕ → Located → Type 0
LocatedAt m place r = StandsAt m (faulty m place) r.segment × (r.sequence ≡ sequence_of m place)

-- ERR, the separators of fields and of components, and CR
abbrev pub marks_of : List ℕ → List ℕ
marks_of ds = ascii "ERR" ++ (get_or ds 0 0 ∷ get_or ds 1 0 ∷ carriage_return ∷ [])

-- the line's pieces, the marks being cut out of one
abbrev pub line_pieces : (name sequence field code marks : List ℕ) → List (List ℕ)
line_pieces name sequence field code marks =
    take 4 marks ∷ name ∷ take 1 (drop 4 marks) ∷ sequence ∷ take 1 (drop 4 marks) ∷ field ∷ take 1 (drop 4 marks)
    ∷ code ∷ take 1 (drop 5 marks) ∷ []
