-- An acknowledgement as the pieces that the code writes one behind another. `proofs/PieceLaws.antt` shows that together
-- they are the `acknowledgement`; what a reader must believe is that one alone.
use Rattle.std.specs.Prelude.{ℕ, List, [], ◌∷◌, ◌++◌, cond, length, get_or, take, drop, eqb}
use Rattle.alphabet.specs.Bytes.{carriage_return, ascii}
use Rattle.reading.specs.Segments.{field_separator}
use Rattle.acknowledgement.specs.Acknowledgement.{sent, version}
use Rattle.acknowledgement.specs.Fields.{pair, event}
use Rattle.acknowledgement_code.specs.Codes.{letters_of}
use Rattle.acknowledgement_code.specs.declared.Code.{Code}

-- the separator before an event, where there is one
abbrev pub event_mark : List ℕ → List ℕ → List ℕ
event_mark h e = cond (eqb (length e) 0) [] (get_or h 4 0 ∷ [])

-- the field separator as a piece
abbrev pub mark : List ℕ → List ℕ
mark h = field_separator h ∷ []

-- the fixed texts one behind another, with the letters of the code: field 8, which is empty, and `ACK`; the version, CR
-- and MSA up to its second field; and CR
abbrev pub fixed_text : ℕ → Code → List ℕ
fixed_text sep code =
    sep ∷ sep ∷ ascii "ACK"
    ++ (sep ∷ version ++ (carriage_return ∷ ascii "MSA" ++ (sep ∷ letters_of code ++ (sep ∷ carriage_return ∷ []))))

-- the pieces of MSH and those of MSA, the fixed texts being cut out of one, and what stands behind them; id is escaped
-- already
unfoldable pub pieces : (h time id fixed behind : List ℕ) → List (List ℕ)
pieces h time id fixed behind =
    take 8 h ∷ mark h ∷ pair h 5 ∷ pair h 3
    ∷ time ∷ take 5 fixed ∷ event_mark h (event h) ∷ event h
    ∷ mark h ∷ id ∷ mark h ∷ sent h 11
    ∷ take 12 (drop 5 fixed) ∷ sent h 10 ∷ take 1 (drop 17 fixed)
    ∷ behind ∷ []
