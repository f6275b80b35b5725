-- Which numbers each entry point can give back, by document 01, 'Numbers given back'. 0 is given where nothing is
-- refused.
use Rattle.std.specs.Prelude.{List, [], ◌∷◌, ℕ}

-- 1 to 8, the faults of reading
abbrev pub of_reading : List ℕ
of_reading = 0 ∷ 1 ∷ 2 ∷ 3 ∷ 4 ∷ 5 ∷ 6 ∷ 7 ∷ 8 ∷ []

-- "Lookup: a reading fault, 19, then 32 or 37."
abbrev pub of_finding : List ℕ
of_finding = 19 ∷ of_reading

-- 37 is for a number of over 18 digits, so for NM alone
abbrev pub of_nm : List ℕ
of_nm = 32 ∷ 37 ∷ of_finding

-- SI, DT, TM and TS
abbrev pub of_form : List ℕ
of_form = 32 ∷ of_finding

-- "Escaping: 3, then 14."
abbrev pub of_escaping : List ℕ
of_escaping = 0 ∷ 3 ∷ 14 ∷ []

-- "Unescaping: 3, then 15, then the leftmost of 4, 11, 12, 13, then 14."
abbrev pub of_unescaping : List ℕ
of_unescaping = 0 ∷ 3 ∷ 15 ∷ 4 ∷ 11 ∷ 12 ∷ 13 ∷ 14 ∷ []

-- document 02, W5, by docs/FORMATTED.md: "3, 15, then the leftmost of 4, 11, 12, 13, then 42 (place 0), then 14"
abbrev pub of_formatting : List ℕ
of_formatting = 0 ∷ 3 ∷ 15 ∷ 4 ∷ 11 ∷ 12 ∷ 13 ∷ 42 ∷ 14 ∷ []

-- "Judges answer a reading fault first, then 20, 21, 22, then fields."
abbrev pub of_structure : List ℕ
of_structure = 20 ∷ 21 ∷ 22 ∷ of_reading

abbrev pub of_verdict : List ℕ
of_verdict = 31 ∷ 32 ∷ 33 ∷ 34 ∷ 35 ∷ 36 ∷ 37 ∷ of_structure

-- "Acknowledging: 16, 17, 9, 10."
abbrev pub of_acknowledging : List ℕ
of_acknowledging = 0 ∷ 16 ∷ 17 ∷ 9 ∷ 10 ∷ []

-- document 02, W1: "New numbers 40 (broken frame) and 41 (frame too long)", and 14 for a state that cannot be
abbrev pub of_framing : List ℕ
of_framing = 0 ∷ 14 ∷ 40 ∷ 41 ∷ []
