-- The types of message that are known, as people write them: those for which document 01 has a structure.
use Rattle.std.specs.Prelude.{ℕ, List, [], ◌∷◌, ◌++◌, cond, eqb, length}
use Rattle.alphabet.specs.Bytes.{ascii}
use Rattle.structure.specs.Structures.{ListedStructure, built_in}

-- "ORU^R01"; "ACK, any event"
abbrev pub written : ListedStructure → List ℕ
written x = x.type ++ cond (eqb (length x.event) 0) [] (ascii "^" ++ x.event)

abbrev pub all_written : List ListedStructure → List (List ℕ)
all_written [] = []
all_written (x ∷ others) = written x ∷ all_written others

unfoldable pub known : List (List ℕ)
known = all_written built_in
