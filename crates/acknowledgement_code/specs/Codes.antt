-- The code of an acknowledgement, by document 01, 'The acknowledgement', and document 02, W2; and how it is written.
use Rattle.std.specs.Prelude.{ℕ, List, Bool, cond, ◌&&◌, ◌||◌, eqb, Ok, Err}
use Rattle.alphabet.specs.Answers.{number_of}
use Rattle.alphabet.specs.Bytes.{ascii}
use Rattle.fault.specs.Faults.{Judgement}
use Rattle.acknowledgement_code.specs.declared.Code.{Code}
use Rattle.acknowledgement_code.specs.declared.Code.TheVariants.{Accept, Error, Reject}

-- "an unsupported type (20), or MSH-11 or MSH-12 outside its list (33), is AR": the place of 33 is a segment's number,
-- and MSH is segment 0
abbrev pub rejects : ℕ → ℕ → ℕ → Bool
rejects number place field = eqb number 20 || (eqb number 33 && (eqb place 0 && (eqb field 11 || eqb field 12)))

-- "Code AA exactly when reading, structure and fields all accept". "the rest stays AE". "Where several faults stand, the
-- first in the judges' order decides the letter.": the record is the verdict's, and tells that one
unfoldable pub code_of : Judgement → Code
code_of (Ok _) = Accept
code_of (Err r) = cond (rejects (number_of r.kind) r.place r.field) Reject Error

-- how a code is written
abbrev pub letters_of : Code → List ℕ
letters_of Accept = ascii "AA"
letters_of Error = ascii "AE"
letters_of Reject = ascii "AR"
