-- That the types which are told are those that structure has. Assumes nothing.
use mathlib.Core.Path.{◌≡◌, refl}
use Rattle.alphabet.specs.Bytes.{ascii}
use Rattle.alphabet.specs.Parts.{split}
use Rattle.structure.specs.Structures.{built_in}
use Rattle.explaining.specs.Types.{known}

pub types_known : split 32 (ascii "ORU^R01 ACK ADT^A40 ADT^A01 ADT^A02 ADT^A12") ≡ known
unfolding known built_in split
types_known = refl
