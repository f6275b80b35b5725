-- Which structure is listed for which type, by document 01, 'Structures': "The type is components 1 and 2 of MSH-9,
-- repetition 1, compared as raw bytes". A second saying of the choice that the judge makes, as its table.
use Rattle.std.specs.Prelude.{ℕ, List}
use Rattle.alphabet.specs.Bytes.{ascii}
use Rattle.structure.specs.Shapes.{Shape}
use Rattle.structure.specs.Structures.{oru_r01, ack, adt_a40, adt_a01, adt_a02}

-- the two components, and the structure
pub data ListedAs : List ℕ → List ℕ → Shape → Type 0 where
  -- "ORU^R01 (v2.4)"
  oru : ListedAs (ascii "ORU") (ascii "R01") oru_r01
  -- "ACK, any event"
  acknowledged : (event : List ℕ) → ListedAs (ascii "ACK") event ack
  -- "ADT^A40 (v2.4)"
  merged : ListedAs (ascii "ADT") (ascii "A40") adt_a40
  -- "ADT^A01 (house)"
  admitted : ListedAs (ascii "ADT") (ascii "A01") adt_a01
  -- "ADT^A02 and A12 (house)"
  transferred : ListedAs (ascii "ADT") (ascii "A02") adt_a02
  cancelled : ListedAs (ascii "ADT") (ascii "A12") adt_a02
