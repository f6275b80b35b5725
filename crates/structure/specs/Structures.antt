-- The structures of document 01, each under its line, and how a type chooses one, of these or of any others. `lines`
-- lays the document's own lines beside the shapes: each shape, written out, is its line.
use Rattle.std.specs.Prelude.{ℕ, ◌/◌, ◌%◌, ◌≡◌, refl, List, [], ◌∷◌, ◌++◌, Bool, cond, ◌&&◌, ◌||◌, eqb, length, get_or}
use Prim.Native.String.{String}
use Rattle.alphabet.specs.Bytes.{ascii}
use Rattle.alphabet.specs.Lists.{same}
use Rattle.element.specs.Finding.{raw_bytes}
use Rattle.element.specs.Addresses.{type_address}
use Rattle.structure.specs.Shapes.{Shape}
use Rattle.structure.specs.Shapes.Shape.{end, seg, opt, rep}
use Rattle.reading.specs.Segments.{name}

-- a segment, and what is written after it
abbrev the : String → Shape → Shape
the n s = seg (name n) s

-- "[ABC]", "{ABC}" and "[{ABC}]"
abbrev maybe : String → Shape → Shape
maybe n s = opt (the n end) s

abbrev some : String → Shape → Shape
some n s = rep (the n end) s

abbrev any : String → Shape → Shape
any n s = opt (some n end) s

-- ORU^R01 (v2.4): MSH { [PID [PD1] [{NK1}] [{NTE}] [PV1 [PV2]]] { [ORC] OBR [{NTE}] [{ [OBX] [{NTE}] }] [{CTI}] } }
-- [DSC]
abbrev pub oru_r01 : Shape
oru_r01 = the "MSH" (rep (opt patient (rep observations end)) (maybe "DSC" end))
  where
    patient : Shape
    patient = the "PID" (maybe "PD1" (any "NK1" (any "NTE" (opt (the "PV1" (maybe "PV2" end)) end))))

    observations : Shape
    observations = maybe "ORC" (the "OBR" (any "NTE" (opt (rep (maybe "OBX" (any "NTE" end)) end) (any "CTI" end))))

-- ACK, any event: MSH MSA [ERR]
abbrev pub ack : Shape
ack = the "MSH" (the "MSA" (maybe "ERR" end))

-- ADT^A40 (v2.4): MSH EVN { PID [PD1] MRG [PV1] }
abbrev pub adt_a40 : Shape
adt_a40 = the "MSH" (the "EVN" (rep (the "PID" (maybe "PD1" (the "MRG" (maybe "PV1" end)))) end))

-- ADT^A01 (house): MSH EVN PID [{NK1}] PV1 [PV2] [{AL1}] [{IN1}] [ZVI] [ZPD]
abbrev pub adt_a01 : Shape
adt_a01 = the "MSH" (the "EVN" (the "PID" (any "NK1" (the "PV1" (maybe "PV2" (any "AL1" (any "IN1" (maybe "ZVI" (maybe "ZPD" end)))))))))

-- ADT^A02 and A12 (house): MSH EVN PID PV1 [PV2] [ZVI] [ZPD]
abbrev pub adt_a02 : Shape
adt_a02 = the "MSH" (the "EVN" (the "PID" (the "PV1" (maybe "PV2" (maybe "ZVI" (maybe "ZPD" end))))))

-- ---- the lines

-- a shape written out, with brackets, braces and no spaces
abbrev line : Shape → List ℕ
line end = []
line (seg n s) = n / 65536 ∷ n / 256 % 256 ∷ n % 256 ∷ line s
line (opt b s) = ascii "[" ++ (line b ++ (ascii "]" ++ line s))
line (rep b s) = ascii "{" ++ (line b ++ (ascii "}" ++ line s))

-- a text without its spaces
abbrev packed : List ℕ → List ℕ
packed [] = []
packed (b ∷ r) = cond (eqb b (get_or (ascii " ") 0 0)) (packed r) (b ∷ packed r)

pub lines : (line oru_r01 ≡ packed (ascii "MSH { [PID [PD1] [{NK1}] [{NTE}] [PV1 [PV2]]] { [ORC] OBR [{NTE}] [{ [OBX] [{NTE}] }] [{CTI}] } } [DSC]"))
    × (line ack ≡ packed (ascii "MSH MSA [ERR]"))
    × (line adt_a40 ≡ packed (ascii "MSH EVN { PID [PD1] MRG [PV1] }"))
    × (line adt_a01 ≡ packed (ascii "MSH EVN PID [{NK1}] PV1 [PV2] [{AL1}] [{IN1}] [ZVI] [ZPD]"))
    × (line adt_a02 ≡ packed (ascii "MSH EVN PID PV1 [PV2] [ZVI] [ZPD]"))
lines = (refl, refl, refl, refl, refl)

-- ---- which structure a type chooses

-- A structure that is listed, and for which types: an event of no bytes is any event. The name is the one that HL7
-- gives the structure, as component 3 of MSH-9 has it: "component 3 isn't looked at", so no judge asks for it yet.
pub record ListedStructure : Type 0 where
  pub type : List ℕ
  pub event : List ℕ
  pub name : List ℕ
  pub shape : Shape

-- whether a structure is listed for a type: "compared as raw bytes"; "ACK, any event": also none
abbrev pub meets : List ℕ → List ℕ → ListedStructure → Bool
meets type event x = same type x.type && (eqb (length x.event) 0 || same event x.event)

-- a structure is chosen, or the type is not listed
pub data Choice : Type 0 where
  chosen : ListedStructure → Choice
  unlisted : Choice

-- of some structures, the first that is listed for a type
unfoldable pub choose : List ListedStructure → List ℕ → List ℕ → Choice
choose [] type event = unlisted
choose (x ∷ book) type event = cond (meets type event x) (chosen x) (choose book type event)

-- "The type is components 1 and 2 of MSH-9, repetition 1, compared as raw bytes": which of some structures a message's
-- type chooses
unfoldable pub structure_for : List ListedStructure → List ℕ → Choice
structure_for book m = choose book (raw_bytes m (type_address 1)) (raw_bytes m (type_address 2))

-- a book lists the structure s for a message's type
abbrev pub Lists : List ListedStructure → List ℕ → Shape → Type 0
Lists book m s = (x : ListedStructure) × (structure_for book m ≡ chosen x) × (x.shape ≡ s)

-- ---- the structures of document 01, in its order

abbrev listed : String → String → String → Shape → ListedStructure
listed type event name shape = record { type = ascii type; event = ascii event; name = ascii name; shape = shape }

abbrev pub observation_report : ListedStructure
observation_report = listed "ORU" "R01" "ORU_R01" oru_r01

abbrev pub acknowledgement : ListedStructure
acknowledgement = listed "ACK" "" "ACK" ack

abbrev pub merge : ListedStructure
merge = listed "ADT" "A40" "ADT_A39" adt_a40

abbrev pub admission : ListedStructure
admission = listed "ADT" "A01" "ADT_A01" adt_a01

abbrev pub transfer : ListedStructure
transfer = listed "ADT" "A02" "ADT_A02" adt_a02

abbrev pub cancel : ListedStructure
cancel = listed "ADT" "A12" "ADT_A12" adt_a02

unfoldable pub built_in : List ListedStructure
built_in = observation_report ∷ acknowledgement ∷ merge ∷ admission ∷ transfer ∷ cancel ∷ []
