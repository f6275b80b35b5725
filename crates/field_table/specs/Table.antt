-- The table of document 01, 'Fields judged', as data. "Columns: part judged; type; R required; Y may repeat."
use Rattle.std.specs.Prelude.{ℕ, List, [], ◌∷◌, Bool, true, false, ◌||◌}
use Prim.Native.String.{String}
use Rattle.alphabet.specs.Bytes.{ascii}
use Rattle.alphabet.specs.Lists.{same}
use Rattle.alphabet.specs.Parts.{split}
use Rattle.reading.specs.Segments.{name}
use Rattle.field_table.specs.declared.Values.{Values}
use Rattle.field_table.specs.declared.Values.TheVariants.{Processing, Version, Sex, ValueTypes, Statuses, Codes}
use Rattle.field_table.specs.declared.Kind.{Kind}
use Rattle.field_table.specs.declared.Kind.TheVariants.{Any, Identifier, Ts, Si, OneOf, AsField}
use Rattle.field_table.specs.declared.Row.{Row}

-- the words of a text, which stand between its spaces
abbrev pub words : String → List (List ℕ)
words text = split 32 (ascii text)

-- the lists: "D, P, T"; "`2.4`"; "M, F, O, U"; "house cut of table 0125"; "table 0085"; "AA AE AR"
unfoldable pub values_of : Values → List (List ℕ)
values_of Processing = words "D P T"
values_of Version = words "2.4"
values_of Sex = words "M F O U"
values_of ValueTypes = words "CE DT ED FT NM RP SN ST TM TS TX"
values_of Statuses = words "C D F I N O P R S U W X"
values_of Codes = words "AA AE AR"

-- bytes that are one of some values
unfoldable pub member : List ℕ → List (List ℕ) → Bool
member bytes [] = false
member bytes (value ∷ others) = same bytes value || member bytes others

-- "part judged": a repetition's component, counted from 1, or the whole
abbrev pub whole : ℕ
whole = 0

-- a row: segment, field, part judged, type, whether R, whether Y
abbrev pub row : String → ℕ → ℕ → Kind → Bool → Bool → Row
row segment field component kind required repeats =
    record { segment = name segment; field = field; component = component; kind = kind; required = required; repeats = repeats }

abbrev pub R : Bool
R = true

abbrev pub Y : Bool
Y = true

-- neither
abbrev pub no : Bool
no = false

unfoldable pub rows : List Row
rows =
    row "MSH" 7 1 Ts R no
    ∷ row "MSH" 10 whole Identifier R no
    ∷ row "MSH" 11 1 (OneOf Processing) R no
    ∷ row "MSH" 12 1 (OneOf Version) R no
    ∷ row "PID" 3 whole Any R Y
    ∷ row "PID" 5 whole Any R Y
    ∷ row "PID" 7 1 Ts no no
    ∷ row "PID" 8 whole (OneOf Sex) no no
    ∷ row "OBR" 1 whole Si no no
    ∷ row "OBX" 1 whole Si no no
    ∷ row "OBX" 2 whole (OneOf ValueTypes) no no
    ∷ row "OBX" 3 whole Any R no
    ∷ row "OBX" 5 whole (AsField 2) no Y
    ∷ row "OBX" 11 whole (OneOf Statuses) R no
    ∷ row "OBX" 14 1 Ts no no
    ∷ row "MSA" 1 whole (OneOf Codes) R no
    ∷ []

-- what stands past the last row: no segment has the name 0
abbrev pub no_row : Row
no_row = record { segment = 0; field = 0; component = whole; kind = Any; required = false; repeats = false }
