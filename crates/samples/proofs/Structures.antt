-- Samples 10, 11 and 12 of document 01, and the observation group that may be empty, as theorems about the definitions.
-- The walk is computed, and what it comes to is told by the laws. Assumes nothing.
use mathlib.Core.Path.{◌≡◌, refl, sym, subst}
use mathlib.Core.Bool.{true, false, cond}
use mathlib.Core.List.{List, [], ◌∷◌, ◌++◌, map}
use Prim.Native.Nat.{ℕ, ◌+◌, ◌*◌}
use lib.ListN.{get_or}
use Rattle.std.specs.Prelude.{Err}
use Rattle.alphabet.specs.Delimiters.{first_wrong_delimiter}
use Rattle.alphabet.specs.Limits.{message_limit, segment_limit}
use Rattle.alphabet.specs.Lists.{first, same}
use Rattle.alphabet.specs.Parts.{split, standing, part_at}
use Rattle.alphabet.specs.Answers.{passes}
use Rattle.reading.specs.Segments.{all_but_last, segments, segment_at, name, name_of}
use Rattle.reading.specs.Reading.{reading, opening, segments_check, segment_checks}
use Rattle.element.specs.Finding.{element_of, raw_bytes}
use Rattle.element.specs.Levels.{part_in, field_in, below, repetition_at, component_at, subcomponent_at, unsplit, element_at}
use Rattle.samples.specs.Table.{report_of}
use Rattle.structure.specs.Shapes.{Shape, Yields, names, numbered}
use Rattle.structure.specs.Shapes.Shape.{end, seg, opt, rep}
use Rattle.structure.specs.Shapes.Spans.{ended, stand, skip, once, last, more}
use Rattle.structure.specs.SegmentNames.{segment_names, among, passed_over}
use Rattle.structure.specs.Structures.{oru_r01, chosen, choose, structure_for, built_in, observation_report}
use Rattle.structure.specs.Judged.{Judged, refused_as, by, Answers, read}
use Rattle.fault.specs.declared.FaultRecord.{FaultRecord}
use Rattle.structure.specs.Engine.{Entry, into, stop, enter, again, gathered, ended_with, walked, listing, Tables}
use Rattle.structure.specs.declared.walking.Stop.TheVariants.{Misplaced, Early}
use Rattle.structure.proofs.Telling.{told_stop}
use Rattle.samples.proofs.TableTest.{tables_of}

-- what comes next behind each place of a structure, in written order, where c comes next behind it all
abbrev behind : Shape → Entry → List Entry
behind end c = []
behind (seg n s) c = enter s c ∷ behind s c
behind (opt b s) c = behind b (enter s c) ++ behind s c
behind (rep b s) c = behind b (again b (enter s c)) ++ behind s c

-- the places behind which a message can end, as a set
abbrev ending : List Entry → ℕ
ending [] = 0
ending (e ∷ l) = cond e.ends 1 0 + 2 * ending l

-- the tables of ORU^R01, out of its own line
abbrev entries : List Entry
entries = behind (numbered 0 oru_r01) stop

abbrev follow : List ℕ
follow = map (λ (e : Entry). e.next) entries

abbrev lasts : ℕ
lasts = ending entries

tables : Tables oru_r01 (names oru_r01) follow lasts (into 1)
tables = tables_of oru_r01 (names oru_r01) follow lasts (into 1) refl tt tt

-- what can come next behind MSH, PID and OBR
abbrev after : ℕ → ℕ
after place = get_or follow place 0

-- "MSH alone as ORU: 22; PID, ORC, OBR; could not end."
sample_10 : Judged oru_r01 (name "MSH" ∷ []) (Err (refused_as 1 1 false (name "PID" ∷ name "ORC" ∷ name "OBR" ∷ [])))
unfolding among passed_over gathered ended_with walked listing
sample_10 = told_stop oru_r01 (names oru_r01) follow lasts (into 1) tables (name "MSH" ∷ []) (Early 1 (after 0)) refl

-- "MSH PID EVN: 21 at segment 2; PD1, NK1, NTE, PV1, ORC, OBR; could not end."
sample_11 : Judged oru_r01 (name "MSH" ∷ name "PID" ∷ name "EVN" ∷ [])
    (Err (refused_as 3 2 false (name "PD1" ∷ name "NK1" ∷ name "NTE" ∷ name "PV1" ∷ name "ORC" ∷ name "OBR" ∷ [])))
unfolding among passed_over gathered ended_with walked listing
sample_11 =
    told_stop oru_r01 (names oru_r01) follow lasts (into 1) tables (name "MSH" ∷ name "PID" ∷ name "EVN" ∷ []) (Misplaced (record { place = 2; next = record { places = after 1; ends = false } })) refl

-- "MSH OBR EVN: 21 at segment 2; PID, ORC, OBR, NTE, OBX, CTI, DSC; could end."
sample_12 : Judged oru_r01 (name "MSH" ∷ name "OBR" ∷ name "EVN" ∷ [])
    (Err (refused_as 3 2 true (name "PID" ∷ name "ORC" ∷ name "OBR" ∷ name "NTE" ∷ name "OBX" ∷ name "CTI" ∷ name "DSC" ∷ [])))
unfolding among passed_over gathered ended_with walked listing
sample_12 =
    told_stop oru_r01 (names oru_r01) follow lasts (into 1) tables (name "MSH" ∷ name "OBR" ∷ name "EVN" ∷ []) (Misplaced (record { place = 2; next = record { places = after 8; ends = true } })) refl

-- the messages themselves: each is read, its type is ORU^R01, and its names are the sample's
report : (m ns : List ℕ) {j : FaultRecord} → reading m ≡ passes → structure_for built_in m ≡ chosen observation_report → segment_names m ≡ ns → Judged oru_r01 ns (Err j) → Answers m (Err j)
report m ns {j} r g n k = read r (by observation_report g (subst (λ (l : List ℕ). Judged oru_r01 l (Err j)) (sym n) k))

pub report_10 : Answers (report_of []) (Err (refused_as 1 1 false (name "PID" ∷ name "ORC" ∷ name "OBR" ∷ [])))
unfolding raw_bytes reading opening message_limit segment_limit first_wrong_delimiter first segments_check segment_checks segments all_but_last split structure_for choose built_in same segment_names name_of segment_at standing element_of element_at unsplit subcomponent_at component_at repetition_at below part_in part_at field_in
report_10 = report (report_of []) _ refl refl refl sample_10

pub report_11 : Answers (report_of ("PID" ∷ "EVN" ∷ []))
    (Err (refused_as 3 2 false (name "PD1" ∷ name "NK1" ∷ name "NTE" ∷ name "PV1" ∷ name "ORC" ∷ name "OBR" ∷ [])))
unfolding raw_bytes reading opening message_limit segment_limit first_wrong_delimiter first segments_check segment_checks segments all_but_last split structure_for choose built_in same segment_names name_of segment_at standing element_of element_at unsplit subcomponent_at component_at repetition_at below part_in part_at field_in
report_11 = report (report_of ("PID" ∷ "EVN" ∷ [])) _ refl refl refl sample_11

pub report_12 : Answers (report_of ("OBR" ∷ "EVN" ∷ []))
    (Err (refused_as 3 2 true (name "PID" ∷ name "ORC" ∷ name "OBR" ∷ name "NTE" ∷ name "OBX" ∷ name "CTI" ∷ name "DSC" ∷ [])))
unfolding raw_bytes reading opening message_limit segment_limit first_wrong_delimiter first segments_check segment_checks segments all_but_last split structure_for choose built_in same segment_names name_of segment_at standing element_of element_at unsplit subcomponent_at component_at repetition_at below part_in part_at field_in
report_12 = report (report_of ("OBR" ∷ "EVN" ∷ [])) _ refl refl refl sample_12

-- "the observation group, whose body may be empty": MSH OBR is yielded with the group taken twice and empty both times
pub empty_group : Yields oru_r01 (name "MSH" ∷ name "OBR" ∷ [])
empty_group = stand (last (skip (last (skip (stand (skip (once (more (skip (skip ended)) (last (skip (skip ended)) ended)) (skip ended))))) ended)) (skip ended))
