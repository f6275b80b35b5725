-- Demand 3: "For a message that was read and whose type we list, the structure judge accepts exactly when the grammar listed for that type, with its optional and
-- repeating groups, can yield the segment names, once Z segments the structure doesn't name are taken out. Its refusal points to the first segment that, with
-- those before it, begins no acceptable message, length limits aside, or to the end where only more segments are missing. It lists exactly the structure's
-- names that could have stood there, those limits aside." The limits are aside because a structure knows none: MSH, 4,094 OBR and ORC are 4,096
-- segments, are refused with 22 at 4,096 and list OBR, though no 4,097th segment could be read. Assumes nothing.
use mathlib.Core.Path.{◌≡◌, refl, subst, ap, ◌∙◌}
use mathlib.Core.Logic.{◌↔◌}
use mathlib.Core.List.{List}
use Prim.Native.Nat.{ℕ}
use native.Mathlib.Omega.{arith}
use Rattle.std.specs.Prelude.{Ok, Err}
use Rattle.alphabet.specs.Answers.{passes}
use Rattle.alphabet.specs.declared.answers.Refusal.TheVariants.{NoStructure}
use Rattle.reading.specs.Reading.{reading}
use Rattle.structure.specs.Shapes.{Shape, Yields, names}
use Rattle.structure.specs.SegmentNames.{segment_names, kept}
use Rattle.element.specs.Addresses.{type_address}
use Rattle.structure.specs.Structures.{ListedStructure, unlisted, structure_for, Lists, built_in}
use Rattle.element.specs.Finding.{raw_bytes}
use Rattle.laws.specs.Types.{ListedAs}
use Rattle.laws.proofs.Chosen as Chosen
use Rattle.fault.specs.Faults.{plain, Judgement}
use Rattle.structure.specs.Judged.{Judged, no_structure, by, AnswersBy, unread, read, Answers}
use Rattle.structure.specs.Judged.Judged.{accepted as yielded, refused as not_yielded}
use Rattle.structure.proofs.OnlyOne.{only_one_by, goes_on, could_stand_is}
use Rattle.structure.proofs.OnlyOne.{accepts_exactly as judged-exactly}
use Rattle.field_table.specs.Table.{rows}
use Rattle.fields.specs.Judging.{fault_answer, judging}
use Rattle.verdict.specs.Verdicts.{VerdictsBy, Verdicts}
use Rattle.verdict.specs.Verdicts.VerdictsBy.{refused as by-structure, judged as by-fields}
use Rattle.promises.specs.Structures.{Exactly, accepted, refused}

exactly : (s : Shape) (ns : List ℕ) {j : Judgement} → Judged s ns j → Exactly s ns j
exactly s ns (yielded y) = accepted y
exactly s ns (not_yielded place ends list r) =
    refused (record {
      not_yielded = r.not_yielded;
      inside = r.within;
      before = goes_on s ns place ends list r;
      stuck = r.stuck;
      kind = refl;
      list = list;
      given = refl;
      could_stand = could_stand_is s ns place ends list r;
      once = r.could_stand;
      could_end = r.could_end;
    })

-- ---- for every book, a list of structures

-- a message that was read, and for whose type the book lists the structure s
module _ (book : List ListedStructure) (m : List ℕ) (s : Shape) (done : reading m ≡ passes) (known : Lists book m s) where
  judged_by : {j : Judgement} → AnswersBy book m j → Judged s (segment_names m) j
  judged_by (unread kind place e) = absurd (let z : ◌≡◌ {A = ℕ} 0 1 = cc in omega arith)
  judged_by (read e (no_structure g)) = absurd (let q = known.1 in let z : ◌≡◌ {A = ℕ} 0 1 = cc in omega arith)
  judged_by {j} (read e (by x g k)) =
      let q = known.1 in
      let y : x ≡ known.0 = cc in
      subst (λ (t : Shape). Judged t (segment_names m) j) (ap (λ (z : ListedStructure). z.shape) y ∙ known.2) k

  -- exactly the grammar, exactly the place, exactly the list
  pub structure_exactly_by : {j : Judgement} → AnswersBy book m j → Exactly s (segment_names m) j
  structure_exactly_by a = exactly s (segment_names m) (judged_by a)

  pub accepts_exactly_by : {j : Judgement} → AnswersBy book m j → (j ≡ Ok tt) ↔ Yields s (kept (names s) (segment_names m))
  accepts_exactly_by a = judged-exactly s (segment_names m) (judged_by a)

module _ (book : List ListedStructure) (m : List ℕ) where
  -- any other type is 20
  pub unlisted_refused_by : {j : Judgement} → reading m ≡ passes → structure_for book m ≡ unlisted → AnswersBy book m j → j ≡ Err (plain NoStructure 0)
  unlisted_refused_by e g a = Chosen.judge_unlisted book m e g a

  -- the verdict agrees: what the structure judge refuses it refuses with the same record; where he accepts, the fields decide
  pub verdict_refuses_by : {j r : Judgement} → AnswersBy book m j → VerdictsBy book m r → (j ≡ Ok tt → ⊥) → r ≡ j
  verdict_refuses_by a (by-structure k b) some = only_one_by book m b a
  verdict_refuses_by a (by-fields b) some = absurd (some (only_one_by book m a b))

  pub verdict_goes_on_by : {j r : Judgement} → AnswersBy book m j → VerdictsBy book m r → j ≡ Ok tt → r ≡ fault_answer (judging rows m)
  verdict_goes_on_by a (by-structure k b) e = absurd (let q = only_one_by book m b a ∙ e in let z : ◌≡◌ {A = ℕ} 0 1 = cc in omega arith)
  verdict_goes_on_by a (by-fields b) e = refl

-- ---- for the structures of document 01

-- "whose type we list": a structure is listed for a type exactly where document 01's table has it, and any other type is 20
pub listed_exactly : (m : List ℕ) (s : Shape) → Lists built_in m s ↔ ListedAs (raw_bytes m (type_address 1)) (raw_bytes m (type_address 2)) s
listed_exactly = Chosen.listed_exactly

module _ (m : List ℕ) where
  pub unlisted_refused : {j : Judgement} → reading m ≡ passes → structure_for built_in m ≡ unlisted → Answers m j → j ≡ Err (plain NoStructure 0)
  unlisted_refused e g a = unlisted_refused_by built_in m e g a

  module _ (s : Shape) (done : reading m ≡ passes) (known : Lists built_in m s) where
    pub structure_exactly : {j : Judgement} → Answers m j → Exactly s (segment_names m) j
    structure_exactly a = structure_exactly_by built_in m s done known a

    pub accepts_exactly : {j : Judgement} → Answers m j → (j ≡ Ok tt) ↔ Yields s (kept (names s) (segment_names m))
    accepts_exactly a = accepts_exactly_by built_in m s done known a

  pub verdict_refuses : {j r : Judgement} → Answers m j → Verdicts m r → (j ≡ Ok tt → ⊥) → r ≡ j
  verdict_refuses a v some = verdict_refuses_by built_in m a v some

  pub verdict_goes_on : {j r : Judgement} → Answers m j → Verdicts m r → j ≡ Ok tt → r ≡ fault_answer (judging rows m)
  verdict_goes_on a v e = verdict_goes_on_by built_in m a v e
