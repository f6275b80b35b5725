-- What a message says that is answered with AR: its type is not supported, or its processing ID or its version is outside the list and nothing before it is
-- wrong; both ways. Rests on the rows of MSH (HeaderRows). Assumes nothing.
use mathlib.Core.Path.{◌≡◌, refl, sym, ap, ap₂, subst, ◌∙◌}
use mathlib.Core.Logic.{◌⊎◌, inl, inr, ◌↔◌}
use mathlib.Core.Bool.{Bool, true, false, cond}
use mathlib.Core.List.{List, [], ◌∷◌}
use Prim.Native.Nat.{ℕ, ◌+◌, ◌≤◌}
use native.Mathlib.Omega.{arith}
use lib.Dec.{ltb}
use lib.ListN.{length}
use Rattle.fault.specs.declared.FieldFault.{FieldFault}
use Rattle.std.specs.Prelude.{Ok, Err}
use Rattle.alphabet.specs.Answers.{number_of, Check, passes, fails}
use Rattle.alphabet.proofs.CheckLaws.{numbered_fails}
use Rattle.alphabet.specs.declared.answers.Refusal.{Refusal}
use Rattle.alphabet.specs.declared.answers.Refusal.TheVariants.{NoStructure, SegmentMisplaced, EndedEarly, NotListed}
use Rattle.reading.specs.Message.{Message}
use Rattle.reading.specs.Reading.{reading}
use Rattle.reading.specs.Segments.{segments}
use Rattle.reading.proofs.Accepted.{accepted as accepted-message}
use Rattle.reading.proofs.Honest.{reading_numbered}
use Rattle.structure.specs.Listed.{In}
use Rattle.structure.specs.SegmentNames.{segment_names}
use Rattle.structure.specs.Structures.{Choice, chosen, unlisted, structure_for, built_in}
use Rattle.structure.specs.Judged.{Answers, accepted, refused, unread, read, no_structure, by}
use Rattle.fault.specs.Faults.{plain, Judgement, number_judged, at_field}
use Rattle.fault.specs.declared.FaultRecord.{FaultRecord}
use Rattle.field_table.specs.Table.{rows}
use Rattle.fields.specs.Judging.{Fault, sound, faulty, located, or_fault, first_fault, segment_fault, segment_faults, judging, fault_answer}
use Rattle.verdict.proofs.VerdictLaws.{shaped}
use Rattle.verdict.specs.Verdicts.{Verdicts}
use Rattle.verdict.specs.Verdicts.VerdictsBy.{refused as by-structure, judged as by-fields}
use Rattle.laws.specs.Rejected.{Rejects, unsupported, processing, version, Rejected, Unsupported, StandsOnce, IsOneOf, IsNoneOf, Timed, Identified, processing_ids, versions, RejectedFor, its_type, its_processing, its_version}
use Rattle.laws.proofs.Chosen.{listed_exactly}
use Rattle.laws.proofs.FaultNumbers.{FaultNumbered, segments_numbered, fields_number}
use Rattle.laws.specs.Entries.{of_structure}
use Rattle.laws.proofs.Among.{apart}
use Rattle.laws.proofs.EntryNumbers.{structure_numbers}
use Rattle.laws.proofs.HeaderRows.{timed_found, identified_found, processing_found, version_found, in_header, timed_so, identified_so, processing_so, processing_not, version_not}

-- ---- 20

-- the structure judge gives 21 or 22 where a structure is chosen
misplaced : (t : Bool) → 21 ≤ number_of (cond t SegmentMisplaced EndedEarly)
misplaced true = omega arith
misplaced false = omega arith

module _ (m : List ℕ) where
  -- what the structure judge refuses with 20 was read, and no structure is chosen for it
  twenty : {r : Judgement} → Answers m r → number_judged r ≡ 20 → (reading m ≡ passes) × (structure_for built_in m ≡ unlisted)
  twenty (unread kind place e) n = absurd (let q = numbered_fails 1 8 (reading m) kind place (reading_numbered m) e in omega (arith, q.1))
  twenty (read p (no_structure g)) n = (p, g)
  twenty (read p (by x g (accepted y))) n = absurd (omega arith)
  twenty (read p (by x g (refused place ends list a))) n = absurd (let q = misplaced (ltb place (length (segment_names m))) in omega (arith, q))

  -- it never refuses with 33
  never_33 : {r : Judgement} → Answers m r → number_judged r ≡ 33 → ⊥
  never_33 a n = apart of_structure 33 refl (subst (λ (k : ℕ). In k of_structure) n (structure_numbers m a))

  -- the field judge never gives 20
  never_20 : number_judged (fault_answer (judging rows m)) ≡ 20 → ⊥
  never_20 n = at (fields_number m rows)
    where
      at : let k = number_judged (fault_answer (judging rows m)) in (k ≡ 0) ⊎ ((31 ≤ k) × (k ≤ 37)) → ⊥
      at (inl e) = omega arith
      at (inr b) = omega (arith, b.0)

  by_type : {r : Judgement} → Verdicts m r → number_judged r ≡ 20 → Unsupported m
  by_type (by-structure r a) n =
      let t = twenty a n in
      record { was_read = t.0; not_listed = λ s l. let c = (listed_exactly m s).1 l in absurd (let e = t.1 in let f = c.1 in let z : ◌≡◌ {A = ℕ} 0 1 = cc in omega arith) }
  by_type (by-fields a) n = absurd (never_20 n)

  -- every message of such a type is rejected
  unsupported_rejected : Unsupported m → Rejected m
  unsupported_rejected u = at (structure_for built_in m) refl
    where
      at : (c : Choice) → structure_for built_in m ≡ c → Rejected m
      at (chosen x) e = absurd (u.not_listed x.shape ((listed_exactly m x.shape).0 (x, e, refl)))
      at unlisted e =
          record {
            fault = plain NoStructure 0;
            first = by-structure (plain NoStructure 0) (read u.was_read (no_structure e));
            rejects = unsupported refl;
          }

-- ---- the first segment is MSH: a fault in it, and in its rows

module _ (kind : Refusal) (field repetition : ℕ) where
  abbrev Here : Fault → Type 0
  Here f = f ≡ faulty kind 0 field repetition

  -- one of two
  which : (f g : Fault) → Here (or_fault f g) → Here f ⊎ Here g
  which (Ok _) g e = inr e
  which (Err f) g e = inl e

  -- it is none of a segment behind the first
  in_first : (m s : List ℕ) (rest : List (List ℕ)) → segments m ≡ s ∷ rest → Here (judging rows m) → Here (segment_fault rows m 0 0 s)
  unfolding judging segment_faults first_fault
  in_first m s rest first found = at (which (segment_fault rows m 0 0 s) (first_fault (segment_faults rows m 1 (0 + length s + 1) rest)) (sym (ap (λ (ss : List (List ℕ)). first_fault (segment_faults rows m 0 0 ss)) first) ∙ found))
    where
      at : Here (segment_fault rows m 0 0 s) ⊎ Here (first_fault (segment_faults rows m 1 (0 + length s + 1) rest)) → Here (segment_fault rows m 0 0 s)
      at (inl e) = e
      at (inr e) = absurd (let b = subst (FaultNumbered 1 (1 + length rest)) e (segments_numbered m rows 1 (1 + length rest) (0 + length s + 1) rest (omega arith)) in omega (arith, b.1))

  of_field : (f : ℕ) (c : Check) → Here (located 0 f c) → (c ≡ fails kind repetition) × (f ≡ field)
  of_field f (Ok _) e = absurd (let z : ◌≡◌ {A = ℕ} 0 1 = cc in omega arith)
  of_field f (Err fault) e =
      let s : ◌≡◌ {A = FieldFault} (record { kind = fault.kind; segment = 0; field = f; repetition = fault.place }) (record { kind = kind; segment = 0; field = field; repetition = repetition }) = cc in
      (ap₂ fails (ap (λ (x : FieldFault). x.kind) s) (ap (λ (x : FieldFault). x.repetition) s), ap (λ (x : FieldFault). x.field) s)

  -- a row of another field passes; where none behind it has the fault, it is its own
  other_row : (f : ℕ) (c : Check) (g : Fault) → (f ≡ field → ⊥) → Here (or_fault (located 0 f c) g) → (c ≡ passes) × Here g
  other_row f (Ok _) g n e = (refl, e)
  other_row f (Err fault) g n e = absurd (n (of_field f (fails fault.kind fault.place) e).1)

  own_row : (f : ℕ) (c : Check) (g : Fault) → (Here g → ⊥) → Here (or_fault (located 0 f c) g) → c ≡ fails kind repetition
  own_row f (Ok _) g n e = absurd (n e)
  own_row f (Err fault) g n e = (of_field f (fails fault.kind fault.place) e).0

  not_sound : Here sound → ⊥
  not_sound e = let z : ◌≡◌ {A = ℕ} 0 1 = cc in omega arith

module _ (m s : List ℕ) (rest : List (List ℕ)) (first : segments m ≡ s ∷ rest) (four : 4 ≤ length m) (fits : Answers m (Ok tt)) where
  -- from the fault to the bytes
  module _ (kind : Refusal) (repetition : ℕ) (number : number_of kind ≡ 33) where
    processing_says : judging rows m ≡ faulty kind 0 11 repetition → RejectedFor m
    processing_says found =
        let a = other_row kind 11 repetition 7 (timed_found m s rest first four) _ (λ q. omega arith) (sym (in_header m s rest first four) ∙ in_first kind 11 repetition m s rest first found) in
        let b = other_row kind 11 repetition 10 (identified_found m s rest first four) _ (λ q. omega arith) a.1 in
        let c = own_row kind 11 repetition 11 (processing_found m s rest first four) _ (λ e. not_sound kind 11 repetition (other_row kind 11 repetition 12 (version_found m s rest first four) sound (λ q. omega arith) e).1) b.1 in
        its_processing fits ((timed_so m s rest first four).0 a.0) ((identified_so m s rest first four).0 b.0) ((processing_not m s rest first four).0 kind repetition number c)

    version_says : judging rows m ≡ faulty kind 0 12 repetition → RejectedFor m
    version_says found =
        let a = other_row kind 12 repetition 7 (timed_found m s rest first four) _ (λ q. omega arith) (sym (in_header m s rest first four) ∙ in_first kind 12 repetition m s rest first found) in
        let b = other_row kind 12 repetition 10 (identified_found m s rest first four) _ (λ q. omega arith) a.1 in
        let c = other_row kind 12 repetition 11 (processing_found m s rest first four) _ (λ q. omega arith) b.1 in
        let d = own_row kind 12 repetition 12 (version_found m s rest first four) sound (not_sound kind 12 repetition) c.1 in
        its_version fits ((timed_so m s rest first four).0 a.0) ((identified_so m s rest first four).0 b.0) ((processing_so m s rest first four).0 c.0) ((version_not m s rest first four).0 kind repetition number d)

  -- from the bytes to the fault
  whole : (f : Fault) → segment_fault rows m 0 0 s ≡ f → (f ≡ sound → ⊥) → judging rows m ≡ f
  unfolding judging segment_faults first_fault
  whole (Ok _) e n = absurd (n refl)
  whole (Err f) e n =
      ap (λ (ss : List (List ℕ)). first_fault (segment_faults rows m 0 0 ss)) first
      ∙ ap (λ (f : Fault). or_fault f (first_fault (segment_faults rows m 1 (0 + length s + 1) rest))) e

  processing_found_so : Timed m → Identified m → StandsOnce m 11 1 (IsNoneOf processing_ids) → judging rows m ≡ faulty NotListed 0 11 1
  processing_found_so t i o =
      whole (faulty NotListed 0 11 1)
      (in_header m s rest first four
      ∙ rw ((timed_so m s rest first four).1 t, (identified_so m s rest first four).1 i, (processing_not m s rest first four).1 o) refl)
      (λ e. let z : ◌≡◌ {A = ℕ} 0 1 = cc in omega arith)

  version_found_so : Timed m → Identified m → StandsOnce m 11 1 (IsOneOf processing_ids) → StandsOnce m 12 1 (IsNoneOf versions) → judging rows m ≡ faulty NotListed 0 12 1
  version_found_so t i p o =
      whole (faulty NotListed 0 12 1)
      (in_header m s rest first four
      ∙ rw ((timed_so m s rest first four).1 t, (identified_so m s rest first four).1 i, (processing_so m s rest first four).1 p, (version_not m s rest first four).1 o) refl)
      (λ e. let z : ◌≡◌ {A = ℕ} 0 1 = cc in omega arith)

-- ---- both ways

module _ (m : List ℕ) where
  -- what the structure judge answers without a number is that the message was read and fits
  fitting : {r : Judgement} → Answers m r → r ≡ Ok tt → (reading m ≡ passes) × Answers m (Ok tt)
  fitting a n = let s = shaped built_in m a n in (s.passed, read s.passed (by s.structure s.listed (accepted s.yields)))

  -- a message that was read has a first segment, and its delimiters
  record Begins : Type 0 where
    pub segment : List ℕ
    pub others : List (List ℕ)
    pub first : segments m ≡ segment ∷ others
    pub four : 4 ≤ length m

  begins : reading m ≡ passes → Begins
  begins p = at (segments m) refl
    where
      message : Message m
      message = accepted-message m p

      at : (ss : List (List ℕ)) → segments m ≡ ss → Begins
      at [] q = absurd (let l = message.some_segments in let k = ap length q in omega arith)
      at (s ∷ rest) q = record { segment = s; others = rest; first = q; four = omega (arith, message.opened.nine_bytes) }

  by_list : (f : Fault) → judging rows m ≡ f → (reading m ≡ passes) × Answers m (Ok tt) → (r : FaultRecord) → fault_answer f ≡ Err r → number_of r.kind ≡ 33 → r.place ≡ 0
      → (r.field ≡ 11) ⊎ (r.field ≡ 12) → RejectedFor m
  by_list (Ok _) e p r q n z w = absurd (let z : ◌≡◌ {A = ℕ} 0 1 = cc in omega arith)
  by_list (Err f) e p r q n z w = at w
    where
      same : at_field f.kind f.segment f.field f.repetition ≡ r
      same = cc

      number : number_of f.kind ≡ 33
      number = ap (λ (x : FaultRecord). number_of x.kind) same ∙ n

      here-is : (k : ℕ) → r.field ≡ k → judging rows m ≡ faulty f.kind 0 k f.repetition
      here-is k v = e ∙ ap₂ (λ (x y : ℕ). faulty f.kind x y f.repetition) (ap (λ (x : FaultRecord). x.place) same ∙ z) (ap (λ (x : FaultRecord). x.field) same ∙ v)

      at : (r.field ≡ 11) ⊎ (r.field ≡ 12) → RejectedFor m
      at (inl v) = let b = begins p.0 in processing_says m b.segment b.others b.first b.four p.1 f.kind f.repetition number (here-is 11 v)
      at (inr v) = let b = begins p.0 in version_says m b.segment b.others b.first b.four p.1 f.kind f.repetition number (here-is 12 v)

  outside : {j : Judgement} → Verdicts m j → (r : FaultRecord) → j ≡ Err r → number_of r.kind ≡ 33 → r.place ≡ 0 → (r.field ≡ 11) ⊎ (r.field ≡ 12) → RejectedFor m
  outside (by-structure s a) r e n z w = absurd (never_33 m a (ap number_judged e ∙ n))
  outside (by-fields a) r e n z w = by_list (judging rows m) refl (fitting a refl) r e n z w

  says : Rejected m → RejectedFor m
  says j = at j.rejects
    where
      at : Rejects j.fault → RejectedFor m
      at (unsupported n) = its_type (by_type m j.first n)
      at (processing n z f) = outside j.first j.fault refl n z (inl f)
      at (version n z f) = outside j.first j.fault refl n z (inr f)

  -- the verdict on a message with that fault in its fields
  first_told : {f : Fault} → Answers m (Ok tt) → judging rows m ≡ f → Verdicts m (fault_answer f)
  first_told a e = subst (λ (f : Fault). Verdicts m (fault_answer f)) e (by-fields a)

  said : RejectedFor m → Rejected m
  said (its_type u) = unsupported_rejected m u
  said (its_processing a t i o) =
      let b = begins (fitting a refl).0 in
      let e = processing_found_so m b.segment b.others b.first b.four a t i o in
      record { fault = at_field NotListed 0 11 1; first = first_told a e; rejects = processing refl refl refl }
  said (its_version a t i p o) =
      let b = begins (fitting a refl).0 in
      let e = version_found_so m b.segment b.others b.first b.four a t i p o in
      record { fault = at_field NotListed 0 12 1; first = first_told a e; rejects = version refl refl refl }

  pub rejected_bytes : Rejected m ↔ RejectedFor m
  rejected_bytes = (says, said)
