-- The demands for what C gets, over the definitions that the contracts of crates/boundary cite. Assumes nothing.
use mathlib.Core.Path.{◌≡◌, refl, sym, ap, subst, ◌∙◌}
use mathlib.Core.Logic.{◌↔◌}
use mathlib.Core.List.{List, ◌++◌}
use Prim.Native.Nat.{ℕ, ◌-◌, ◌≤◌, ◌<◌}
use native.Mathlib.Omega.{arith}
use lib.ListN.{length, get_or, take, replicate}
use Rattle.std.specs.Prelude.{Option, None, Some, Result, Ok, Err, IsOk}
use Rattle.alphabet.specs.Answers.{Refusable, passes}
use Rattle.alphabet.specs.declared.answers.Refusal.{Refusal}
use Rattle.alphabet.specs.declared.answers.Refusal.TheVariants.{NoRoom}
use Rattle.reading.specs.Reading.{reading}
use Rattle.escaping.specs.Outcomes.{escaping, answer, filled}
use Rattle.text.specs.Unescape.{unescaping}
use Rattle.formatting.specs.Formatting.{formatting}
use Rattle.structure.specs.Shapes.{Shape, Yields, names}
use Rattle.structure.specs.Listed.{In}
use Rattle.structure.specs.SegmentNames.{segment_names, kept}
use Rattle.structure.specs.Structures.{Lists, built_in}
use Rattle.fault.specs.Faults.{Judgement}
use Rattle.structure.specs.Judged.{Answers}
use Rattle.fault.specs.declared.FaultRecord.{FaultRecord}
use Rattle.fault.specs.declared.Names.{Names}
use Rattle.structure.proofs.OnlyOne.{only_one}
use Rattle.verdict.specs.Verdicts.{Accepts}
use Rattle.alphabet.proofs.BoolLaws.{false_true}
use Rattle.alphabet.proofs.CheckLaws.{number_positive}
use Rattle.verdict.proofs.VerdictLaws.{accepts_exactly as verdict-accepts}
use Rattle.frames.specs.declared.feeding.Fed.{Fed}
use Rattle.frames.specs.declared.modes.Mode.{Mode}
use Rattle.frames.specs.declared.steps.Stop.{Stop}
use Rattle.frames.specs.declared.steps.Stop.TheVariants.{Frame, Drop}
use Rattle.frames.specs.Feeding.{fed}
use Rattle.frames.proofs.ModeLaws.{mode_comes_back}
use Rattle.boundary.specs.Framing.{handed_in, frame_seen, fed_seen}
use Rattle.boundary.specs.declared.framing.CFrameState.{CFrameState}
use Rattle.boundary.specs.Seen.{seen, structure_seen, verdict_seen, names_listed, StructureSeen, VerdictSeen, NameSeen, AcknowledgeSeen}
use Rattle.boundary.specs.declared.answers.CAnswer.{CAnswer}
use Rattle.boundary.specs.declared.judges.CStructure.{CStructure}
use Rattle.boundary.specs.declared.judges.CVerdict.{CVerdict}
use Rattle.laws.proofs.NameLists.{in_at, at_in, front_at, behind_at, once_each}
use Rattle.laws.proofs.RoundTrip.{AreBytes}
use Rattle.laws.specs.Framed.{Framed, used_up, a_frame, broken_frame, long_frame, foreign_state, state_in, size_at, size_in}
use Rattle.laws.proofs.FrameNumbers.{feed_framed, frame_in_buffer}
use Rattle.promises.specs.Acknowledgements.{Carries}
use Rattle.promises.specs.ForC.{NamesOneByOne}
use Rattle.promises.specs.Structures.{Exactly, accepted, refused, RefusedExactly}
use Rattle.promises.proofs.Demand1.{escape_leaves, unescape_leaves, format_leaves, acknowledge_leaves, feed_leaves}
use Rattle.promises.proofs.Demand2.{acknowledgement_carries}
use Rattle.promises.proofs.Demand3.{structure_exactly, accepts_exactly}

-- ---- "After a refusal every buffer lent holds the bytes it held before.": a number other than 0 is a refusal

-- what is not refused has the number 0
none_refused : (r : Refusable ℕ) → IsOk r → (seen r).number ≡ 0
none_refused (Ok n) e = refl
none_refused (Err f) e = false_true e

-- and what has the number 0 is given, as long as C is told
given_so : (r : Refusable ℕ) → (seen r).number ≡ 0 → r ≡ Ok (seen r).length
given_so (Ok n) e = refl
given_so (Err f) e = absurd (let n = number_positive f.kind in omega arith)

pub c_escape_leaves : (ds t lent : List ℕ) → ((seen (answer (escaping ds t (length lent)))).number ≡ 0 → ⊥) → filled (escaping ds t (length lent)) lent ≡ lent
c_escape_leaves ds t lent some = escape_leaves ds t lent (λ e. some (none_refused (answer (escaping ds t (length lent))) e))

pub c_unescape_leaves : (ds s lent : List ℕ) → ((seen (answer (unescaping ds s (length lent)))).number ≡ 0 → ⊥) → filled (unescaping ds s (length lent)) lent ≡ lent
c_unescape_leaves ds s lent some = unescape_leaves ds s lent (λ e. some (none_refused (answer (unescaping ds s (length lent))) e))

pub c_format_leaves : (ds s lent : List ℕ) → ((seen (answer (formatting ds s (length lent)))).number ≡ 0 → ⊥) → filled (formatting ds s (length lent)) lent ≡ lent
c_format_leaves ds s lent some = format_leaves ds s lent (λ e. some (none_refused (answer (formatting ds s (length lent))) e))

module _ (m time id lent : List ℕ) {r : CAnswer} {left : List ℕ} (a : AcknowledgeSeen m time id lent r left) where
  pub c_acknowledge_leaves : (r.number ≡ 0 → ⊥) → left ≡ lent
  c_acknowledge_leaves some = (acknowledge_leaves m time id lent a.acknowledges (λ e. some (ap (λ (x : CAnswer). x.number) a.seen_as ∙ none_refused a.answer e))).0

  -- and 0 is an acknowledgement, as long as C is told
  pub c_acknowledgement_carries : AreBytes id → r.number ≡ 0 → Carries m time id (take r.length left)
  c_acknowledgement_carries small done =
      let given = given_so a.answer (sym (ap (λ (x : CAnswer). x.number) a.seen_as) ∙ done) in
      subst (λ (n : ℕ). Carries m time id (take n left)) (sym (ap (λ (x : CAnswer). x.length) a.seen_as))
      (acknowledgement_carries m time id lent small a.acknowledges (seen a.answer).length given)

-- ---- "lists exactly the structure's names that could have stood there"

module _ (m : List ℕ) (s : Shape) {j : FaultRecord} (a : Answers m (Err j)) (r : RefusedExactly s (segment_names m) j) where
  size : j.names.count ≡ length r.list
  size = ap (λ (n : Names). n.count) r.given

  from : {i n : ℕ} → NameSeen m i n → n ≡ get_or (r.list ++ replicate (64 - length r.list) 0) i 0
  from {i} x = x.seen_as ∙ ap (λ (k : Judgement). get_or (names_listed k) i 0) (only_one m x.answers a) ∙ ap (λ (n : Names). get_or n.list i 0) r.given

  inside : {i : ℕ} → i < j.names.count → i < length r.list
  inside h = let n = size in omega arith

  name_is : {i n : ℕ} → i < j.names.count → NameSeen m i n → n ≡ get_or r.list i 0
  name_is {i} h x = from x ∙ front_at r.list (replicate (64 - length r.list) 0) i (inside h)

  seen_at : (i : ℕ) → i < length r.list → NameSeen m i (get_or r.list i 0)
  seen_at i h = record {
    judgement = Err j;
    answers = a;
    seen_as = sym (ap (λ (n : Names). get_or n.list i 0) r.given ∙ front_at r.list (replicate (64 - length r.list) 0) i h);
  }

  one_by_one : NamesOneByOne m s (structure_seen (Err j))
  one_by_one = record {
    list = r.list;
    in_order = r.once;
    asked = λ i n h x. name_is h x;
    given = λ i n h x. (r.could_stand n).0 (subst (λ (k : ℕ). In k r.list) (sym (name_is h x)) (in_at r.list i (inside h)));
    every =
        λ n v.
        let f = at_in ((r.could_stand n).1 v) in
        let l = f.1 in
        let z = size in
        (f.0, omega arith, subst (NameSeen m f.0) f.2 (seen_at f.0 l));
    once = λ i k n h l x y. once_each _ _ r.list r.once i k (inside h) (inside l) (sym (name_is h x) ∙ name_is l y);
    behind = λ i n h x. let z = size in from x ∙ behind_at r.list (64 - length r.list) i (omega arith);
  }

-- a message that was read, whose type is listed with the structure s, and that C sees refused
pub names_one_by_one : (m : List ℕ) (s : Shape) → reading m ≡ passes → Lists built_in m s → {r : CStructure} → StructureSeen m r → (r.number ≡ 0 → ⊥)
    → NamesOneByOne m s r
names_one_by_one m s done known x some =
    subst (NamesOneByOne m s) (sym x.seen_as)
    (by (structure_exactly m s done known x.answers) (λ e. some (ap (λ (c : CStructure). c.number) x.seen_as ∙ e)) x.answers)
  where
    by : {j : Judgement} → Exactly s (segment_names m) j → ((structure_seen j).number ≡ 0 → ⊥) → Answers m j → NamesOneByOne m s (structure_seen j)
    by (accepted y) n a = absurd (n refl)
    by (refused r) n a = one_by_one m s a r

-- ---- 0 is what the judges accept

structure_accepted : (j : Judgement) → (structure_seen j).number ≡ 0 → j ≡ Ok tt
structure_accepted (Ok _) e = refl
structure_accepted (Err f) e = absurd (let n = number_positive f.kind in omega arith)

verdict_accepted : (v : Judgement) → (verdict_seen v).number ≡ 0 → v ≡ Ok tt
verdict_accepted (Ok _) e = refl
verdict_accepted (Err f) e = absurd (let n = number_positive f.kind in omega arith)

pub c_structure_exactly : (m : List ℕ) (s : Shape) → reading m ≡ passes → Lists built_in m s → {r : CStructure} → StructureSeen m r
    → (r.number ≡ 0) ↔ Yields s (kept (names s) (segment_names m))
c_structure_exactly m s done known x =
    let e = accepts_exactly m s done known x.answers in
    let seen-number = ap (λ (c : CStructure). c.number) x.seen_as in
    (λ z. e.0 (structure_accepted x.judgement (sym seen-number ∙ z)), λ y. seen-number ∙ ap (λ (j : Judgement). (structure_seen j).number) (e.1 y))

pub c_verdict_exactly : (m : List ℕ) {r : CVerdict} → VerdictSeen m r → (r.number ≡ 0) ↔ Accepts m
c_verdict_exactly m v =
    let e = verdict-accepts m v.answers in
    let seen-number = ap (λ (c : CVerdict). c.number) v.seen_as in
    (λ z. e.0 (verdict_accepted v.verdict (sym seen-number ∙ z)), λ a. seen-number ∙ ap (λ (j : Judgement). (verdict_seen j).number) (e.1 a))

-- ---- the frame reader: the state that C gets is the one that the library gave, and handed in again it is that one; where
-- the library gives none, which is where it refuses the one that C handed in, C gets its own

pub c_state_comes_back : (s : CFrameState) (r : Result Fed Refusal) → handed_in (fed_seen s r).state ≡ state_in (handed_in s) r
c_state_comes_back s (Ok f) = ap (λ (m : Mode). record { mode = m; held = f.state.held; count = f.state.count }) (mode_comes_back f.state.mode)
c_state_comes_back s (Err kind) = refl

-- 14 leaves the state and the buffer; no byte is used, and there is no frame
pub c_feed_leaves : (s : CFrameState) (piece lent : List ℕ) → (fed_seen s (fed (handed_in s) piece lent).said).number ≡ 14
    → ((fed_seen s (fed (handed_in s) piece lent).said).state ≡ s) × ((fed (handed_in s) piece lent).left ≡ lent)
    × ((fed_seen s (fed (handed_in s) piece lent).said).used ≡ 0) × ((fed_seen s (fed (handed_in s) piece lent).said).length ≡ 0)
c_feed_leaves s piece lent e =
    let f = by (feed_framed (handed_in s) piece lent) e in
    let l = feed_leaves (handed_in s) piece lent f in (
      ap (λ (r : Result Fed Refusal). (fed_seen s r).state) f,
      l.1,
      ap (λ (r : Result Fed Refusal). (fed_seen s r).used) f,
      ap (λ (r : Result Fed Refusal). (fed_seen s r).length) f,
    )
  where
    by : {r : Result Fed Refusal} → Framed r → (fed_seen s r).number ≡ 14 → r ≡ Err NoRoom
    by (used_up n t) q = absurd (omega arith)
    by (a_frame size n t) q = absurd (omega arith)
    by (broken_frame n t) q = absurd (omega arith)
    by (long_frame n t) q = absurd (omega arith)
    by foreign_state q = refl

-- as many bytes as C is told of a frame stand in the buffer
pub c_frame_fits : (s : CFrameState) (piece lent : List ℕ) → (fed_seen s (fed (handed_in s) piece lent).said).length ≤ length lent
c_frame_fits s piece lent =
    let e = length_is s (fed (handed_in s) piece lent).said in
    let l = frame_in_buffer (handed_in s) piece lent in
    omega arith
  where
    frame_size : (stop : Option Stop) → frame_seen stop ≡ size_at stop
    frame_size None = refl
    frame_size (Some (Frame size)) = refl
    frame_size (Some (Drop kind)) = refl

    length_is : (s : CFrameState) (r : Result Fed Refusal) → (fed_seen s r).length ≡ size_in r
    length_is s (Ok f) = frame_size f.stop
    length_is s (Err kind) = refl
