-- That no second verdict meets the contract, and that it accepts exactly where all judges do, over any book. Assumes nothing.
use mathlib.Core.Path.{◌≡◌, refl, ◌∙◌}
use mathlib.Core.Logic.{◌↔◌}
use mathlib.Core.List.{List}
use Prim.Native.Nat.{ℕ}
use native.Mathlib.Omega.{arith}
use Rattle.std.specs.Prelude.{Ok}
use Rattle.alphabet.specs.Answers.{passes}
use Rattle.reading.specs.Reading.{reading}
use Rattle.fault.specs.Faults.{Judgement}
use Rattle.structure.specs.Shapes.{Yields, names}
use Rattle.structure.specs.SegmentNames.{segment_names, kept}
use Rattle.structure.specs.Structures.{ListedStructure, chosen, structure_for, built_in}
use Rattle.structure.specs.Judged.{accepted, StructuredBy, no_structure, by, AnswersBy, unread, read}
use Rattle.structure.proofs.OnlyOne.{only_one_by, accepts_exactly as structure_accepts}
use Rattle.verdict.specs.Verdicts.{VerdictsBy, AcceptsBy, Verdicts, Accepts}
use Rattle.verdict.specs.Verdicts.VerdictsBy.{refused as by-structure, judged as by-fields}

module _ (book : List ListedStructure) (m : List ℕ) where
  -- no second verdict
  pub one_verdict_by : {r t : Judgement} → VerdictsBy book m r → VerdictsBy book m t → r ≡ t
  one_verdict_by (by-structure j a) (by-structure k b) = only_one_by book m a b
  one_verdict_by (by-structure j a) (by-fields b) = let e = only_one_by book m a b in absurd (let z : ◌≡◌ {A = ℕ} 0 1 = cc in omega arith)
  one_verdict_by (by-fields a) (by-structure k b) = let e = only_one_by book m a b in absurd (let z : ◌≡◌ {A = ℕ} 0 1 = cc in omega arith)
  one_verdict_by (by-fields a) (by-fields b) = refl

  -- where the structure judge finds nothing, reading passes and the structure yields the names
  pub record Shaped : Type 0 where
    pub passed : reading m ≡ passes
    pub structure : ListedStructure
    pub listed : structure_for book m ≡ chosen structure
    pub yields : Yields structure.shape (kept (names structure.shape) (segment_names m))

  shaped_by : {r : Judgement} → reading m ≡ passes → StructuredBy book m r → r ≡ Ok tt → Shaped
  shaped_by p (no_structure g) e = absurd (let z : ◌≡◌ {A = ℕ} 0 1 = cc in omega arith)
  shaped_by p (by x g j) e = record { passed = p; structure = x; listed = g; yields = (structure_accepts x.shape (segment_names m) j).0 e }

  pub shaped : {r : Judgement} → AnswersBy book m r → r ≡ Ok tt → Shaped
  shaped (unread kind place f) e = absurd (let z : ◌≡◌ {A = ℕ} 0 1 = cc in omega arith)
  shaped (read p s) e = shaped_by p s e

  accepting : {r : Judgement} → VerdictsBy book m r → r ≡ Ok tt → AcceptsBy book m
  accepting (by-structure j a) e = absurd (let z : ◌≡◌ {A = ℕ} 0 1 = cc in omega arith)
  accepting (by-fields a) e =
      let s = shaped a refl in
      record { read = s.passed; structure = s.structure; listed = s.listed; yields = s.yields; sound = e }

  -- accepted exactly where reading, structure and fields all accept
  pub accepts_exactly_by : {r : Judgement} → VerdictsBy book m r → (r ≡ Ok tt) ↔ AcceptsBy book m
  accepts_exactly_by v = (
    accepting v,
    λ a. one_verdict_by v (by-fields (read a.read (by a.structure a.listed (accepted a.yields)))) ∙ a.sound,
  )

-- by the structures of document 01
pub one_verdict : (m : List ℕ) {r t : Judgement} → Verdicts m r → Verdicts m t → r ≡ t
one_verdict m a b = one_verdict_by built_in m a b

pub accepts_exactly : (m : List ℕ) {r : Judgement} → Verdicts m r → (r ≡ Ok tt) ↔ Accepts m
accepts_exactly m v = accepts_exactly_by built_in m v
