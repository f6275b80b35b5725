-- Laws of checks in order: what a check that passes or fails makes of the whole; and that 0 is no refusal's number. Assumes nothing.
use mathlib.Core.Path.{◌≡◌, refl, sym, ap, ◌∙◌, subst}
use mathlib.Core.Bool.{Bool, true, false}
use Prim.Native.Nat.{ℕ, ◌≤◌}
use Rattle.std.specs.Prelude.{Ok, Err, IsOk}
use native.Mathlib.Omega.{arith}
use Rattle.alphabet.specs.Answers.{Check, Refusable, passes, fails, given, checked, number_of, number_given, fails_if, or_else}
use Rattle.alphabet.specs.declared.answers.Fault.{Fault}
use Rattle.alphabet.specs.declared.answers.Refusal.{Refusal}
use Rattle.alphabet.specs.declared.answers.Refusal.TheVariants.{Length, Header, Delimiter, NotAllowed, NotEnded, SegmentName, SecondHeader, TooManySegments, NotAcknowledgeable, AcknowledgementTooLong, Separator, UnknownEscape, UnclosedEscape, NoRoom, NullText, CallersTime, CallersId, Address, NoStructure, SegmentMisplaced, EndedEarly, RequiredMissing, BreaksForm, NotListed, RequiredNull, ValueWithoutType, Repeated, ValueTooLong, StructureName, BrokenFrame, FrameTooLong, Layout, BookVersion, BookMalformed, BookHeader, WrongCount, BrokenBatch}

pub fails_or : {c : Check} {kind : Refusal} {place : ℕ} → c ≡ fails kind place → (later : Check) → or_else c later ≡ fails kind place
fails_or e later = rw e

pub passes_or : {c : Check} → c ≡ passes → (later : Check) → or_else c later ≡ later
passes_or e later = rw e

-- where the whole passes, each passes
pub both_pass : (c later : Check) → or_else c later ≡ passes → (c ≡ passes) × (later ≡ passes)
both_pass (Ok _) later e = (refl, e)
both_pass (Err fault) later e = absurd (let z : ◌≡◌ {A = ℕ} 0 1 = cc in omega arith)

-- a check passes exactly where its test does not hold
pub fails_if_lem : {test : Bool} → test ≡ true → (kind : Refusal) (place : ℕ) → fails_if test kind place ≡ fails kind place
fails_if_lem e kind place = rw e

pub passes_if : {test : Bool} → test ≡ false → (kind : Refusal) (place : ℕ) → fails_if test kind place ≡ passes
passes_if e kind place = rw e

pub passes_not : (test : Bool) (kind : Refusal) (place : ℕ) → fails_if test kind place ≡ passes → test ≡ false
passes_not false kind place e = refl
passes_not true kind place e = absurd (let z : ◌≡◌ {A = ℕ} 0 1 = cc in omega arith)

-- two faults that are the same have the same kind and the same place
kind_or : {T : Type 0} → Refusal → Refusable T → Refusal
kind_or none (Ok _) = none
kind_or none (Err fault) = fault.kind

place_or_0 : {T : Type 0} → Refusable T → ℕ
place_or_0 (Ok _) = 0
place_or_0 (Err fault) = fault.place

pub fails_same : {T : Type 0} {k kind : Refusal} {p place : ℕ} → fails {T = T} k p ≡ fails kind place → (k ≡ kind) × (p ≡ place)
unfolding kind_or place_or_0
fails_same {k = k} q = (ap (kind_or k) q, ap place_or_0 q)

-- nothing passes and fails
pub never_both : {kind : Refusal} {place : ℕ} → passes ≡ fails kind place → ⊥
never_both e = absurd (let z : ◌≡◌ {A = ℕ} 0 1 = cc in omega arith)

-- ---- for code that makes checks one after another, where r is what the check c gave

-- r fails, and is the answer
pub stops : {r c : Check} {kind : Refusal} {place : ℕ} (later : Check) → r ≡ c → r ≡ fails kind place → r ≡ or_else c later
stops later e f = f ∙ sym (fails_or (sym e ∙ f) later)

-- r passes, and the answer x is that of the later checks
pub goes_on : {r c later x : Check} → r ≡ c → r ≡ passes → x ≡ later → x ≡ or_else c later
goes_on {later = later} e p q = q ∙ sym (passes_or (sym e ∙ p) later)

-- r is that of the last check
pub ends : {r c : Check} → r ≡ c → r ≡ or_else c passes
ends {c = Ok _} e = e
ends {c = Err fault} e = e

-- ---- a check that fails says why

-- the kind's number is one of those from lo to hi
abbrev pub NumberFromTo : ℕ → ℕ → Refusal → Type 0
NumberFromTo lo hi kind = (lo ≤ number_of kind) × (number_of kind ≤ hi)

-- it passes, or it fails with such a number
abbrev pub Numbered : ℕ → ℕ → Check → Type 0
Numbered lo hi (Ok _) = Unit {0}
Numbered lo hi (Err fault) = NumberFromTo lo hi fault.kind

module _ (lo hi : ℕ) where
  pub numbered_if : (t : Bool) (kind : Refusal) (place : ℕ) → NumberFromTo lo hi kind → Numbered lo hi (fails_if t kind place)
  numbered_if true kind place n = n
  numbered_if false kind place n = tt

  pub numbered_or : (c d : Check) → Numbered lo hi c → Numbered lo hi d → Numbered lo hi (or_else c d)
  numbered_or (Ok _) d p q = q
  numbered_or (Err fault) d p q = p

  pub numbered_fails : (c : Check) (kind : Refusal) (place : ℕ) → Numbered lo hi c → c ≡ fails kind place → NumberFromTo lo hi kind
  numbered_fails c kind place n e = subst (Numbered lo hi) e n

-- 0 is the number of no refusal
pub number_positive : (kind : Refusal) → 1 ≤ number_of kind
number_positive Length = omega arith
number_positive Header = omega arith
number_positive Delimiter = omega arith
number_positive NotAllowed = omega arith
number_positive NotEnded = omega arith
number_positive SegmentName = omega arith
number_positive SecondHeader = omega arith
number_positive TooManySegments = omega arith
number_positive NotAcknowledgeable = omega arith
number_positive AcknowledgementTooLong = omega arith
number_positive Separator = omega arith
number_positive UnknownEscape = omega arith
number_positive UnclosedEscape = omega arith
number_positive NoRoom = omega arith
number_positive NullText = omega arith
number_positive CallersTime = omega arith
number_positive CallersId = omega arith
number_positive Address = omega arith
number_positive NoStructure = omega arith
number_positive SegmentMisplaced = omega arith
number_positive EndedEarly = omega arith
number_positive RequiredMissing = omega arith
number_positive BreaksForm = omega arith
number_positive NotListed = omega arith
number_positive RequiredNull = omega arith
number_positive ValueWithoutType = omega arith
number_positive Repeated = omega arith
number_positive ValueTooLong = omega arith
number_positive StructureName = omega arith
number_positive BrokenFrame = omega arith
number_positive FrameTooLong = omega arith
number_positive Layout = omega arith
number_positive BookVersion = omega arith
number_positive BookMalformed = omega arith
number_positive BookHeader = omega arith
number_positive WrongCount = omega arith
number_positive BrokenBatch = omega arith

-- so 0 is given back where nothing is refused, and nowhere else
pub none_given : {T : Type 0} (r : Refusable T) → number_given r ≡ 0 → IsOk r
none_given (Ok _) e = refl
none_given (Err fault) e = absurd (let n = number_positive fault.kind in omega arith)

-- ---- an answer, and whether it refuses

-- what is given is refused as the check says
pub checked_given : {T : Type 0} (c : Check) (x : T) → checked (given c x) ≡ c
checked_given (Err fault) x = refl
checked_given (Ok _) x = refl

pub given_passes : {T : Type 0} {c : Check} → c ≡ passes → (x : T) → given c x ≡ Ok x
given_passes e x = rw e

pub given_fails : {T : Type 0} {c : Check} {fault : Fault} → c ≡ Err fault → (x : T) → given c x ≡ Err fault
given_fails e x = rw e

pub number_checked : {T : Type 0} (r : Refusable T) → number_given r ≡ number_given (checked r)
number_checked (Ok _) = refl
number_checked (Err fault) = refl
