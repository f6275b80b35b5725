-- Demand 2: "What is read is what HL7 v2.4 and document 01 say: each element absent, empty, null or present, with exactly its own bytes, its number or
-- its time." Of the numbers and times asked of elements: what is answered is what the element's own bytes spell by the grammars of document 01
-- (laws/specs/SpeltNumbers, SpeltTimes), which spell one answer at most. Assumes nothing.
use mathlib.Core.Path.{◌≡◌, refl, sym, ap, subst, ◌∙◌}
use mathlib.Core.List.{List}
use Prim.Native.Nat.{ℕ}
use native.Mathlib.Omega.{arith}
use Rattle.std.specs.Prelude.{Result, Ok, Err}
use Rattle.alphabet.specs.Answers.{Refusable}
use Rattle.alphabet.specs.declared.answers.Refusal.{Refusal}
use Rattle.element.specs.Finding.{found, element_found, element_bytes}
use Rattle.element.specs.declared.Element.{Element}
use Rattle.element.specs.declared.address.Address.{Address}
use Rattle.element.specs.declared.states.State.{State}
use Rattle.element.specs.declared.states.State.TheVariants.{Absent, Empty, Null, Present}
use Rattle.numbers.specs.Numbers.{nm_read, si_read}
use Rattle.numbers.specs.declared.numerals.Number.{Number}
use Rattle.calendar.specs.declared.figures.Time.{Time}
use Rattle.forms.specs.declared.layouts.Form.TheVariants.{Tm, Ts}
use Rattle.times.specs.Times.{dt_read, time_read}
use Rattle.value.specs.Asked.{Asked, value_at, asked_of, nm_found, si_found, dt_found, tm_found, ts_found}
use Rattle.value.specs.declared.asked.Value as value
use Rattle.value.specs.declared.asked.NoValue.TheVariants.{NotFound, NotSaid}
use Rattle.grammars.specs.SpeltNumbers.{NmSays, SiSays}
use Rattle.grammars.specs.SpeltTimes.{DtSays, TmSays, TsSays}
use Rattle.grammars.proofs.SpeltNumbersLaws as Numbers
use Rattle.grammars.proofs.SpeltTimesLaws as Times
use Rattle.promises.specs.Values.{said, number_said, time_said, StateAlone, absent, empty, null, not_found}

-- ---- what is asked of an element, by its state

no_part : Absent ≡ Present → ⊥
no_part e = let z : ◌≡◌ {A = ℕ} 0 1 = cc in omega arith

-- the state that an answer tells
state_told : {T : Type 0} → Asked T → State
state_told (Ok value.TheVariants.Absent) = Absent
state_told (Ok value.TheVariants.Empty) = Empty
state_told (Ok value.TheVariants.Null) = Null
state_told (Ok (value.TheVariants.Present v)) = Present
state_told (Err (NotFound fault)) = Absent
state_told (Err (NotSaid kind)) = Present

module _ {T : Type 0} (read : Result T Refusal) where
  at_present : value_at Present read ≡ said read
  at_present = at read
    where
      at : (r : Result T Refusal) → value_at Present r ≡ said r
      at (Ok v) = refl
      at (Err kind) = refl

  -- where it is present what its bytes are read as
  said_lem : (f : Refusable Element) → (element_found f).state ≡ Present → asked_of f read ≡ said read
  said_lem (Ok e) h = ap (λ (s : State). value_at s read) h ∙ at_present
  said_lem (Err fault) h = absurd (no_part h)

  -- and else its state alone
  alone_lem : (f : Refusable Element) → ((element_found f).state ≡ Present → ⊥) → StateAlone f (asked_of f read)
  alone_lem (Err fault) n = not_found fault
  alone_lem (Ok e) n = at e.state refl
    where
      told : {s : State} → e.state ≡ s → StateAlone (Ok e) (value_at s read) → StateAlone (Ok e) (value_at e.state read)
      told q h = subst (StateAlone (Ok e)) (sym (ap (λ (s : State). value_at s read) q)) h

      at : (s : State) → e.state ≡ s → StateAlone (Ok e) (value_at e.state read)
      at Absent q = told q (absent e q)
      at Empty q = told q (empty e q)
      at Null q = told q (null e q)
      at Present q = absurd (n q)

  -- the state that is told is the element's own
  state_lem : (f : Refusable Element) → state_told (asked_of f read) ≡ (element_found f).state
  unfolding state_told
  state_lem (Err fault) = refl
  state_lem (Ok e) = at e.state read
    where
      at : (s : State) (r : Result T Refusal) → state_told (value_at s r) ≡ s
      at Absent r = refl
      at Empty r = refl
      at Null r = refl
      at Present (Ok v) = refl
      at Present (Err kind) = refl

-- ---- the answers

-- an answer is the same as that of its parts
pub number_parts : (r : Result Number Refusal) → said r ≡ number_said r
number_parts (Ok n) = refl
number_parts (Err kind) = refl

pub time_parts : (r : Result Time Refusal) → said r ≡ time_said r
time_parts (Ok t) = refl
time_parts (Err kind) = refl

module _ (m : List ℕ) (a : Address) where
  -- "its number": of an element that is present, what its own bytes spell
  pub nm_spelled : {r : Result Number Refusal} → (element_found (found m a)).state ≡ Present → NmSays (element_bytes m a) r → nm_found m a ≡ number_said r
  nm_spelled {r} there s = said_lem (nm_read (element_bytes m a)) (found m a) there ∙ ap said (Numbers.nm_once (Numbers.nm_said (element_bytes m a)) s) ∙ number_parts r

  pub si_spelled : {r : Result Number Refusal} → (element_found (found m a)).state ≡ Present → SiSays (element_bytes m a) r → si_found m a ≡ number_said r
  si_spelled {r} there s = said_lem (si_read (element_bytes m a)) (found m a) there ∙ ap said (Numbers.si_once (Numbers.si_said (element_bytes m a)) s) ∙ number_parts r

  -- "or its time"
  pub dt_spelled : {r : Result Time Refusal} → (element_found (found m a)).state ≡ Present → DtSays (element_bytes m a) r → dt_found m a ≡ time_said r
  dt_spelled {r} there s = said_lem (dt_read (element_bytes m a)) (found m a) there ∙ ap said (Times.dt_once (Times.dt_said (element_bytes m a)) s) ∙ time_parts r

  pub tm_spelled : {r : Result Time Refusal} → (element_found (found m a)).state ≡ Present → TmSays (element_bytes m a) r → tm_found m a ≡ time_said r
  tm_spelled {r} there s = said_lem (time_read Tm (element_bytes m a)) (found m a) there ∙ ap said (Times.tm_once (Times.tm_said (element_bytes m a)) s) ∙ time_parts r

  pub ts_spelled : {r : Result Time Refusal} → (element_found (found m a)).state ≡ Present → TsSays (element_bytes m a) r → ts_found m a ≡ time_said r
  ts_spelled {r} there s = said_lem (time_read Ts (element_bytes m a)) (found m a) there ∙ ap said (Times.ts_once (Times.ts_said (element_bytes m a)) s) ∙ time_parts r

  -- some answer is always spelled, so these are never about nothing
  pub some_spelled : NmSays (element_bytes m a) (nm_read (element_bytes m a)) × SiSays (element_bytes m a) (si_read (element_bytes m a))
      × DtSays (element_bytes m a) (dt_read (element_bytes m a)) × TmSays (element_bytes m a) (time_read Tm (element_bytes m a))
      × TsSays (element_bytes m a) (time_read Ts (element_bytes m a))
  some_spelled =
      let l = element_bytes m a in
      (Numbers.nm_said l, Numbers.si_said l, Times.dt_said l, Times.tm_said l, Times.ts_said l)

  -- "an element not present gives its state alone"
  pub nm_alone : ((element_found (found m a)).state ≡ Present → ⊥) → StateAlone (found m a) (nm_found m a)
  nm_alone = alone_lem (nm_read (element_bytes m a)) (found m a)

  pub si_alone : ((element_found (found m a)).state ≡ Present → ⊥) → StateAlone (found m a) (si_found m a)
  si_alone = alone_lem (si_read (element_bytes m a)) (found m a)

  pub dt_alone : ((element_found (found m a)).state ≡ Present → ⊥) → StateAlone (found m a) (dt_found m a)
  dt_alone = alone_lem (dt_read (element_bytes m a)) (found m a)

  pub tm_alone : ((element_found (found m a)).state ≡ Present → ⊥) → StateAlone (found m a) (tm_found m a)
  tm_alone = alone_lem (time_read Tm (element_bytes m a)) (found m a)

  pub ts_alone : ((element_found (found m a)).state ≡ Present → ⊥) → StateAlone (found m a) (ts_found m a)
  ts_alone = alone_lem (time_read Ts (element_bytes m a)) (found m a)

-- "An empty box is not a zero": elements in different states never give the same answer, whatever their bytes
module _ (m n : List ℕ) (a b : Address) where
  pub empty_is_no_zero : nm_found m a ≡ nm_found n b → (element_found (found m a)).state ≡ (element_found (found n b)).state
  empty_is_no_zero e =
      sym (state_lem (nm_read (element_bytes m a)) (found m a)) ∙ ap state_told e ∙ state_lem (nm_read (element_bytes n b)) (found n b)

  pub empty_is_no_count : si_found m a ≡ si_found n b → (element_found (found m a)).state ≡ (element_found (found n b)).state
  empty_is_no_count e =
      sym (state_lem (si_read (element_bytes m a)) (found m a)) ∙ ap state_told e ∙ state_lem (si_read (element_bytes n b)) (found n b)

  pub empty_is_no_time : ts_found m a ≡ ts_found n b → (element_found (found m a)).state ≡ (element_found (found n b)).state
  empty_is_no_time e =
      sym (state_lem (time_read Ts (element_bytes m a)) (found m a)) ∙ ap state_told e ∙ state_lem (time_read Ts (element_bytes n b)) (found n b)

  pub empty_is_no_date : dt_found m a ≡ dt_found n b → (element_found (found m a)).state ≡ (element_found (found n b)).state
  empty_is_no_date e =
      sym (state_lem (dt_read (element_bytes m a)) (found m a)) ∙ ap state_told e ∙ state_lem (dt_read (element_bytes n b)) (found n b)

  pub empty_is_no_hour : tm_found m a ≡ tm_found n b → (element_found (found m a)).state ≡ (element_found (found n b)).state
  empty_is_no_hour e =
      sym (state_lem (time_read Tm (element_bytes m a)) (found m a)) ∙ ap state_told e ∙ state_lem (time_read Tm (element_bytes n b)) (found n b)
