-- Laws of the answer to a question for an element: what a lookup that passes rests on, and where what it finds lies. Assumes nothing.
use mathlib.Core.Path.{◌≡◌, refl, sym, ap, ◌∙◌}
use mathlib.Core.List.{List, [], ◌∷◌}
use Prim.Native.Nat.{ℕ, ◌≤◌, ◌<◌}
use native.Mathlib.Omega.{arith}
use mathlib.Core.Bool.{Bool, true, false, cond, ◌&&◌}
use lib.Dec.{eqb, leb}
use lib.ListN.{length}
use borrow.Author.Tests.{le-leb, lt-leb}
use Rattle.std.specs.Prelude.{None, Some, Err, Ok, Option}
use Rattle.alphabet.specs.Answers.{fails_if, or_else, in_order, given, Check, passes, fails}
use Rattle.alphabet.specs.Bytes.{carriage_return}
use Rattle.alphabet.specs.Parts.{began, ended_by, from_to}
use Rattle.alphabet.specs.declared.answers.Refusal.{Refusal}
use Rattle.alphabet.specs.declared.answers.Fault.{Fault}
use Rattle.alphabet.specs.declared.parts.Part.{Part}
use Rattle.alphabet.proofs.CheckLaws.{both_pass, passes_or}
use Rattle.reading.specs.Segments.{delimiters_of, segment_at}
use Rattle.reading.specs.Reading.{reading}
use Rattle.reading.specs.Message.{Message}
use Rattle.reading.proofs.SegmentLaws.{segment_stands}
use Rattle.reading.proofs.Accepted.{accepted}
use Rattle.element.specs.Addresses.{address_check}
use Rattle.element.specs.States.{state_of}
use Rattle.element.specs.declared.states.State.{State}
use Rattle.element.specs.Levels.{between, element_at}
use Rattle.element.specs.Finding.{is_absent, lookup_check, element_in, element_of, element_found, nowhere, found, bytes_at, element_bytes, raw_bytes}
use Rattle.element.specs.declared.Element.{Element}
use Rattle.element.specs.declared.address.Address.{Address}
use Rattle.element.proofs.LevelLaws.{Within, within_element}

-- a lookup that passes is of a message that was read
pub lookup_read : (m : List ℕ) (a : Address) → lookup_check m a ≡ passes → Message m
unfolding lookup_check
lookup_read m a e = accepted m (both_pass (reading m) _ e).0

pub lookup_long : (m : List ℕ) (a : Address) → lookup_check m a ≡ passes → 9 ≤ length m
lookup_long m a e = (lookup_read m a e).opened.nine_bytes

-- where the answer says that the element stands lies within the message
in_message : (m : List ℕ) (part : Option Part) → Within m part → ((element_in m part).start ≤ (element_in m part).end) × ((element_in m part).end ≤ length m)
in_message m None w = (omega arith, omega arith)
in_message m (Some part) w = w

pub found_within : (m : List ℕ) (a : Address) → ((element_found (found m a)).start ≤ (element_found (found m a)).end) × ((element_found (found m a)).end ≤ length m)
unfolding found element_of
found_within m a = at (lookup_check m a) refl
  where
    at : (c : Check) → lookup_check m a ≡ c → ((element_found (given c (element_of m a))).start ≤ (element_found (given c (element_of m a))).end) × ((element_found (given c (element_of m a))).end ≤ length m)
    at (Err fault) e = (omega arith, omega arith)
    at (Ok _) e =
        let n = lookup_long m a e in
        in_message m (element_at m a) (within_element m a (omega arith))

-- ---- the answer, case by case, where c is what the lookup gave

module _ (m : List ℕ) (a : Address) (c : Check) (e : c ≡ lookup_check m a) where
  pub found_fails : (fault : Fault) → c ≡ Err fault → Err fault ≡ found m a
  unfolding found
  found_fails fault f = rw (← e, f)

  pub found_passes : c ≡ passes → Ok (element_of m a) ≡ found m a
  unfolding found
  found_passes f = rw (← e, f)

-- ---- what a lookup gives, where c is what the question gave, before a segment was sought

module _ (m : List ℕ) (a : Address) (c : Check) (q : c ≡ in_order (reading m ∷ address_check a ∷ [])) where
  pub lookup_refused : (fault : Fault) → c ≡ Err fault → c ≡ lookup_check m a
  unfolding lookup_check
  lookup_refused fault f = at (reading m) (address_check a) q
    where
      at : (x y : Check) → c ≡ in_order (x ∷ y ∷ []) → c ≡ or_else x (or_else y (in_order (fails_if (is_absent (segment_at m a.segment)) Refusal.Address 0 ∷ [])))
      at (Err fault) y e = e
      at (Ok _) (Err fault) e = e
      at (Ok _) (Ok _) e = absurd (let z : ◌≡◌ {A = ℕ} 0 1 = cc in omega arith)

  module _ (p : c ≡ passes) (segment : Option ℕ) (s : segment ≡ began (segment_at m a.segment)) where
    by_segment : lookup_check m a ≡ or_else (fails_if (is_absent (ended_by (eqb carriage_return) m segment)) Refusal.Address 0) passes
    unfolding lookup_check
    by_segment =
        let b = both_pass (reading m) _ (sym q ∙ p) in
        passes_or b.0 _ ∙ passes_or (both_pass (address_check a) passes b.1).0 _
        ∙ ap (λ (x : Option Part). or_else (fails_if (is_absent x) Refusal.Address 0) passes) (sym (ap (ended_by (eqb carriage_return) m) s ∙ segment_stands m a.segment))

    pub lookup_missing : segment ≡ None → fails Refusal.Address 0 ≡ lookup_check m a
    lookup_missing e = sym (by_segment ∙ ap (λ (x : Option ℕ). or_else (fails_if (is_absent (ended_by (eqb carriage_return) m x)) Refusal.Address 0) passes) e)

    pub lookup_passes : (start : ℕ) → segment ≡ Some start → c ≡ lookup_check m a
    lookup_passes start e = p ∙ sym (by_segment ∙ ap (λ (x : Option ℕ). or_else (fails_if (is_absent (ended_by (eqb carriage_return) m x)) Refusal.Address 0) passes) e)

-- an element that stands from s to e
pub element_at_lem : (m : List ℕ) (a : Address) (state : State) (ds : List ℕ) (s e : ℕ) → element_at m a ≡ from_to s e → ds ≡ delimiters_of m → state ≡ state_of ds (between m s e)
    → record { state = state; start = s; end = e } ≡ element_of m a
unfolding element_of
element_at_lem m a state ds s e q d t = rw (q, t, d)

-- ---- the bytes of an element

module _ (m : List ℕ) (e : Element) where
  pub bytes_in : e.start ≤ e.end → e.end ≤ length m → bytes_at m e ≡ between m e.start e.end
  unfolding bytes_at
  bytes_in h l = rw (le-leb e.start e.end h, le-leb e.end (length m) l)

  pub bytes_crossed : e.end < e.start → bytes_at m e ≡ []
  unfolding bytes_at
  bytes_crossed h = rw (lt-leb e.start e.end h)

  pub bytes_past : length m < e.end → bytes_at m e ≡ []
  unfolding bytes_at
  bytes_past h = rw (lt-leb e.end (length m) h) (at (leb e.start e.end))
    where
      at : (t : Bool) → cond (t && false) (between m e.start e.end) [] ≡ []
      at true = refl
      at false = refl

-- nothing is shown of what stands nowhere
pub bytes_nowhere : (m : List ℕ) → bytes_at m nowhere ≡ []
bytes_nowhere m = bytes_in m nowhere (omega arith) (omega arith)

-- what is shown of an element that was found is the part of the message where it stands
pub shown : (m : List ℕ) (a : Address) → element_bytes m a ≡ between m (element_found (found m a)).start (element_found (found m a)).end
shown m a = let w = found_within m a in bytes_in m (element_found (found m a)) w.0 w.1

-- ---- raw bytes

module _ (m : List ℕ) (a : Address) where
  pub raw_short : length m < 4 → raw_bytes m a ≡ []
  unfolding raw_bytes
  raw_short h = rw (lt-leb 4 (length m) h)

  module _ (h : 4 ≤ length m) where
    pub raw_absent : element_at m a ≡ None → raw_bytes m a ≡ []
    unfolding raw_bytes
    raw_absent e = rw (le-leb 4 (length m) h) (rw e)

    pub raw_at : (s e : ℕ) → element_at m a ≡ from_to s e → raw_bytes m a ≡ between m s e
    unfolding raw_bytes
    raw_at s e q = rw (le-leb 4 (length m) h) (rw q)
