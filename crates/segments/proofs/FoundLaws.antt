-- A segment that is asked for agrees with its elements: it is refused as a lookup in it is, and it is there exactly where its number is
-- below the count. Assumes nothing.
use mathlib.Core.Path.{◌≡◌, refl}
use mathlib.Core.List.{List, []}
use mathlib.Core.Logic.{◌↔◌}
use Prim.Native.Nat.{ℕ, ◌-◌, ◌<◌}
use native.Mathlib.Omega.{arith}
use lib.ListN.{length, get_or, take, drop}
use Rattle.std.specs.Prelude.{None, Err, Ok, Some, Option}
use Rattle.alphabet.specs.Parts.{from_to}
use Rattle.alphabet.specs.Answers.{Check, passes, fails_if, or_else, given, checked}
use Rattle.alphabet.specs.declared.answers.Refusal.{Refusal}
use Rattle.alphabet.specs.declared.parts.Part.{Part}
use Rattle.reading.specs.Segments.{segments, segment_at, name_of}
use Rattle.reading.specs.Reading.{reading}
use Rattle.reading.proofs.SegmentLaws.{segment_bytes, segment_past}
use Rattle.element.specs.Addresses.{address_check}
use Rattle.element.specs.Finding.{is_absent, lookup_check, element_of, found}
use Rattle.element.specs.declared.address.Address.{Address}
use Rattle.segments.specs.Asked.{segment_asked, segment_in, segment_given, segment_found}

-- ---- the same number and the same place as `find`

checked_given : {S T : Type 0} (c : Check) (x : S) (y : T) → checked (given c x) ≡ checked (given c y)
checked_given (Err fault) x y = refl
checked_given (Ok _) x y = refl

-- of every address that a message could have, a lookup is refused exactly as its segment is
pub answers_as_found : (m : List ℕ) (a : Address) → address_check a ≡ passes → checked (segment_found m a.segment) ≡ checked (found m a)
unfolding segment_found found segment_asked lookup_check
answers_as_found m a h = rw h (checked_given (segment_asked m a.segment) _ (element_of m a))

-- ---- a segment is there exactly where its number is below the count

asked_passes : (c : Check) (p : Option Part) → or_else c (or_else (fails_if (is_absent p) Refusal.Address 0) passes) ≡ passes → (c ≡ passes) × (is_absent p ≡ is_absent (from_to 0 0))
asked_passes (Ok _) (Some part) h = (refl, refl)
asked_passes (Ok _) None h = absurd (let z : ◌≡◌ {A = ℕ} 0 1 = cc in omega arith)
asked_passes (Err fault) p h = absurd (let z : ◌≡◌ {A = ℕ} 0 1 = cc in omega arith)

pub there_below : (m : List ℕ) (k : ℕ) → segment_asked m k ≡ passes → (reading m ≡ passes) × (k < length (segments m))
unfolding segment_asked
there_below m k h =
    let a = asked_passes (reading m) (segment_at m k) h in
    (a.0, at (segment_at m k) refl a.1)
  where
    at : (p : Option Part) → segment_at m k ≡ p → is_absent p ≡ is_absent (from_to 0 0) → k < length (segments m)
    at None q e = absurd (let z : ◌≡◌ {A = ℕ} 0 1 = cc in omega arith)
    at (Some part) q f = (segment_bytes m k part.start part.end q).0

pub below_there : (m : List ℕ) (k : ℕ) → reading m ≡ passes → k < length (segments m) → segment_asked m k ≡ passes
unfolding segment_asked
below_there m k r l = at (segment_at m k) refl
  where
    at : (p : Option Part) → segment_at m k ≡ p → or_else (reading m) (or_else (fails_if (is_absent (segment_at m k)) Refusal.Address 0) passes) ≡ passes
    at None q = let n = segment_past m k q in absurd (omega arith)
    at (Some part) q = rw (r, q)

pub there_exactly : (m : List ℕ) (k : ℕ) → (segment_asked m k ≡ passes) ↔ ((reading m ≡ passes) × (k < length (segments m)))
there_exactly m k = (there_below m k, λ h. below_there m k h.0 h.1)

-- ---- its name and its bytes: those of the segment of that number, between start and end

pub named_exactly : (m : List ℕ) (k : ℕ) → segment_asked m k ≡ passes → (segment_given (segment_found m k)).name ≡ name_of (get_or (segments m) k [])
unfolding segment_found
named_exactly m k h = at (segment_at m k) refl
  where
    at : (p : Option Part) → segment_at m k ≡ p → (segment_given (given (segment_asked m k) (segment_in (segment_at m k) (get_or (segments m) k [])))).name ≡ name_of (get_or (segments m) k [])
    at None q = let b = there_below m k h in let l = b.1 in let n = segment_past m k q in absurd (omega arith)
    at (Some part) q = rw (h, q)

pub bytes_exactly : (m : List ℕ) (k : ℕ) → segment_asked m k ≡ passes
    → take ((segment_given (segment_found m k)).end - (segment_given (segment_found m k)).start) (drop (segment_given (segment_found m k)).start m) ≡ get_or (segments m) k []
unfolding segment_found
bytes_exactly m k h = at (segment_at m k) refl
  where
    at : (p : Option Part) → segment_at m k ≡ p
        → let f = segment_given (given (segment_asked m k) (segment_in (segment_at m k) (get_or (segments m) k []))) in take (f.end - f.start) (drop f.start m) ≡ get_or (segments m) k []
    at None q = let b = there_below m k h in let l = b.1 in let n = segment_past m k q in absurd (omega arith)
    at (Some part) q = rw (h, q) (segment_bytes m k part.start part.end q).3
