-- Laws of a segment that is asked for: what the answer is in each case. Assumes nothing.
use mathlib.Core.Path.{◌≡◌}
use mathlib.Core.List.{List}
use Prim.Native.Nat.{ℕ, ◌-◌}
use lib.ListN.{take, drop}
use Rattle.std.specs.Prelude.{Ok, Err, None}
use Rattle.alphabet.specs.Parts.{from_to}
use Rattle.alphabet.specs.Answers.{passes, fails}
use Rattle.alphabet.specs.declared.answers.Refusal.{Refusal}
use Rattle.alphabet.specs.declared.answers.Fault.{Fault}
use Rattle.reading.specs.Segments.{segment_at, name_of}
use Rattle.reading.specs.Reading.{reading}
use Rattle.reading.proofs.SegmentLaws.{segment_bytes}
use Rattle.segments.specs.Asked.{segment_asked, segment_found}

pub asked_unread : (m : List ℕ) (k : ℕ) (fault : Fault) → reading m ≡ Err fault → Err fault ≡ segment_found m k
unfolding segment_found segment_asked
asked_unread m k fault e = rw e

pub asked_missing : (m : List ℕ) (k : ℕ) → reading m ≡ passes → segment_at m k ≡ None → fails Refusal.Address 0 ≡ segment_found m k
unfolding segment_found segment_asked
asked_missing m k e q = rw (e, q)

pub asked_there : (m : List ℕ) (k s e : ℕ) → reading m ≡ passes → segment_at m k ≡ from_to s e
    → Ok (record { name = name_of (take (e - s) (drop s m)); start = s; end = e }) ≡ segment_found m k
unfolding segment_found segment_asked
asked_there m k s e r q = rw (r, q, (segment_bytes m k s e q).3)
