-- The answer of a listing, case by case. Assumes nothing.
use mathlib.Core.Path.{◌≡◌, refl}
use mathlib.Core.List.{List}
use Prim.Native.Nat.{ℕ, ◌/◌}
use lib.ListN.{length}
use mathlib.Core.Bool.{Bool, true, false}
use lib.Dec.{ltb}
use Rattle.std.specs.Prelude.{Err}
use Rattle.alphabet.specs.Answers.{passes, fails_if, or_else}
use Rattle.alphabet.specs.declared.answers.Fault.{Fault}
use Rattle.alphabet.specs.declared.answers.Refusal.TheVariants.{NoRoom}
use Rattle.reading.specs.Reading.{reading}
use Rattle.leaves.specs.Leaves.{listing}

-- what is refused leaves the buffer as it is, and gives no number
module _ (m : List ℕ) (room : ℕ) where
  pub listing_unread : (fault : Fault) → reading m ≡ Err fault → listing m room ≡ Err fault
  unfolding listing
  listing_unread fault e = rw e

  pub listing_read : reading m ≡ passes → listing m room ≡ fails_if (ltb (room / 8) (length m)) NoRoom 0
  unfolding listing
  listing_read e = rw e (at (ltb (room / 8) (length m)))
    where
      at : (t : Bool) → or_else (fails_if t NoRoom 0) passes ≡ fails_if t NoRoom 0
      at true = refl
      at false = refl
