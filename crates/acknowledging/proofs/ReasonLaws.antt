-- Laws of when a header can be answered, case by case. Assumes nothing.
use Prim.Native.Nat.{ℕ}
use mathlib.Core.Path.{◌≡◌, sym}
use mathlib.Core.Bool.{true, false, not}
use mathlib.Core.List.{List}
use lib.Dec.{leb}
use lib.ListN.{length}
use borrow.Author.Tests.{not-true, not-false}
use Rattle.alphabet.specs.Bytes.{ascii}
use Rattle.alphabet.specs.Limits.{id_limit}
use Rattle.alphabet.specs.Lists.{same}
use Rattle.acknowledgement.specs.Acknowledgement.{type_part, sent, present}
use Rattle.acknowledging.specs.Reasons.{answerable}

module _ (h : List ℕ) where
  pub is_one : same (type_part h 1) (ascii "ACK") ≡ true → false ≡ answerable h
  is_one e = sym (rw e)

  module _ (other : same (type_part h 1) (ascii "ACK") ≡ false) where
    pub no_id : not (present h (sent h 10)) ≡ true → false ≡ answerable h
    no_id e = sym (rw (other, not-true (present h (sent h 10)) e))

    module _ (there : not (present h (sent h 10)) ≡ false) where
      pub long_id : not (leb (length (sent h 10)) id_limit) ≡ true → false ≡ answerable h
      long_id e = sym (rw (other, not-false (present h (sent h 10)) there, not-true (leb (length (sent h 10)) id_limit) e))

      pub sound : not (leb (length (sent h 10)) id_limit) ≡ false → true ≡ answerable h
      sound e = sym (rw (other, not-false (present h (sent h 10)) there, not-false (leb (length (sent h 10)) id_limit) e))
