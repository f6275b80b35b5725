-- Which of the structures of document 01 a type chooses, case by case: what is listed for it is computed. Assumes nothing.
use mathlib.Core.Path.{◌≡◌, refl, ap, ap₂, ◌∙◌}
use mathlib.Core.Bool.{true, false, ◌&&◌}
use mathlib.Core.List.{List}
use Prim.Native.Nat.{ℕ}
use Rattle.alphabet.specs.Bytes.{ascii}
use Rattle.alphabet.specs.Lists.{same}
use Rattle.alphabet.proofs.BoolLaws.{and_both}
use Rattle.alphabet.proofs.ListLaws.{same_own, same_is}
use Rattle.structure.specs.Structures.{Choice, chosen, unlisted, choose, observation_report, acknowledgement, merge, admission, transfer, cancel, built_in}

-- ---- an admission, by its event

abbrev pub admitted : List ℕ → Choice
admitted event = choose built_in (ascii "ADT") event

computed : (admitted (ascii "A40") ≡ chosen merge) × (admitted (ascii "A01") ≡ chosen admission) × (admitted (ascii "A02") ≡ chosen transfer) × (admitted (ascii "A12") ≡ chosen cancel)
unfolding choose same built_in
computed = (refl, refl, refl, refl)

-- ADT is neither of the other types
not_report : same (ascii "ADT") (ascii "ORU") ≡ false
unfolding same
not_report = refl

not_acknowledgement : same (ascii "ADT") (ascii "ACK") ≡ false
unfolding same
not_acknowledgement = refl

module _ (event : List ℕ) where
  pub is_merge : same event (ascii "A40") ≡ true → admitted event ≡ chosen merge
  is_merge e = ap admitted (same_is event (ascii "A40") e) ∙ computed.0

  pub is_admission : same event (ascii "A01") ≡ true → admitted event ≡ chosen admission
  is_admission e = ap admitted (same_is event (ascii "A01") e) ∙ computed.1

  pub is_transfer : same event (ascii "A02") ≡ true → admitted event ≡ chosen transfer
  is_transfer e = ap admitted (same_is event (ascii "A02") e) ∙ computed.2

  pub is_cancel : same event (ascii "A12") ≡ true → admitted event ≡ chosen cancel
  is_cancel e = ap admitted (same_is event (ascii "A12") e) ∙ computed.3

  pub is_unlisted : same event (ascii "A40") ≡ false → same event (ascii "A01") ≡ false → same event (ascii "A02") ≡ false → same event (ascii "A12") ≡ false
      → admitted event ≡ unlisted
  unfolding choose built_in
  is_unlisted a b c d = rw (not_report, not_acknowledgement, same_own (ascii "ADT"), a, b, c, d)

-- ---- a type

report : choose built_in (ascii "ORU") (ascii "R01") ≡ chosen observation_report
unfolding choose same built_in
report = refl

acknowledged : (event : List ℕ) → choose built_in (ascii "ACK") event ≡ chosen acknowledgement
unfolding choose same built_in
acknowledged event = refl

module _ (type event : List ℕ) where
  pub is_report : (same type (ascii "ORU") && same event (ascii "R01")) ≡ true → choose built_in type event ≡ chosen observation_report
  is_report e =
      let both = and_both (same type (ascii "ORU")) (same event (ascii "R01")) e in
      ap₂ (choose built_in) (same_is type (ascii "ORU") both.0) (same_is event (ascii "R01") both.1) ∙ report

  pub is_acknowledgement : same type (ascii "ACK") ≡ true → choose built_in type event ≡ chosen acknowledgement
  is_acknowledgement e = ap (λ (t : List ℕ). choose built_in t event) (same_is type (ascii "ACK") e) ∙ acknowledged event

  pub is_adt : same type (ascii "ADT") ≡ true → choose built_in type event ≡ admitted event
  is_adt e = ap (λ (t : List ℕ). choose built_in t event) (same_is type (ascii "ADT") e)

  pub is_none : (same type (ascii "ORU") && same event (ascii "R01")) ≡ false → same type (ascii "ACK") ≡ false → same type (ascii "ADT") ≡ false
      → choose built_in type event ≡ unlisted
  unfolding choose built_in
  is_none a b c = rw a (rw (b, c))
