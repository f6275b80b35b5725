-- Laws of the header that is taken from a message, and of whether it can be acknowledged, case by case. Assumes nothing.
use mathlib.Core.Path.{◌≡◌, refl, sym, ap, ◌∙◌}
use mathlib.Core.Bool.{Bool, true, false, cond, not, ◌&&◌}
use mathlib.Core.List.{List, [], ◌∷◌}
use Prim.Native.Nat.{ℕ, suc, ◌+◌, ◌≤◌, ◌<◌}
use native.Mathlib.Nat.{suc-add}
use native.Mathlib.Omega.{arith}
use lib.Dec.{leb, ltb, eqb}
use lib.ListN.{length, take}
use lib.Seq.{take_all, take-take, length-take-le}
use borrow.Author.Tests.{lt-ltb, le-ltb, ltb-true, ltb-false, eqb-true, eq-eqb}
use Rattle.alphabet.specs.Bytes.{carriage_return, ascii}
use Rattle.alphabet.specs.Limits.{id_limit}
use Rattle.alphabet.specs.Lists.{first, find, same}
use Rattle.std.specs.Prelude.{is_ok, Ok, Err}
use Rattle.alphabet.specs.Answers.{Check, passes, fails, fails_if, or_else}
use Rattle.alphabet.specs.declared.answers.Fault.{Fault}
use Rattle.alphabet.specs.declared.answers.Refusal.TheVariants.{NotAcknowledgeable, CallersTime, CallersId}
use Rattle.alphabet.proofs.ListLaws.{first_le}
use Rattle.alphabet.proofs.CheckLaws.{fails_or, passes_or, never_both}
use Rattle.alphabet.proofs.BoolLaws.{false_true, and_both, both_and, or_neither}
use Rattle.reading.specs.Reading.{opening}
use Rattle.reading.specs.Message.{Opened}
use Rattle.reading.proofs.Accepted.{opened_if}
use Rattle.times.specs.Times.{is_ts}
use Rattle.acknowledgement.specs.Fields.{line_in, is_sound}
use Rattle.acknowledgement.specs.Acknowledgement.{header, sent, type_part, present, bad_id, acknowledgeable, refusing}

module _ (m : List ℕ) where
  -- without a CR all bytes are taken
  pub header_whole : find carriage_return m ≡ length m → m ≡ header m
  header_whole e = sym (take_all (find carriage_return m + 1) m (omega arith))

  pub no_return_no : find carriage_return m ≡ length m → acknowledgeable m ≡ false
  unfolding acknowledgeable
  no_return_no e = rw (le-ltb (find carriage_return m) (length m) (omega arith))

  module _ (h : find carriage_return m < length m) where
    pub faulty_no : is_ok (opening (header m)) ≡ false → acknowledgeable m ≡ false
    unfolding acknowledgeable
    faulty_no e = rw (lt-ltb (find carriage_return m) (length m) h) (ap (λ (t : Bool). t && rest) e)
      where
        rest : Bool
        rest = not (same (type_part (header m) 1) (ascii "ACK")) && (present (header m) (sent (header m) 10) && leb (length (sent (header m) 10)) id_limit)

    pub unsound_no : (f : Fault) → opening (header m) ≡ Err f → acknowledgeable m ≡ false
    unsound_no f e = faulty_no (ap is_ok e)

    pub sound_is : opening (header m) ≡ passes
        → acknowledgeable m ≡ (not (same (type_part (header m) 1) (ascii "ACK")) && (present (header m) (sent (header m) 10) && leb (length (sent (header m) 10)) id_limit))
    unfolding acknowledgeable
    sound_is e = rw (lt-ltb (find carriage_return m) (length m) h) (ap (λ (c : Check). is_ok c && rest) e)
      where
        rest : Bool
        rest = not (same (type_part (header m) 1) (ascii "ACK")) && (present (header m) (sent (header m) 10) && leb (length (sent (header m) 10)) id_limit)

-- ---- what stands against an acknowledgement, case by case

module _ (m time id : List ℕ) where
  pub no_time_row : not (is_ts time) ≡ true → refusing m time id ≡ fails CallersTime 0
  unfolding refusing
  no_time_row e = rw e

  module _ (timed : not (is_ts time) ≡ false) where
    pub no_id : bad_id id ≡ true → refusing m time id ≡ fails CallersId 0
    unfolding refusing
    no_id e = rw timed (rw e)

    module _ (named : bad_id id ≡ false) where
      pub no_header : not (acknowledgeable m) ≡ true → refusing m time id ≡ fails NotAcknowledgeable 0
      unfolding refusing
      no_header e = rw timed (rw named (rw e))

      pub nothing : not (acknowledgeable m) ≡ false → refusing m time id ≡ passes
      unfolding refusing
      nothing e = rw timed (rw named (rw e))

  -- and check by check
  pub time_stops : {f : Fault} → fails_if (not (is_ts time)) CallersTime 0 ≡ Err f → refusing m time id ≡ Err f
  unfolding refusing
  time_stops e = fails_or e _

  module _ (timed : fails_if (not (is_ts time)) CallersTime 0 ≡ passes) where
    pub id_stops : {f : Fault} → fails_if (bad_id id) CallersId 0 ≡ Err f → refusing m time id ≡ Err f
    unfolding refusing
    id_stops e = passes_or timed _ ∙ fails_or e _

    module _ (named : fails_if (bad_id id) CallersId 0 ≡ passes) where
      pub header_stops : acknowledgeable m ≡ false → refusing m time id ≡ fails NotAcknowledgeable 0
      unfolding refusing
      header_stops e = passes_or timed _ ∙ passes_or named _ ∙ ap (λ (t : Bool). or_else (fails_if (not t) NotAcknowledgeable 0) passes) e

      pub none_stops : acknowledgeable m ≡ true → refusing m time id ≡ passes
      unfolding refusing
      none_stops e = passes_or timed _ ∙ passes_or named _ ∙ ap (λ (t : Bool). or_else (fails_if (not t) NotAcknowledgeable 0) passes) e

  -- where nothing stands against it
  pub nothing_against : refusing m time id ≡ passes → (is_ts time ≡ true) × (bad_id id ≡ false) × (acknowledgeable m ≡ true)
  unfolding refusing
  nothing_against e = at (is_ts time) (bad_id id) (acknowledgeable m) e
    where
      at : (t b a : Bool) → or_else (fails_if (not t) CallersTime 0) (or_else (fails_if b CallersId 0) (or_else (fails_if (not a) NotAcknowledgeable 0) passes)) ≡ passes → (t ≡ true) × (b ≡ false) × (a ≡ true)
      at true false true q = (refl, refl, refl)
      at true false false q = absurd (never_both (sym q))
      at true true a q = absurd (never_both (sym q))
      at false b a q = absurd (never_both (sym q))

  pub id_short : bad_id id ≡ false → length id ≤ id_limit
  id_short e = ltb-false id_limit (length id) (or_neither (eqb (length id) 0) (ltb id_limit (length id)) e).1

-- ---- the header of a message that can be acknowledged

-- the first that passes is the first of the front through it
first_taken : (test : ℕ → Bool) (l : List ℕ) → first test l < length l → first test (take (first test l + 1) l) ≡ first test l
unfolding first
first_taken test [] h = absurd (omega arith)
first_taken test (b ∷ r) h = at (test b) refl h (first_taken test r)
  where
    at : (t : Bool) → test b ≡ t → cond t 0 (suc (first test r)) < suc (length r)
        → (first test r < length r → first test (take (first test r + 1) r) ≡ first test r)
        → first test (take (cond t 0 (suc (first test r)) + 1) (b ∷ r)) ≡ cond t 0 (suc (first test r))
    at true e l again = rw e
    at false e l again =
        let n = suc-add (first test r) 1 in
        rw (n, e) (ap suc (again (omega arith)))

pub header_find : (m : List ℕ) → find carriage_return m < length m → find carriage_return (header m) ≡ find carriage_return m
header_find m h = first_taken (eqb carriage_return) m h

-- it ends in its own CR
pub header_ends : (m : List ℕ) → find carriage_return m < length m → find carriage_return (header m) + 1 ≡ length (header m)
header_ends m h =
    let n = header_find m h in
    let l = length-take-le (find carriage_return m + 1) m (omega arith) in
    omega arith

pub passing : (c : Check) → is_ok c ≡ true → c ≡ passes
passing (Ok _) q = refl
passing (Err fault) q = false_true q

-- it is sound
pub sound_header : (m : List ℕ) → acknowledgeable m ≡ true → Opened (header m)
unfolding acknowledgeable
sound_header m e =
    let there = and_both (ltb (find carriage_return m) (length m)) _ e in
    opened_if (header m) (passing (opening (header m)) (and_both (is_ok (opening (header m))) _ there.1).0)

-- what is known of a header that is sound
pub record Sound (h : List ℕ) : Type 0 where
  pub one : find carriage_return h + 1 ≡ length h
  pub opened : Opened h
  pub there : present h (sent h 10) ≡ true

pub so_sound : (h : List ℕ) → is_sound h ≡ true → Sound h
unfolding is_sound
so_sound h e =
    let a = and_both (eqb (find carriage_return h + 1) (length h)) _ e in
    let b = and_both (is_ok (opening h)) (present h (sent h 10)) a.1 in
    record { one = eqb-true (find carriage_return h + 1) (length h) a.0; opened = opened_if h (passing (opening h) b.0); there = b.1 }

pub is_so : (h : List ℕ) → find carriage_return h + 1 ≡ length h → is_ok (opening h) ≡ true → present h (sent h 10) ≡ true → is_sound h ≡ true
unfolding is_sound
is_so h n o p = both_and (eq-eqb (find carriage_return h + 1) (length h) n) (both_and o p)

pub return_inside : (m : List ℕ) → acknowledgeable m ≡ true → find carriage_return m < length m
unfolding acknowledgeable
return_inside m e = ltb-true (find carriage_return m) (length m) (and_both (ltb (find carriage_return m) (length m)) _ e).0

-- its control ID is present
pub id_present : (m : List ℕ) → acknowledgeable m ≡ true → present (header m) (sent (header m) 10) ≡ true
unfolding acknowledgeable
id_present m e =
    let there = (and_both (ltb (find carriage_return m) (length m)) _ e).1 in
    let sound = (and_both (is_ok (opening (header m))) _ there).1 in
    let other = (and_both (not (same (type_part (header m) 1) (ascii "ACK"))) _ sound).1 in
    (and_both (present (header m) (sent (header m) 10)) _ other).0

-- ---- the header without its CR

pub line_long : (m : List ℕ) → length (line_in m) ≡ find carriage_return m
line_long m = length-take-le (find carriage_return m) m (first_le (eqb carriage_return) m)

pub line_header : (m : List ℕ) → find carriage_return m < length m → line_in m ≡ line_in (header m)
line_header m h = sym (ap (λ (n : ℕ). take n (header m)) (header_find m h) ∙ take-take (find carriage_return m) (find carriage_return m + 1) m (omega arith))

-- what was taken ends in its only CR
pub one_return : (m h : List ℕ) → find carriage_return m < length m → h ≡ header m → find carriage_return h + 1 ≡ length h
one_return m h i e = ap (λ (x : List ℕ). find carriage_return x + 1) e ∙ header_ends m i ∙ sym (ap length e)
