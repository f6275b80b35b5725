-- The outcome of unescaping, case by case, and what the judge says of it. Assumes nothing.
use mathlib.Core.Path.{◌≡◌, refl, ap, ◌∙◌}
use mathlib.Core.List.{List}
use mathlib.Core.Bool.{Bool, true, false, cond}
use Prim.Native.Nat.{ℕ, ◌≤◌, ◌<◌}
use native.Mathlib.Omega.{arith}
use lib.Dec.{ltb}
use lib.ListN.{length}
use borrow.Author.Tests.{lt-ltb, le-ltb, le-leb, lt-leb}
use Rattle.std.specs.Prelude.{Ok, Err}
use Rattle.alphabet.specs.Bytes.{is_null}
use Rattle.alphabet.specs.Delimiters.{first_wrong_delimiter}
use Rattle.alphabet.specs.Answers.{passes, fails_if, or_else}
use Rattle.alphabet.specs.declared.answers.Fault.{Fault}
use Rattle.alphabet.specs.declared.answers.Refusal.{Refusal}
use Rattle.alphabet.specs.declared.answers.Refusal.TheVariants.{Delimiter, NoRoom, NullText}
use Rattle.alphabet.proofs.CheckLaws.{both_pass, passes_not}
use Rattle.escaping.proofs.OutcomeLaws.{fault_same, never_stops}
use Rattle.escaping.specs.Outcomes.{Outcome, text, fault, delimiters_check, fitting, answer}
use Rattle.text.specs.Unescape.{plain_text, scan, unescaping}
use Rattle.text.specs.Judging.{text_check, is_text, text_of}

-- what the judge says of an outcome
pub judged_text : (r : Outcome ℕ) (n : ℕ) → answer r ≡ Ok n → (r ≡ text (text_of r)) × (length (text_of r) ≡ n) × (is_text r ≡ true)
unfolding answer is_text text_of
judged_text (Ok t) n e = (refl, cc, refl)
judged_text (Err f) n e = absurd (let z : ◌≡◌ {A = ℕ} 0 1 = cc in omega arith)

pub judged_fault : (r : Outcome ℕ) {f : Fault} → answer r ≡ Err f → r ≡ Err f
unfolding answer
judged_fault (Ok t) e = absurd (let z : ◌≡◌ {A = ℕ} 0 1 = cc in omega arith)
judged_fault (Err f) e = fault_same e

-- ---- the check that comes before, which is also the first of formatted text

module _ (ds s : List ℕ) (later : Outcome ℕ) where
  abbrev pub Checked : Outcome ℕ
  Checked = cond (ltb (first_wrong_delimiter ds) 5) (fault Delimiter (first_wrong_delimiter ds)) (cond (is_null s) (fault NullText 0) later)

  pub check_stops : {f : Fault} → text_check ds s ≡ Err f → Checked ≡ Err f
  check_stops {f} q = at (ltb (first_wrong_delimiter ds) 5) (is_null s) q
    where
      at : (b c : Bool) → or_else (fails_if b Delimiter (first_wrong_delimiter ds)) (fails_if c NullText 0) ≡ Err f
          → cond b (fault Delimiter (first_wrong_delimiter ds)) (cond c (fault NullText 0) later) ≡ Err f
      at true c q = fault_same q
      at false true q = fault_same q
      at false false q = absurd (never_stops q)

  pub check_goes : text_check ds s ≡ passes → Checked ≡ later
  check_goes q =
      let p = both_pass (delimiters_check ds) (fails_if (is_null s) NullText 0) q in
      rw (passes_not _ _ _ p.0, passes_not _ _ _ p.1)

module _ (ds s : List ℕ) (room : ℕ) where
  pub unescaping_stops : {f : Fault} → text_check ds s ≡ Err f → unescaping ds s room ≡ Err f
  unfolding unescaping
  unescaping_stops q = check_stops ds s (fitting room (scan plain_text ds 0 0 s)) q

  pub unescaping_goes : text_check ds s ≡ passes → unescaping ds s room ≡ fitting room (scan plain_text ds 0 0 s)
  unfolding unescaping
  unescaping_goes q = check_goes ds s (fitting room (scan plain_text ds 0 0 s)) q

  pub unescaping_bad : first_wrong_delimiter ds < 5 → unescaping ds s room ≡ fault Delimiter (first_wrong_delimiter ds)
  unfolding unescaping
  unescaping_bad h = rw (lt-ltb _ _ h)

  module _ (h : 5 ≤ first_wrong_delimiter ds) where
    pub unescaping_null : is_null s ≡ true → unescaping ds s room ≡ fault NullText 0
    unfolding unescaping
    unescaping_null e = rw (le-ltb _ _ h) (rw e)

    module _ (n : is_null s ≡ false) where
      other : unescaping ds s room ≡ fitting room (scan plain_text ds 0 0 s)
      unfolding unescaping
      other = rw (le-ltb _ _ h) (rw n)

      pub unescaping_fault : (k : Refusal) (p : ℕ) → scan plain_text ds 0 0 s ≡ fault k p → unescaping ds s room ≡ fault k p
      unfolding fitting
      unescaping_fault k p e = other ∙ ap (fitting room) e

      pub unescaping_fits : (t : List ℕ) → scan plain_text ds 0 0 s ≡ text t → length t ≤ room → unescaping ds s room ≡ text t
      unfolding fitting
      unescaping_fits t e l = other ∙ ap (fitting room) e ∙ rw (le-leb _ _ l)

      pub unescaping_long : (t : List ℕ) → scan plain_text ds 0 0 s ≡ text t → room < length t → unescaping ds s room ≡ fault NoRoom 0
      unfolding fitting
      unescaping_long t e l = other ∙ ap (fitting room) e ∙ rw (lt-leb _ _ l)
