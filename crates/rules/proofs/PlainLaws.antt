-- Laws of plain bytes: no delimiter splits them and they are present; and the bytes of a number, of a time and of a value of a list are plain.
-- Assumes nothing.
use mathlib.Core.Path.{◌≡◌, refl, sym, ap, subst, ◌∙◌}
use mathlib.Core.List.{List, [], ◌∷◌}
use mathlib.Core.Bool.{Bool, true, false, cond, not, ◌&&◌, ◌||◌}
use Prim.Native.Nat.{ℕ, zero, suc, ◌+◌, ◌≤◌, ◌<◌, min}
use native.Mathlib.Omega.{arith}
use borrow.Author.Tests.{not-true, leb-true, leb-false, le-leb, lt-leb, eqb-true, ne_eqb}
use lib.Dec.{leb, eqb}
use lib.ListN.{length, get_or, take, drop, length-drop}
use lib.Seq.{get_or-drop, drop-drop}
use Rattle.std.specs.Prelude.{Ok, Err}
use Rattle.alphabet.specs.Answers.{Check, passes}
use Rattle.alphabet.specs.Bytes.{ascii, digit}
use Rattle.alphabet.specs.Delimiters.{permitted}
use Rattle.alphabet.specs.Digits.{all_digits}
use Rattle.alphabet.specs.Lists.{first, find, same}
use Rattle.alphabet.specs.Parts.{split}
use Rattle.alphabet.specs.declared.answers.Refusal.TheVariants.{BreaksForm}
use Rattle.alphabet.proofs.BoolLaws.{false_true, and_both, both_and, neither_or, from_to_lem}
use Rattle.alphabet.proofs.ListLaws.{find_is, same_is}
use Rattle.alphabet.proofs.NullLaws.{other_quotes}
use Rattle.alphabet.proofs.PartLaws.{split_last}
use Rattle.element.specs.States.{blank, state_of}
use Rattle.element.specs.declared.states.State.TheVariants.{Present}
use Rattle.element.proofs.StateLaws.{state_present}
use Rattle.field_table.specs.Table.{values_of, member}
use Rattle.field_table.specs.declared.Kind.TheVariants.{Any, Ts, Nm, Dt, Tm}
use Rattle.field_table.specs.declared.Values.{Values}
use Rattle.field_table.specs.declared.Values.TheVariants.{Processing, Version, Sex, ValueTypes, Statuses, Codes}
use Rattle.field_table.proofs.TableLaws.{member_past, member_none}
use Rattle.forms.specs.Forms.{dt_form, body_of, zone_of, time_form}
use Rattle.forms.specs.declared.layouts.Form.{Form}
use Rattle.forms.proofs.FormLaws.{front_digits, tail_holds, zone_held}
use Rattle.numbers.specs.Numbers.{is_sign, unsigned, some_digits, nm_form, nm_check, is_si}
use Rattle.numbers.proofs.NumberLaws.{unsigned_drop, unsigned_same, nm_form_lem, nm_before, nm_fraction, si_digits}
use Rattle.times.specs.Times.{is_dt, is_time, is_tm, is_ts}
use Rattle.times.proofs.TimeLaws.{dt_formed, dt_digits, time_formed}
use Rattle.rules.specs.Plain.{Permitted, plain_byte, all_plain, Plain}
use Rattle.rules.specs.Rules.{form_check, passing, judged_part, kind_said, is_any}
use Rattle.rules.proofs.RuleLaws.{passing_not}

-- ---- no delimiter stands among plain bytes

differs : (d b : ℕ) → permitted d ≡ true → plain_byte b ≡ true → d ≡ b → ⊥
differs d b p e q =
    let n = not-true (permitted b) (and_both (not (permitted b)) (not (eqb b 34)) e).0 in
    false_true (sym n ∙ ap permitted (sym q) ∙ p)

find_plain : (d : ℕ) (l : List ℕ) → permitted d ≡ true → all_plain l ≡ true → find d l ≡ length l
unfolding first all_plain
find_plain d [] p e = refl
find_plain d (b ∷ r) p e =
    let w = and_both (plain_byte b) (all_plain r) e in
    rw (ne_eqb d b (differs d b p w.0)) (ap suc (find_plain d r p w.1))

pub split_plain : (d : ℕ) (l : List ℕ) → permitted d ≡ true → all_plain l ≡ true → split d l ≡ l ∷ []
split_plain d l p e = let f = find_plain d l p e in split_last d l (omega arith)

-- ---- they are present

-- whatever begins with a byte that is neither a quote nor a separator is present
pub present_begins : (ds : List ℕ) (b : ℕ) (r : List ℕ) → eqb b 34 ≡ false → blank ds b ≡ false → state_of ds (b ∷ r) ≡ Present
unfolding first
present_begins ds b r q e =
    state_present ds (b ∷ r)
    (other_quotes (b ∷ r) (λ s. false_true (sym q ∙ ap (λ (l : List ℕ). eqb (get_or l 0 0) 34) s)))
    (rw e (ne_eqb 0 (suc (length r)) (λ z. omega arith)))

module _ (ds : List ℕ) (permits : Permitted ds) where
  not_blank : (b : ℕ) → plain_byte b ≡ true → blank ds b ≡ false
  not_blank b e =
      neither_or (ne_eqb b (get_or ds 1 0) (λ q. differs _ b (permits 1 (omega arith)) e (sym q)))
      (neither_or (ne_eqb b (get_or ds 2 0) (λ q. differs _ b (permits 2 (omega arith)) e (sym q)))
      (ne_eqb b (get_or ds 4 0) (λ q. differs _ b (permits 4 (omega arith)) e (sym q))))

  pub present_plain : (l : List ℕ) → Plain l → state_of ds l ≡ Present
  unfolding all_plain
  present_plain [] p = let n = p.0 in absurd (omega arith)
  present_plain (b ∷ r) p =
      let w = (and_both (plain_byte b) (all_plain r) p.1).0 in
      present_begins ds b r (not-true (eqb b 34) (and_both (not (permitted b)) (not (eqb b 34)) w).1) (not_blank b w)

  -- component 1 is the whole
  pub judged_plain : (l : List ℕ) → all_plain l ≡ true → (component : ℕ) → component ≤ 1 → judged_part ds component l ≡ l
  unfolding judged_part
  judged_plain l e zero h = refl
  judged_plain l e (suc zero) h = ap (λ (ps : List (List ℕ)). get_or ps 0 []) (split_plain (get_or ds 1 0) l (permits 1 (omega arith)) e)
  judged_plain l e (suc (suc k)) h = absurd (omega arith)

-- ---- plain bytes put together

parts_plain : (n : ℕ) (l : List ℕ) → all_plain (take n l) ≡ true → all_plain (drop n l) ≡ true → all_plain l ≡ true
unfolding all_plain
parts_plain zero l a b = b
parts_plain (suc n) [] a b = refl
parts_plain (suc n) (x ∷ r) a b =
    let w = and_both (plain_byte x) (all_plain (take n r)) a in
    both_and w.0 (parts_plain n r w.1 b)

headed_plain : (l : List ℕ) → ((length l ≡ 0 → ⊥) → plain_byte (get_or l 0 0) ≡ true) → all_plain (drop 1 l) ≡ true → all_plain l ≡ true
unfolding all_plain
headed_plain [] h e = refl
headed_plain (b ∷ r) h e = both_and (h (λ z. omega arith)) e

digit_plain : (b : ℕ) → digit b ≡ true → plain_byte b ≡ true
digit_plain b e =
    let d = from_to_lem 48 57 b e in
    let lo = d.0 in
    let hi = d.1 in
    rw (le-leb 33 b (omega arith), lt-leb b 47 (omega arith), lt-leb 58 b (omega arith), lt-leb 91 b (omega arith), lt-leb 123 b (omega arith), ne_eqb b 34 (λ q. omega arith))

digits_plain : (l : List ℕ) → all_digits l ≡ true → all_plain l ≡ true
unfolding all_digits all_plain
digits_plain [] e = refl
digits_plain (b ∷ r) e = let w = and_both (digit b) (all_digits r) e in both_and (digit_plain b w.0) (digits_plain r w.1)

-- what is left of a list from the place of a byte on, if anything is, begins with that byte
begins : (b : ℕ) (l : List ℕ) (p : ℕ) → p ≡ find b l → (length (drop p l) ≡ 0 → ⊥) → get_or (drop p l) 0 0 ≡ b
begins b l p e h =
    let n = length-drop p l in
    let k = behind (leb (length l) p) refl in
    let i : p + 0 ≡ find b l = omega arith in
    get_or-drop p l 0 0 ∙ ap (λ (j : ℕ). get_or l j 0) i ∙ find_is b l (omega arith)
  where
    behind : (t : Bool) → leb (length l) p ≡ t → p < length l
    behind true q = let m = leb-true (length l) p q in let n = length-drop p l in absurd (h (omega arith))
    behind false q = leb-false (length l) p q

-- ---- numbers

pub si_plain : (l : List ℕ) → is_si l ≡ true → Plain l
unfolding is_si
si_plain l e =
    (leb-true 1 (length l) (and_both (leb 1 (length l)) (all_digits l) (and_both (some_digits l) (leb (length l) 4) e).0).0, digits_plain l (si_digits l e).0)

-- digits with a point between them
pointed_plain : (l : List ℕ) → all_digits (take (find 46 l) l) ≡ true → all_digits (drop 1 (drop (find 46 l) l)) ≡ true → all_plain l ≡ true
pointed_plain l a b =
    parts_plain (find 46 l) l (digits_plain _ a)
    (headed_plain (drop (find 46 l) l) (λ h. ap plain_byte (begins 46 l (find 46 l) refl h)) (digits_plain _ b))

unsigned_plain : (l : List ℕ) → all_plain (unsigned l) ≡ true → all_plain l ≡ true
unsigned_plain l e = at (is_sign (get_or l 0 0)) refl
  where
    signs : (b : ℕ) → is_sign b ≡ true → plain_byte b ≡ true
    signs b q = by (eqb b 43) refl q
      where
        by : (t : Bool) → eqb b 43 ≡ t → (t || eqb b 45) ≡ true → plain_byte b ≡ true
        by true x q = ap plain_byte (eqb-true b 43 x)
        by false x q = ap plain_byte (eqb-true b 45 q)

    at : (t : Bool) → is_sign (get_or l 0 0) ≡ t → all_plain l ≡ true
    at true q = headed_plain l (λ h. signs (get_or l 0 0) q) (ap all_plain (sym (unsigned_drop l q)) ∙ e)
    at false q = ap all_plain (sym (unsigned_same l q)) ∙ e

nm_some : (l : List ℕ) → nm_form l ≡ true → 1 ≤ length l
unfolding nm_form unsigned first
nm_some [] e = absurd (false_true e)
nm_some (b ∷ r) e = omega arith

pub nm_plain : (l : List ℕ) → nm_check l ≡ passes → Plain l
nm_plain l e = (
  nm_some l (nm_form_lem l e),
  unsigned_plain l
      (pointed_plain (unsigned l) (nm_before l e) (ap all_digits (drop-drop 1 (find 46 (unsigned l)) (unsigned l)) ∙ nm_fraction l e)),
)

-- ---- times

dt_some : (l : List ℕ) → dt_form l ≡ true → 1 ≤ length l
unfolding dt_form all_digits
dt_some [] e = absurd (false_true e)
dt_some (b ∷ r) e = omega arith

pub dt_plain : (l : List ℕ) → is_dt l ≡ true → Plain l
dt_plain l e = (dt_some l (dt_formed l e), digits_plain l (dt_digits l e))

time_some : (form : Form) (l : List ℕ) → time_form form l ≡ true → 1 ≤ length l
unfolding time_form first all_digits
time_some Form.Tm [] e = absurd (false_true e)
time_some Form.Ts [] e = absurd (false_true e)
time_some form (b ∷ r) e = omega arith

-- a zone begins with its sign
zone_begins : (l : List ℕ) → (length (zone_of l) ≡ 0 → ⊥) → plain_byte (get_or (zone_of l) 0 0) ≡ true
zone_begins l h = at (leb (find 43 l) (find 45 l)) refl
  where
    at : (t : Bool) → leb (find 43 l) (find 45 l) ≡ t → plain_byte (get_or (zone_of l) 0 0) ≡ true
    at true e = let k = leb-true (find 43 l) (find 45 l) e in ap plain_byte (begins 43 l (min (find 43 l) (find 45 l)) (omega arith) h)
    at false e = let k = leb-false (find 43 l) (find 45 l) e in ap plain_byte (begins 45 l (min (find 43 l) (find 45 l)) (omega arith) h)

pub time_plain : (form : Form) (l : List ℕ) → is_time form l ≡ true → Plain l
time_plain form l e =
    let f = time_formed form l e in (
      time_some form l f,
      parts_plain (min (find 43 l) (find 45 l)) l (pointed_plain (body_of l) (front_digits form l f) (tail_holds form l f).0)
          (headed_plain (zone_of l) (zone_begins l) (digits_plain _ (zone_held form l f).0)),
    )

-- ---- values of a list

abbrev every_plain : List (List ℕ) → Bool
every_plain [] = true
every_plain (v ∷ vs) = (leb 1 (length v) && all_plain v) && every_plain vs

member_plain : (l : List ℕ) (vs : List (List ℕ)) → every_plain vs ≡ true → member l vs ≡ true → Plain l
member_plain l [] a e = absurd (false_true (sym (member_none l) ∙ e))
member_plain l (v ∷ vs) a e = at (same l v) refl (member_plain l vs w.1)
  where
    w : ((leb 1 (length v) && all_plain v) ≡ true) × (every_plain vs ≡ true)
    w = and_both (leb 1 (length v) && all_plain v) (every_plain vs) a

    at : (t : Bool) → same l v ≡ t → (member l vs ≡ true → Plain l) → Plain l
    at true q ih =
        let p = and_both (leb 1 (length v)) (all_plain v) w.0 in
        subst Plain (sym (same_is l v q)) (leb-true 1 (length v) p.0, p.1)
    at false q ih = ih (sym (member_past l v vs q) ∙ e)

values_plain : (values : Values) → every_plain (values_of values) ≡ true
unfolding values_of split all_plain
values_plain Processing = refl
values_plain Version = refl
values_plain Sex = refl
values_plain ValueTypes = refl
values_plain Statuses = refl
values_plain Codes = refl

pub listed_plain : (values : Values) (l : List ℕ) → member l (values_of values) ≡ true → Plain l
listed_plain values l e = member_plain l (values_of values) (values_plain values) e

-- ---- the types that another field can say

module _ (l : List ℕ) where
  check_plain : (c : Check) → passing c ≡ true → c ≡ passes
  check_plain (Ok _) e = refl
  check_plain (Err fault) e = absurd (false_true e)

  kinds_plain : (a b c d : Bool) → is_any (cond a Nm (cond b Dt (cond c Tm (cond d Ts Any)))) ≡ false → passing (form_check (cond a Nm (cond b Dt (cond c Tm (cond d Ts Any)))) l) ≡ true → Plain l
  unfolding form_check
  kinds_plain true b c d n e = nm_plain l (check_plain (nm_check l) e)
  kinds_plain false true c d n e = dt_plain l (sym (passing_not (is_dt l) BreaksForm 0) ∙ e)
  kinds_plain false false true d n e = time_plain Form.Tm l (sym (passing_not (is_tm l) BreaksForm 0) ∙ e)
  kinds_plain false false false true n e = time_plain Form.Ts l (sym (passing_not (is_ts l) BreaksForm 0) ∙ e)
  kinds_plain false false false false n e = absurd (false_true (sym n))

  pub kind_plain : (said : List ℕ) → is_any (kind_said said) ≡ false → passing (form_check (kind_said said) l) ≡ true → Plain l
  unfolding kind_said
  kind_plain said n e = kinds_plain (same said (ascii "NM")) (same said (ascii "DT")) (same said (ascii "TM")) (same said (ascii "TS")) n e
