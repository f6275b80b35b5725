-- The grammars of NM and SI and the readers' own definitions agree, both ways: the reader takes exactly what is spelled, with the number that it spells.
-- Rests on the laws of digits. Assumes nothing.
use mathlib.Core.Path.{◌≡◌, refl, sym, ap, ap₂, subst, ◌∙◌}
use mathlib.Core.List.{List, [], ◌∷◌, ◌++◌}
use mathlib.Core.Bool.{Bool, true, false, cond, not, ◌&&◌, ◌||◌}
use Prim.Native.Nat.{ℕ, suc, ◌+◌, ◌-◌, ◌≤◌}
use native.Mathlib.Omega.{arith}
use lib.Dec.{leb, ltb, eqb}
use lib.IntN.{ℤ, pos, neg_ℤ}
use lib.ListN.{length, get_or, take, drop, length-append, take-append-drop, drop_of_length-le}
use lib.Seq.{take-append_seam, drop-append-add, take_all}
use borrow.Author.Tests.{eqb-true, ne_eqb, lt-ltb, le-ltb, le-leb, leb-true, ltb-true, ltb-false}
use Rattle.alphabet.specs.declared.answers.Refusal.{Refusal}
use Rattle.std.specs.Prelude.{Result, Ok}
use Rattle.alphabet.specs.Answers.{fails_if, in_order}
use Rattle.alphabet.specs.Bytes.{digit}
use Rattle.alphabet.specs.Digits.{all_digits, decimal}
use Rattle.alphabet.specs.Lists.{first, find}
use Rattle.alphabet.specs.declared.answers.Refusal.TheVariants.{BreaksForm, ValueTooLong}
use Rattle.alphabet.proofs.BoolLaws.{and_both, both_and, from_to_lem, or_neither, false_true}
use Rattle.alphabet.proofs.DigitLaws.{digits_append}
use Rattle.alphabet.proofs.ListLaws.{find_is, first_le, drop_next}
use Rattle.numbers.specs.Numbers.{some_digits, is_sign, is_negative, unsigned, nm_form, nm_digits, nm_check, signed, nm_value, number_if, nm_read, is_si, si_read, has_point, most_digits}
use Rattle.numbers.specs.Numbers.{before_point as whole_of, fraction as fraction_of}
use Rattle.numbers.specs.declared.numerals.Number.{Number}
use Rattle.numbers.proofs.NumberLaws.{unsigned_drop, unsigned_same, si_read_lem, si_refused}
use Rattle.grammars.specs.Spelt.{Says}
use Rattle.grammars.specs.SpeltNumbers.{Unsigned, unpointed, pointed, Nm, bare, plus, minus, NmSays, Si, few, SiSays}
use Rattle.grammars.proofs.SpeltLaws.{says_decimal, decimal_says, append_none}

-- ---- a byte that is no digit, among digits

pub digits_without : (b : ℕ) → digit b ≡ false → (l : List ℕ) → all_digits l ≡ true → find b l ≡ length l
unfolding first all_digits
digits_without b n [] e = refl
digits_without b n (d ∷ r) e =
    let h = and_both (digit d) (all_digits r) e in
    let unlike : eqb b d ≡ false = ne_eqb b d (λ q. false_true (sym n ∙ ap digit q ∙ h.0)) in
    rw unlike (ap suc (digits_without b n r h.1))

-- a byte sought behind a part that is without it
pub find_behind : (b : ℕ) (l r : List ℕ) → find b l ≡ length l → find b (l ++ r) ≡ length l + find b r
unfolding first
find_behind b [] r e = omega arith
find_behind b (x ∷ l) r e = at (eqb b x) (find_behind b l r) e
  where
    at : (t : Bool) → (find b l ≡ length l → find b (l ++ r) ≡ length l + find b r) → cond t 0 (suc (find b l)) ≡ suc (length l)
        → cond t 0 (suc (find b (l ++ r))) ≡ suc (length l) + find b r
    at true i e = absurd (omega arith)
    at false i e = let j = i (omega arith) in omega arith

-- ---- the parts of a number without its sign

pub record Apart (u w f : List ℕ) (point : Bool) : Type 0 where
  pub whole_is : whole_of u ≡ w
  pub fraction_is : fraction_of u ≡ f
  pub point_is : has_point u ≡ point

apart_whole : (l : List ℕ) → all_digits l ≡ true → Apart l l [] false
apart_whole l e =
    let n = digits_without 46 refl l e in
    record {
      whole_is = ap (λ (i : ℕ). take i l) n ∙ take_all (length l) l (omega arith);
      fraction_is = (let k : length l ≤ find 46 l + 1 = omega arith in drop_of_length-le l k);
      point_is = le-ltb (find 46 l) (length l) (omega arith);
    }

apart_pointed : (w f : List ℕ) → all_digits w ≡ true → Apart (w ++ (46 ∷ f)) w f true
unfolding first
apart_pointed w f e =
    let n = find_behind 46 w (46 ∷ f) (digits_without 46 refl w e) in
    let m : find 46 (w ++ (46 ∷ f)) ≡ length w = omega arith in
    let l = length-append w (46 ∷ f) in
    record {
      whole_is = ap (λ (i : ℕ). take i (w ++ (46 ∷ f))) m ∙ take-append_seam w (46 ∷ f);
      fraction_is = ap (λ (i : ℕ). drop (i + 1) (w ++ (46 ∷ f))) m ∙ drop-append-add w (46 ∷ f) 1;
      point_is = lt-ltb (find 46 (w ++ (46 ∷ f))) (length (w ++ (46 ∷ f))) (omega arith);
    }

-- digits begin with no sign
no_sign : (w r : List ℕ) → all_digits w ≡ true → 1 ≤ length w → is_sign (get_or (w ++ r) 0 0) ≡ false
unfolding all_digits
no_sign [] r e h = absurd (omega arith)
no_sign (d ∷ w) r e h =
    let t = from_to_lem 48 57 d (and_both (digit d) (all_digits w) e).0 in
    let t0 = t.0 in
    rw (ne_eqb d 43 (λ q. omega arith), ne_eqb d 45 (λ q. omega arith))

some_digits_lem : {k n : ℕ} {l : List ℕ} → Says (suc k) l n → some_digits l ≡ true
some_digits_lem {k} {n} {l} s = let d = says_decimal s in let n = d.1 in both_and (le-leb 1 (length l) (omega arith)) d.0

-- what the grammar has of a number without its sign, in the reader's own words
pub record Read (u : List ℕ) (n decimals digits : ℕ) : Type 0 where
  pub before : some_digits (whole_of u) ≡ true
  pub behind : (not (has_point u) || some_digits (fraction_of u)) ≡ true
  pub number : decimal (whole_of u ++ fraction_of u) ≡ n
  pub places : length (fraction_of u) ≡ decimals
  pub count : length (whole_of u ++ fraction_of u) ≡ digits
  pub unsigned_so : is_sign (get_or u 0 0) ≡ false

unsigned_read : {u : List ℕ} {n decimals digits : ℕ} → Unsigned u n decimals digits → Read u n decimals digits
unsigned_read {u} (unpointed s) =
    let d = says_decimal s in
    let many = d.1 in
    let a = apart_whole u d.0 in
    let both = ap₂ ◌++◌ a.whole_is a.fraction_is ∙ append_none u in
    record {
      before = ap some_digits a.whole_is ∙ some_digits_lem s;
      behind = ap (λ (t : Bool). not t || some_digits (fraction_of u)) a.point_is;
      number = ap decimal both ∙ d.2;
      places = ap length a.fraction_is;
      count = ap length both ∙ d.1;
      unsigned_so = ap (λ (l : List ℕ). is_sign (get_or l 0 0)) (sym (append_none u)) ∙ no_sign u [] d.0 (omega arith);
    }
unsigned_read (pointed {w = w} {f = f} s t b) =
    let d = says_decimal s in
    let many = d.1 in
    let c = says_decimal t in
    let g = says_decimal b in
    let a = apart_pointed w f d.0 in
    let both = ap₂ ◌++◌ a.whole_is a.fraction_is in
    record {
      before = ap some_digits a.whole_is ∙ some_digits_lem s;
      behind = ap₂ (λ (p : Bool) (l : List ℕ). not p || some_digits l) a.point_is a.fraction_is ∙ some_digits_lem t;
      number = ap decimal both ∙ g.2;
      places = ap length a.fraction_is ∙ c.1;
      count = ap length both ∙ g.1;
      unsigned_so = no_sign w (46 ∷ f) d.0 (omega arith);
    }

-- and back
read_unsigned : (u : List ℕ) → some_digits (whole_of u) ≡ true → (not (has_point u) || some_digits (fraction_of u)) ≡ true
    → Unsigned u (decimal (whole_of u ++ fraction_of u)) (length (fraction_of u)) (length (whole_of u ++ fraction_of u))
read_unsigned u b c = at (has_point u) refl c
  where
    before : (1 ≤ length (whole_of u)) × (all_digits (whole_of u) ≡ true)
    before = let h = and_both (leb 1 (length (whole_of u))) (all_digits (whole_of u)) b in (leb-true 1 (length (whole_of u)) h.0, h.1)

    said : (l : List ℕ) → 1 ≤ length l → all_digits l ≡ true → Says (suc (length l - 1)) l (decimal l)
    said l h e = let k : length l ≡ suc (length l - 1) = omega arith in subst (λ (j : ℕ). Says j l (decimal l)) k (decimal_says l e)

    at : (t : Bool) → has_point u ≡ t → (not t || some_digits (fraction_of u)) ≡ true
        → Unsigned u (decimal (whole_of u ++ fraction_of u)) (length (fraction_of u)) (length (whole_of u ++ fraction_of u))
    at false p c =
        let h = ltb-false (find 46 u) (length u) p in
        let m = first_le (eqb 46) u in
        let k : length u ≤ find 46 u + 1 = omega arith in
        let f : fraction_of u ≡ [] = drop_of_length-le u k in
        let w : whole_of u ≡ u = take_all (find 46 u) u h in
        let both : whole_of u ++ fraction_of u ≡ u = ap₂ ◌++◌ w f ∙ append_none u in
        let n = ap length w in
        let l = before.0 in
        let j : suc (length u - 1) ≡ length u = omega arith in
        let s = unpointed (said u (omega arith) (sym (ap all_digits w) ∙ before.1)) in
        subst (λ (x : List ℕ). Unsigned u (decimal x) (length (fraction_of u)) (length x)) (sym both)
        (subst (λ (x : List ℕ). Unsigned u (decimal u) (length x) (length u)) (sym f) (subst (λ (x : ℕ). Unsigned u (decimal u) 0 x) j s))
    at true p c =
        let h = ltb-true (find 46 u) (length u) p in
        let w = whole_of u in
        let f = fraction_of u in
        let e = and_both (leb 1 (length f)) (all_digits f) c in
        let least = leb-true 1 (length f) e.0 in
        let least' = before.0 in
        let both : all_digits (w ++ f) ≡ true = digits_append w f ∙ both_and before.1 e.1 in
        let n = length-append w f in
        let i : suc (length w - 1) + suc (length f - 1) ≡ length (w ++ f) = omega arith in
        let j : suc (length f - 1) ≡ length f = omega arith in
        let whole-bytes : w ++ (46 ∷ f) ≡ u = ap (λ (r : List ℕ). w ++ r) (sym (drop_next u (find 46 u) h ∙ ap (λ (x : ℕ). x ∷ f) (find_is 46 u h))) ∙ take-append-drop (find 46 u) u in
        let s = pointed (said w least' before.1) (said f least e.1) (subst (λ (k : ℕ). Says k (w ++ f) (decimal (w ++ f))) (sym i) (decimal_says (w ++ f) both)) in
        subst (λ (x : List ℕ). Unsigned x (decimal (w ++ f)) (length f) (length (w ++ f))) whole-bytes
        (subst (λ (x : ℕ). Unsigned (w ++ (46 ∷ f)) (decimal (w ++ f)) (length f) x) i
        (subst (λ (x : ℕ). Unsigned (w ++ (46 ∷ f)) (decimal (w ++ f)) x (suc (length w - 1) + suc (length f - 1))) j s))

-- ---- NM

-- what the grammar has, in the words of the reader's form, value, decimals and digits
pub record ReadsAs (l : List ℕ) (v : ℤ) (decimals digits : ℕ) : Type 0 where
  pub form : nm_form l ≡ true
  pub value : nm_value l ≡ v
  pub places : length (fraction_of (unsigned l)) ≡ decimals
  pub count : length (nm_digits l) ≡ digits

reads_as : (l u : List ℕ) (n decimals digits : ℕ) (negative : Bool) → unsigned l ≡ u → is_negative l ≡ negative → Read u n decimals digits → ReadsAs l (signed negative n) decimals digits
unfolding nm_form nm_value
reads_as l u n decimals digits negative e s r = record {
  form = ap (λ (x : List ℕ). some_digits (whole_of x) && (not (has_point x) || some_digits (fraction_of x))) e ∙ both_and r.before r.behind;
  value = ap₂ signed s (ap (λ (x : List ℕ). decimal (whole_of x ++ fraction_of x)) e ∙ r.number);
  places = ap (λ (x : List ℕ). length (fraction_of x)) e ∙ r.places;
  count = ap (λ (x : List ℕ). length (whole_of x ++ fraction_of x)) e ∙ r.count;
}

pub nm_spelt : {l : List ℕ} {v : ℤ} {decimals digits : ℕ} → Nm l v decimals digits → ReadsAs l v decimals digits
unfolding unsigned
nm_spelt {l} (bare {n} {decimals} {digits} u) =
    let r = unsigned_read u in
    reads_as l l n decimals digits false (unsigned_same l r.unsigned_so) (or_neither (eqb (get_or l 0 0) 43) (eqb (get_or l 0 0) 45) r.unsigned_so).1 r
nm_spelt (plus {n} {decimals} {digits} {l = r} u) = reads_as (43 ∷ r) r n decimals digits false refl refl (unsigned_read u)
nm_spelt (minus {n} {decimals} {digits} {l = r} u) = reads_as (45 ∷ r) r n decimals digits true refl refl (unsigned_read u)

pub nm_spells : (l : List ℕ) → nm_form l ≡ true → Nm l (nm_value l) (length (fraction_of (unsigned l))) (length (nm_digits l))
unfolding nm_form nm_value
nm_spells l e = at (eqb (get_or l 0 0) 43) refl (eqb (get_or l 0 0) 45) refl
  where
    Spelt : List ℕ → Bool → Type 0
    Spelt u negative = Nm l (signed negative (decimal (whole_of u ++ fraction_of u))) (length (fraction_of u)) (length (whole_of u ++ fraction_of u))

    parts : Unsigned (unsigned l) (decimal (nm_digits l)) (length (fraction_of (unsigned l))) (length (nm_digits l))
    parts =
        let b = and_both (some_digits (whole_of (unsigned l))) (not (has_point (unsigned l)) || some_digits (fraction_of (unsigned l))) e in
        read_unsigned (unsigned l) b.0 b.1

    begun : (l : List ℕ) (b : ℕ) → (b ≡ 0 → ⊥) → get_or l 0 0 ≡ b → b ∷ drop 1 l ≡ l
    begun [] b n q = absurd (n (sym q))
    begun (x ∷ r) b n q = ap (λ (y : ℕ). y ∷ r) (sym q)

    at : (t : Bool) → eqb (get_or l 0 0) 43 ≡ t → (u : Bool) → eqb (get_or l 0 0) 45 ≡ u → Spelt (unsigned l) (is_negative l)
    at true p u q =
        let b = eqb-true (get_or l 0 0) 43 p in
        let d = unsigned_drop l (rw p) in
        let not-minus : is_negative l ≡ false = ap (λ (x : ℕ). eqb x 45) b in
        let spelt = subst (λ (x : List ℕ). Unsigned x (decimal (nm_digits l)) (length (fraction_of (unsigned l))) (length (nm_digits l))) d parts in
        subst (Spelt (unsigned l)) (sym not-minus)
        (subst (λ (x : List ℕ). Nm x (pos (decimal (nm_digits l))) (length (fraction_of (unsigned l))) (length (nm_digits l))) (begun l 43 (λ z. omega arith) b) (plus spelt))
    at false p true q =
        let b = eqb-true (get_or l 0 0) 45 q in
        let d = unsigned_drop l (rw (p, q)) in
        let spelt = subst (λ (x : List ℕ). Unsigned x (decimal (nm_digits l)) (length (fraction_of (unsigned l))) (length (nm_digits l))) d parts in
        subst (Spelt (unsigned l)) (sym q)
        (subst (λ (x : List ℕ). Nm x (neg_ℤ (pos (decimal (nm_digits l)))) (length (fraction_of (unsigned l))) (length (nm_digits l))) (begun l 45 (λ z. omega arith) b) (minus spelt))
    at false p false q =
        let d = unsigned_same l (rw (p, q)) in
        subst (Spelt (unsigned l)) (sym q) (bare (subst (λ (x : List ℕ). Unsigned x (decimal (nm_digits l)) (length (fraction_of (unsigned l))) (length (nm_digits l))) d parts))

-- what spells no number has no form
nm_formless : (l : List ℕ) → nm_form l ≡ false → (v : ℤ) (decimals digits : ℕ) → Nm l v decimals digits → ⊥
nm_formless l e v decimals digits s = false_true (sym e ∙ (nm_spelt s).form)

-- the reader takes exactly what is spelled
pub nm_said : (l : List ℕ) → NmSays l (nm_read l)
unfolding nm_read nm_check
nm_said l = at (nm_form l) refl (ltb most_digits (length (nm_digits l))) refl
  where
    at : (t : Bool) → nm_form l ≡ t → (u : Bool) → ltb most_digits (length (nm_digits l)) ≡ u
        → NmSays l (number_if (in_order (fails_if (not (nm_form l)) BreaksForm 0 ∷ fails_if (ltb most_digits (length (nm_digits l))) ValueTooLong 0 ∷ [])) (nm_value l) (length (fraction_of (unsigned l))))
    at true p true q = rw (p, q) (NmSays.long (nm_spells l p) (ltb-true most_digits (length (nm_digits l)) q))
    at true p false q = rw (p, q) (NmSays.says (nm_spells l p) (ltb-false most_digits (length (nm_digits l)) q))
    at false p u q = rw p (NmSays.breaks (nm_formless l p))

-- and no second answer is said
pub nm_once : {l : List ℕ} {r s : Result Number Refusal} → NmSays l r → NmSays l s → r ≡ s
nm_once (NmSays.says a h) (NmSays.says b k) =
    let p = nm_spelt a in
    let q = nm_spelt b in
    ap₂ (λ (v : ℤ) (decimals : ℕ). Ok (record { value = v; decimals = decimals })) (sym p.value ∙ q.value) (sym p.places ∙ q.places)
nm_once (NmSays.says a h) (NmSays.long b k) = absurd (let p = (nm_spelt a).count in let q = (nm_spelt b).count in omega arith)
nm_once (NmSays.says a h) (NmSays.breaks n) = absurd (n _ _ _ a)
nm_once (NmSays.long a h) (NmSays.says b k) = absurd (let p = (nm_spelt a).count in let q = (nm_spelt b).count in omega arith)
nm_once (NmSays.long a h) (NmSays.long b k) = refl
nm_once (NmSays.long a h) (NmSays.breaks n) = absurd (n _ _ _ a)
nm_once (NmSays.breaks n) (NmSays.says b k) = absurd (n _ _ _ b)
nm_once (NmSays.breaks n) (NmSays.long b k) = absurd (n _ _ _ b)
nm_once (NmSays.breaks n) (NmSays.breaks m) = refl

-- ---- SI

pub si_spelt : {l : List ℕ} {n : ℕ} → Si l n → (is_si l ≡ true) × (decimal l ≡ n)
unfolding is_si
si_spelt {l} (few s h) = let d = says_decimal s in let k = d.1 in (both_and (some_digits_lem s) (le-leb (length l) 4 (omega arith)), d.2)

pub si_spells : (l : List ℕ) → is_si l ≡ true → Si l (decimal l)
unfolding is_si
si_spells l e =
    let b = and_both (some_digits l) (leb (length l) 4) e in
    let c = and_both (leb 1 (length l)) (all_digits l) b.0 in
    let least = leb-true 1 (length l) c.0 in
    let most = leb-true (length l) 4 b.1 in
    let k : length l ≡ suc (length l - 1) = omega arith in
    few (subst (λ (j : ℕ). Says j l (decimal l)) k (decimal_says l c.1)) (omega arith)

pub si_said : (l : List ℕ) → SiSays l (si_read l)
si_said l = at (is_si l) refl
  where
    at : (t : Bool) → is_si l ≡ t → SiSays l (si_read l)
    at true e = subst (SiSays l) (sym (si_read_lem l e)) (SiSays.says (si_spells l e))
    at false e = subst (SiSays l) (sym (si_refused l e)) (SiSays.breaks (λ n s. false_true (sym e ∙ (si_spelt s).0)))

pub si_once : {l : List ℕ} {r s : Result Number Refusal} → SiSays l r → SiSays l s → r ≡ s
si_once (SiSays.says a) (SiSays.says b) = ap (λ (n : ℕ). Ok (record { value = pos n; decimals = 0 })) (sym (si_spelt a).1 ∙ (si_spelt b).1)
si_once (SiSays.says a) (SiSays.breaks n) = absurd (n _ a)
si_once (SiSays.breaks n) (SiSays.says b) = absurd (n _ b)
si_once (SiSays.breaks n) (SiSays.breaks m) = refl
