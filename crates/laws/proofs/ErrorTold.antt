-- That an ERR segment tells what document 02, W4 says, by the cases of `Told`, and that the cases leave no second answer. Assumes nothing.
use mathlib.Core.Path.{◌≡◌, refl, sym, ap, ◌∙◌, subst}
use mathlib.Core.Logic.{◌⊎◌, inl, inr, ⊎_elim}
use mathlib.Core.Bool.{Bool, true, false, cond, ◌&&◌, ◌||◌}
use mathlib.Core.List.{List, [], ◌∷◌, map}
use Prim.Native.Nat.{ℕ, zero, suc, ◌+◌, ◌-◌, ◌≤◌, ◌<◌}
use native.Mathlib.Nat.{zero-add}
use native.Mathlib.Numerals.{add-one}
use native.Mathlib.Omega.{arith}
use lib.Dec.{eqb, leb}
use lib.ListN.{length, get_or, take, length-map}
use lib.Seq.{length-take-le, take-take}
use borrow.Author.Tests.{eq-eqb, ne_eqb, eqb-true, eqb-false, le-leb, lt-leb, leb-true}
use Rattle.alphabet.specs.Answers.{number_of, passes}
use Rattle.alphabet.specs.Bytes.{carriage_return, ascii}
use Rattle.alphabet.specs.Lists.{find}
use Rattle.std.specs.Prelude.{Err}
use Rattle.alphabet.proofs.BoolLaws.{and_both, false_true}
use Rattle.alphabet.proofs.CheckLaws.{number_positive}
use Rattle.reading.specs.Reading.{reading}
use Rattle.reading.specs.Segments.{segments, field_separator, is_header, name_of}
use Rattle.reading.proofs.Accepted.{accepted as accepted-message}
use Rattle.structure.specs.Listed.{In, here, there}
use Rattle.structure.specs.SegmentNames.{segment_names}
use Rattle.reading.proofs.SegmentLaws.{segment_bytes}
use Rattle.error_segment.proofs.ErrorLaws.{parts_nowhere, parts_there}
use Rattle.laws.proofs.EntryNumbers.{verdict_numbers}
use Rattle.laws.proofs.ErrorLines.{named_signs, points}
use Rattle.laws.proofs.HeaderLaws.{first_segment as begins}
use Rattle.fault.specs.declared.FaultRecord.{FaultRecord}
use Rattle.verdict.specs.Verdicts.{Verdicts}
use Rattle.error_segment.specs.Numerals.{digits_of, numeral}
use Rattle.error_segment.specs.Errors.{error_code, faulty, count_of, sequence_of, field_position, nowhere, error_parts}
use Rattle.laws.proofs.EachLaws.{Each}
use Rattle.laws.specs.Entries.{of_reading, of_verdict}
use Rattle.laws.specs.Told.{TellsCode, misplaced, ended_early, missing, null, without_type, breaks_form, too_long, repeated, processing, version, unlisted, unsupported, unread, Stand, none, this_one, another, Located, TellsPlace, not_read, at_the_end, at_the_type, at_a_segment, at_a_field}

-- ---- numbers of a list, one by one

each_in : (P : ℕ → Type 0) (l : List ℕ) {n : ℕ} → Each P l → In n l → P n
unfolding Each
each_in P [] p i = elim i [ ]
each_in P (k ∷ ks) p here = p.0
each_in P (k ∷ ks) p (there i) = each_in P ks p.1 i

-- ---- the code

module _ (r : FaultRecord) where
  abbrev coded : ℕ → List ℕ
  coded n = numeral (error_code n r.place r.field)

  -- what is not in its list
  listed : number_of r.kind ≡ 33 → TellsCode r (coded 33)
  unfolding error_code digits_of
  listed e = at (eqb r.place 0) (eqb r.field 11) (eqb r.field 12) refl refl refl
    where
      at : (p f g : Bool) → eqb r.place 0 ≡ p → eqb r.field 11 ≡ f → eqb r.field 12 ≡ g → TellsCode r (numeral (cond (p && f) 202 (cond (p && g) 203 103)))
      at true true g u v w = processing e (eqb-true r.place 0 u) (eqb-true r.field 11 v)
      at true false true u v w = version e (eqb-true r.place 0 u) (eqb-true r.field 12 w)
      at true false false u v w = unlisted e (λ q k. ⊎_elim (eqb-false r.field 11 v) (eqb-false r.field 12 w) k)
      at false f g u v w = unlisted e (λ q k. eqb-false r.place 0 u q)

  abbrev Tells : ℕ → Type 0
  Tells n = (n ≡ 0 → ⊥) → number_of r.kind ≡ n → TellsCode r (coded n)

  low : (n : ℕ) → 1 ≤ n → n ≤ 8 → coded n ≡ ascii "207" → Tells n
  low n a b c z e = subst (TellsCode r) (sym c) (unread (omega arith) (omega arith))

  each_tells : Each Tells of_verdict
  unfolding Each error_code digits_of
  each_tells = (
    λ z e. missing e,
    (
      λ z e. breaks_form e,
      (
        λ z e. listed e,
        (
          λ z e. null e,
          (
            λ z e. without_type e,
            (
              λ z e. repeated e,
              (λ z e. too_long e, (λ z e. unsupported e, (λ z e. misplaced e, (λ z e. ended_early e, (λ z e. absurd (z refl), each_low))))),
            ),
          ),
        ),
      ),
    ),
  )
    where
      each_low : Each Tells (1 ∷ 2 ∷ 3 ∷ 4 ∷ 5 ∷ 6 ∷ 7 ∷ 8 ∷ [])
      each_low = (
        low 1 (omega arith) (omega arith) refl,
        (
          low 2 (omega arith) (omega arith) refl,
          (
            low 3 (omega arith) (omega arith) refl,
            (
              low 4 (omega arith) (omega arith) refl,
              (
                low 5 (omega arith) (omega arith) refl,
                (low 6 (omega arith) (omega arith) refl, (low 7 (omega arith) (omega arith) refl, (low 8 (omega arith) (omega arith) refl, tt))),
              ),
            ),
          ),
        ),
      )

-- ---- how many of some names are one name

count_stands : (n : ℕ) (l : List ℕ) → Stand n l (count_of n l)
unfolding count_of
count_stands n [] = none
count_stands n (x ∷ l) = at (eqb n x) refl (count_stands n l)
  where
    at : (t : Bool) → eqb n x ≡ t → Stand n l (count_of n l) → Stand n (x ∷ l) (cond t 1 0 + count_of n l)
    at true e s =
        let k : suc (count_of n l) ≡ 1 + count_of n l = omega arith in
        subst (λ (y : ℕ). Stand n (y ∷ l) (1 + count_of n l)) (eqb-true n x e) (subst (Stand n (n ∷ l)) k (this_one s))
    at false e s = subst (Stand n (x ∷ l)) (sym (zero-add (count_of n l))) (another (λ q. eqb-false n x e (sym q)) s)

stands_count : (n : ℕ) (l : List ℕ) {k : ℕ} → Stand n l k → k ≡ count_of n l
unfolding count_of
stands_count n [] none = refl
stands_count n (x ∷ l) (this_one s) = rw (eq-eqb n n refl) (let e = stands_count n l s in omega arith)
stands_count n (x ∷ l) (another d s) = rw (ne_eqb n x (λ q. d (sym q))) (stands_count n l s ∙ sym (zero-add (count_of n l)))

-- one at least, where it stands among them
counts_own : (l : List ℕ) (k : ℕ) → k < length l → 1 ≤ count_of (get_or l k 0) (take (k + 1) l)
unfolding count_of
counts_own [] k h = absurd (omega arith)
counts_own (x ∷ l) zero h = rw (eq-eqb x x refl) (omega arith)
counts_own (x ∷ l) (suc k) h =
    let e = ap (λ (i : ℕ). count_of (get_or l k 0) (take i (x ∷ l))) (add-one (suc k)) in
    let i = counts_own l k (omega arith) in
    let q = ap (λ (j : ℕ). count_of (get_or l k 0) (take j l)) (add-one k) in
    omega arith

-- ---- the segment of a message that was read

name_at : (ss : List (List ℕ)) (k : ℕ) → get_or (map name_of ss) k 0 ≡ name_of (get_or ss k [])
unfolding name_of
name_at [] zero = refl
name_at [] (suc k) = refl
name_at (s ∷ ss) zero = refl
name_at (s ∷ ss) (suc k) = name_at ss k

located : (m : List ℕ) (k : ℕ) → reading m ≡ passes → k < length (segments m) → Located m k (take 3 (faulty m k)) (sequence_of m k)
unfolding segment_names
located m k p h =
    let s = named_signs (field_separator m) (faulty m k) ((accepted-message m p).all_named k h) in
    let e = name_at (segments m) k in
    let l = length-map (segments m) name_of in
    record {
      inside = h;
      named = refl;
      three = length-take-le 3 (faulty m k) s.1;
      counted = subst (λ (n : ℕ). Stand n (take (k + 1) (segment_names m)) (sequence_of m k)) (sym e) (count_stands (name_of (faulty m k)) (take (k + 1) (segment_names m)));
      from_one = subst (λ (n : ℕ). 1 ≤ count_of n (take (k + 1) (segment_names m))) e (counts_own (segment_names m) k (omega arith));
    }

-- what is located there is the definition's, whoever tells it
located_so : (m : List ℕ) (k : ℕ) {name : List ℕ} {n : ℕ} → Located m k name n → (name ≡ take 3 (faulty m k)) × (n ≡ sequence_of m k)
unfolding segment_names
located_so m k l = (
  l.named,
  stands_count (get_or (segment_names m) k 0) (take (k + 1) (segment_names m)) l.counted ∙ ap (λ (x : ℕ). count_of x (take (k + 1) (segment_names m))) (name_at (segments m) k),
)

-- ---- 20 points to MSH

module _ (m : List ℕ) where
  -- the first segment's name is MSH, and it is the first of that name
  first_name : reading m ≡ passes → (take 3 (faulty m 0) ≡ ascii "MSH") × (sequence_of m 0 ≡ 1)
  unfolding segment_names count_of
  first_name p =
      let g = accepted-message m p in
      let b = begins m g in
      let b1 = b.1 in
      let e = (segment_bytes m 0 0 (find carriage_return m) b.0).3 in
      (ap (take 3) (sym e) ∙ take-take 3 (find carriage_return m - 0) m (omega arith) ∙ front m g.opened.nine_bytes g.opened.header, one (segments m) g.some_segments)
    where
      front : (l : List ℕ) → 9 ≤ length l → is_header l ≡ true → take 3 l ≡ ascii "MSH"
      front [] h q = absurd (omega arith)
      front (a ∷ []) h q = absurd (omega arith)
      front (a ∷ b ∷ []) h q = absurd (omega arith)
      front (a ∷ b ∷ c ∷ r) h q =
          let x = and_both (eqb a 77) (eqb b 83 && eqb c 72) q in
          let y = and_both (eqb b 83) (eqb c 72) x.1 in
          λ i. eqb-true a 77 x.0 i ∷ eqb-true b 83 y.0 i ∷ eqb-true c 72 y.1 i ∷ []

      one : (ss : List (List ℕ)) → 1 ≤ length ss → count_of (name_of (get_or ss 0 [])) (take 1 (map name_of ss)) ≡ 1
      one [] h = absurd (omega arith)
      one (x ∷ rest) h = rw (eq-eqb (name_of x) (name_of x) refl)

-- ---- the place

abbrev Later : ℕ → Type 0
Later n = nowhere n ≡ false → (n ≡ 20 → ⊥) → (n ≡ 21 → ⊥) → (31 ≤ n) × (n ≤ 37)

-- of the verdict's numbers that point somewhere, those besides 20 and 21 are the field judge's
each_later : Each Later of_verdict
unfolding Each
each_later = (λ w a b. (omega arith, omega arith), (λ w a b. (omega arith, omega arith), (λ w a b. (omega arith, omega arith), (λ w a b. (omega arith, omega arith), (λ w a b. (omega arith, omega arith), (λ w a b. (omega arith, omega arith), (λ w a b. (omega arith, omega arith), (λ w a b. absurd (a refl), (λ w a b. absurd (b refl), (λ w a b. absurd (false_true (sym w)), each_none))))))))))
  where
    each_none : Each Later of_reading
    each_none = (λ w a b. absurd (false_true (sym w)), (λ w a b. absurd (false_true (sym w)), (λ w a b. absurd (false_true (sym w)), (λ w a b. absurd (false_true (sym w)), (λ w a b. absurd (false_true (sym w)), (λ w a b. absurd (false_true (sym w)), (λ w a b. absurd (false_true (sym w)), (λ w a b. absurd (false_true (sym w)), (λ w a b. absurd (false_true (sym w)), tt)))))))))

numeral_one : numeral 1 ≡ ascii "1"
unfolding digits_of
numeral_one = refl

numeral_nine : numeral 9 ≡ ascii "9"
unfolding digits_of
numeral_nine = refl

-- one thing said of three texts, of the same three
pub told_as : (P : List ℕ → List ℕ → List ℕ → Type 0) {a b c x y z : List ℕ} → a ≡ x → b ≡ y → c ≡ z → P a b c → P x y z
told_as P {a = a} {b = b} {c = c} {x = x} {y = y} {z = z} e f g p = subst (λ (u : List ℕ). P x y u) g (subst (λ (u : List ℕ). P x u c) f (subst (λ (u : List ℕ). P u b c) e p))

module _ (m : List ℕ) {r : FaultRecord} (v : Verdicts m (Err r)) where
  abbrev number : ℕ
  number = number_of r.kind

  abbrev part : ℕ → List ℕ
  part k = get_or (error_parts m r) k []

  abbrev Tells_place : Type 0
  Tells_place = TellsPlace m r (part 0) (part 1) (part 2)

  empty : nowhere number ≡ true → TellsPlace m r [] [] [] → Tells_place
  empty w p =
      let q = sym (parts_nowhere m r w) in
      told_as (TellsPlace m r) (ap (λ (l : List (List ℕ)). get_or l 0 []) q) (ap (λ (l : List (List ℕ)). get_or l 1 []) q) (ap (λ (l : List (List ℕ)). get_or l 2 []) q) p

  there_so : nowhere number ≡ false → TellsPlace m r (take 3 (faulty m r.place)) (numeral (sequence_of m r.place)) (field_position number r.field) → Tells_place
  there_so w p =
      let q = sym (parts_there m r w) in
      told_as (TellsPlace m r) (ap (λ (l : List (List ℕ)). get_or l 0 []) q) (ap (λ (l : List (List ℕ)). get_or l 1 []) q) (ap (λ (l : List (List ℕ)). get_or l 2 []) q) p

  somewhere : nowhere number ≡ false → TellsPlace m r (take 3 (faulty m r.place)) (numeral (sequence_of m r.place)) (field_position number r.field)
  somewhere w =
      let p = points m v w in
      let l = located m r.place p.0 p.1 in
      at (eqb number 20) (eqb number 21) refl refl p l
    where
      at : (s t : Bool) → eqb number 20 ≡ s → eqb number 21 ≡ t → (reading m ≡ passes) × (r.place < length (segments m)) × (number ≡ 20 → r.place ≡ 0) → Located m r.place (take 3 (faulty m r.place)) (sequence_of m r.place)
          → TellsPlace m r (take 3 (faulty m r.place)) (numeral (sequence_of m r.place)) (cond t [] (numeral (cond s 9 r.field)))
      at true true e f p l = absurd (let n = eqb-true number 20 e in let k = eqb-true number 21 f in omega arith)
      at true false e f p l =
          let z = p.2 (eqb-true number 20 e) in
          let n = first_name m p.0 in
          told_as (TellsPlace m r) (sym (ap (λ (k : ℕ). take 3 (faulty m k)) z ∙ n.0)) (sym (ap (λ (k : ℕ). numeral (sequence_of m k)) z ∙ ap numeral n.1 ∙ numeral_one)) (sym numeral_nine)
          (at_the_type (eqb-true number 20 e))
      at false true e f p l = at_a_segment (eqb-true number 21 f) l
      at false false e f p l =
          let b = each_in Later of_verdict each_later (verdict_numbers m v) w (eqb-false number 20 e) (eqb-false number 21 f) in
          at_a_field b.0 b.1 l

  pub place_tells : Tells_place
  place_tells = at (eqb number 22) (leb number 8) refl refl
    where
      at : (s t : Bool) → eqb number 22 ≡ s → leb number 8 ≡ t → Tells_place
      at true t e f = empty (rw e) (at_the_end (eqb-true number 22 e))
      at false true e f = empty (rw e (rw f)) (not_read (number_positive r.kind) (leb-true number 8 f))
      at false false e f = there_so (rw e (rw f)) (somewhere (rw e (rw f)))

  code_part : part 3 ≡ numeral (error_code number r.place r.field)
  code_part = at (nowhere number) refl
    where
      at : (t : Bool) → nowhere number ≡ t → part 3 ≡ numeral (error_code number r.place r.field)
      at true w = ap (λ (l : List (List ℕ)). get_or l 3 []) (parts_nowhere m r w)
      at false w = ap (λ (l : List (List ℕ)). get_or l 3 []) (parts_there m r w)

  pub code_tells : TellsCode r (part 3)
  code_tells = subst (TellsCode r) (sym code_part) (each_in (Tells r) of_verdict (each_tells r) (verdict_numbers m v) (λ e. let n = number_positive r.kind in omega arith) refl)

-- ---- no second answer

module _ (number place field : ℕ) where
  reading_code : number ≤ 8 → error_code number place field ≡ 207
  unfolding error_code
  reading_code b =
      rw (ne_eqb number 21 (λ e. omega arith), ne_eqb number 22 (λ e. omega arith), ne_eqb number 31 (λ e. omega arith), ne_eqb number 34 (λ e. omega arith), ne_eqb number 35 (λ e. omega arith))
      (rw (ne_eqb number 32 (λ e. omega arith), ne_eqb number 36 (λ e. omega arith), ne_eqb number 37 (λ e. omega arith), ne_eqb number 33 (λ e. omega arith), ne_eqb number 20 (λ e. omega arith)))

  processing_code : number ≡ 33 → place ≡ 0 → field ≡ 11 → error_code number place field ≡ 202
  unfolding error_code
  processing_code e p f = rw (e, p, f)

  version_code : number ≡ 33 → place ≡ 0 → field ≡ 12 → error_code number place field ≡ 203
  unfolding error_code
  version_code e p f = rw (e, p, f)

  unlisted_code : number ≡ 33 → (place ≡ 0 → (field ≡ 11) ⊎ (field ≡ 12) → ⊥) → error_code number place field ≡ 103
  unfolding error_code
  unlisted_code e n = rw e (at (eqb place 0) (eqb field 11) (eqb field 12) refl refl refl)
    where
      at : (p f g : Bool) → eqb place 0 ≡ p → eqb field 11 ≡ f → eqb field 12 ≡ g → ◌≡◌ {A = ℕ} (cond (p && f) 202 (cond (p && g) 203 103)) 103
      at true true g u v w = absurd (n (eqb-true place 0 u) (inl (eqb-true field 11 v)))
      at true false true u v w = absurd (n (eqb-true place 0 u) (inr (eqb-true field 12 w)))
      at true false false u v w = refl
      at false f g u v w = refl

module _ (r : FaultRecord) where
  -- the code that is told is the definition's
  code_so : {c : List ℕ} → TellsCode r c → c ≡ coded r (number_of r.kind)
  unfolding error_code digits_of
  code_so (misplaced e) = sym (ap (coded r) e)
  code_so (ended_early e) = sym (ap (coded r) e)
  code_so (missing e) = sym (ap (coded r) e)
  code_so (null e) = sym (ap (coded r) e)
  code_so (without_type e) = sym (ap (coded r) e)
  code_so (breaks_form e) = sym (ap (coded r) e)
  code_so (too_long e) = sym (ap (coded r) e)
  code_so (repeated e) = sym (ap (coded r) e)
  code_so (processing e p f) = sym (ap numeral (processing_code (number_of r.kind) r.place r.field e p f))
  code_so (version e p f) = sym (ap numeral (version_code (number_of r.kind) r.place r.field e p f))
  code_so (unlisted e n) = sym (ap numeral (unlisted_code (number_of r.kind) r.place r.field e n))
  code_so (unsupported e) = sym (ap (coded r) e)
  code_so (unread a b) = sym (ap numeral (reading_code (number_of r.kind) r.place r.field b))

pub one_code : (r : FaultRecord) {c d : List ℕ} → TellsCode r c → TellsCode r d → c ≡ d
one_code r x y = code_so r x ∙ sym (code_so r y)

-- the same of the place: whoever tells it, it is one of four by the number
module _ (m : List ℕ) (r : FaultRecord) where
  abbrev by_number : ℕ → List (List ℕ)
  by_number n =
      cond (leb n 8 || eqb n 22) ([] ∷ [] ∷ [] ∷ [])
      (cond (eqb n 20) (ascii "MSH" ∷ ascii "1" ∷ ascii "9" ∷ [])
      (take 3 (faulty m r.place) ∷ numeral (sequence_of m r.place) ∷ cond (eqb n 21) [] (numeral r.field) ∷ []))

  place_so : {a b c : List ℕ} → TellsPlace m r a b c → a ∷ b ∷ c ∷ [] ≡ by_number (number_of r.kind)
  place_so (not_read p q) = rw (le-leb (number_of r.kind) 8 q)
  place_so (at_the_end e) = sym (ap by_number e)
  place_so (at_the_type e) = sym (ap by_number e)
  place_so (at_a_segment e l) =
      let q = located_so m r.place l in
      (λ i. q.0 i ∷ numeral (q.1 i) ∷ [] ∷ []) ∙ sym (ap by_number e)
  place_so (at_a_field p q l) =
      let k = located_so m r.place l in
      let n = number_of r.kind in
      (λ i. k.0 i ∷ numeral (k.1 i) ∷ numeral r.field ∷ [])
      ∙ sym (rw (lt-leb n 8 (omega arith), ne_eqb n 22 (λ e. omega arith), ne_eqb n 20 (λ e. omega arith), ne_eqb n 21 (λ e. omega arith)))

  pub one_place : {a b c x y z : List ℕ} → TellsPlace m r a b c → TellsPlace m r x y z → (a ≡ x) × (b ≡ y) × (c ≡ z)
  one_place s t =
      let e = place_so s ∙ sym (place_so t) in
      (ap (λ (l : List (List ℕ)). get_or l 0 []) e, ap (λ (l : List (List ℕ)). get_or l 1 []) e, ap (λ (l : List (List ℕ)). get_or l 2 []) e)
