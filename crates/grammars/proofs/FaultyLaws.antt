-- A refusal by the reader is the message's own first fault, at its own place: the checks of `reading` taken one after another. Assumes nothing.
use mathlib.Core.Path.{◌≡◌, refl, sym, ap, ap₂, subst, ◌∙◌}
use mathlib.Core.Logic.{◌⊎◌, inl, inr}
use mathlib.Core.List.{List, [], ◌∷◌, ◌++◌}
use mathlib.Core.Bool.{Bool, true, false, not, ◌&&◌, ◌||◌}
use Prim.Native.Nat.{ℕ, zero, suc, ◌+◌, ◌-◌, ◌≤◌, ◌<◌}
use native.Mathlib.Nat.{add-zero, zero-add}
use native.Mathlib.Omega.{arith}
use lib.Dec.{leb, ltb, eqb}
use lib.ListN.{length, get_or, take, length-append}
use borrow.Author.Tests.{leb-true, leb-false, ltb-true, ltb-false, eqb-true, eqb-false, not-true, not-false, le-leb, lt-ltb, eq-eqb, ne_eqb}
use Rattle.std.specs.Prelude.{Ok, Err}
use Rattle.alphabet.specs.Answers.{fails_if, or_else, in_order, Check, passes, fails}
use Rattle.alphabet.specs.Bytes.{carriage_return, allowed, not_allowed}
use Rattle.alphabet.specs.Delimiters.{permitted, wrong, places, first_wrong_delimiter}
use Rattle.alphabet.specs.Limits.{message_limit, segment_limit}
use Rattle.alphabet.specs.Lists.{first, find}
use Rattle.alphabet.specs.declared.answers.Refusal.{Refusal}
use Rattle.alphabet.specs.declared.answers.Refusal.TheVariants.{Length, Header, Delimiter, NotAllowed, NotEnded, SegmentName, SecondHeader, TooManySegments}
use Rattle.alphabet.proofs.BoolLaws.{and_both, both_and, or_neither, false_true}
use Rattle.alphabet.proofs.CheckLaws.{both_pass, fails_same, fails_if_lem, passes_if, passes_not}
use Rattle.alphabet.proofs.DelimiterLaws.{wrong_most, place_own}
use Rattle.alphabet.proofs.ListLaws.{first_passes, first_before, find_is, first_least}
use Rattle.reading.specs.Segments.{segments, delimiters_of, field_separator, named, is_header}
use Rattle.reading.specs.Reading.{length_check, headed, header_check, delimiter_check, byte_check, opening, end_check, segment_check, segment_checks, segments_check, reading}
use Rattle.reading.specs.Message.{ended}
use Rattle.laws.proofs.OneSpelling.{or_cases}
use Rattle.grammars.specs.Faulty.{Sized, Headed, Wrong, unlisted, again, BadSegment, one_too_many, second, Faulty}

-- ---- checks one after another

-- a check that fails did so by its test
failed : (t : Bool) (kind kind' : Refusal) (place place' : ℕ) → fails_if t kind place ≡ fails kind' place' → (t ≡ true) × (kind ≡ kind') × (place ≡ place')
failed true kind kind' place place' e = let s = fails_same e in (refl, s.0, s.1)
failed false kind kind' place place' e = absurd (let z : ◌≡◌ {A = ℕ} 0 1 = cc in omega arith)

-- of two in order, the first fails, or it passes and the later one fails
either : (c later : Check) (kind : Refusal) (place : ℕ) → or_else c later ≡ fails kind place → (c ≡ fails kind place) ⊎ ((c ≡ passes) × (later ≡ fails kind place))
either (Ok _) later kind place e = inr (refl, e)
either (Err fault) later kind place e = inl e

none_fails : (kind : Refusal) (place : ℕ) → passes ≡ fails kind place → ⊥
none_fails kind place e = let z : ◌≡◌ {A = ℕ} 0 1 = cc in omega arith

-- ---- 1 and 2

not_sized : (m : List ℕ) → (eqb (length m) 0 || ltb message_limit (length m)) ≡ true → Sized m → ⊥
not_sized m e s = at (or_cases (eqb (length m) 0) (ltb message_limit (length m)) e)
  where
    at : (eqb (length m) 0 ≡ true) ⊎ (ltb message_limit (length m) ≡ true) → ⊥
    at (inl z) = let n = eqb-true (length m) 0 z in let l = s.0 in omega arith
    at (inr z) = let n = ltb-true message_limit (length m) z in let l = s.1 in omega arith

is_sized : (m : List ℕ) → (eqb (length m) 0 || ltb message_limit (length m)) ≡ false → Sized m
is_sized m e =
    let b = or_neither (eqb (length m) 0) (ltb message_limit (length m)) e in
    let n = eqb-false (length m) 0 b.0 in
    (some (length m) n, ltb-false message_limit (length m) b.1)
  where
    some : (n : ℕ) → (n ≡ 0 → ⊥) → 1 ≤ n
    some zero h = absurd (h refl)
    some (suc n) h = omega arith

headed_is : (m : List ℕ) → headed m ≡ true → Headed m
headed_is m e =
    let a = and_both (leb 9 (length m)) _ e in
    let b = and_both (is_header m) _ a.1 in
    let c = and_both (eqb (get_or m 0 0) 77) _ b.0 in
    let d = and_both (eqb (get_or m 1 0) 83) (eqb (get_or m 2 0) 72) c.1 in
    record {
      nine = leb-true 9 (length m) a.0;
      name = (eqb-true (get_or m 0 0) 77 c.0, eqb-true (get_or m 1 0) 83 d.0, eqb-true (get_or m 2 0) 72 d.1);
      eight = at (or_cases (eqb (get_or m 8 0) (field_separator m)) (eqb (get_or m 8 0) carriage_return) b.1);
    }
  where
    at : (eqb (get_or m 8 0) (field_separator m) ≡ true) ⊎ (eqb (get_or m 8 0) carriage_return ≡ true) → (get_or m 8 0 ≡ get_or m 3 0) ⊎ (get_or m 8 0 ≡ carriage_return)
    at (inl z) = inl (eqb-true (get_or m 8 0) (field_separator m) z)
    at (inr z) = inr (eqb-true (get_or m 8 0) carriage_return z)

is_headed : (m : List ℕ) → Headed m → headed m ≡ true
is_headed m h =
    both_and (le-leb 9 (length m) h.nine)
    (both_and (both_and (eq-eqb (get_or m 0 0) 77 h.name.0) (both_and (eq-eqb (get_or m 1 0) 83 h.name.1) (eq-eqb (get_or m 2 0) 72 h.name.2))) (at h.eight))
  where
    or_right : (s : Bool) → (s || true) ≡ true
    or_right true = refl
    or_right false = refl

    at : (get_or m 8 0 ≡ get_or m 3 0) ⊎ (get_or m 8 0 ≡ carriage_return) → (eqb (get_or m 8 0) (field_separator m) || eqb (get_or m 8 0) carriage_return) ≡ true
    at (inl z) = rw (eq-eqb (get_or m 8 0) (field_separator m) z)
    at (inr z) = rw (eq-eqb (get_or m 8 0) carriage_return z) (or_right (eqb (get_or m 8 0) (field_separator m)))

-- ---- 3

-- the delimiter of place i stands at place 3 + i of the message
stands : (m : List ℕ) (i : ℕ) → i < 5 → get_or (delimiters_of m) i 0 ≡ get_or m (3 + i) 0
stands m zero h = refl
stands m (suc zero) h = refl
stands m (suc (suc zero)) h = refl
stands m (suc (suc (suc zero))) h = refl
stands m (suc (suc (suc (suc zero)))) h = refl
stands m (suc (suc (suc (suc (suc i))))) h = absurd (omega arith)

wrong_at : (m : List ℕ) (i : ℕ) → i < 5 → wrong (delimiters_of m) i ≡ true → Wrong m (3 + i)
wrong_at m i h e = at (or_cases (not (permitted (get_or (delimiters_of m) i 0))) (ltb (find (get_or (delimiters_of m) i 0) (delimiters_of m)) i) e)
  where
    q : ℕ
    q = find (get_or (delimiters_of m) i 0) (delimiters_of m)

    at : (not (permitted (get_or (delimiters_of m) i 0)) ≡ true) ⊎ (ltb q i ≡ true) → Wrong m (3 + i)
    at (inl z) = unlisted (ap permitted (sym (stands m i h)) ∙ not-true _ z)
    at (inr z) =
        let l = ltb-true q i z in
        again (3 + q) (omega arith) (omega arith) (sym (stands m q (omega arith)) ∙ find_is (get_or (delimiters_of m) i 0) (delimiters_of m) (omega arith) ∙ stands m i h)

at_wrong : (m : List ℕ) (i : ℕ) → i < 5 → wrong (delimiters_of m) i ≡ false → Wrong m (3 + i) → ⊥
at_wrong m i h e w = at w
  where
    b : (not (permitted (get_or (delimiters_of m) i 0)) ≡ false) × (ltb (find (get_or (delimiters_of m) i 0) (delimiters_of m)) i ≡ false)
    b = or_neither (not (permitted (get_or (delimiters_of m) i 0))) (ltb (find (get_or (delimiters_of m) i 0) (delimiters_of m)) i) e

    at : Wrong m (3 + i) → ⊥
    at (unlisted z) = false_true (sym z ∙ ap permitted (sym (stands m i h)) ∙ not-false _ b.0)
    at (again q l k s) =
        let j : 3 + (q - 3) ≡ q = omega arith in
        let same : get_or (delimiters_of m) (q - 3) 0 ≡ get_or (delimiters_of m) i 0 = stands m (q - 3) (omega arith) ∙ ap (λ (x : ℕ). get_or m x 0) j ∙ s ∙ sym (stands m i h) in
        let f = first_least (eqb (get_or (delimiters_of m) i 0)) (delimiters_of m) (q - 3) (omega arith) (eq-eqb (get_or (delimiters_of m) i 0) (get_or (delimiters_of m) (q - 3) 0) (sym same)) in
        let n = ltb-false (find (get_or (delimiters_of m) i 0) (delimiters_of m)) i b.1 in
        omega arith

wrong_here : (m : List ℕ) → first_wrong_delimiter (delimiters_of m) < 5 → Wrong m (3 + first_wrong_delimiter (delimiters_of m))
unfolding first_wrong_delimiter
wrong_here m h =
    let i = first (wrong (delimiters_of m)) places in
    wrong_at m i h (ap (wrong (delimiters_of m)) (sym (place_own i h)) ∙ first_passes (wrong (delimiters_of m)) places h)

right_before : (m : List ℕ) (q : ℕ) → 3 ≤ q → q < 3 + first_wrong_delimiter (delimiters_of m) → q < 8 → Wrong m q → ⊥
unfolding first_wrong_delimiter
right_before m q l h k w =
    let i = q - 3 in
    let j : q ≡ 3 + (q - 3) = omega arith in
    at_wrong m i (omega arith) (ap (wrong (delimiters_of m)) (sym (place_own i (omega arith))) ∙ first_before (wrong (delimiters_of m)) places i (omega arith)) (subst (Wrong m) j w)

-- ---- 6, 7 and 8

segment_failed : (m : List ℕ) (k at : ℕ) (kind : Refusal) (place : ℕ) → segment_check (field_separator m) k at (get_or (segments m) k []) ≡ fails kind place → (place ≡ at) × BadSegment m k kind
segment_failed m k at kind place e = one (either (fails_if (eqb k segment_limit) TooManySegments at) _ kind place e)
  where
    s : List ℕ
    s = get_or (segments m) k []

    three : (eqb k segment_limit ≡ false) → (named (field_separator m) s ≡ true) → fails_if (ltb 0 k && is_header s) SecondHeader at ≡ fails kind place → (place ≡ at) × BadSegment m k kind
    three n g f =
        let d = failed (ltb 0 k && is_header s) SecondHeader kind at place f in
        let b = and_both (ltb 0 k) (is_header s) d.0 in
        (sym d.2, subst (BadSegment m k) d.1 (second (eqb-false k segment_limit n) g (ltb-true 0 k b.0) b.1))

    last : (eqb k segment_limit ≡ false) → (named (field_separator m) s ≡ true)
        → (fails_if (ltb 0 k && is_header s) SecondHeader at ≡ fails kind place) ⊎ ((fails_if (ltb 0 k && is_header s) SecondHeader at ≡ passes) × (passes ≡ fails kind place)) → (place ≡ at) × BadSegment m k kind
    last n g (inl f) = three n g f
    last n g (inr f) = absurd (none_fails kind place f.1)

    two : (eqb k segment_limit ≡ false) → (fails_if (not (named (field_separator m) s)) SegmentName at ≡ fails kind place) ⊎ ((fails_if (not (named (field_separator m) s)) SegmentName at ≡ passes) × (in_order (fails_if (ltb 0 k && is_header s) SecondHeader at ∷ []) ≡ fails kind place)) → (place ≡ at) × BadSegment m k kind
    two n (inl f) =
        let d = failed (not (named (field_separator m) s)) SegmentName kind at place f in
        (sym d.2, subst (BadSegment m k) d.1 (BadSegment.name (eqb-false k segment_limit n) (not-true _ d.0)))
    two n (inr f) = last n (not-false _ (passes_not _ SegmentName at f.0)) (either (fails_if (ltb 0 k && is_header s) SecondHeader at) passes kind place f.1)

    one : (fails_if (eqb k segment_limit) TooManySegments at ≡ fails kind place) ⊎ ((fails_if (eqb k segment_limit) TooManySegments at ≡ passes) × (in_order (fails_if (not (named (field_separator m) s)) SegmentName at ∷ fails_if (ltb 0 k && is_header s) SecondHeader at ∷ []) ≡ fails kind place)) → (place ≡ at) × BadSegment m k kind
    one (inl f) =
        let d = failed (eqb k segment_limit) TooManySegments kind at place f in
        (sym d.2, subst (BadSegment m k) d.1 (one_too_many (eqb-true k segment_limit d.0)))
    one (inr f) = two (passes_not _ TooManySegments at f.0) (either (fails_if (not (named (field_separator m) s)) SegmentName at) _ kind place f.1)

segment_sound : (m : List ℕ) (k at : ℕ) → segment_check (field_separator m) k at (get_or (segments m) k []) ≡ passes → (other : Refusal) → BadSegment m k other → ⊥
segment_sound m k at e other bad =
    let a = both_pass (fails_if (eqb k segment_limit) TooManySegments at) _ e in
    let b = both_pass (fails_if (not (named (field_separator m) (get_or (segments m) k []))) SegmentName at) _ a.1 in
    let c = both_pass (fails_if (ltb 0 k && is_header (get_or (segments m) k [])) SecondHeader at) passes b.1 in
    against (eqb-false k segment_limit (passes_not _ TooManySegments at a.0)) (not-false _ (passes_not _ SegmentName at b.0)) (passes_not _ SecondHeader at c.0) bad
  where
    against : (k ≡ segment_limit → ⊥) → named (field_separator m) (get_or (segments m) k []) ≡ true → (ltb 0 k && is_header (get_or (segments m) k [])) ≡ false → {other : Refusal} → BadSegment m k other → ⊥
    against n g f (one_too_many z) = n z
    against n g f (BadSegment.name z w) = false_true (sym w ∙ g)
    against n g f (second z w l h) = false_true (sym f ∙ both_and (lt-ltb 0 k l) h)

-- one segment on: its number, and where its first byte stands
shift : (sep k at : ℕ) (s : List ℕ) (ss : List (List ℕ)) (j : ℕ) (c : Check)
    → segment_check sep (k + 1 + j) (at + length s + 1 + length (ended (take j ss))) (get_or ss j []) ≡ c
    → segment_check sep (k + suc j) (at + length (ended (take (suc j) (s ∷ ss)))) (get_or ss j []) ≡ c
unfolding ended
shift sep k at s ss j c q =
    let l = length-append s (carriage_return ∷ ended (take j ss)) in
    let n : k + suc j ≡ k + 1 + j = omega arith in
    let further : at + length (s ++ carriage_return ∷ ended (take j ss)) ≡ at + length s + 1 + length (ended (take j ss)) = omega arith in
    ap₂ (λ (x y : ℕ). segment_check sep x y (get_or ss j [])) n further ∙ q

-- where all checks pass, each does
all_pass : (m : List ℕ) (ss : List (List ℕ)) (k at : ℕ) → in_order (segment_checks (field_separator m) k at ss) ≡ passes → (j : ℕ) → j < length ss
    → segment_check (field_separator m) (k + j) (at + length (ended (take j ss))) (get_or ss j []) ≡ passes
unfolding segment_checks ended
all_pass m [] k at e j h = absurd (omega arith)
all_pass m (s ∷ ss) k at e zero h = ap₂ (λ (x y : ℕ). segment_check (field_separator m) x y s) (add-zero k) (add-zero at) ∙ (both_pass (segment_check (field_separator m) k at s) _ e).0
all_pass m (s ∷ ss) k at e (suc j) h =
    shift (field_separator m) k at s ss j passes (all_pass m ss (k + 1) (at + length s + 1) (both_pass (segment_check (field_separator m) k at s) _ e).1 j (omega arith))

-- the first segment whose check fails: those before it pass, and its place is that of its first byte
pub record Failing (m : List ℕ) (ss : List (List ℕ)) (k at : ℕ) (kind : Refusal) (place : ℕ) : Type 0 where
  pub number : ℕ
  pub inside : number < length ss
  pub passed : (j : ℕ) → j < number → segment_check (field_separator m) (k + j) (at + length (ended (take j ss))) (get_or ss j []) ≡ passes
  pub fails : segment_check (field_separator m) (k + number) (at + length (ended (take number ss))) (get_or ss number []) ≡ fails kind place

first_failing : (m : List ℕ) (ss : List (List ℕ)) (k at : ℕ) (kind : Refusal) (place : ℕ) → in_order (segment_checks (field_separator m) k at ss) ≡ fails kind place → Failing m ss k at kind place
unfolding segment_checks ended
first_failing m [] k at kind place e = absurd (none_fails kind place e)
first_failing m (s ∷ ss) k at kind place e = by (either (segment_check (field_separator m) k at s) _ kind place e) (first_failing m ss (k + 1) (at + length s + 1) kind place)
  where
    sep : ℕ
    sep = field_separator m

    by : (segment_check sep k at s ≡ fails kind place) ⊎ ((segment_check sep k at s ≡ passes) × (in_order (segment_checks sep (k + 1) (at + length s + 1) ss) ≡ fails kind place))
        → (in_order (segment_checks sep (k + 1) (at + length s + 1) ss) ≡ fails kind place → Failing m ss (k + 1) (at + length s + 1) kind place)
        → Failing m (s ∷ ss) k at kind place
    by (inl f) ih = record {
      number = 0;
      inside = omega arith;
      passed = λ j h. absurd (omega arith);
      fails = ap₂ (λ (x y : ℕ). segment_check sep x y s) (add-zero k) (add-zero at) ∙ f;
    }
    by (inr f) ih =
        let r = ih f.1 in
        let i = r.inside in
        record {
          number = suc r.number;
          inside = omega arith;
          passed = λ j. before j r;
          fails = shift sep k at s ss r.number (fails kind place) r.fails;
        }
      where
        before : (j : ℕ) (r : Failing m ss (k + 1) (at + length s + 1) kind place) → j < suc r.number
            → segment_check sep (k + j) (at + length (ended (take j (s ∷ ss)))) (get_or (s ∷ ss) j []) ≡ passes
        before zero r h = ap₂ (λ (x y : ℕ). segment_check sep x y s) (add-zero k) (add-zero at) ∙ f.0
        before (suc j) r h = shift sep k at s ss j passes (r.passed j (omega arith))

-- ---- the reader's refusal

module _ (m : List ℕ) (kind : Refusal) (place : ℕ) where
  sound_bytes : ltb (first not_allowed m) (length m) ≡ false → (q : ℕ) → q < length m → allowed (get_or m q 0) ≡ true
  sound_bytes e q h = let n = ltb-false (first not_allowed m) (length m) e in not-false _ (first_before not_allowed m q (omega arith))

  sound_delimiters : ltb (first_wrong_delimiter (delimiters_of m)) 5 ≡ false → (q : ℕ) → 3 ≤ q → q < 8 → Wrong m q → ⊥
  sound_delimiters e q l h = let n = ltb-false (first_wrong_delimiter (delimiters_of m)) 5 e in right_before m q l (omega arith) h

  -- what an opening that passes says
  pub record Sound : Type 0 where
    pub sized : Sized m
    pub header : Headed m
    pub delimiters : (q : ℕ) → 3 ≤ q → q < 8 → Wrong m q → ⊥
    pub bytes : (q : ℕ) → q < length m → allowed (get_or m q 0) ≡ true

  opening_sound : opening m ≡ passes → Sound
  unfolding opening
  opening_sound e =
      let a = both_pass (length_check m) _ e in
      let b = both_pass (header_check m) _ a.1 in
      let c = both_pass (delimiter_check m) _ b.1 in
      let d = both_pass (byte_check m) passes c.1 in
      record {
        sized = is_sized m (passes_not _ Length 0 a.0);
        header = headed_is m (not-false (headed m) (passes_not _ Header 0 b.0));
        delimiters = sound_delimiters (passes_not _ Delimiter (3 + first_wrong_delimiter (delimiters_of m)) c.0);
        bytes = sound_bytes (passes_not _ NotAllowed (first not_allowed m) d.0);
      }

  in_opening : opening m ≡ fails kind place → Faulty m kind place
  unfolding opening
  in_opening e = one (either (length_check m) _ kind place e)
    where
      is : {k : Refusal} {p : ℕ} → k ≡ kind → p ≡ place → Faulty m k p → Faulty m kind place
      is {k} {p} q r f = subst (λ (x : Refusal). Faulty m x place) q (subst (λ (x : ℕ). Faulty m k x) r f)

      four : Sized m → Headed m → (ltb (first_wrong_delimiter (delimiters_of m)) 5 ≡ false) → (byte_check m ≡ fails kind place) ⊎ ((byte_check m ≡ passes) × (passes ≡ fails kind place)) → Faulty m kind place
      four s h g (inl f) =
          let d = failed (ltb (first not_allowed m) (length m)) NotAllowed kind (first not_allowed m) place f in
          let l = ltb-true (first not_allowed m) (length m) d.0 in
          is d.1 d.2 (Faulty.byte s h (sound_delimiters g) (first not_allowed m) l (not-true _ (first_passes not_allowed m l)) (λ q k. not-false _ (first_before not_allowed m q k)))
      four s h g (inr f) = absurd (none_fails kind place f.1)

      three : Sized m → Headed m → (delimiter_check m ≡ fails kind place) ⊎ ((delimiter_check m ≡ passes) × (in_order (byte_check m ∷ []) ≡ fails kind place)) → Faulty m kind place
      three s h (inl f) =
          let d = failed (ltb (first_wrong_delimiter (delimiters_of m)) 5) Delimiter kind (3 + first_wrong_delimiter (delimiters_of m)) place f in
          let l = ltb-true (first_wrong_delimiter (delimiters_of m)) 5 d.0 in
          is d.1 d.2 (Faulty.delimiter s h (3 + first_wrong_delimiter (delimiters_of m)) (omega arith) (omega arith) (wrong_here m l) (λ q k j. right_before m q k j (omega arith)))
      three s h (inr f) = four s h (passes_not _ Delimiter (3 + first_wrong_delimiter (delimiters_of m)) f.0) (either (byte_check m) passes kind place f.1)

      two : Sized m → (header_check m ≡ fails kind place) ⊎ ((header_check m ≡ passes) × (in_order (delimiter_check m ∷ byte_check m ∷ []) ≡ fails kind place)) → Faulty m kind place
      two s (inl f) =
          let d = failed (not (headed m)) Header kind 0 place f in
          is d.1 d.2 (Faulty.header s (λ h. false_true (sym (not-true (headed m) d.0) ∙ is_headed m h)))
      two s (inr f) = three s (headed_is m (not-false (headed m) (passes_not _ Header 0 f.0))) (either (delimiter_check m) _ kind place f.1)

      one : (length_check m ≡ fails kind place) ⊎ ((length_check m ≡ passes) × (in_order (header_check m ∷ delimiter_check m ∷ byte_check m ∷ []) ≡ fails kind place)) → Faulty m kind place
      one (inl f) =
          let d = failed (eqb (length m) 0 || ltb message_limit (length m)) Length kind 0 place f in
          is d.1 d.2 (Faulty.size (not_sized m d.0))
      one (inr f) = two (is_sized m (passes_not _ Length 0 f.0)) (either (header_check m) _ kind place f.1)

  in_segments : Sound → get_or m (length m - 1) 0 ≡ carriage_return → segments_check m ≡ fails kind place → Faulty m kind place
  unfolding segments_check
  in_segments s last e =
      let f = first_failing m (segments m) 0 0 kind place e in
      let b = segment_failed m f.number (0 + length (ended (take f.number (segments m)))) kind place (ap (λ (x : ℕ). segment_check (field_separator m) x (0 + length (ended (take f.number (segments m)))) (get_or (segments m) f.number [])) (sym (zero-add f.number)) ∙ f.fails) in
      subst (Faulty m kind) (sym (b.0 ∙ zero-add (length (ended (take f.number (segments m))))))
      (Faulty.segment s.sized s.header s.delimiters s.bytes last f.number f.inside b.1
      (λ j h. segment_sound m j (0 + length (ended (take j (segments m)))) (ap (λ (x : ℕ). segment_check (field_separator m) x (0 + length (ended (take j (segments m)))) (get_or (segments m) j [])) (sym (zero-add j)) ∙ f.passed j h)))

  pub refused_so : reading m ≡ fails kind place → Faulty m kind place
  unfolding reading
  refused_so e = one (either (opening m) _ kind place e)
    where
      is_last : end_check m ≡ passes → get_or m (length m - 1) 0 ≡ carriage_return
      is_last q = eqb-true _ carriage_return (not-false _ (passes_not _ NotEnded (length m - 1) q))

      three : Sound → end_check m ≡ passes → (segments_check m ≡ fails kind place) ⊎ ((segments_check m ≡ passes) × (passes ≡ fails kind place)) → Faulty m kind place
      three s q (inl f) = in_segments s (is_last q) f
      three s q (inr f) = absurd (none_fails kind place f.1)

      two : Sound → (end_check m ≡ fails kind place) ⊎ ((end_check m ≡ passes) × (in_order (segments_check m ∷ []) ≡ fails kind place)) → Faulty m kind place
      two s (inl f) =
          let d = failed (not (eqb (get_or m (length m - 1) 0) carriage_return)) NotEnded kind (length m - 1) place f in
          let u = Faulty.unended s.sized s.header s.delimiters s.bytes (eqb-false _ carriage_return (not-true _ d.0)) in
          subst (λ (x : Refusal). Faulty m x place) d.1 (subst (λ (x : ℕ). Faulty m NotEnded x) d.2 u)
      two s (inr f) = three s f.0 (either (segments_check m) passes kind place f.1)

      one : (opening m ≡ fails kind place) ⊎ ((opening m ≡ passes) × (in_order (end_check m ∷ segments_check m ∷ []) ≡ fails kind place)) → Faulty m kind place
      one (inl f) = in_opening f
      one (inr f) = two (opening_sound f.0) (either (end_check m) _ kind place f.1)

-- ---- and back: the first fault is what the reader refuses by

bad_once : {m : List ℕ} {k : ℕ} {kind other : Refusal} → BadSegment m k kind → BadSegment m k other → kind ≡ other
bad_once (one_too_many e) (one_too_many f) = refl
bad_once (one_too_many e) (BadSegment.name n w) = absurd (n e)
bad_once (one_too_many e) (second n w l h) = absurd (n e)
bad_once (BadSegment.name n w) (one_too_many f) = absurd (n f)
bad_once (BadSegment.name n w) (BadSegment.name o x) = refl
bad_once (BadSegment.name n w) (second o x l h) = absurd (false_true (sym w ∙ x))
bad_once (second n w l h) (one_too_many f) = absurd (n f)
bad_once (second n w l h) (BadSegment.name o x) = absurd (false_true (sym x ∙ w))
bad_once (second n w l h) (second o x k j) = refl

-- a test whose one answer cannot be
is_true : (t : Bool) → (t ≡ false → ⊥) → t ≡ true
is_true true n = refl
is_true false n = absurd (n refl)

is_false : (t : Bool) → (t ≡ true → ⊥) → t ≡ false
is_false true n = absurd (n refl)
is_false false n = refl

-- two numbers of which neither is less
same_place : (p q : ℕ) → (p < q → ⊥) → (q < p → ⊥) → p ≡ q
same_place p q n o = at (leb (p + 1) q) refl (leb (q + 1) p) refl
  where
    at : (s : Bool) → leb (p + 1) q ≡ s → (t : Bool) → leb (q + 1) p ≡ t → p ≡ q
    at true e t f = let l = leb-true (p + 1) q e in absurd (n (omega arith))
    at false e true f = let l = leb-true (q + 1) p f in absurd (o (omega arith))
    at false e false f = let l = leb-false (p + 1) q e in let k = leb-false (q + 1) p f in omega arith

module _ (m : List ℕ) where
  sized_passes : Sized m → length_check m ≡ passes
  sized_passes s = passes_if (is_false _ (λ e. not_sized m e s)) Length 0

  headed_passes : Headed m → header_check m ≡ passes
  headed_passes h = passes_if (ap not (is_headed m h)) Header 0

  right_passes : ((q : ℕ) → 3 ≤ q → q < 8 → Wrong m q → ⊥) → delimiter_check m ≡ passes
  right_passes n = passes_if (is_false _ (λ e. let l = ltb-true (first_wrong_delimiter (delimiters_of m)) 5 e in n _ (omega arith) (omega arith) (wrong_here m l))) Delimiter _

  clean_passes : ((q : ℕ) → q < length m → allowed (get_or m q 0) ≡ true) → byte_check m ≡ passes
  clean_passes n =
      passes_if (is_false _ (λ e. let l = ltb-true (first not_allowed m) (length m) e in false_true (sym (not-true _ (first_passes not_allowed m l)) ∙ n _ l))) NotAllowed _

  opened : Sized m → Headed m → ((q : ℕ) → 3 ≤ q → q < 8 → Wrong m q → ⊥) → ((q : ℕ) → q < length m → allowed (get_or m q 0) ≡ true) → opening m ≡ passes
  unfolding opening
  opened s h d b = rw (sized_passes s, headed_passes h, right_passes d, clean_passes b)

  abbrev start : ℕ → ℕ
  start j = 0 + length (ended (take j (segments m)))

  segments_fail : {kind : Refusal} (k : ℕ) → k < length (segments m) → BadSegment m k kind → ((j : ℕ) → j < k → (other : Refusal) → BadSegment m j other → ⊥)
      → segments_check m ≡ fails kind (length (ended (take k (segments m))))
  unfolding segments_check
  segments_fail {kind} k inside bad n = at (in_order (segment_checks (field_separator m) 0 0 (segments m))) refl
    where
      own : (j : ℕ) (c : Check) → segment_check (field_separator m) (0 + j) (start j) (get_or (segments m) j []) ≡ c → segment_check (field_separator m) j (start j) (get_or (segments m) j []) ≡ c
      own j c q = ap (λ (x : ℕ). segment_check (field_separator m) x (start j) (get_or (segments m) j [])) (sym (zero-add j)) ∙ q

      at : (c : Check) → in_order (segment_checks (field_separator m) 0 0 (segments m)) ≡ c → c ≡ fails kind (length (ended (take k (segments m))))
      at (Ok _) e = absurd (segment_sound m k (start k) (own k passes (all_pass m (segments m) 0 0 e k inside)) kind bad)
      at (Err fault) e =
          let f = first_failing m (segments m) 0 0 fault.kind fault.place e in
          let b = segment_failed m f.number (start f.number) fault.kind fault.place (own f.number (fails fault.kind fault.place) f.fails) in
          let same : f.number ≡ k = same_place f.number k (λ l. n f.number l fault.kind b.1) (λ l. segment_sound m k (start k) (own k passes (f.passed k l)) kind bad) in
          let kinds = bad_once (subst (λ (x : ℕ). BadSegment m x fault.kind) same b.1) bad in
          let places = b.0 ∙ zero-add (length (ended (take f.number (segments m)))) ∙ ap (λ (x : ℕ). length (ended (take x (segments m)))) same in
          ap₂ fails kinds places

  pub faulty_so : {kind : Refusal} {place : ℕ} → Faulty m kind place → reading m ≡ fails kind place
  unfolding reading opening
  faulty_so (Faulty.size n) = rw (fails_if_lem (is_true _ (λ e. n (is_sized m e))) Length 0)
  faulty_so (Faulty.header s n) = rw (sized_passes s, fails_if_lem (ap not (is_false (headed m) (λ e. n (headed_is m e)))) Header 0)
  faulty_so (Faulty.delimiter s h p l k w n) =
      let most = wrong_most (delimiters_of m) in
      let same : 3 + first_wrong_delimiter (delimiters_of m) ≡ p = same_place (3 + first_wrong_delimiter (delimiters_of m)) p (λ q. n _ (omega arith) q (wrong_here m (omega arith))) (λ q. right_before m p l q k w) in
      let d = fails_if_lem (lt-ltb (first_wrong_delimiter (delimiters_of m)) 5 (omega arith)) Delimiter (3 + first_wrong_delimiter (delimiters_of m)) in
      rw (sized_passes s, headed_passes h, d, same)
  faulty_so (Faulty.byte s h d p l f n) =
      let same : first not_allowed m ≡ p = same_place (first not_allowed m) p (λ q. false_true (sym (not-true _ (first_passes not_allowed m (omega arith))) ∙ n _ q)) (λ q. false_true (sym f ∙ not-false _ (first_before not_allowed m p q))) in
      let b = fails_if_lem (lt-ltb (first not_allowed m) (length m) (omega arith)) NotAllowed (first not_allowed m) in
      rw (sized_passes s, headed_passes h, right_passes d, b, same)
  faulty_so (Faulty.unended s h d b n) =
      let e = fails_if_lem (ap not (ne_eqb (get_or m (length m - 1) 0) carriage_return n)) NotEnded (length m - 1) in
      rw (sized_passes s, headed_passes h, right_passes d, clean_passes b, e)
  faulty_so (Faulty.segment s h d b last k inside bad n) =
      let e = passes_if (ap not (eq-eqb (get_or m (length m - 1) 0) carriage_return last)) NotEnded (length m - 1) in
      rw (sized_passes s, headed_passes h, right_passes d, clean_passes b, e, segments_fail k inside bad n)
