-- What an accepted message is: `reading` passes exactly the lists of bytes that are a `Message`. Later proofs cite `accepted` for what holds of a
-- message that was read. Assumes nothing.
use mathlib.Core.Path.{◌≡◌, refl, sym, ap, subst, ◌∙◌}
use mathlib.Core.List.{List, [], ◌∷◌, ◌++◌}
use mathlib.Core.Bool.{Bool, true, false, not, cond, ◌&&◌}
use Prim.Native.Nat.{ℕ, zero, suc, ◌+◌, ◌-◌, ◌≤◌, ◌<◌}
use native.Mathlib.Nat.{add-zero}
use native.Mathlib.Omega.{arith}
use lib.Dec.{leb, ltb, eqb}
use lib.ListN.{length, get_or, length-append}
use lib.Seq.{get_or-append-add}
use borrow.Author.Tests.{leb-true, leb-false, ltb-true, ltb-false, eqb-true, eqb-false, not-false, le-leb, le-ltb, lt-ltb, eq-eqb, ne_eqb}
use Rattle.alphabet.specs.Answers.{fails_if, in_order, passes}
use Rattle.alphabet.specs.Bytes.{carriage_return, allowed, not_allowed}
use Rattle.alphabet.specs.Delimiters.{first_wrong_delimiter}
use Rattle.alphabet.specs.Limits.{message_limit, segment_limit}
use Rattle.alphabet.specs.Lists.{first}
use Rattle.alphabet.specs.Parts.{grown, split}
use Rattle.alphabet.specs.declared.answers.Refusal.TheVariants.{Length, Header, Delimiter, NotAllowed, NotEnded, SegmentName, SecondHeader, TooManySegments}
use Rattle.alphabet.proofs.BoolLaws.{and_both, both_and, or_neither, neither_or}
use Rattle.alphabet.proofs.CheckLaws.{both_pass, passes_if, passes_not, passes_or}
use Rattle.alphabet.proofs.DelimiterLaws.{wrong_most}
use Rattle.alphabet.proofs.ListLaws.{first_before, first_none}
use Rattle.alphabet.proofs.PartLaws.{split_some}
use Rattle.reading.specs.Segments.{all_but_last, segments, delimiters_of, field_separator, named, is_header}
use Rattle.reading.specs.Reading.{length_check, headed, header_check, delimiter_check, byte_check, opening, end_check, segment_check, segment_checks, segments_check, reading}
use Rattle.reading.specs.Message.{ended, Opened, Message}
use Rattle.reading.proofs.SegmentLaws.{but_last_cons}

-- ---- bytes that end in CR are their segments, each ended by CR

ended_all : (m : List ℕ) (k : ℕ) → length m ≡ suc k → get_or m k 0 ≡ carriage_return → ended (all_but_last (split carriage_return m)) ≡ m
unfolding ended split all_but_last
ended_all [] k n e = absurd (omega arith)
ended_all (b ∷ []) zero n e = rw e
ended_all (b ∷ []) (suc k) n e = absurd (omega arith)
ended_all (b ∷ c ∷ r) zero n e = absurd (omega arith)
ended_all (b ∷ c ∷ r) (suc k) n e =
    at (eqb carriage_return b) refl (split carriage_return (c ∷ r)) (split_some carriage_return (c ∷ r)) (ended_all (c ∷ r) k (omega arith) e)
  where
    at : (t : Bool) → eqb carriage_return b ≡ t → (ps : List (List ℕ)) → 1 ≤ length ps → ended (all_but_last ps) ≡ c ∷ r
        → ended (all_but_last (cond t ([] ∷ ps) (grown b ps))) ≡ b ∷ c ∷ r
    at true q ps h i = ap ended (but_last_cons [] ps h) ∙ rw (i, ← eqb-true carriage_return b q)
    at false q [] h i = absurd (omega arith)
    at false q (p ∷ []) h i = absurd (let z = ap length i in omega arith)
    at false q (p ∷ p' ∷ ps) h i = ap (λ (l : List ℕ). b ∷ l) i

ended_some : (ss : List (List ℕ)) → 1 ≤ length (ended ss) → 1 ≤ length ss
unfolding ended
ended_some [] h = absurd (omega arith)
ended_some (s ∷ ss) h = omega arith

-- the last byte of some segments, each ended by CR
ended_last : (ss : List (List ℕ)) → 1 ≤ length ss → (1 ≤ length (ended ss)) × (get_or (ended ss) (length (ended ss) - 1) 0 ≡ carriage_return)
unfolding ended
ended_last [] h = absurd (omega arith)
ended_last (s ∷ []) h =
    let n = length-append s (carriage_return ∷ []) in
    let e : length (s ++ carriage_return ∷ []) - 1 ≡ length s + 0 = omega arith in
    (omega arith, ap (λ (i : ℕ). get_or (s ++ carriage_return ∷ []) i 0) e ∙ get_or-append-add s (carriage_return ∷ []) 0 0)
ended_last (s ∷ s' ∷ ss) h = at (ended (s' ∷ ss)) (ended_last (s' ∷ ss) (omega arith))
  where
    at : (l : List ℕ) → (1 ≤ length l) × (get_or l (length l - 1) 0 ≡ carriage_return)
        → (1 ≤ length (s ++ carriage_return ∷ l)) × (get_or (s ++ carriage_return ∷ l) (length (s ++ carriage_return ∷ l) - 1) 0 ≡ carriage_return)
    at l i =
        let i0 = i.0 in
        let n = length-append s (carriage_return ∷ l) in
        let e : length (s ++ carriage_return ∷ l) - 1 ≡ length s + suc (length l - 1) = omega arith in
        (omega arith, ap (λ (j : ℕ). get_or (s ++ carriage_return ∷ l) j 0) e ∙ get_or-append-add s (carriage_return ∷ l) (suc (length l - 1)) 0 ∙ i.1)

-- ---- the segments' checks pass exactly where each segment's does

not_both : (t u : Bool) → (t ≡ true → u ≡ false) → (t && u) ≡ false
not_both true u h = h refl
not_both false u h = refl

positive : (n : ℕ) → (n ≡ 0 → ⊥) → 1 ≤ n
positive zero h = absurd (h refl)
positive (suc n) h = omega arith

-- where no number below n is the limit, n is at most the limit
bounded : (n limit : ℕ) → ((j : ℕ) → j < n → 0 + j ≡ limit → ⊥) → n ≤ limit
bounded n limit h = at (leb n limit) refl
  where
    at : (t : Bool) → leb n limit ≡ t → n ≤ limit
    at true e = leb-true n limit e
    at false e = absurd (h limit (leb-false n limit e) (omega arith))

-- what the check of segment k asks of its bytes
pub record Sound (sep k : ℕ) (s : List ℕ) : Type 0 where
  pub below : k ≡ segment_limit → ⊥
  pub well_named : named sep s ≡ true
  pub no_second : 0 < k → is_header s ≡ false

sound : (sep k at : ℕ) (s : List ℕ) → segment_check sep k at s ≡ passes → Sound sep k s
sound sep k at s e =
    let a = both_pass (fails_if (eqb k segment_limit) TooManySegments at) _ e in
    let b = both_pass (fails_if (not (named sep s)) SegmentName at) _ a.1 in
    let c = both_pass (fails_if (ltb 0 k && is_header s) SecondHeader at) passes b.1 in
    record {
      below = eqb-false k segment_limit (passes_not _ TooManySegments at a.0);
      well_named = not-false (named sep s) (passes_not _ SegmentName at b.0);
      no_second = λ h. ap (λ (t : Bool). t && is_header s) (sym (lt-ltb 0 k h)) ∙ passes_not (ltb 0 k && is_header s) SecondHeader at c.0;
    }

checks_sound : (sep k at : ℕ) (ss : List (List ℕ)) → in_order (segment_checks sep k at ss) ≡ passes → (j : ℕ) → j < length ss → Sound sep (k + j) (get_or ss j [])
unfolding segment_checks
checks_sound sep k at [] e j h = absurd (omega arith)
checks_sound sep k at (s ∷ ss) e zero h =
    subst (λ (i : ℕ). Sound sep i s) (sym (add-zero k)) (sound sep k at s (both_pass (segment_check sep k at s) _ e).0)
checks_sound sep k at (s ∷ ss) e (suc j) h =
    let n : (k + 1) + j ≡ k + suc j = omega arith in
    subst (λ (i : ℕ). Sound sep i (get_or ss j [])) n
    (checks_sound sep (k + 1) (at + length s + 1) ss (both_pass (segment_check sep k at s) _ e).1 j (omega arith))

passing : (sep k at : ℕ) (s : List ℕ) → Sound sep k s → segment_check sep k at s ≡ passes
passing sep k at s h =
    let again = not_both (ltb 0 k) (is_header s) (λ e. h.no_second (ltb-true 0 k e)) in
    let first = passes_if (ne_eqb k segment_limit h.below) TooManySegments at in
    let second = passes_if (ap not h.well_named) SegmentName at in
    let third = passes_if again SecondHeader at in
    rw (first, second, third)

checks_pass : (sep k at : ℕ) (ss : List (List ℕ)) → ((j : ℕ) → j < length ss → Sound sep (k + j) (get_or ss j [])) → in_order (segment_checks sep k at ss) ≡ passes
unfolding segment_checks
checks_pass sep k at [] h = refl
checks_pass sep k at (s ∷ ss) h =
    let here = passing sep k at s (subst (λ (i : ℕ). Sound sep i s) (add-zero k) (h 0 (omega arith))) in
    let later = checks_pass sep (k + 1) (at + length s + 1) ss
    (λ j l. let n : k + suc j ≡ (k + 1) + j = omega arith in subst (λ (i : ℕ). Sound sep i (get_or ss j [])) n (h (suc j) (omega arith))) in
    passes_or here (in_order (segment_checks sep (k + 1) (at + length s + 1) ss)) ∙ later

-- ---- checks 1 to 4 pass, and `Opened`

pub opened_if : (m : List ℕ) → opening m ≡ passes → Opened m
unfolding opening
opened_if m e =
    let a = both_pass (length_check m) _ e in
    let b = both_pass (header_check m) _ a.1 in
    let c = both_pass (delimiter_check m) _ b.1 in
    let d = both_pass (byte_check m) passes c.1 in
    let size = or_neither (eqb (length m) 0) (ltb message_limit (length m)) (passes_not _ Length 0 a.0) in
    let head = and_both (leb 9 (length m)) _ (not-false (headed m) (passes_not _ Header 0 b.0)) in
    let name = and_both (is_header m) _ head.1 in
    let least = ltb-false (first_wrong_delimiter (delimiters_of m)) 5 (passes_not _ Delimiter (3 + first_wrong_delimiter (delimiters_of m)) c.0) in
    let most = wrong_most (delimiters_of m) in
    let clean = ltb-false (first not_allowed m) (length m) (passes_not _ NotAllowed (first not_allowed m) d.0) in
    record {
      some_bytes = positive (length m) (eqb-false (length m) 0 size.0);
      most_bytes = ltb-false message_limit (length m) size.1;
      nine_bytes = leb-true 9 (length m) head.0;
      header = name.0;
      byte_eight = name.1;
      delimiters_right = omega arith;
      all_allowed = λ i h. not-false (allowed (get_or m i 0)) (first_before not_allowed m i (omega arith));
    }

pub opening_if : (m : List ℕ) → Opened m → opening m ≡ passes
unfolding opening
opening_if m o =
    let lengths = neither_or (ne_eqb (length m) 0 (λ z. let s = o.some_bytes in omega arith)) (le-ltb message_limit (length m) o.most_bytes) in
    let head = both_and (le-leb 9 (length m) o.nine_bytes) (both_and o.header o.byte_eight) in
    let right = le-ltb (first_wrong_delimiter (delimiters_of m)) 5 (let r = o.delimiters_right in omega arith) in
    let clean = first_none not_allowed m (λ i h. ap not (o.all_allowed i h)) in
    let bytes = le-ltb (first not_allowed m) (length m) (omega arith) in
    rw (
      passes_if lengths Length 0,
      passes_if (ap not head) Header 0,
      passes_if right Delimiter (3 + first_wrong_delimiter (delimiters_of m)),
      passes_if bytes NotAllowed (first not_allowed m),
    )

-- ---- all checks pass, and `Message`

pub accepted : (m : List ℕ) → reading m ≡ passes → Message m
unfolding reading segments_check segments
accepted m e =
    let a = both_pass (opening m) _ e in
    let b = both_pass (end_check m) _ a.1 in
    let c = both_pass (segments_check m) passes b.1 in
    let o = opened_if m a.0 in
    let some = o.some_bytes in
    let last = not-false (eqb (get_or m (length m - 1) 0) carriage_return) (passes_not _ NotEnded (length m - 1) b.0) in
    let all = ended_all m (length m - 1) (omega arith) (eqb-true (get_or m (length m - 1) 0) carriage_return last) in
    let n = ap length all in
    let each : (j : ℕ) → j < length (segments m) → Sound (field_separator m) (0 + j) (get_or (segments m) j []) = checks_sound (field_separator m) 0 0 (segments m) c.0 in
    record {
      opened = o;
      all_ended = all;
      some_segments = ended_some (segments m) (omega arith);
      most_segments = bounded (length (segments m)) segment_limit (λ j h. (each j h).below);
      all_named = λ k h. (each k h).well_named;
      one_header = λ k z h. (each k h).no_second (omega arith);
    }

-- a message ends in CR
pub message_last : (m : List ℕ) → Message m → get_or m (length m - 1) 0 ≡ carriage_return
message_last m g =
    subst (λ (x : List ℕ). get_or x (length x - 1) 0 ≡ carriage_return) g.all_ended (ended_last (segments m) g.some_segments).1

pub accepting : (m : List ℕ) → Message m → reading m ≡ passes
unfolding reading segments_check
accepting m g =
    let last = message_last m g in
    let end = passes_if (ap not (eq-eqb (get_or m (length m - 1) 0) carriage_return last)) NotEnded (length m - 1) in
    let each = checks_pass (field_separator m) 0 0 (segments m)
    (λ j h.
    record {
      below = λ q. let n = g.most_segments in absurd (omega arith);
      well_named = g.all_named j h;
      no_second = λ z. g.one_header j (omega arith) h;
    }) in
    rw (opening_if m g.opened, end, each)
