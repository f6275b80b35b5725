-- What one byte that ends a leaf does to a walk, from what reading says of the message: its delimiters are apart, and a CR is still to come. Assumes nothing.
use mathlib.Core.Path.{◌≡◌, refl, sym, ap, ◌∙◌, subst}
use mathlib.Core.List.{List, ◌∷◌, ◌++◌}
use mathlib.Core.Bool.{Bool, true, false, cond}
use Prim.Native.Nat.{ℕ, ◌+◌, ◌-◌, ◌*◌, ◌≤◌, ◌<◌}
use native.Mathlib.Omega.{arith}
use lib.Dec.{eqb}
use lib.ListN.{length, get_or, take, drop, length-drop, take-append-drop}
use lib.Seq.{length-take-le, get_or-drop, get_or-take, drop-drop}
use lib.Bits.{bit_and}
use lib.Count.{count_trailing_zeros}
use borrow.Author.Tests.{ne_eqb, eqb-true, eqb-false, lt-ltb, ltb-true}
use Rattle.alphabet.specs.Answers.{passes}
use Rattle.alphabet.specs.Bytes.{carriage_return}
use Rattle.alphabet.specs.Lists.{first, find, among}
use Rattle.alphabet.specs.Limits.{message_limit}
use Rattle.alphabet.specs.Delimiters.{permitted}
use Rattle.alphabet.proofs.BoolLaws.{false_true}
use Rattle.alphabet.proofs.DelimiterLaws.{delimiters_differ, delimiter_permitted}
use Rattle.alphabet.proofs.ListLaws.{drop_next, first_before, first_none, first_block, first_passes, find_own}
use Rattle.reading.specs.Segments.{delimiters_of}
use Rattle.reading.specs.Reading.{reading}
use Rattle.reading.proofs.Accepted.{accepted, message_last}
use Rattle.reading.proofs.SegmentLaws.{ended_last}
use Rattle.element.specs.Levels.{between}
use Rattle.element.specs.declared.address.Address.{Address}
use Rattle.element.proofs.LevelLaws.{between_length}
use Rattle.leaves.specs.Leaves.{addressed, rows}
use Rattle.leaves.specs.Walks.{ends_of, here_in, Plain, passed, AtMost, Reached, Marks, Ends, marked_from, rest_from, rest_rows}
use Rattle.leaves.proofs.LevelLaws.{Apart, Clear}
use Rattle.leaves.proofs.RestLaws.{advance}
use Rattle.leaves.proofs.RowLaws.{rows_append}
use Rattle.leaves.proofs.MarkLaws.{from_none, from_some, from_first, from_clear}

-- where none of five stands, one of them does not
one_of_lem : (five : List ℕ) (x : ℕ) (l : List ℕ) → among five x ≡ true → first (among five) l ≡ length l → find x l ≡ length l
one_of_lem five x l h e = first_none (eqb x) l (λ i k. at i k (eqb x (get_or l i 0)) refl)
  where
    at : (i : ℕ) → i < length l → (t : Bool) → eqb x (get_or l i 0) ≡ t → eqb x (get_or l i 0) ≡ false
    at i k true q = absurd (false_true (sym (first_before (among five) l i (omega arith)) ∙ ap (among five) (sym (eqb-true x (get_or l i 0) q)) ∙ h))
    at i k false q = q

own : (five : List ℕ) (i : ℕ) → length five ≡ 5 → i < 5 → among five (get_or five i 0) ≡ true
own five i n h = let k = find_own five i (omega arith) in lt-ltb (find (get_or five i 0) five) 5 (omega arith)

-- bytes of which none ends a leaf are clear of all five
free_clear : (m p : List ℕ) → first (among (ends_of m)) p ≡ length p → Clear (delimiters_of m) p
free_clear m p e =
    record {
      of_sub = one_of_lem (ends_of m) (get_or m 7 0) p (own (ends_of m) 4 refl (omega arith)) e;
      of_comp = one_of_lem (ends_of m) (get_or m 4 0) p (own (ends_of m) 2 refl (omega arith)) e;
      of_rep = one_of_lem (ends_of m) (get_or m 5 0) p (own (ends_of m) 3 refl (omega arith)) e;
      of_field = one_of_lem (ends_of m) (get_or m 3 0) p (own (ends_of m) 1 refl (omega arith)) e;
      of_end = one_of_lem (ends_of m) carriage_return p (own (ends_of m) 0 refl (omega arith)) e;
    }

pub plain_clear : (m : List ℕ) (start end : ℕ) → start ≤ end → end ≤ length m → Plain m start end → Clear (delimiters_of m) (between m start end)
plain_clear m start end h k w =
    let n = between_length m start end h k in
    free_clear m (between m start end)
    (first_none (among (ends_of m)) (between m start end)
    (λ i j.
    let e = get_or-take (end - start) (drop start m) i 0 (omega arith) in
    ap (among (ends_of m)) e ∙ first_before (among (ends_of m)) (drop start m) i (omega arith)))

-- ---- what reading says

module _ (m : List ℕ) (ok : reading m ≡ passes) where
  pub differ : (i j : ℕ) → i < 5 → j < 5 → (i ≡ j → ⊥) → eqb (get_or (delimiters_of m) i 0) (get_or (delimiters_of m) j 0) ≡ false
  differ i j h k n = ne_eqb _ _ (λ e. n (delimiters_differ (delimiters_of m) refl (accepted m ok).opened.delimiters_right i j h k e))

  pub no_end : (i : ℕ) → i < 5 → eqb carriage_return (get_or (delimiters_of m) i 0) ≡ false
  no_end i h =
      ne_eqb carriage_return (get_or (delimiters_of m) i 0)
      (λ e. false_true (ap permitted e ∙ delimiter_permitted (delimiters_of m) refl (accepted m ok).opened.delimiters_right i h))

  pub apart : Apart (delimiters_of m)
  apart =
      record {
        comp_sub = differ 1 4 (omega arith) (omega arith) (λ e. omega arith);
        rep_sub = differ 2 4 (omega arith) (omega arith) (λ e. omega arith);
        rep_comp = differ 2 1 (omega arith) (omega arith) (λ e. omega arith);
        field_sub = differ 0 4 (omega arith) (omega arith) (λ e. omega arith);
        field_comp = differ 0 1 (omega arith) (omega arith) (λ e. omega arith);
        field_rep = differ 0 2 (omega arith) (omega arith) (λ e. omega arith);
        end_sub = no_end 4 (omega arith);
        end_comp = no_end 1 (omega arith);
        end_rep = no_end 2 (omega arith);
        end_field = no_end 0 (omega arith);
      }

  pub message_most : length m ≤ 1048576
  unfolding message_limit
  message_most = (accepted m ok).opened.most_bytes

  -- behind a byte that is not CR a CR is still to come
  pub more_to_come : (end : ℕ) → end < length m → (get_or m end 0 ≡ carriage_return → ⊥) → find carriage_return (drop (end + 1) m) < length (drop (end + 1) m)
  more_to_come end h n =
      let last = message_last m (accepted m ok) in
      let d = length-drop (end + 1) m in
      let on : end + 1 < length m = later (eqb (end + 1) (length m)) refl in
      let t = ended_last m (end + 1) on last in
      let q = ltb-true (end + 1 + find carriage_return (drop (end + 1) m)) (length m) (sym t) in
      omega arith
    where
      later : (t : Bool) → eqb (end + 1) (length m) ≡ t → end + 1 < length m
      later true e =
          let q = eqb-true (end + 1) (length m) e in
          let z : end ≡ length m - 1 = omega arith in
          absurd (n (ap (λ (i : ℕ). get_or m i 0) z ∙ message_last m (accepted m ok)))
      later false e = let q = eqb-false (end + 1) (length m) e in omega (arith, q)

-- ---- the address behind a byte

passed_cases : (P : Address → Type 0) (ends : List ℕ) (b : ℕ) (a : Address) → P (addressed a.segment (a.field + 1) 1 1 1)
    → P (addressed a.segment a.field a.repetition (a.component + 1) 1) → P (addressed (a.segment + 1) 0 1 1 1)
    → P (addressed a.segment a.field (a.repetition + 1) 1 1) → P (addressed a.segment a.field a.repetition a.component (a.subcomponent + 1)) → P (passed ends b a)
passed_cases P ends b a p₁ p₂ p₀ p₃ p₄ = at (eqb b (get_or ends 1 0)) (eqb b (get_or ends 2 0)) (eqb b (get_or ends 0 0)) (eqb b (get_or ends 3 0))
  where
    at : (t₁ t₂ t₀ t₃ : Bool)
        → P (cond t₁ (addressed a.segment (a.field + 1) 1 1 1) (cond t₂ (addressed a.segment a.field a.repetition (a.component + 1) 1) (cond t₀ (addressed (a.segment + 1) 0 1 1 1) (cond t₃ (addressed a.segment a.field (a.repetition + 1) 1 1) (addressed a.segment a.field a.repetition a.component (a.subcomponent + 1))))))
    at true t₂ t₀ t₃ = p₁
    at false true t₀ t₃ = p₂
    at false false true t₃ = p₀
    at false false false true = p₃
    at false false false false = p₄

few_passed : (n k : ℕ) (ends : List ℕ) (b : ℕ) (a : Address) → AtMost n a → n + 1 ≤ k → AtMost k (passed ends b a)
few_passed n k ends b a w h =
    let s = w.0 in
    let f = w.1 in
    let r = w.2 in
    let c = w.3 in
    let u = w.4 in
    passed_cases (AtMost k) ends b a (omega arith, omega arith, omega arith, omega arith, omega arith) (omega arith, omega arith, omega arith, omega arith, omega arith)
    (omega arith, omega arith, omega arith, omega arith, omega arith) (omega arith, omega arith, omega arith, omega arith, omega arith) (omega arith, omega arith, omega arith, omega arith, omega arith)

split_passed : (ends : List ℕ) (b : ℕ) (a : Address) → 3 ≤ a.segment * 3 + a.field → 3 ≤ (passed ends b a).segment * 3 + (passed ends b a).field
split_passed ends b a h = passed_cases (λ (x : Address). 3 ≤ x.segment * 3 + x.field) ends b a (omega arith) h (omega arith) h h

-- ---- a turn

module _ (m : List ℕ) (ok : reading m ≡ passes) (a : Address) (start end : ℕ) (begun : start ≤ end) (inside : end < length m) (plain : Plain m start end) (stop : among (ends_of m) (get_or m end 0) ≡ true) (few : AtMost start a) (on : 3 ≤ a.segment * 3 + a.field) where
  cut : drop start m ≡ between m start end ++ get_or m end 0 ∷ drop (end + 1) m
  cut =
      let e : start + (end - start) ≡ end = omega arith in
      sym (take-append-drop (end - start) (drop start m))
      ∙ ap (λ (x : List ℕ). between m start end ++ x) (drop-drop (end - start) start m ∙ ap (λ (i : ℕ). drop i m) e ∙ drop_next m end inside)

  pub turn_leaves : rest_from (delimiters_of m) a start (drop start m) ≡ here_in m a start end ++ rest_from (delimiters_of m) (passed (ends_of m) (get_or m end 0) a) (end + 1) (drop (end + 1) m)
  turn_leaves =
      let n = between_length m start end begun (omega arith) in
      let e : start + length (between m start end) + 1 ≡ end + 1 = omega arith in
      ap (rest_from (delimiters_of m) a start) cut
      ∙ advance (delimiters_of m) (apart m ok) a start (between m start end) (plain_clear m start end begun (omega arith) plain) on (drop (end + 1) m) (get_or m end 0) stop (more_to_come m ok end inside)
      ∙ ap (λ (i : ℕ). here_in m a start end ++ rest_from (delimiters_of m) (passed (ends_of m) (get_or m end 0) a) i (drop (end + 1) m)) e

  pub turn_rows : rest_rows m a start ≡ rows (here_in m a start end) ++ rest_rows m (passed (ends_of m) (get_or m end 0) a) (end + 1)
  turn_rows = ap rows turn_leaves ∙ rows_append (here_in m a start end) (rest_from (delimiters_of m) (passed (ends_of m) (get_or m end 0) a) (end + 1) (drop (end + 1) m))

  pub turn_reached : Reached m (passed (ends_of m) (get_or m end 0) a) (end + 1) (end + 1)
  turn_reached =
      record {
        begun = omega arith;
        free = omega arith;
        few = few_passed start (end + 1) (ends_of m) (get_or m end 0) a few (omega arith);
        split_on = split_passed (ends_of m) (get_or m end 0) a on;
      }

-- ---- from marks to where the leaf ends

-- no byte from i up to `to` ends the leaf
pub reached_on : (m : List ℕ) (a : Address) (start i to : ℕ) → Reached m a start i → i ≤ to → to ≤ length m
    → ((j : ℕ) → j < to - i → among (ends_of m) (get_or m (i + j) 0) ≡ false) → Reached m a start to
reached_on m a start i to r h t none =
    let b = r.begun in
    let f = r.free in
    let d = length-drop start m in
    let k = length-drop i m in
    let at : start + (i - start) ≡ i = omega arith in
    let size = length-take-le (to - i) (drop i m) (omega arith) in
    let free = first_none (among (ends_of m)) (take (to - i) (drop i m))
    (λ j g. ap (among (ends_of m)) (get_or-take (to - i) (drop i m) j 0 (omega arith) ∙ get_or-drop i m j 0) ∙ none j (omega arith)) in
    let same : take (to - i) (drop (i - start) (drop start m)) ≡ take (to - i) (drop i m) = ap (take (to - i)) (drop-drop (i - start) start m ∙ ap (λ (x : ℕ). drop x m) at) in
    let y = ap (first (among (ends_of m))) same in
    let w = first_block (among (ends_of m)) (drop start m) (i - start) (to - i) (omega arith) (omega arith) (omega arith) in
    record { begun = omega arith; free = omega arith; few = r.few; split_on = r.split_on }

-- a walk has come so far in the 48 bytes from `place` on, and the marks behind it are left
pub record Left (m : List ℕ) (a : Address) (start place bits : ℕ) : Type 0 where
  pub gone : ℕ
  pub most : gone ≤ 48
  pub inside : place + 48 ≤ length m
  pub reached : Reached m a start (place + gone)
  pub marks : bits ≡ marked_from (among (ends_of m)) gone (between m place (place + 48))

pub all_left : (m : List ℕ) (a : Address) (start place bits : ℕ) → Marks m place bits → Reached m a start place → Left m a start place bits
unfolding marked_from
all_left m a start place bits k r =
    let e : place ≡ place + 0 = omega arith in
    record { gone = 0; most = omega arith; inside = k.0; reached = subst (Reached m a start) e r; marks = k.1 }

module _ (m : List ℕ) (a : Address) (start place bits : ℕ) (left : Left m a start place bits) where
  abbrev test : ℕ → Bool
  test = among (ends_of m)

  abbrev block : List ℕ
  block = between m place (place + 48)

  abbrev behind : List ℕ
  behind = drop left.gone block

  block_length : length block ≡ 48
  block_length = let i = left.inside in let n = between_length m place (place + 48) (omega arith) left.inside in omega arith

  behind_length : length behind ≡ 48 - left.gone
  behind_length = let n = block_length in let k = length-drop left.gone block in omega arith

  -- byte j behind what is gone
  byte : (j : ℕ) → left.gone + j < 48 → get_or behind j 0 ≡ get_or m (place + left.gone + j) 0
  byte j h =
      let e : place + (left.gone + j) ≡ place + left.gone + j = omega arith in
      get_or-drop left.gone block j 0 ∙ get_or-take (place + 48 - place) (drop place m) (left.gone + j) 0 (omega arith) ∙ get_or-drop place m (left.gone + j) 0 ∙ ap (λ (i : ℕ). get_or m i 0) e

  -- none is left
  pub left_none : bits ≡ 0 → Reached m a start (place + 48)
  left_none z =
      let n = behind_length in
      let g = left.most in
      let e = from_none test left.gone block (sym left.marks ∙ z) in
      reached_on m a start (place + left.gone) (place + 48) left.reached (omega arith) left.inside
      (λ j h. ap test (sym (byte j (omega arith))) ∙ first_before test behind j (omega arith))

  module _ (some : bits ≡ 0 → ⊥) where
    found : first test behind < length behind
    found = from_some test left.gone block (λ z. some (left.marks ∙ z))

    lowest : count_trailing_zeros 64 bits ≡ left.gone + first test behind
    lowest = let n = block_length in ap (count_trailing_zeros 64) left.marks ∙ from_first test 64 left.gone block found (omega arith)

    pub end_low : count_trailing_zeros 64 bits < 48
    end_low = let n = behind_length in let f = found in let l = lowest in let g = left.most in omega arith

    pub end_ends : Ends m (place + count_trailing_zeros 64 bits)
    end_ends =
        let k = end_low in
        let i = left.inside in
        let l = lowest in
        let e : place + left.gone + first test behind ≡ place + count_trailing_zeros 64 bits = omega arith in
        (omega arith, ap (λ (x : ℕ). test (get_or m x 0)) (sym e) ∙ ap test (sym (byte (first test behind) (omega arith))) ∙ first_passes test behind found)

    pub end_reached : Reached m a start (place + count_trailing_zeros 64 bits)
    end_reached =
        let k = end_low in
        let i = left.inside in
        let l = lowest in
        reached_on m a start (place + left.gone) (place + count_trailing_zeros 64 bits) left.reached (omega arith) (omega arith)
        (λ j h. ap test (sym (byte j (omega arith))) ∙ first_before test behind j (omega arith))

    -- behind the lowest mark, in whatever leaf the walk stands then
    pub left_behind : (b : Address) (from : ℕ) → Reached m b from (place + count_trailing_zeros 64 bits + 1) → Left m b from place (bit_and bits (bits - 1))
    left_behind b from r =
        let k = end_low in
        let l = lowest in
        let e : place + count_trailing_zeros 64 bits + 1 ≡ place + (left.gone + first test behind + 1) = omega arith in
        record {
          gone = left.gone + first test behind + 1;
          most = omega arith;
          inside = left.inside;
          reached = subst (Reached m b from) e r;
          marks = ap (λ (x : ℕ). bit_and x (x - 1)) left.marks ∙ from_clear test left.gone block found;
        }
