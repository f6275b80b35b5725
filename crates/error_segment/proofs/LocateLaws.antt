-- Laws of one walk to a segment, which keeps the names that it passes, and of what it says where it ends. Assumes nothing.
use mathlib.Core.Path.{◌≡◌, refl, sym, ap, ap₂, ◌∙◌}
use mathlib.Core.List.{List, [], ◌∷◌, ◌++◌, map, append_assoc, append-nil}
use mathlib.Core.Bool.{Bool, true, false, cond}
use Prim.Native.Nat.{ℕ, suc, ◌+◌, ◌-◌, ◌≤◌, ◌<◌}
use native.Mathlib.Nat.{zero-add}
use native.Mathlib.Numerals.{add-one}
use native.Mathlib.Omega.{arith}
use lib.Dec.{eqb}
use lib.ListN.{length, get_or, take, drop, set, length-append}
use lib.Seq.{take_all, take_at, drop_at, take-add, get_or-drop, take-suc-set, drop-cons}
use borrow.Author.Tests.{eq-eqb, ne_eqb}
use Rattle.alphabet.specs.Bytes.{carriage_return}
use Rattle.alphabet.specs.Lists.{find}
use Rattle.reading.specs.Segments.{segments, name_of}
use Rattle.reading.proofs.SegmentLaws.{segments_walk, segments_over}
use Rattle.structure.specs.SegmentNames.{segment_names}
use Rattle.error_segment.specs.Errors.{faulty, count_of, sequence_of}
use Rattle.alphabet.proofs.PartLaws.{past_none}

-- ---- counting names

pub count_append : (n : ℕ) (a b : List ℕ) → count_of n (a ++ b) ≡ count_of n a + count_of n b
unfolding count_of
count_append n [] b = sym (zero-add (count_of n b))
count_append n (x ∷ a) b = let h = count_append n a b in omega arith

pub count_nil : (n : ℕ) → count_of n [] ≡ 0
unfolding count_of
count_nil n = refl

module _ (n x : ℕ) (l : List ℕ) where
  count_hit : x ≡ n → count_of n (x ∷ l) ≡ 1 + count_of n l
  unfolding count_of
  count_hit e = rw (eq-eqb n x (sym e))

  count_miss : (x ≡ n → ⊥) → count_of n (x ∷ l) ≡ count_of n l
  unfolding count_of
  count_miss e = rw (ne_eqb n x (λ q. e (sym q))) (zero-add (count_of n l))

  count_step : count_of n (x ∷ l) ≤ 1 + count_of n l
  unfolding count_of
  count_step = at (eqb n x)
    where
      at : (t : Bool) → cond t 1 0 + count_of n l ≤ 1 + count_of n l
      at true = omega arith
      at false = omega arith

pub count_most : (n : ℕ) (l : List ℕ) → count_of n l ≤ length l
count_most n [] = let z = count_nil n in omega arith
count_most n (x ∷ l) = let s = count_step n x l in let h = count_most n l in omega arith

-- one turn of a count, at number k of the names
module _ (n k count : ℕ) (l : List ℕ) (h : k < length l) (so : count_of n l ≡ count + count_of n (drop k l)) where
  next : count_of n l ≡ count + count_of n (get_or l k 0 ∷ drop (k + 1) l)
  next = so ∙ ap (λ (x : List ℕ). count + count_of n x) (drop-cons l k 0 h ∙ ap (λ (i : ℕ). get_or l k 0 ∷ drop i l) (sym (add-one k)))

  pub turn_hit : get_or l k 0 ≡ n → count_of n l ≡ count + 1 + count_of n (drop (k + 1) l)
  turn_hit e = let a = next in let b = count_hit n (get_or l k 0) (drop (k + 1) l) e in omega arith

  pub turn_miss : (get_or l k 0 ≡ n → ⊥) → count_of n l ≡ count + count_of n (drop (k + 1) l)
  turn_miss e = let a = next in let b = count_miss n (get_or l k 0) (drop (k + 1) l) e in omega arith

-- ---- the segments from a place of the message on

pub from_walk : (m : List ℕ) (start end : ℕ) → end ≡ start + find carriage_return (drop start m) → end < length m
    → segments (drop start m) ≡ take (end - start) (drop start m) ∷ segments (drop (end + 1) m)
unfolding segments
from_walk m start end e h = segments_walk m start end e h

pub from_over : (m : List ℕ) (start : ℕ) → length m ≤ start + find carriage_return (drop start m) → segments (drop start m) ≡ []
unfolding segments
from_over m start h = segments_over m start h

-- ---- a walk over the segments ss: those that are left, and the names of those before, as many as `number`

pub record Passing (ss left : List (List ℕ)) (names : List ℕ) (number : ℕ) : Type 0 where
  pub before : List (List ℕ)
  pub whole : ss ≡ before ++ left
  pub size : length before ≡ number
  pub kept : take number names ≡ map name_of before

pub pass_start : (ss : List (List ℕ)) (names : List ℕ) → Passing ss ss names 0
pass_start ss names = record { before = []; whole = refl; size = refl; kept = refl }

map_append : (f : List ℕ → ℕ) (a b : List (List ℕ)) → map f (a ++ b) ≡ map f a ++ map f b
map_append f [] b = refl
map_append f (x ∷ a) b = ap (λ (l : List ℕ). f x ∷ l) (map_append f a b)

map_length : (f : List ℕ → ℕ) (a : List (List ℕ)) → length (map f a) ≡ length a
map_length f [] = refl
map_length f (x ∷ a) = ap suc (map_length f a)

-- one segment more
pub pass_next : {ss left : List (List ℕ)} {names : List ℕ} {number : ℕ} (s : List ℕ) (rest : List (List ℕ)) (name : ℕ)
    → Passing ss left names number → left ≡ s ∷ rest → name ≡ name_of s → number < length names → Passing ss rest (set names number name) (number + 1)
pass_next {ss} {left} {names} {number} s rest name p e q h =
    record {
      before = p.before ++ (s ∷ []);
      whole = p.whole ∙ ap (λ (l : List (List ℕ)). p.before ++ l) e ∙ sym (append_assoc p.before (s ∷ []) rest);
      size = let n = length-append p.before (s ∷ []) in let k = p.size in omega arith;
      kept = ap (λ (k : ℕ). take k (set names number name)) (add-one number) ∙ take-suc-set names number name h
          ∙ ap₂ (λ (l : List ℕ) (x : ℕ). l ++ (x ∷ [])) p.kept q ∙ sym (map_append name_of p.before (s ∷ []));
    }

module _ {ss left : List (List ℕ)} {names : List ℕ} {number : ℕ} (p : Passing ss left names number) where
  -- the segment of this number is the first that is left
  pub pass_faulty : get_or ss number [] ≡ get_or left 0 []
  pass_faulty =
      let n : number + 0 ≡ number = omega arith in
      ap (λ (k : ℕ). get_or ss k []) (sym n) ∙ sym (get_or-drop number ss 0 [])
      ∙ ap (λ (l : List (List ℕ)). get_or l 0 []) (ap (drop number) p.whole ∙ drop_at p.before left number p.size)

  named : map name_of ss ≡ take number names ++ map name_of left
  named = ap (map name_of) p.whole ∙ map_append name_of p.before left ∙ ap (λ (l : List ℕ). l ++ map name_of left) (sym p.kept)

  kept_size : length (take number names) ≡ number
  kept_size = ap length p.kept ∙ map_length name_of p.before ∙ p.size

  pub pass_names : take (number + 1) (map name_of ss) ≡ take number names ++ take 1 (map name_of left)
  pass_names =
      take-add number 1 (map name_of ss)
      ∙ ap₂ (λ (a b : List ℕ). a ++ take 1 b)
      (ap (take number) named ∙ take_at (take number names) (map name_of left) number kept_size)
      (ap (drop number) named ∙ drop_at (take number names) (map name_of left) number kept_size)

  -- with none left, there is none of this number or a later one
  module _ (e : left ≡ []) (place : ℕ) (h : number ≤ place) where
    over : ss ≡ p.before
    over = p.whole ∙ ap (λ (l : List (List ℕ)). p.before ++ l) e ∙ append-nil p.before

    pub pass_none : get_or ss place [] ≡ []
    pass_none = let n = ap length over in let k = p.size in past_none ss place (omega arith)

    pub pass_all : take (place + 1) (map name_of ss) ≡ take number names
    pass_all =
        let n = ap length over in
        let k = p.size in
        let l = map_length name_of ss in
        take_all (place + 1) (map name_of ss) (omega arith) ∙ ap (map name_of) over ∙ sym p.kept

-- ---- the number q of a segment among those of its name

-- the count where the first segment of the bytes l stands behind these names, and where l has none
module _ (names l : List ℕ) where
  pub count_there : (s : List ℕ) (rest : List (List ℕ)) (name : ℕ) → segments l ≡ s ∷ rest → name ≡ name_of s
      → count_of name names + 1 ≡ count_of (name_of (faulty l 0)) (names ++ take 1 (segment_names l))
  unfolding segment_names
  count_there s rest name e q =
      let a = count_append name names (name ∷ []) in
      let b = count_hit name name [] refl in
      let z = count_nil name in
      let c : count_of name names + 1 ≡ count_of name (names ++ (name ∷ [])) = omega arith in
      c ∙ ap (λ (x : ℕ). count_of x (names ++ (x ∷ []))) q
      ∙ ap (λ (ss : List (List ℕ)). count_of (name_of (get_or ss 0 [])) (names ++ take 1 (map name_of ss))) (sym e)

  pub count_nowhere : segments l ≡ [] → count_of 0 names ≡ count_of (name_of (faulty l 0)) (names ++ take 1 (segment_names l))
  unfolding segment_names name_of
  count_nowhere e =
      ap (count_of 0) (sym (append-nil names))
      ∙ ap (λ (ss : List (List ℕ)). count_of (name_of (get_or ss 0 [])) (names ++ take 1 (map name_of ss))) (sym e)

-- the name of no bytes
pub name_none : name_of [] ≡ 0
unfolding name_of
name_none = refl

-- the number in the whole message, where the walk ended at the segment, and where it found none
module _ (m left : List ℕ) (names : List ℕ) (number : ℕ) (p : Passing (segments m) (segments left) names number) where
  pub sequence_there : (place : ℕ) → number ≡ place → count_of (name_of (faulty left 0)) (take number names ++ take 1 (segment_names left)) ≡ sequence_of m place
  unfolding segment_names
  sequence_there place h =
      ap₂ (λ (s : List ℕ) (l : List ℕ). count_of (name_of s) l) (sym (pass_faulty p)) (sym (pass_names p))
      ∙ ap (λ (k : ℕ). count_of (name_of (get_or (segments m) k [])) (take (k + 1) (map name_of (segments m)))) h

  pub sequence_none : segments left ≡ [] → (place : ℕ) → number ≤ place → count_of 0 (take number names) ≡ sequence_of m place
  unfolding segment_names
  sequence_none e place h =
      ap₂ (λ (n : ℕ) (l : List ℕ). count_of n l) (sym (ap name_of (pass_none p e place h) ∙ name_none)) (sym (pass_all p e place h))
