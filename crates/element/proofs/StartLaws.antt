-- Laws of a part that ends at the first of its stops, for every level: a walk along it passes one byte after another, and a part of it begins behind a
-- separator and ends at one more stop. Assumes nothing.
use mathlib.Core.Path.{◌≡◌, refl, sym, ap, ◌∙◌}
use mathlib.Core.List.{List, [], ◌∷◌, ◌++◌}
use mathlib.Core.Bool.{Bool, true, false, cond, ◌&&◌, ◌||◌}
use Prim.Native.Nat.{ℕ, zero, suc, ◌+◌, ◌-◌, ◌≤◌, ◌<◌}
use native.Mathlib.Omega.{arith}
use lib.Dec.{eqb, ltb, leb-suc-suc}
use lib.ListN.{length, get_or, take, drop, length-append}
use lib.Seq.{drop-drop, get_or-drop}
use borrow.Author.Tests.{eqb-true, eqb-false, eq-eqb, ne_eqb, lt-ltb}
use Rattle.std.specs.Prelude.{None, Some, Option}
use Rattle.alphabet.specs.Bytes.{carriage_return}
use Rattle.alphabet.specs.Lists.{first, find, among}
use Rattle.alphabet.specs.Parts.{grown, split, standing, part_at, began, ended_by, from_to}
use Rattle.alphabet.specs.declared.parts.Part.{Part}
use Rattle.alphabet.proofs.ListLaws.{drop_next, first_here, first_past, first_end, first_le, first_before}
use Rattle.alphabet.proofs.PartLaws.{split_some, split_nothing, standing_first}
use Rattle.reading.specs.Segments.{field_separator, segment_at}
use Rattle.reading.proofs.SegmentLaws.{segment_stands}
use Rattle.element.specs.Levels.{moved, part_in, field_at, below, repetition_at, component_at, subcomponent_at}
use Rattle.element.specs.Ends.{or_at, level_ends, end_of, field_ends, field_index}
use Rattle.element.specs.declared.address.Address.{Address}
use Rattle.element.proofs.LevelLaws.{within_at, in_absent, within_in, field_part_lem, below_none, below_split}

-- ---- parts that all stand further on

standing_moved : (by at : ℕ) (ps : List (List ℕ)) (k : ℕ) → standing (by + at) ps k ≡ moved by (standing at ps k)
unfolding standing
standing_moved by at [] k = refl
standing_moved by at (p ∷ ps) zero = let e : by + at + length p ≡ by + (at + length p) = omega arith in ap (from_to (by + at)) e
standing_moved by at (p ∷ ps) (suc k) =
    let e : by + at + length p + 1 ≡ by + (at + length p + 1) = omega arith in
    ap (λ (n : ℕ). standing n ps k) e ∙ standing_moved by (at + length p + 1) ps k

moved_twice : (a b : ℕ) (p : Option Part) → moved a (moved b p) ≡ moved (a + b) p
moved_twice a b None = refl
moved_twice a b (Some part) =
    let u : a + (b + part.start) ≡ a + b + part.start = omega arith in
    let v : a + (b + part.end) ≡ a + b + part.end = omega arith in
    cc

-- ---- one byte of a part that is split: none is left, a separator, any other

module _ (sep : ℕ) where
  split_over : (k : ℕ) → part_at sep [] (suc k) ≡ None
  unfolding part_at split standing
  split_over k = refl

  split_at : (b : ℕ) (l : List ℕ) (k : ℕ) → eqb sep b ≡ true → part_at sep (b ∷ l) (suc k) ≡ moved 1 (part_at sep l k)
  unfolding part_at split standing
  split_at b l k e = rw e (standing_moved 1 0 (split sep l) k)

  split_past : (b : ℕ) (l : List ℕ) (k : ℕ) → eqb sep b ≡ false → part_at sep (b ∷ l) (suc k) ≡ moved 1 (part_at sep l (suc k))
  unfolding part_at split standing
  split_past b l k e = rw e (at (split sep l))
    where
      at : (ps : List (List ℕ)) → standing 0 (grown b ps) (suc k) ≡ moved 1 (standing 0 ps (suc k))
      at [] = refl
      at (p ∷ ps) = let n : 0 + suc (length p) + 1 ≡ 1 + (0 + length p + 1) = omega arith in ap (λ (i : ℕ). standing i ps k) n ∙ standing_moved 1 (0 + length p + 1) ps k

  -- the first part ends at the separator, or where the whole does
  find_taken : (ends : ℕ → Bool) (l : List ℕ) → find sep (take (first ends l) l) ≡ first (or_at sep ends) l
  unfolding first
  find_taken ends [] = refl
  find_taken ends (b ∷ l) = at (ends b) (find_taken ends l)
    where
      at : (t : Bool) → find sep (take (first ends l) l) ≡ first (or_at sep ends) l
          → find sep (take (cond t 0 (suc (first ends l))) (b ∷ l)) ≡ cond (t || eqb sep b) 0 (suc (first (or_at sep ends) l))
      at true ih = refl
      at false ih = ap (λ (n : ℕ). cond (eqb sep b) 0 (suc n)) ih

-- ---- a walk along the message from i on, where part k of what is left is sought

module _ (sep : ℕ) (m : List ℕ) (ends : ℕ → Bool) where
  -- what is left of the part that is split
  abbrev left : ℕ → List ℕ
  left i = take (first ends (drop i m)) (drop i m)

  split_left : (i k : ℕ) → part_in sep m (ended_by ends m (Some i)) k ≡ moved i (part_at sep (left i) k)
  unfolding part_in
  split_left i k =
      let n : i + first ends (drop i m) - i ≡ first ends (drop i m) = omega arith in
      ap (λ (j : ℕ). moved i (part_at sep (take j (drop i m)) k)) n

  nothing_left : (i k : ℕ) → first ends (drop i m) ≡ 0 → 0 < k → part_in sep m (ended_by ends m (Some i)) k ≡ None
  nothing_left i zero e h = absurd (omega arith)
  nothing_left i (suc k) e h =
      split_left i (suc k) ∙ ap (λ (j : ℕ). moved i (part_at sep (take j (drop i m)) (suc k))) e ∙ ap (moved i) (split_over sep k)

  -- the part asked for begins here, and ends at the separator or where the whole does
  pub walk_here : (i : ℕ) → part_in sep m (ended_by ends m (Some i)) 0 ≡ ended_by (or_at sep ends) m (Some i)
  unfolding part_at
  walk_here i =
      let z : i + 0 ≡ i = omega arith in
      let e = find_taken sep ends (drop i m) in
      let n : i + (0 + find sep (left i)) ≡ i + first (or_at sep ends) (drop i m) = omega arith in
      split_left i 0 ∙ ap (moved i) (standing_first sep 0 (left i)) ∙ cc

  -- the message ends here
  pub walk_over : (i k : ℕ) → length m ≤ i → 0 < k → part_in sep m (ended_by ends m (Some i)) k ≡ None
  walk_over i k h = nothing_left i k (first_end ends m i h)

  module _ (i k : ℕ) (h : i < length m) (more : 0 < k) where
    -- the whole ends here
    pub walk_stop : ends (get_or m i 0) ≡ true → part_in sep m (ended_by ends m (Some i)) k ≡ None
    walk_stop e = nothing_left i k (first_here ends m i h e) more

    module _ (e : ends (get_or m i 0) ≡ false) where
      left_next : left i ≡ get_or m i 0 ∷ left (i + 1)
      left_next =
          ap (λ (n : ℕ). take n (drop i m)) (first_past ends m i h e)
          ∙ ap (take (suc (first ends (drop (i + 1) m)))) (drop_next m i h)

      -- a separator: what is sought is one nearer
      pub walk_at : get_or m i 0 ≡ sep → part_in sep m (ended_by ends m (Some i)) k ≡ part_in sep m (ended_by ends m (Some (i + 1))) (k - 1)
      walk_at q = at k more
        where
          at : (k : ℕ) → 0 < k → part_in sep m (ended_by ends m (Some i)) k ≡ part_in sep m (ended_by ends m (Some (i + 1))) (k - 1)
          at zero l = absurd (omega arith)
          at (suc j) l =
              let n : j ≡ suc j - 1 = omega arith in
              split_left i (suc j) ∙ ap (λ (x : List ℕ). moved i (part_at sep x (suc j))) left_next
              ∙ ap (moved i) (split_at sep (get_or m i 0) (left (i + 1)) j (eq-eqb sep (get_or m i 0) (sym q)))
              ∙ moved_twice i 1 (part_at sep (left (i + 1)) j) ∙ sym (split_left (i + 1) j)
              ∙ ap (part_in sep m (ended_by ends m (Some (i + 1)))) n

      -- any other byte
      pub walk_past : (get_or m i 0 ≡ sep → ⊥) → part_in sep m (ended_by ends m (Some i)) k ≡ part_in sep m (ended_by ends m (Some (i + 1))) k
      walk_past q = at k more
        where
          at : (k : ℕ) → 0 < k → part_in sep m (ended_by ends m (Some i)) k ≡ part_in sep m (ended_by ends m (Some (i + 1))) k
          at zero l = absurd (omega arith)
          at (suc j) l =
              split_left i (suc j) ∙ ap (λ (x : List ℕ). moved i (part_at sep x (suc j))) left_next
              ∙ ap (moved i) (split_past sep (get_or m i 0) (left (i + 1)) j (ne_eqb sep (get_or m i 0) (λ r. q (sym r))))
              ∙ moved_twice i 1 (part_at sep (left (i + 1)) (suc j)) ∙ sym (split_left (i + 1) (suc j))

-- ---- a block on the way, without a stop and with fewer separators than are left

module _ (sep : ℕ) where
  pub count_at : (b : ℕ) (l : List ℕ) → b ≡ sep → length (split sep (b ∷ l)) ≡ suc (length (split sep l))
  unfolding split
  count_at b l e = rw (eq-eqb sep b (sym e))

  pub count_past : (b : ℕ) (l : List ℕ) → (b ≡ sep → ⊥) → length (split sep (b ∷ l)) ≡ length (split sep l)
  unfolding split
  count_past b l e = rw (ne_eqb sep b (λ q. e (sym q))) (at (split sep l) (split_some sep l))
    where
      at : (ps : List (List ℕ)) → 1 ≤ length ps → length (grown b ps) ≡ length ps
      at [] h = absurd (omega arith)
      at (p ∷ ps) h = refl

module _ (sep : ℕ) (m : List ℕ) (ends : ℕ → Bool) where
  pub walk_block : (n i k c : ℕ) → i + n ≤ length m → n ≤ first ends (drop i m) → c + 1 ≡ length (split sep (take n (drop i m))) → c < k
      → part_in sep m (ended_by ends m (Some i)) k ≡ part_in sep m (ended_by ends m (Some (i + n))) (k - c)
  walk_block zero i k c h w e l =
      let z : i ≡ i + 0 = omega arith in
      let one = ap length (split_nothing sep) in
      let y : k ≡ k - c = omega arith in
      ap (λ (x : ℕ). part_in sep m (ended_by ends m (Some x)) k) z ∙ ap (part_in sep m (ended_by ends m (Some (i + 0)))) y
  walk_block (suc n) i k c h w e l = at (eqb (get_or m i 0) sep) refl (λ j d. walk_block n (i + 1) j d)
    where
      here : i < length m
      here = omega arith

      free : ends (get_or m i 0) ≡ false
      free = let p = first_before ends (drop i m) 0 (omega arith) in let z : i + 0 ≡ i = omega arith in sym (ap ends (get_or-drop i m 0 0 ∙ ap (λ (x : ℕ). get_or m x 0) z)) ∙ p

      block : take (suc n) (drop i m) ≡ get_or m i 0 ∷ take n (drop (i + 1) m)
      block = ap (take (suc n)) (drop_next m i here)

      rest : n ≤ first ends (drop (i + 1) m)
      rest = let f = first_past ends m i here free in omega arith

      further : i + 1 + n ≡ i + suc n
      further = omega arith

      at : (t : Bool) → eqb (get_or m i 0) sep ≡ t
          → ((j d : ℕ) → i + 1 + n ≤ length m → n ≤ first ends (drop (i + 1) m) → d + 1 ≡ length (split sep (take n (drop (i + 1) m))) → d < j
          → part_in sep m (ended_by ends m (Some (i + 1))) j ≡ part_in sep m (ended_by ends m (Some (i + 1 + n))) (j - d))
          → part_in sep m (ended_by ends m (Some i)) k ≡ part_in sep m (ended_by ends m (Some (i + suc n))) (k - c)
      at true t ih =
          let q = eqb-true (get_or m i 0) sep t in
          let d = ap (λ (x : List ℕ). length (split sep x)) block ∙ count_at sep (get_or m i 0) (take n (drop (i + 1) m)) q in
          let s = split_some sep (take n (drop (i + 1) m)) in
          let y : k - 1 - (c - 1) ≡ k - c = omega arith in
          walk_at sep m ends i k here (omega arith) free q
          ∙ ih (k - 1) (c - 1) (omega arith) rest (omega arith) (omega arith)
          ∙ ap (part_in sep m (ended_by ends m (Some (i + 1 + n)))) y ∙ ap (λ (x : ℕ). part_in sep m (ended_by ends m (Some x)) (k - c)) further
      at false t ih =
          let q = eqb-false (get_or m i 0) sep t in
          let d = ap (λ (x : List ℕ). length (split sep x)) block ∙ count_past sep (get_or m i 0) (take n (drop (i + 1) m)) q in
          walk_past sep m ends i k here (omega arith) free q
          ∙ ih k c (omega arith) rest (omega arith) l
          ∙ ap (λ (x : ℕ). part_in sep m (ended_by ends m (Some x)) (k - c)) further

-- ---- from the rest of the message back to the message

module _ (m : List ℕ) (s : ℕ) (l : List ℕ) (rest : l ≡ drop s m) (ends : ℕ → Bool) where
  pub ended_moved : (a : ℕ) → ended_by ends m (Some (s + a)) ≡ moved s (ended_by ends l (Some a))
  ended_moved a =
      let n : s + a + first ends (drop (s + a) m) ≡ s + (a + first ends (drop (s + a) m)) = omega arith in
      ap (from_to (s + a)) n ∙ ap (λ (x : List ℕ). from_to (s + a) (s + (a + first ends x))) (sym (drop-drop a s m)) ∙ ap (λ (x : List ℕ). moved s (ended_by ends x (Some a))) (sym rest)

  pub part_moved : (sep k : ℕ) → moved s (part_in sep l (ended_by ends l (Some 0)) k) ≡ part_in sep m (ended_by ends m (Some s)) k
  part_moved sep k =
      let z : s + 0 ≡ s = omega arith in
      ap (λ (x : List ℕ). moved s (part_in sep x (ended_by ends x (Some 0)) k)) rest
      ∙ ap (moved s) (split_left sep (drop s m) ends 0 k) ∙ moved_twice s 0 (part_at sep (left sep m ends s) k)
      ∙ ap (λ (n : ℕ). moved n (part_at sep (left sep m ends s) k)) z ∙ sym (split_left sep m ends s k)

-- what was found lies within the bytes
pub start_within : (sep : ℕ) (l : List ℕ) (ends : ℕ → Bool) (k a e : ℕ) → from_to a e ≡ part_in sep l (ended_by ends l (Some 0)) k → a ≤ length l
start_within sep l ends k a e q =
    let w = within_at l _ a e (within_in sep l (ended_by ends l (Some 0)) k (omega arith, let n = first_le ends l in omega arith)) (sym q) in
    let w0 = w.0 in
    let w1 = w.1 in
    omega arith

-- ---- the stops of a level are those of the level above and one more

eqb_turned : (a b : ℕ) → eqb a b ≡ eqb b a
eqb_turned a b = at (eqb b a) refl
  where
    at : (t : Bool) → eqb b a ≡ t → eqb a b ≡ t
    at true e = eq-eqb a b (sym (eqb-true b a e))
    at false e = ne_eqb a b (λ q. eqb-false b a e (sym q))

has : List ℕ → ℕ → Bool
has [] b = false
has (x ∷ l) b = eqb x b || has l b

has_found : (l : List ℕ) (b : ℕ) → ltb (find b l) (length l) ≡ has l b
unfolding first has
has_found [] b = refl
has_found (x ∷ l) b = ap (λ (t : Bool). ltb (cond t 0 (suc (find b l))) (suc (length l))) (eqb_turned b x) ∙ at (eqb x b) (has_found l b)
  where
    at : (t : Bool) → ltb (find b l) (length l) ≡ has l b → ltb (cond t 0 (suc (find b l))) (suc (length l)) ≡ (t || has l b)
    at true ih = lt-ltb 0 (suc (length l)) (omega arith)
    at false ih = leb-suc-suc (suc (find b l)) (length l) ∙ ih

among_has : (l : List ℕ) (b : ℕ) → length l ≡ 5 → among l b ≡ has l b
among_has l b n = ap (ltb (find b l)) (sym n) ∙ has_found l b

-- where x stands in front already, another byte in the place of a second x is one stop more
has_more : (x sep : ℕ) (p q : List ℕ) (b : ℕ) → has (x ∷ p ++ sep ∷ q) b ≡ or_at sep (has (x ∷ p ++ x ∷ q)) b
unfolding has
has_more x sep p q b = at (eqb x b) refl
  where
    behind : eqb x b ≡ false → (p : List ℕ) → has (p ++ sep ∷ q) b ≡ (has (p ++ x ∷ q) b || eqb sep b)
    behind e [] = rw e (turned (eqb sep b) (has q b))
      where
        turned : (s t : Bool) → (s || t) ≡ (t || s)
        turned true true = refl
        turned true false = refl
        turned false true = refl
        turned false false = refl
    behind e (y ∷ p) = along (eqb y b) (behind e p)
      where
        along : (t : Bool) → has (p ++ sep ∷ q) b ≡ (has (p ++ x ∷ q) b || eqb sep b) → (t || has (p ++ sep ∷ q) b) ≡ ((t || has (p ++ x ∷ q) b) || eqb sep b)
        along true ih = refl
        along false ih = ih

    at : (t : Bool) → eqb x b ≡ t → (t || has (p ++ sep ∷ q) b) ≡ ((t || has (p ++ x ∷ q) b) || eqb sep b)
    at true e = refl
    at false e = behind e p

all_alike : (x b : ℕ) → among (x ∷ x ∷ x ∷ x ∷ x ∷ []) b ≡ eqb x b
unfolding has
all_alike x b = among_has (x ∷ x ∷ x ∷ x ∷ x ∷ []) b refl ∙ at (eqb x b)
  where
    at : (t : Bool) → (t || (t || (t || (t || (t || false))))) ≡ t
    at true = refl
    at false = refl

first_alike : (p q : ℕ → Bool) → ((b : ℕ) → p b ≡ q b) → (l : List ℕ) → first p l ≡ first q l
unfolding first
first_alike p q h [] = refl
first_alike p q h (b ∷ l) = rw (h b, first_alike p q h l)

ends_alike : (p q : ℕ → Bool) → ((b : ℕ) → p b ≡ q b) → (m : List ℕ) (part : Option ℕ) → ended_by p m part ≡ ended_by q m part
ends_alike p q h m None = refl
ends_alike p q h m (Some s) = ap (λ (n : ℕ). from_to s (s + n)) (first_alike p q h (drop s m))

module _ (sep : ℕ) (p q : List ℕ) (n : length p + length q ≡ 3) (m : List ℕ) (part : Option ℕ) where
  five : (x : ℕ) → length (carriage_return ∷ p ++ x ∷ q) ≡ 5
  five x = let l = length-append p (x ∷ q) in omega arith

  part_ends : ended_by (among (carriage_return ∷ p ++ sep ∷ q)) m part ≡ ended_by (or_at sep (among (carriage_return ∷ p ++ carriage_return ∷ q))) m part
  part_ends =
      ends_alike _ _
      (λ b.
      among_has (carriage_return ∷ p ++ sep ∷ q) b (five sep) ∙ has_more carriage_return sep p q b
      ∙ ap (λ (t : Bool). t || eqb sep b) (sym (among_has (carriage_return ∷ p ++ carriage_return ∷ q) b (five carriage_return))))
      m part

-- and of a level that may not be split
level_ends_lem : (sep k x : ℕ) (p q : List ℕ) → length p + length q ≡ 3 → x ≡ end_of sep k → (m : List ℕ) (part : Option ℕ)
    → ended_by (among (carriage_return ∷ p ++ x ∷ q)) m part ≡ ended_by (level_ends sep k (among (carriage_return ∷ p ++ carriage_return ∷ q))) m part
level_ends_lem sep zero x p q n e m part = ap (λ (y : ℕ). ended_by (among (carriage_return ∷ p ++ y ∷ q)) m part) e
level_ends_lem sep (suc k) x p q n e m part = ap (λ (y : ℕ). ended_by (among (carriage_return ∷ p ++ y ∷ q)) m part) e ∙ part_ends sep p q n m part

pub end_split : (sep k : ℕ) → (k ≡ 0 → ⊥) → sep ≡ end_of sep k
end_split sep zero h = absurd (h refl)
end_split sep (suc k) h = refl

-- ---- number k of a level below a part

module _ (sep : ℕ) (ends : ℕ → Bool) (m : List ℕ) (part : Option ℕ) where
  pub start_whole : (k : ℕ) → k ≡ 0 → ended_by (level_ends sep k ends) m part ≡ below sep m (ended_by ends m part) k
  unfolding below
  start_whole k e = rw e

  pub start_split : (k : ℕ) (r : Option ℕ) → (k ≡ 0 → ⊥) → ended_by (or_at sep ends) m r ≡ part_in sep m (ended_by ends m part) (k - 1)
      → ended_by (level_ends sep k ends) m r ≡ below sep m (ended_by ends m part) k
  start_split zero r h e = absurd (h refl)
  start_split (suc k) r h e = e ∙ sym (below_split sep m (ended_by ends m part) (suc k) h)

-- of no part there is no part
pub below_nothing : (sep : ℕ) (m : List ℕ) (k : ℕ) → None ≡ below sep m None k
below_nothing sep m k = sym (below_none sep m None k refl)

-- ---- a field, from where its segment begins

-- part k of a segment ends at CR or the field separator
pub field_begins : (m : List ℕ) (sep k s : ℕ) (segment field : Option ℕ) → sep ≡ field_separator m → segment ≡ began (segment_at m s)
    → ended_by (or_at sep (eqb carriage_return)) m field ≡ part_in sep m (ended_by (eqb carriage_return) m segment) k
    → ended_by (among (carriage_return ∷ sep ∷ carriage_return ∷ carriage_return ∷ carriage_return ∷ [])) m field ≡ part_in (field_separator m) m (segment_at m s) k
field_begins m sep k s segment field e q f =
    part_ends sep [] (carriage_return ∷ carriage_return ∷ carriage_return ∷ []) refl m field
    ∙ ends_alike _ _ (λ b. ap (λ (t : Bool). t || eqb sep b) (all_alike carriage_return b)) m field ∙ f
    ∙ ap (λ (p : Option Part). part_in sep m p k) (ap (ended_by (eqb carriage_return) m) q ∙ segment_stands m s) ∙ ap (λ (x : ℕ). part_in x m (segment_at m s) k) e

-- ---- the three levels of a field, each with one stop more, where r, c and s are those stops

module _ (m : List ℕ) (sep rep comp sub i j k r c s : ℕ) (er : r ≡ end_of rep i) (ec : c ≡ end_of comp j) (es : s ≡ end_of sub k) where
  pub levels_down : (field first second third : Option ℕ)
      → ended_by (level_ends rep i (among (carriage_return ∷ sep ∷ carriage_return ∷ carriage_return ∷ carriage_return ∷ []))) m first
      ≡ below rep m (ended_by (among (carriage_return ∷ sep ∷ carriage_return ∷ carriage_return ∷ carriage_return ∷ [])) m field) i
      → ended_by (level_ends comp j (among (carriage_return ∷ sep ∷ r ∷ carriage_return ∷ carriage_return ∷ []))) m second
      ≡ below comp m (ended_by (among (carriage_return ∷ sep ∷ r ∷ carriage_return ∷ carriage_return ∷ [])) m first) j
      → ended_by (level_ends sub k (among (carriage_return ∷ sep ∷ r ∷ c ∷ carriage_return ∷ []))) m third
      ≡ below sub m (ended_by (among (carriage_return ∷ sep ∷ r ∷ c ∷ carriage_return ∷ [])) m second) k
      → ended_by (among (carriage_return ∷ sep ∷ r ∷ c ∷ s ∷ [])) m third
      ≡ below sub m (below comp m (below rep m (ended_by (among (carriage_return ∷ sep ∷ carriage_return ∷ carriage_return ∷ carriage_return ∷ [])) m field) i) j) k
  levels_down field first second third e f g =
      level_ends_lem sub k s (sep ∷ r ∷ c ∷ []) [] refl es m third ∙ g
      ∙ ap (λ (p : Option Part). below sub m p k) (level_ends_lem comp j c (sep ∷ r ∷ []) (carriage_return ∷ []) refl ec m second ∙ f
      ∙ ap (λ (p : Option Part). below comp m p j) (level_ends_lem rep i r (sep ∷ []) (carriage_return ∷ carriage_return ∷ []) refl er m first ∙ e))

-- and these are the levels that the address asks for
pub levels_asked : (m : List ℕ) (a : Address) (field : Option ℕ) (sep rep comp sub : ℕ) → sep ≡ get_or m 3 0 → rep ≡ get_or m 5 0 → comp ≡ get_or m 4 0 → sub ≡ get_or m 7 0
    → ended_by (among (field_ends m)) m field ≡ field_at m a
    → below sub m (below comp m (below rep m (ended_by (among (carriage_return ∷ sep ∷ carriage_return ∷ carriage_return ∷ carriage_return ∷ [])) m field) a.repetition) a.component) a.subcomponent
    ≡ subcomponent_at m a
unfolding repetition_at component_at subcomponent_at
levels_asked m a field sep rep comp sub es er ec eu e = rw (es, er, ec, eu) (ap (λ (p : Option Part). below (get_or m 7 0) m (below (get_or m 4 0) m (below (get_or m 5 0) m p a.repetition) a.component) a.subcomponent) e)

-- of no segment there is no field
pub field_missing : (m : List ℕ) (a : Address) → began (segment_at m a.segment) ≡ None → (eqb a.segment 0 && eqb a.field 1) ≡ false → field_at m a ≡ None
field_missing m a e h =
    field_part_lem m a.segment (segment_at m a.segment) a.field h
    ∙ in_absent (field_separator m) m (segment_at m a.segment) (field_index a.segment a.field) (sym (segment_stands m a.segment) ∙ ap (ended_by (eqb carriage_return) m) e)
