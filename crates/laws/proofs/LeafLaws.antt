-- The leaves of a message and a lookup: each leaf is what is found at its address. By the levels, one law of `each` for all. Assumes nothing.
use mathlib.Core.Path.{◌≡◌, refl, sym, ap, subst, ◌∙◌}
use mathlib.Core.Bool.{Bool, true, false, cond}
use mathlib.Core.List.{List, [], ◌∷◌, ◌++◌}
use Prim.Native.Nat.{ℕ, zero, suc, ◌+◌, ◌-◌, ◌≤◌, ◌<◌}
use native.Mathlib.Nat.{add-zero}
use native.Mathlib.Omega.{arith}
use lib.Dec.{eqb}
use lib.ListN.{length, get_or}
use borrow.Author.Tests.{eqb-true, eqb-false, ne_eqb, lt-leb}
use Rattle.std.specs.Prelude.{Ok, Option}
use Rattle.alphabet.specs.Answers.{passes}
use Rattle.alphabet.specs.Parts.{split, standing, part_at, from_to}
use Rattle.alphabet.specs.declared.parts.Part.{Part}
use Rattle.reading.specs.Reading.{reading}
use Rattle.reading.specs.Segments.{delimiters_of, field_separator, segments, segment_at}
use Rattle.reading.proofs.Accepted.{accepted}
use Rattle.reading.proofs.SegmentLaws.{segment_bytes}
use Rattle.element.specs.Finding.{element_in, element_of, found, part_bytes}
use Rattle.element.specs.Levels.{between, moved, part_in, field_in, below, repetition_at, component_at, subcomponent_at, fixed, unsplit, element_at}
use Rattle.element.specs.States.{state_of}
use Rattle.element.specs.declared.Element.{Element}
use Rattle.element.specs.declared.address.Address.{Address}
use Rattle.element.proofs.FindingLaws.{found_passes}
use Rattle.element.proofs.LevelLaws.{Within, within_in, within_segment, below_split, field_header, field_other, element_split}
use Rattle.leaves.specs.Leaves.{Leaf, addressed, leaf_at, each, subcomponent_leaf, in_component, in_repetition, in_field, in_part, in_segment, leaves_of}
use Rattle.laws.specs.Elements.{Asks, subcomponent}
use Rattle.laws.specs.Listing.{In, here, there, FoundAt}
use Rattle.laws.proofs.Asking.{answered_exactly, lookup_passes}
use Rattle.laws.proofs.ElementLaws.{state_means}
use Rattle.laws.proofs.FoundLaws.{means_there}
use Rattle.laws.proofs.HeaderFields.{one_byte}
use Rattle.element.proofs.RawLaws.{part_in_bytes}

-- ---- what holds of each leaf of a list

unfoldable All : (Leaf → Type 0) → List Leaf → Type 0
All P [] = Unit {0}
All P (l ∷ ls) = P l × All P ls

all_in : (P : Leaf → Type 0) (ls : List Leaf) {l : Leaf} → All P ls → In l ls → P l
unfolding All
all_in P [] h i = elim i [ ]
all_in P (k ∷ ls) h here = h.0
all_in P (k ∷ ls) h (there i) = all_in P ls h.1 i

all_one : (P : Leaf → Type 0) (l : Leaf) → P l → All P (l ∷ [])
unfolding All
all_one P l h = (h, tt)

all_append : (P : Leaf → Type 0) (ks ls : List Leaf) → All P ks → All P ls → All P (ks ++ ls)
unfolding All
all_append P [] ls h k = k
all_append P (l ∷ ks) ls h k = (h.0, all_append P ks ls h.1 k)

-- of each of some parts, with its number and where it stands
each_all : (P : Leaf → Type 0) (inner : ℕ → ℕ → List ℕ → List Leaf) (k at : ℕ) (ps : List (List ℕ))
    → ((j s : ℕ) → standing at ps j ≡ from_to s (s + length (get_or ps j [])) → All P (inner (k + j) s (get_or ps j []))) → All P (each inner k at ps)
unfolding All each standing
each_all P inner k at [] h = tt
each_all P inner k at (p ∷ ps) h =
    all_append P (inner k at p) (each inner (k + 1) (at + length p + 1) ps)
    (subst (λ (n : ℕ). All P (inner n at p)) (add-zero k) (h 0 at refl))
    (each_all P inner (k + 1) (at + length p + 1) ps (λ j s e. let n : k + suc j ≡ k + 1 + j = omega arith in subst (λ (i : ℕ). All P (inner i s (get_or ps j []))) n (h (suc j) s e)))

-- ---- where parts stand

standing_moved : (by at : ℕ) (ps : List (List ℕ)) (k : ℕ) → standing (by + at) ps k ≡ moved by (standing at ps k)
unfolding standing
standing_moved by at [] k = refl
standing_moved by at (p ∷ ps) zero = let n : by + at + length p ≡ by + (at + length p) = omega arith in ap (from_to (by + at)) n
standing_moved by at (p ∷ ps) (suc k) =
    let n : by + at + length p + 1 ≡ by + (at + length p + 1) = omega arith in
    ap (λ (i : ℕ). standing i ps k) n ∙ standing_moved by (at + length p + 1) ps k

-- a part of the message stands at s and has these bytes
pub record Stands (m : List ℕ) (p : Option Part) (s : ℕ) (bytes : List ℕ) : Type 0 where
  pub place : p ≡ from_to s (s + length bytes)
  pub within : Within m p
  pub holds : part_bytes m p ≡ bytes

module _ (m : List ℕ) where
  -- a part of it stands where the split says
  pub part_standing : (sep : ℕ) {p : Option Part} {s : ℕ} {bytes : List ℕ} → Stands m p s bytes → (j : ℕ) → part_in sep m p j ≡ standing s (split sep bytes) j
  unfolding part_in part_at
  part_standing sep {p} {s} {bytes} h j =
      let inside : between m s (s + length bytes) ≡ bytes = ap (part_bytes m) (sym h.place) ∙ h.holds in
      ap (λ (q : Option Part). part_in sep m q j) h.place ∙ ap (λ (b : List ℕ). moved s (standing 0 (split sep b) j)) inside ∙ sym (standing_moved s 0 (split sep bytes) j)
      ∙ ap (λ (i : ℕ). standing i (split sep bytes) j) (add-zero s)

  stands_in : (sep : ℕ) {p : Option Part} {s : ℕ} {bytes : List ℕ} → Stands m p s bytes → (j t : ℕ) → standing s (split sep bytes) j ≡ from_to t (t + length (get_or (split sep bytes) j []))
      → Stands m (part_in sep m p j) t (get_or (split sep bytes) j [])
  stands_in sep {p} {s} {bytes} h j t e = record {
    place = part_standing sep h j ∙ e;
    within = within_in sep m p j h.within;
    holds = part_in_bytes sep m p j h.within ∙ ap (λ (b : List ℕ). get_or (split sep b) j []) h.holds;
  }

  -- the same by its number, from 1
  stands_below : (sep : ℕ) (p : Option Part) {t : ℕ} {q : List ℕ} (j : ℕ) → Stands m (part_in sep m p j) t q → Stands m (below sep m p (1 + j)) t q
  stands_below sep p {t} {q} j h =
      let n : 1 + j - 1 ≡ j = omega arith in
      subst (λ (x : Option Part). Stands m x t q) (sym (below_split sep m p (1 + j) (λ z. omega arith) ∙ ap (part_in sep m p) n)) h

  level_all : (P : Leaf → Type 0) (inner : ℕ → ℕ → List ℕ → List Leaf) (sep : ℕ) {p : Option Part} {s : ℕ} {bytes : List ℕ} → Stands m p s bytes
      → ((k t : ℕ) (q : List ℕ) → 1 ≤ k → Stands m (below sep m p k) t q → All P (inner k t q)) → All P (each inner 1 s (split sep bytes))
  level_all P inner sep {p} {s} {bytes} h f =
      each_all P inner 1 s (split sep bytes)
      (λ j t e. f (1 + j) t (get_or (split sep bytes) j []) (omega arith) (stands_below sep p j (stands_in sep h j t e)))

module _ (m : List ℕ) (ok : reading m ≡ passes) where
  abbrev ds : List ℕ
  ds = delimiters_of m

  pub leaf_right : (a : Address) (at : ℕ) (bytes : List ℕ) → Asks a → 1 ≤ a.subcomponent → a.segment < length (segments m) → Stands m (element_at m a) at bytes → FoundAt m (leaf_at (delimiters_of m) a at bytes)
  unfolding element_of
  leaf_right a at bytes asks deep stood h = record {
    full = deep;
    looked_up = sym (found_passes m a passes (sym (lookup_passes m a ((answered_exactly m a).1 (ok, asks, stood)))) refl) ∙ ap (λ (x : Element). Ok x) element_is;
    not_absent = means_there (delimiters_of m) bytes (state_of (delimiters_of m) bytes) (state_means (delimiters_of m) bytes);
  }
    where
      inside : between m at (at + length bytes) ≡ bytes
      inside = ap (part_bytes m) (sym h.place) ∙ h.holds

      element_is : element_in m (element_at m a) ≡ record { state = state_of (delimiters_of m) bytes; start = at; end = at + length bytes }
      element_is = ap (element_in m) h.place ∙ ap (λ (b : List ℕ). record { state = state_of (delimiters_of m) b; start = at; end = at + length bytes }) inside

  -- ---- of a field that is split further

  module _ (s f : ℕ) (stood : s < length (segments m)) (one : 1 ≤ f) (further : fixed s f ≡ false) where
    abbrev field_part : Option Part
    field_part = field_in m s (segment_at m s) f

    abbrev repetition_part : ℕ → Option Part
    repetition_part r = below (get_or (delimiters_of m) 2 0) m field_part r

    abbrev component_part : ℕ → ℕ → Option Part
    component_part r c = below (get_or (delimiters_of m) 1 0) m (repetition_part r) c

    element_part : (r c u : ℕ) → element_at m (addressed s f r c u) ≡ below (get_or (delimiters_of m) 4 0) m (component_part r c) u
    unfolding subcomponent_at component_at repetition_at
    element_part r c u = element_split m (addressed s f r c u) further

    component_right : (r c at : ℕ) (bytes : List ℕ) → 1 ≤ r → 1 ≤ c → Stands m (component_part r c) at bytes → All (FoundAt m) (in_component ds s f r c at bytes)
    unfolding in_component
    component_right r c at bytes hr hc h =
        level_all m (FoundAt m) (subcomponent_leaf ds s f r c) (get_or (delimiters_of m) 4 0) h
        (λ u t q hu k. all_one (FoundAt m) (leaf_at ds (addressed s f r c u) t q)
        (leaf_right (addressed s f r c u) t q (subcomponent s f r c u one hr hc hu) hu stood (subst (λ (p : Option Part). Stands m p t q) (sym (element_part r c u)) k)))

    repetition_right : (r at : ℕ) (bytes : List ℕ) → 1 ≤ r → Stands m (repetition_part r) at bytes → All (FoundAt m) (in_repetition ds s f r at bytes)
    unfolding in_repetition
    repetition_right r at bytes hr h = level_all m (FoundAt m) (in_component ds s f r) (get_or (delimiters_of m) 1 0) h (λ c t q hc k. component_right r c t q hr hc k)

    field_right : (at : ℕ) (bytes : List ℕ) → Stands m (field_in m s (segment_at m s) f) at bytes → All (FoundAt m) (in_field ds s f at bytes)
    unfolding in_field
    field_right at bytes h = level_all m (FoundAt m) (in_repetition ds s f) (get_or (delimiters_of m) 2 0) h (λ r t q hr k. repetition_right r t q hr k)

  -- ---- of a segment

  other_right : (s : ℕ) → s < length (segments m) → (s ≡ 0 → ⊥) → (f at : ℕ) (bytes : List ℕ) → Stands m (part_in (field_separator m) m (segment_at m s) f) at bytes → All (FoundAt m) (in_part ds s f at bytes)
  unfolding in_part All
  other_right s stood ne f at bytes h = rw (ne_eqb s 0 ne) (go (eqb f 0) refl)
    where
      go : (t : Bool) → eqb f 0 ≡ t → All (FoundAt m) (cond t [] (in_field ds s f at bytes))
      go true e = tt
      go false e =
          let d = eqb-false f 0 e in
          field_right s f stood (omega arith) (rw (ne_eqb s 0 ne)) at bytes (subst (λ (p : Option Part). Stands m p at bytes) (sym (field_other m s (segment_at m s) f ne)) h)

  pub four : 4 ≤ length m
  four = let n = (accepted m ok).opened.nine_bytes in omega arith

  pub separator_stands : Stands m (element_at m (addressed 0 1 1 1 1)) 3 (get_or m 3 0 ∷ [])
  unfolding element_at unsplit field_in
  separator_stands = record { place = refl; within = (omega arith, four); holds = one_byte m four }

  encoding_stands : (at : ℕ) (bytes : List ℕ) → Stands m (part_in (field_separator m) m (segment_at m 0) 1) at bytes → Stands m (element_at m (addressed 0 2 1 1 1)) at bytes
  unfolding element_at unsplit field_in
  encoding_stands at bytes h = h

  header_right : 0 < length (segments m) → (f j at : ℕ) (bytes : List ℕ) → f ≡ 1 + j → Stands m (part_in (field_separator m) m (segment_at m 0) j) at bytes → All (FoundAt m) (in_part ds 0 f at bytes)
  unfolding in_part
  header_right stood f j at bytes n h = go (eqb f 1) (eqb f 2) refl refl
    where
      go : (t u : Bool) → eqb f 1 ≡ t → eqb f 2 ≡ u
          → All (FoundAt m) (cond t (leaf_at ds (addressed 0 1 1 1 1) 3 (get_or ds 0 0 ∷ []) ∷ []) (cond u (leaf_at ds (addressed 0 2 1 1 1) at bytes ∷ []) (in_field ds 0 f at bytes)))
      go true u e g = all_one (FoundAt m) _ (leaf_right (addressed 0 1 1 1 1) 3 (get_or m 3 0 ∷ []) (subcomponent 0 1 1 1 1 (omega arith) (omega arith) (omega arith) (omega arith)) (omega arith) stood separator_stands)
      go false true e g =
          let two = eqb-true f 2 g in
          let i : j ≡ 1 = omega arith in
          all_one (FoundAt m) _ (leaf_right (addressed 0 2 1 1 1) at bytes (subcomponent 0 2 1 1 1 (omega arith) (omega arith) (omega arith) (omega arith)) (omega arith) stood
          (encoding_stands at bytes (subst (λ (x : ℕ). Stands m (part_in (field_separator m) m (segment_at m 0) x) at bytes) i h)))
      go false false e g =
          let d = eqb-false f 1 e in
          let k = eqb-false f 2 g in
          let i : j ≡ f - 1 = omega arith in
          field_right 0 f stood (omega arith) (lt-leb f 2 (omega arith)) at bytes
          (subst (λ (p : Option Part). Stands m p at bytes) (ap (part_in (field_separator m) m (segment_at m 0)) i ∙ sym (field_header m 0 (segment_at m 0) f refl d)) h)

  segment_right : (s at : ℕ) (bytes : List ℕ) → s < length (segments m) → Stands m (segment_at m s) at bytes → All (FoundAt m) (in_segment ds s at bytes)
  unfolding in_segment
  segment_right s at bytes stood h = go (eqb s 0) refl
    where
      go : (t : Bool) → eqb s 0 ≡ t → All (FoundAt m) (each (in_part ds s) (cond t 1 0) at (split (get_or ds 0 0) bytes))
      go true e =
          let z = eqb-true s 0 e in
          each_all (FoundAt m) (in_part ds s) 1 at (split (get_or ds 0 0) bytes)
          (λ j t k. subst (λ (i : ℕ). All (FoundAt m) (in_part ds i (1 + j) t (get_or (split (get_or ds 0 0) bytes) j []))) (sym z)
          (header_right (subst (λ (i : ℕ). i < length (segments m)) z stood) (1 + j) j t (get_or (split (get_or ds 0 0) bytes) j []) refl
          (subst (λ (i : ℕ). Stands m (part_in (field_separator m) m (segment_at m i) j) t (get_or (split (get_or ds 0 0) bytes) j [])) z (stands_in m (field_separator m) h j t k))))
      go false e =
          each_all (FoundAt m) (in_part ds s) 0 at (split (get_or ds 0 0) bytes)
          (λ j t k. let n : j ≡ 0 + j = omega arith in
          subst (λ (i : ℕ). All (FoundAt m) (in_part ds s i t (get_or (split (get_or ds 0 0) bytes) j []))) n
          (other_right s stood (eqb-false s 0 e) j t (get_or (split (get_or ds 0 0) bytes) j []) (stands_in m (field_separator m) h j t k)))

  all_right : All (FoundAt m) (leaves_of m)
  unfolding leaves_of segment_at
  all_right =
      each_all (FoundAt m) (in_segment ds) 0 0 (segments m)
      (λ j t e. let n : j ≡ 0 + j = omega arith in
      let b = segment_bytes m j t (t + length (get_or (segments m) j [])) e in
      subst (λ (i : ℕ). All (FoundAt m) (in_segment ds i t (get_or (segments m) j []))) n
      (segment_right j t (get_or (segments m) j []) b.0 (record { place = e; within = within_segment m j; holds = ap (part_bytes m) e ∙ b.3 })))

pub leaf_found_at : (m : List ℕ) → reading m ≡ passes → (l : Leaf) → In l (leaves_of m) → FoundAt m l
leaf_found_at m ok l i = all_in (FoundAt m) (leaves_of m) (all_right m ok) i

-- each leaf of a message is what a lookup finds at its address
pub leaf_found : (m : List ℕ) → reading m ≡ passes → (l : Leaf) → In l (leaves_of m) → found m l.address ≡ Ok l.element
leaf_found m ok l i = (leaf_found_at m ok l i).looked_up
