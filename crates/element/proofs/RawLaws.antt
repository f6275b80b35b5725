-- The raw bytes at an address, as parts of the split: a field of a segment, and a component of its first repetition. Assumes nothing.
use mathlib.Core.Path.{◌≡◌, refl, sym, ap, ◌∙◌}
use mathlib.Core.Bool.{Bool, true, false, cond}
use mathlib.Core.List.{List, []}
use Prim.Native.Nat.{ℕ, zero, suc, ◌+◌, ◌-◌, ◌≤◌}
use native.Mathlib.Omega.{arith}
use lib.Dec.{leb}
use lib.ListN.{length, get_or, take, drop, get_or-eq_default}
use borrow.Author.Tests.{leb-true, leb-false, le-leb, lt-leb, ne_eqb}
use Rattle.std.specs.Prelude.{None, Some, Option}
use Rattle.alphabet.specs.Parts.{split, standing, part_at, from_to}
use Rattle.alphabet.specs.declared.parts.Part.{Part}
use Rattle.alphabet.proofs.ListLaws.{piece_of_piece}
use Rattle.alphabet.proofs.PartLaws.{part_same, part_bytes_lem, absent_past}
use Rattle.reading.specs.Segments.{delimiters_of, field_separator, segments, segment_at}
use Rattle.reading.proofs.SegmentLaws.{segment_bytes, segment_past}
use Rattle.element.specs.Levels.{between, moved, part_in, field_in, below, repetition_at, component_at, subcomponent_at, fixed, unsplit, element_at}
use Rattle.element.specs.Finding.{part_bytes, raw_bytes}
use Rattle.element.specs.Addresses.{type_address}
use Rattle.element.specs.declared.address.Address.{Address}
use Rattle.element.proofs.FindingLaws.{raw_short}
use Rattle.element.proofs.LevelLaws.{Within, between_length, within_segment, within_field, within_in, field_header, field_other}

-- absent means past the last part
pub absent_means : (sep : ℕ) (m : List ℕ) (s e k : ℕ) → part_in sep m (from_to s e) k ≡ None → length (split sep (between m s e)) ≤ k
unfolding part_in part_at
absent_means sep m s e k q = at (standing 0 (split sep (between m s e)) k) refl q
  where
    at : (p : Option Part) → standing 0 (split sep (between m s e)) k ≡ p → moved s p ≡ None → length (split sep (between m s e)) ≤ k
    at None r q = absent_past 0 (split sep (between m s e)) k r
    at (Some part) r q = absurd (let z : ◌≡◌ {A = ℕ} 0 1 = cc in omega arith)

-- a part's bytes are exactly the part of the split
pub part_means : (sep : ℕ) (m : List ℕ) (s e k b f : ℕ) → s ≤ e → e ≤ length m → part_in sep m (from_to s e) k ≡ from_to b f
    → (s ≤ b) × (b ≤ f) × (f ≤ e) × (between m b f ≡ get_or (split sep (between m s e)) k [])
unfolding part_in
part_means sep m s e k b f h l q = at (part_at sep (between m s e) k) refl q
  where
    at : (p : Option Part) → part_at sep (between m s e) k ≡ p → moved s p ≡ from_to b f → (s ≤ b) × (b ≤ f) × (f ≤ e) × (between m b f ≡ get_or (split sep (between m s e)) k [])
    at None r q = absurd (let z : ◌≡◌ {A = ℕ} 0 1 = cc in omega arith)
    at (Some part) r q =
        let both = part_same q in
        let g : s + part.start ≡ b = both.0 in
        let j : s + part.end ≡ f = both.1 in
        let i = part_bytes_lem sep (between m s e) k part.start part.end r in
        let i1 = i.1 in
        let i2 = i.2 in
        let n = between_length m s e h l in
        let w : f - b ≡ part.end - part.start = omega arith in (
          omega arith,
          omega arith,
          omega arith,
          ap (λ (z : ℕ). take z (drop b m)) w ∙ ap (λ (z : ℕ). take (part.end - part.start) (drop z m)) (sym g)
              ∙ sym (piece_of_piece m s (e - s) part.start (part.end - part.start) (omega arith)) ∙ i.3,
        )

-- a part's part, by its bytes
pub part_in_bytes : (sep : ℕ) (m : List ℕ) (p : Option Part) (k : ℕ) → Within m p → part_bytes m (part_in sep m p k) ≡ get_or (split sep (part_bytes m p)) k []
unfolding part_in split
part_in_bytes sep m None zero w = refl
part_in_bytes sep m None (suc k) w = refl
part_in_bytes sep m (Some part) k w = at (part_in sep m (from_to part.start part.end) k) refl
  where
    at : (q : Option Part) → part_in sep m (from_to part.start part.end) k ≡ q → part_bytes m q ≡ get_or (split sep (between m part.start part.end)) k []
    at None r = sym (get_or-eq_default (split sep (between m part.start part.end)) [] (absent_means sep m part.start part.end k r))
    at (Some piece) r = (part_means sep m part.start part.end k piece.start piece.end w.0 w.1 r).3

module _ (m : List ℕ) (long : 4 ≤ length m) where
  -- field f of the segment of a number, whole
  abbrev pub whole : ℕ → ℕ → Address
  whole k f = record { segment = k; field = f; repetition = 0; component = 0; subcomponent = 0 }

  -- component c of repetition 1 of that field
  abbrev pub component : ℕ → ℕ → ℕ → Address
  component k f c = record { segment = k; field = f; repetition = 1; component = c; subcomponent = 0 }

  abbrev field_part : ℕ → ℕ → Option Part
  field_part k f = field_in m k (segment_at m k) f

  pub raw_whole : (k f : ℕ) → raw_bytes m (whole k f) ≡ part_bytes m (field_in m k (segment_at m k) f)
  unfolding raw_bytes element_at unsplit subcomponent_at component_at repetition_at below
  raw_whole k f = rw (le-leb 4 (length m) long) (at (fixed k f))
    where
      at : (t : Bool) → part_bytes m (cond t (field_part k f) (field_part k f)) ≡ part_bytes m (field_part k f)
      at true = refl
      at false = refl

  field_within : (k f : ℕ) → Within m (field_part k f)
  field_within k f = within_field m k (segment_at m k) f long (within_segment m k)

  -- the bytes of a segment
  pub segment_part_bytes : (k : ℕ) → part_bytes m (segment_at m k) ≡ get_or (segments m) k []
  segment_part_bytes k = at (segment_at m k) refl
    where
      at : (p : Option Part) → segment_at m k ≡ p → part_bytes m p ≡ get_or (segments m) k []
      at None q = sym (get_or-eq_default (segments m) [] (segment_past m k q))
      at (Some part) q = (segment_bytes m k part.start part.end q).3

  -- "fields 3, 4, ..": MSH's are counted from the separator itself
  pub raw_header : (f : ℕ) → (f ≡ 1 → ⊥) → raw_bytes m (whole 0 f) ≡ get_or (split (field_separator m) (get_or (segments m) 0 [])) (f - 1) []
  raw_header f n =
      raw_whole 0 f ∙ ap (part_bytes m) (field_header m 0 (segment_at m 0) f refl n) ∙ part_in_bytes (field_separator m) m (segment_at m 0) (f - 1) (within_segment m 0)
      ∙ ap (λ (x : List ℕ). get_or (split (field_separator m) x) (f - 1) []) (segment_part_bytes 0)

  pub raw_other : (k f : ℕ) → (k ≡ 0 → ⊥) → raw_bytes m (whole k f) ≡ get_or (split (field_separator m) (get_or (segments m) k [])) f []
  raw_other k f n =
      raw_whole k f ∙ ap (part_bytes m) (field_other m k (segment_at m k) f n) ∙ part_in_bytes (field_separator m) m (segment_at m k) f (within_segment m k)
      ∙ ap (λ (x : List ℕ). get_or (split (field_separator m) x) f []) (segment_part_bytes k)

  -- component c of the first repetition of a field that is split
  component_of : (k f c : ℕ) → fixed k f ≡ false → 1 ≤ c
      → raw_bytes m (component k f c) ≡ get_or (split (get_or (delimiters_of m) 1 0) (get_or (split (get_or (delimiters_of m) 2 0) (raw_bytes m (whole k f))) 0 [])) (c - 1) []
  unfolding raw_bytes element_at subcomponent_at component_at repetition_at below
  component_of k f zero h l = absurd (omega arith)
  component_of k f (suc c) h l =
      let repetition = part_in_bytes (get_or (delimiters_of m) 2 0) m (field_part k f) 0 (field_within k f) in
      let inner = part_in_bytes (get_or (delimiters_of m) 1 0) m (part_in (get_or (delimiters_of m) 2 0) m (field_part k f) 0) c (within_in (get_or (delimiters_of m) 2 0) m (field_part k f) 0 (field_within k f)) in
      let e : suc c - 1 ≡ c = omega arith in
      rw (le-leb 4 (length m) long, h, e)
      (inner ∙ ap (λ (x : List ℕ). get_or (split (get_or (delimiters_of m) 1 0) x) c []) repetition)

  -- of a field of MSH, which is not one of the first two
  pub raw_component : (f c : ℕ) → 3 ≤ f → 1 ≤ c
      → raw_bytes m (component 0 f c) ≡ get_or (split (get_or (delimiters_of m) 1 0) (get_or (split (get_or (delimiters_of m) 2 0) (raw_bytes m (whole 0 f))) 0 [])) (c - 1) []
  raw_component f c h l = component_of 0 f c (lt-leb f 2 (omega arith)) l

  -- of a field of any other segment
  pub raw_component_other : (k f c : ℕ) → (k ≡ 0 → ⊥) → 1 ≤ c
      → raw_bytes m (component k f c) ≡ get_or (split (get_or (delimiters_of m) 1 0) (get_or (split (get_or (delimiters_of m) 2 0) (raw_bytes m (whole k f))) 0 [])) (c - 1) []
  raw_component_other k f c n l = component_of k f c (rw (ne_eqb k 0 n)) l

  -- the first repetition of a field that is split
  pub raw_repetition : (f : ℕ) → 3 ≤ f → raw_bytes m (component 0 f 0) ≡ get_or (split (get_or (delimiters_of m) 2 0) (raw_bytes m (whole 0 f))) 0 []
  unfolding raw_bytes element_at subcomponent_at component_at repetition_at below
  raw_repetition f h = rw (le-leb 4 (length m) long, lt-leb f 2 (omega arith)) (part_in_bytes (get_or (delimiters_of m) 2 0) m (field_part 0 f) 0 (field_within 0 f))

-- the components of a message's type are those of the first repetition of MSH-9
pub raw_type : (m : List ℕ) (k : ℕ) → 1 ≤ k → raw_bytes m (type_address k) ≡ get_or (split (get_or m 4 0) (raw_bytes m (type_address 0))) (k - 1) []
unfolding split
raw_type m k h = at (leb 4 (length m)) refl
  where
    none : (j : ℕ) → get_or (split (get_or m 4 0) []) j [] ≡ []
    none zero = refl
    none (suc j) = refl

    at : (t : Bool) → leb 4 (length m) ≡ t → raw_bytes m (type_address k) ≡ get_or (split (get_or m 4 0) (raw_bytes m (type_address 0))) (k - 1) []
    at true e =
        let long = leb-true 4 (length m) e in
        raw_component m long 9 k (omega arith) h ∙ ap (λ (x : List ℕ). get_or (split (get_or m 4 0) x) (k - 1) []) (sym (raw_repetition m long 9 (omega arith)))
    at false e =
        let short = leb-false 4 (length m) e in
        raw_short m (type_address k) short ∙ sym (ap (λ (x : List ℕ). get_or (split (get_or m 4 0) x) (k - 1) []) (raw_short m (type_address 0) short) ∙ none (k - 1))
