-- An element of a field that is split further, level by level: its bytes are those of its part of the split, it begins behind the parts before it, and it is
-- absent exactly where a level has fewer parts than the number asked for. Assumes nothing.
use mathlib.Core.Path.{◌≡◌, refl, sym, ap, subst, subst₂, ◌∙◌}
use mathlib.Core.Bool.{Bool, true, false, cond}
use mathlib.Core.List.{List, []}
use mathlib.Core.Logic.{◌⊎◌, inl, inr, ⊎_elim, ◌↔◌}
use Prim.Native.Nat.{ℕ, zero, suc, ◌+◌, ◌-◌, ◌≤◌, ◌<◌}
use native.Mathlib.Omega.{arith}
use lib.Dec.{eqb}
use lib.ListN.{length, get_or}
use borrow.Author.Tests.{eqb-true, eqb-false, ne_eqb, lt-leb}
use Rattle.std.specs.Prelude.{None, Some, Option}
use Rattle.alphabet.specs.Parts.{split}
use Rattle.alphabet.specs.declared.parts.Part.{Part}
use Rattle.reading.specs.Segments.{delimiters_of, field_separator, segment_at}
use Rattle.element.specs.Finding.{part_bytes}
use Rattle.element.specs.Levels.{fixed, part_in, field_in, below, repetition_at, component_at, subcomponent_at, element_at}
use Rattle.element.specs.declared.address.Address.{Address}
use Rattle.element.proofs.LevelLaws.{Within, in_absent, field_header, field_other, within_segment, within_field, within_below, element_split}
use Rattle.laws.specs.Elements.{level, segment_bytes, field_place, field_bytes, repetition_bytes, component_bytes, levels, before, before_level, segment_start, field_start, repetition_start, component_start, start_of, Past, no_field, no_repetition, no_component, no_subcomponent, SplitFurther}
use Rattle.laws.proofs.ElementLaws.{means_absent}
use Rattle.laws.proofs.LevelStarts.{Begins, begins_segment, begins_in, begins_below}
use Rattle.element.proofs.RawLaws.{absent_means, part_in_bytes, segment_part_bytes}

-- ---- one level

module _ (m : List ℕ) (sep : ℕ) where
  -- the bytes of a part below another
  below_bytes : (p : Option Part) (k : ℕ) → Within m p → part_bytes m (below sep m p k) ≡ level sep k (part_bytes m p)
  unfolding below
  below_bytes p zero w = refl
  below_bytes p (suc k) w =
      let e : suc k - 1 ≡ k = omega arith in
      rw (ne_eqb (suc k) 0 (λ z. omega arith), e) (part_in_bytes sep m p k w)

  -- a part of a part that is there is absent past the last one
  in_past : (p : Option Part) (k : ℕ) → part_in sep m p k ≡ None → (p ≡ None) ⊎ (length (split sep (part_bytes m p)) ≤ k)
  in_past None k q = inl refl
  in_past (Some part) k q = inr (absent_means sep m part.start part.end k q)

  past_in : (p : Option Part) (k : ℕ) → (p ≡ None) ⊎ (length (split sep (part_bytes m p)) ≤ k) → part_in sep m p k ≡ None
  past_in None k h = in_absent sep m None k refl
  past_in (Some part) k h = ⊎_elim (λ q. absurd (let z : ◌≡◌ {A = ℕ} 0 1 = cc in omega arith)) (means_absent sep m part.start part.end k) h

  below_past : (p : Option Part) (k : ℕ) → below sep m p k ≡ None → (p ≡ None) ⊎ (length (split sep (part_bytes m p)) < k)
  unfolding below
  below_past p zero q = inl q
  below_past p (suc k) q = ⊎_elim inl (λ n. inr (omega arith)) (in_past p k q)

  past_below : (p : Option Part) (k : ℕ) → (p ≡ None) ⊎ (length (split sep (part_bytes m p)) < k) → below sep m p k ≡ None
  unfolding below
  past_below p zero h = ⊎_elim (λ q. q) (λ n. absurd (omega arith)) h
  past_below p (suc k) h = past_in p k (⊎_elim inl (λ n. inr (omega arith)) h)

-- ---- the address

pub split_further : (a : Address) → SplitFurther a → fixed a.segment a.field ≡ false
split_further a h = at (eqb a.segment 0) refl
  where
    at : (t : Bool) → eqb a.segment 0 ≡ t → fixed a.segment a.field ≡ false
    at false e = rw e
    at true e = let l = h (eqb-true a.segment 0 e) in rw (e, lt-leb a.field 2 (omega arith))

module _ (m : List ℕ) (a : Address) (four : 4 ≤ length m) (further : SplitFurther a) where
  abbrev segment_part : Option Part
  segment_part = segment_at m a.segment

  abbrev field_part : Option Part
  field_part = field_in m a.segment segment_part a.field

  abbrev repetition_part : Option Part
  repetition_part = below (get_or (delimiters_of m) 2 0) m field_part a.repetition

  abbrev component_part : Option Part
  component_part = below (get_or (delimiters_of m) 1 0) m repetition_part a.component

  abbrev subcomponent_part : Option Part
  subcomponent_part = below (get_or (delimiters_of m) 4 0) m component_part a.subcomponent

  element_part : element_at m a ≡ subcomponent_part
  unfolding subcomponent_at component_at repetition_at
  element_part = element_split m a (split_further a further)

  field_part_lem : field_part ≡ part_in (field_separator m) m segment_part (field_place a)
  field_part_lem = at (eqb a.segment 0) refl
    where
      at : (t : Bool) → eqb a.segment 0 ≡ t → field_part ≡ part_in (field_separator m) m segment_part (cond t (a.field - 1) a.field)
      at true e =
          let z = eqb-true a.segment 0 e in
          let l = further z in
          field_header m a.segment segment_part a.field z (λ q. omega arith)
      at false e = field_other m a.segment segment_part a.field (eqb-false a.segment 0 e)

  in_field : Within m field_part
  in_field = within_field m a.segment segment_part a.field four (within_segment m a.segment)

  in_repetition : Within m repetition_part
  in_repetition = within_below (get_or (delimiters_of m) 2 0) m field_part a.repetition in_field

  in_component : Within m component_part
  in_component = within_below (get_or (delimiters_of m) 1 0) m repetition_part a.component in_repetition

  segment_is : part_bytes m segment_part ≡ segment_bytes m a
  segment_is = segment_part_bytes m four a.segment

  field_is : part_bytes m field_part ≡ field_bytes m a
  field_is =
      ap (part_bytes m) field_part_lem ∙ part_in_bytes (field_separator m) m segment_part (field_place a) (within_segment m a.segment)
      ∙ ap (λ (b : List ℕ). get_or (split (field_separator m) b) (field_place a) []) segment_is

  repetition_is : part_bytes m repetition_part ≡ repetition_bytes m a
  repetition_is = below_bytes m (get_or (delimiters_of m) 2 0) field_part a.repetition in_field ∙ ap (level (get_or (delimiters_of m) 2 0) a.repetition) field_is

  component_is : part_bytes m component_part ≡ component_bytes m a
  component_is = below_bytes m (get_or (delimiters_of m) 1 0) repetition_part a.component in_repetition ∙ ap (level (get_or (delimiters_of m) 1 0) a.component) repetition_is

  -- its bytes
  pub level_bytes : part_bytes m (element_at m a) ≡ levels m a
  level_bytes =
      ap (part_bytes m) element_part ∙ below_bytes m (get_or (delimiters_of m) 4 0) component_part a.subcomponent in_component
      ∙ ap (level (get_or (delimiters_of m) 4 0) a.subcomponent) component_is

  -- where it begins
  field_begins : Begins field_part (field_start m a)
  field_begins =
      subst₂ Begins (sym field_part_lem) (ap (λ (b : List ℕ). segment_start m a + before (field_separator m) (field_place a) b) segment_is)
      (begins_in (field_separator m) m segment_part (field_place a) (segment_start m a) (begins_segment m a.segment))

  repetition_begins : Begins repetition_part (repetition_start m a)
  repetition_begins =
      subst (Begins repetition_part) (ap (λ (b : List ℕ). field_start m a + before_level (get_or (delimiters_of m) 2 0) a.repetition b) field_is)
      (begins_below (get_or (delimiters_of m) 2 0) m field_part a.repetition (field_start m a) field_begins)

  component_begins : Begins component_part (component_start m a)
  component_begins =
      subst (Begins component_part) (ap (λ (b : List ℕ). repetition_start m a + before_level (get_or (delimiters_of m) 1 0) a.component b) repetition_is)
      (begins_below (get_or (delimiters_of m) 1 0) m repetition_part a.component (repetition_start m a) repetition_begins)

  pub element_begins : Begins (element_at m a) (start_of m a)
  element_begins =
      subst₂ Begins (sym element_part) (ap (λ (b : List ℕ). component_start m a + before_level (get_or (delimiters_of m) 4 0) a.subcomponent b) component_is)
      (begins_below (get_or (delimiters_of m) 4 0) m component_part a.subcomponent (component_start m a) component_begins)

  -- how many parts a level has
  count : (sep : ℕ) {b c : List ℕ} → b ≡ c → length (split sep b) ≡ length (split sep c)
  count sep e = ap (λ (x : List ℕ). length (split sep x)) e

  module _ (stands : segment_part ≡ None → ⊥) where
    past_field : field_part ≡ None → Past m a
    past_field q =
        ⊎_elim
        (λ s. absurd (stands s))
        (λ n. no_field (let c = count (field_separator m) segment_is in omega arith))
        (in_past m (field_separator m) segment_part (field_place a) (sym field_part_lem ∙ q))

    past_repetition : repetition_part ≡ None → Past m a
    past_repetition q =
        ⊎_elim past_field
        (λ n. no_repetition (let c = count (get_or (delimiters_of m) 2 0) field_is in omega arith))
        (below_past m (get_or (delimiters_of m) 2 0) field_part a.repetition q)

    past_component : component_part ≡ None → Past m a
    past_component q =
        ⊎_elim past_repetition
        (λ n. no_component (let c = count (get_or (delimiters_of m) 1 0) repetition_is in omega arith))
        (below_past m (get_or (delimiters_of m) 1 0) repetition_part a.component q)

    past_element : element_at m a ≡ None → Past m a
    past_element q =
        ⊎_elim past_component
        (λ n. no_subcomponent (let c = count (get_or (delimiters_of m) 4 0) component_is in omega arith))
        (below_past m (get_or (delimiters_of m) 4 0) component_part a.subcomponent (sym element_part ∙ q))

    absent_component : component_part ≡ None → element_at m a ≡ None
    absent_component q = element_part ∙ past_below m (get_or (delimiters_of m) 4 0) component_part a.subcomponent (inl q)

    absent_repetition : repetition_part ≡ None → element_at m a ≡ None
    absent_repetition q = absent_component (past_below m (get_or (delimiters_of m) 1 0) repetition_part a.component (inl q))

    absent_field : field_part ≡ None → element_at m a ≡ None
    absent_field q = absent_repetition (past_below m (get_or (delimiters_of m) 2 0) field_part a.repetition (inl q))

    element_past : Past m a → element_at m a ≡ None
    element_past (no_field n) =
        let c = count (field_separator m) segment_is in
        absent_field (field_part_lem ∙ past_in m (field_separator m) segment_part (field_place a) (inr (omega arith)))
    element_past (no_repetition n) =
        let c = count (get_or (delimiters_of m) 2 0) field_is in
        absent_repetition (past_below m (get_or (delimiters_of m) 2 0) field_part a.repetition (inr (omega arith)))
    element_past (no_component n) =
        let c = count (get_or (delimiters_of m) 1 0) repetition_is in
        absent_component (past_below m (get_or (delimiters_of m) 1 0) repetition_part a.component (inr (omega arith)))
    element_past (no_subcomponent n) =
        let c = count (get_or (delimiters_of m) 4 0) component_is in
        element_part ∙ past_below m (get_or (delimiters_of m) 4 0) component_part a.subcomponent (inr (omega arith))

    -- it is absent exactly where a level has too few parts
    pub past_exactly : (element_at m a ≡ None) ↔ Past m a
    past_exactly = (past_element, element_past)
