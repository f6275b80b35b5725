-- The rows of MSH, each required and not to be repeated: one finds 31, 34 or 36, or there is one repetition with the part judged present, and it finds what
-- is wrong with that part. In the lists that the judge walks along, and at the addresses of a lookup. Rests on both being the same bytes (Agreement).
use mathlib.Core.Path.{◌≡◌, refl, sym, ap, subst, ◌∙◌}
use mathlib.Core.Logic.{◌↔◌, inl, inr}
use mathlib.Core.Bool.{Bool, true, false, cond, not}
use mathlib.Core.List.{List, [], ◌∷◌}
use Prim.Native.Nat.{ℕ, ◌+◌, ◌≤◌, ◌<◌}
use native.Mathlib.Decide.{dec_lt}
use native.Mathlib.Omega.{arith}
use lib.Dec.{ltb}
use lib.ListN.{length, get_or}
use borrow.Author.Tests.{le-leb, ltb-false, le-ltb, not-false}
use Rattle.std.specs.Prelude.{None, Ok, Err, Some, Option}
use Rattle.alphabet.specs.Answers.{number_of, fails_if, in_order, or_else, Check, passes, fails}
use Rattle.alphabet.specs.Limits.{id_limit}
use Rattle.alphabet.specs.Lists.{same}
use Rattle.alphabet.specs.Parts.{split, standing, from_to}
use Rattle.alphabet.proofs.BoolLaws.{false_true}
use Rattle.alphabet.proofs.CheckLaws.{passes_not, ends}
use Rattle.alphabet.proofs.ListLaws.{same_own, same_is}
use Rattle.alphabet.specs.declared.answers.Refusal.{Refusal}
use Rattle.alphabet.specs.declared.answers.Refusal.TheVariants.{BreaksForm, NotListed, Repeated, ValueTooLong}
use Rattle.alphabet.specs.declared.parts.Part.{Part}
use Rattle.reading.specs.Segments.{delimiters_of, segments, segment_at}
use Rattle.element.specs.Finding.{part_bytes, raw_bytes}
use Rattle.element.specs.Levels.{fixed, element_at}
use Rattle.element.specs.States.{state_of, is_present}
use Rattle.element.specs.declared.states.State.{State}
use Rattle.element.specs.declared.states.State.TheVariants.{Absent as no_part, Empty, Null, Present}
use Rattle.times.specs.Times.{is_ts}
use Rattle.field_table.specs.Table.{rows, values_of, member}
use Rattle.field_table.proofs.TableLaws.{member_here, member_past, member_none}
use Rattle.field_table.specs.declared.Kind.{Kind}
use Rattle.field_table.specs.declared.Kind.TheVariants.{Identifier, Ts, OneOf as listed}
use Rattle.field_table.specs.declared.Values.{Values}
use Rattle.field_table.specs.declared.Values.TheVariants.{Processing, Version}
use Rattle.rules.specs.Rules.{form_check, judged_part, part_state, placed, repetition_check, repetition_checks, first_state, required_check, row_check}
use Rattle.fields.proofs.FieldLaws.{nothing_part, nothing_state}
use Rattle.fields.specs.Judging.{sound, repetitions_of, located, or_fault, first_fault, row_fault, segment_fault}
use Rattle.laws.specs.Elements.{address}
use Rattle.laws.specs.Rejected.{StandsOnce, IsOneOf, IsNoneOf, Timed, Identified, processing_ids, versions}
use Rattle.laws.proofs.Agreement.{judged_element, counted_element}

pub placed_passes : (number : ℕ) (c : Check) → placed number c ≡ passes → c ≡ passes
placed_passes number (Ok _) e = refl
placed_passes number (Err fault) e = absurd (let z : ◌≡◌ {A = ℕ} 0 1 = cc in omega arith)

-- neither 31, 34 nor 36: nothing, or 33
abbrev pub Calm : Check → Type 0
Calm (Ok _) = Unit {0}
Calm (Err fault) = number_of fault.kind ≡ 33

module _ (ds : List ℕ) (component : ℕ) (kind : Kind) where
  -- what such a row asks, where no field says its type
  abbrev pub asks : List (List ℕ) → Check
  asks rs =
      or_else (required_check true (first_state ds component rs))
      (or_else (fails_if (ltb 1 (length rs)) Repeated 1) (in_order (repetition_checks ds component kind 1 rs)))

  -- one repetition, of which the part judged is present
  pub record Single (rs : List (List ℕ)) : Type 0 where
    pub once : length rs ≤ 1
    pub there : state_of ds (judged_part ds component (get_or rs 0 [])) ≡ Present

  pub single : (rs : List (List ℕ)) (c : Check) → asks rs ≡ c → Calm c → Single rs
  single rs c = at (first_state ds component rs) refl
    where
      first_there : (l : List (List ℕ)) → first_state ds component l ≡ Present → state_of ds (judged_part ds component (get_or l 0 [])) ≡ Present
      first_there [] p = absurd (let z : ◌≡◌ {A = ℕ} 0 1 = cc in omega arith)
      first_there (r ∷ rest) p = p

      repeated : (t : Bool) → ltb 1 (length rs) ≡ t → first_state ds component rs ≡ Present → or_else (fails_if t Repeated 1) (in_order (repetition_checks ds component kind 1 rs)) ≡ c → Calm c → Single rs
      repeated true l p e q = absurd (let z = subst Calm (sym e) q in omega (arith, z))
      repeated false l p e q = record { once = ltb-false 1 (length rs) l; there = first_there rs p }

      at : (s : State) → first_state ds component rs ≡ s → or_else (required_check true s) (or_else (fails_if (ltb 1 (length rs)) Repeated 1) (in_order (repetition_checks ds component kind 1 rs))) ≡ c → Calm c → Single rs
      at no_part p e q = absurd (let z = subst Calm (sym e) q in omega (arith, z))
      at Empty p e q = absurd (let z = subst Calm (sym e) q in omega (arith, z))
      at Null p e q = absurd (let z = subst Calm (sym e) q in omega (arith, z))
      at Present p e q = repeated (ltb 1 (length rs)) refl p e q

  -- no bytes have no part that is present
  pub nothing_there : state_of ds (judged_part ds component []) ≡ Present → ⊥
  nothing_there p = let e = sym (ap (state_of ds) (nothing_part ds component) ∙ nothing_state ds) ∙ p in let z : ◌≡◌ {A = ℕ} 0 1 = cc in omega arith

  pub finds : (rs : List (List ℕ)) → Single rs → asks rs ≡ placed 1 (form_check kind (judged_part ds component (get_or rs 0 [])))
  unfolding repetition_checks repetition_check
  finds [] s = absurd (nothing_there s.there)
  finds (r ∷ []) s = at (part_state ds component r) s.there
    where
      at : (t : State) → t ≡ Present
          → or_else (required_check true t) (or_else (fails_if (ltb 1 1) Repeated 1) (or_else (cond (is_present t) (placed 1 (form_check kind (judged_part ds component r))) passes) passes))
          ≡ placed 1 (form_check kind (judged_part ds component r))
      at Present q = sym (ends refl)
      at no_part q = absurd (let z : ◌≡◌ {A = ℕ} 0 1 = cc in omega arith)
      at Empty q = absurd (let z : ◌≡◌ {A = ℕ} 0 1 = cc in omega arith)
      at Null q = absurd (let z : ◌≡◌ {A = ℕ} 0 1 = cc in omega arith)
  finds (r ∷ q ∷ rest) s = absurd (let l = s.once in omega arith)

-- ---- at the addresses of a lookup

-- where the first segment stands
pub first_stands : (m s : List ℕ) (rest : List (List ℕ)) → segments m ≡ s ∷ rest → segment_at m 0 ≡ from_to 0 (0 + length s)
unfolding segment_at standing
first_stands m s rest first = ap (λ (ss : List (List ℕ)). standing 0 ss 0) first

module _ (m s : List ℕ) (rest : List (List ℕ)) (first : segments m ≡ s ∷ rest) (four : 4 ≤ length m) (field component : ℕ) (free : fixed 0 field ≡ false) where
  abbrev held : List (List ℕ)
  held = repetitions_of m 0 (from_to 0 (0 + length s)) field

  abbrev ds : List ℕ
  ds = delimiters_of m

  -- what the row looks at is the element
  looked_up : judged_part ds component (get_or held 0 []) ≡ raw_bytes m (address 0 field 1 component 0)
  unfolding raw_bytes
  looked_up =
      ap (λ (p : Option Part). judged_part ds component (get_or (repetitions_of m 0 p field) 0 [])) (sym (first_stands m s rest first))
      ∙ judged_element m 0 field 0 four free component
      ∙ ap (λ (t : Bool). cond t (part_bytes m (element_at m (address 0 field 1 component 0))) []) (sym (le-leb 4 (length m) four))

  -- and there is a second repetition exactly where there is a second element
  counted : (1 < length held) ↔ (element_at m (address 0 field 2 0 0) ≡ None → ⊥)
  counted =
      let c = counted_element m 0 field 1 four free in
      let w = ap (λ (p : Option Part). length (repetitions_of m 0 p field)) (first_stands m s rest first) in
      (λ h. c.0 (omega (arith, h)), λ n. let h = c.1 n in omega (arith, h))

  pub stands : (kind : Kind) (Is : List ℕ → Type 0) → Single ds component kind held → Is (judged_part ds component (get_or held 0 [])) → StandsOnce m field component Is
  stands kind Is o i = record { once = at (element_at m (address 0 field 2 0 0)) refl; present = ap (state_of ds) (sym looked_up) ∙ o.there; so = subst Is looked_up i }
    where
      at : (p : Option Part) → element_at m (address 0 field 2 0 0) ≡ p → element_at m (address 0 field 2 0 0) ≡ None
      at None e = e
      at (Some part) e = absurd (let l = o.once in let h = counted.1 (λ q. let z : ◌≡◌ {A = ℕ} 0 1 = cc in omega arith) in omega (arith, h))

  pub standing_so : (kind : Kind) (Is : List ℕ → Type 0) → StandsOnce m field component Is → Single ds component kind held × Is (judged_part ds component (get_or held 0 []))
  standing_so kind Is o = (record { once = at (dec_lt 1 (length held)); there = ap (state_of ds) looked_up ∙ o.present }, subst Is (sym looked_up) o.so)
    where
      at : Dec (1 < length held) → length held ≤ 1
      at (yes h) = absurd (counted.0 h o.once)
      at (no h) = omega (arith, h)

  -- it passes exactly where the field stands and its part has the form
  pub passes_so : (kind : Kind) (Is : List ℕ → Type 0) → ((b : List ℕ) → (form_check kind b ≡ passes) ↔ Is b) → (asks ds component kind held ≡ passes) ↔ StandsOnce m field component Is
  passes_so kind Is form = (
    λ e.
        let o = single ds component kind held passes e tt in
        stands kind Is o ((form (judged_part ds component (get_or held 0 []))).0 (placed_passes 1 _ (sym (finds ds component kind held o) ∙ e))),
    λ h.
        let o = standing_so kind Is h in
        finds ds component kind held o.0 ∙ ap (placed 1) ((form (judged_part ds component (get_or held 0 []))).1 o.1),
  )

  -- 33 exactly where it stands and its part is not in the list
  pub fails_so : (values : Values) (Is : List ℕ → Type 0) → ((b : List ℕ) → (member b (values_of values) ≡ false) ↔ Is b)
      → ((k : Refusal) (place : ℕ) → number_of k ≡ 33 → asks ds component (listed values) held ≡ fails k place → StandsOnce m field component Is)
      × (StandsOnce m field component Is → asks ds component (listed values) held ≡ fails NotListed 1)
  unfolding form_check
  fails_so values Is list = (
    λ k place n e.
        let o = single ds component (listed values) held (fails k place) e n in
        stands (listed values) Is o ((list (judged_part ds component (get_or held 0 []))).0 (out (member (judged_part ds component (get_or held 0 [])) (values_of values)) (sym (finds ds component (listed values) held o) ∙ e))),
    λ h.
        let o = standing_so (listed values) Is h in
        finds ds component (listed values) held o.0 ∙ ap (λ (t : Bool). placed 1 (fails_if (not t) NotListed 0)) ((list (judged_part ds component (get_or held 0 []))).1 o.1),
  )
    where
      out : {k : Refusal} {place : ℕ} (t : Bool) → placed 1 (fails_if (not t) NotListed 0) ≡ fails k place → t ≡ false
      out false q = refl
      out true q = absurd (let z : ◌≡◌ {A = ℕ} 0 1 = cc in omega arith)

-- ---- a form, and what it says

ts_form : (b : List ℕ) → (form_check Ts b ≡ passes) ↔ (is_ts b ≡ true)
unfolding form_check
ts_form b = (λ e. not-false (is_ts b) (passes_not (not (is_ts b)) BreaksForm 0 e), λ e. rw e refl)

pub id_form : (b : List ℕ) → (form_check Identifier b ≡ passes) ↔ (length b ≤ id_limit)
unfolding form_check
id_form b = (λ e. ltb-false id_limit (length b) (passes_not (ltb id_limit (length b)) ValueTooLong 0 e), λ l. rw (le-ltb id_limit (length b) l) refl)

-- one step along the list
one_more : (v : List ℕ) (vs : List (List ℕ)) (b : List ℕ) → (member b vs ≡ true) ↔ IsOneOf vs b → (member b (v ∷ vs) ≡ true) ↔ IsOneOf (v ∷ vs) b
one_more v vs b step = (to (same b v) refl, from)
  where
    to : (t : Bool) → same b v ≡ t → member b (v ∷ vs) ≡ true → IsOneOf (v ∷ vs) b
    to true e q = inl (same_is b v e)
    to false e q = inr (step.0 (sym (member_past b v vs e) ∙ q))

    later : (t : Bool) → same b v ≡ t → IsOneOf vs b → member b (v ∷ vs) ≡ true
    later true e o = member_here b v vs e
    later false e o = member_past b v vs e ∙ step.1 o

    from : IsOneOf (v ∷ vs) b → member b (v ∷ vs) ≡ true
    from (inl q) = member_here b v vs (ap (λ (x : List ℕ). same x v) q ∙ same_own v)
    from (inr o) = later (same b v) refl o

one_listed : (vs : List (List ℕ)) (b : List ℕ) → (member b vs ≡ true) ↔ IsOneOf vs b
one_listed [] b = (λ e. false_true (sym (member_none b) ∙ e), λ n. absurd n)
one_listed (v ∷ vs) b = one_more v vs b (one_listed vs b)

none_listed : (vs : List (List ℕ)) (b : List ℕ) → (member b vs ≡ false) ↔ IsNoneOf vs b
none_listed vs b = (λ e o. false_true (sym e ∙ (one_listed vs b).1 o), at (member b vs) refl)
  where
    at : (t : Bool) → member b vs ≡ t → IsNoneOf vs b → member b vs ≡ false
    at true e n = absurd (n ((one_listed vs b).0 e))
    at false e n = e

listed_form : (values : Values) (b : List ℕ) → (form_check (listed values) b ≡ passes) ↔ IsOneOf (values_of values) b
unfolding form_check
listed_form values b =
    let m = one_listed (values_of values) b in
    (λ e. m.0 (not-false (member b (values_of values)) (passes_not (not (member b (values_of values))) NotListed 0 e)), λ o. rw (m.1 o) refl)

-- ---- the rows of MSH

module _ (m s : List ℕ) (rest : List (List ℕ)) (first : segments m ≡ s ∷ rest) (four : 4 ≤ length m) where
  abbrev row_found : ℕ → ℕ → Kind → Check
  row_found field component kind = asks (delimiters_of m) component kind (repetitions_of m 0 (from_to 0 (0 + length s)) field)

  -- what the first segment has, row by row: those of other segments find nothing
  abbrev pub timed_found : Check
  timed_found = row_found 7 1 Ts

  abbrev pub identified_found : Check
  identified_found = row_found 10 0 Identifier

  abbrev pub processing_found : Check
  processing_found = row_found 11 1 (listed Processing)

  abbrev pub version_found : Check
  version_found = row_found 12 1 (listed Version)

  pub in_header : segment_fault rows m 0 0 s
      ≡ or_fault (located 0 7 timed_found) (or_fault (located 0 10 identified_found) (or_fault (located 0 11 processing_found) (or_fault (located 0 12 version_found) sound)))
  unfolding rows first_fault row_fault row_check
  in_header = refl

  pub timed_so : (timed_found ≡ passes) ↔ Timed m
  timed_so = passes_so m s rest first four 7 1 refl Ts (λ (b : List ℕ). is_ts b ≡ true) ts_form

  pub identified_so : (identified_found ≡ passes) ↔ Identified m
  identified_so = passes_so m s rest first four 10 0 refl Identifier (λ (b : List ℕ). length b ≤ id_limit) id_form

  pub processing_so : (processing_found ≡ passes) ↔ StandsOnce m 11 1 (IsOneOf processing_ids)
  unfolding values_of split
  processing_so = passes_so m s rest first four 11 1 refl (listed Processing) (IsOneOf processing_ids) (listed_form Processing)

  pub processing_not : ((k : Refusal) (place : ℕ) → number_of k ≡ 33 → processing_found ≡ fails k place → StandsOnce m 11 1 (IsNoneOf processing_ids)) × (StandsOnce m 11 1 (IsNoneOf processing_ids) → processing_found ≡ fails NotListed 1)
  unfolding values_of split
  processing_not = fails_so m s rest first four 11 1 refl Processing (IsNoneOf processing_ids) (none_listed processing_ids)

  pub version_not : ((k : Refusal) (place : ℕ) → number_of k ≡ 33 → version_found ≡ fails k place → StandsOnce m 12 1 (IsNoneOf versions)) × (StandsOnce m 12 1 (IsNoneOf versions) → version_found ≡ fails NotListed 1)
  unfolding values_of split
  version_not = fails_so m s rest first four 12 1 refl Version (IsNoneOf versions) (none_listed versions)
