-- A field's repetitions by its segment's bytes: they are those of `element`, and an absent field is judged as one with no bytes.
-- Assumes nothing.
use mathlib.Core.Path.{◌≡◌, refl, sym, ap, ◌∙◌}
use mathlib.Core.List.{List, [], ◌∷◌}
use mathlib.Core.Bool.{Bool, true, false, cond}
use mathlib.Core.Logic.{◌⊎◌, inl, inr, ⊎_elim}
use Prim.Native.Nat.{ℕ, zero, suc, ◌+◌, ◌-◌, ◌≤◌}
use native.Mathlib.Omega.{arith}
use lib.Dec.{eqb, leb}
use lib.ListN.{length, get_or, take, drop}
use borrow.Author.Tests.{eqb-true, eqb-false, eq-eqb, leb-true, leb-false}
use Rattle.std.specs.Prelude.{None, Some, Option}
use Rattle.alphabet.specs.Answers.{in_order}
use Rattle.alphabet.specs.Lists.{first}
use Rattle.alphabet.specs.Parts.{split, part_at, from_to}
use Rattle.alphabet.specs.declared.parts.Part.{Part}
use Rattle.alphabet.proofs.ListLaws.{piece_of_piece}
use Rattle.alphabet.proofs.PartLaws.{split_nothing, part_bytes_lem, past_none, none_past}
use Rattle.reading.specs.Segments.{delimiters_of, field_separator}
use Rattle.element.specs.States.{state_of}
use Rattle.element.specs.declared.states.State.TheVariants.{Absent, Empty}
use Rattle.element.specs.Levels.{between, part_in, fixed, field_in}
use Rattle.element.proofs.LevelLaws.{between_length, in_at, in_none, field_other, field_header}
use Rattle.rules.specs.Rules.{judged_part, part_state, repetition_check, repetition_checks, required_check, some_present, is_said, said_field, kind_of, component_of, row_check}
use Rattle.fields.specs.Judging.{repetitions_in, repetitions_of, said_in}
use Rattle.fields.specs.Walk.{field_bytes, said_bytes}
use Rattle.field_table.specs.declared.Kind.{Kind}
use Rattle.field_table.specs.declared.Row.{Row}
use Rattle.fields.proofs.CursorLaws.{bytes_other, bytes_fixed, bytes_header}

-- ---- an absent field is judged as one with no bytes

pub nothing_part : (ds : List ℕ) (component : ℕ) → judged_part ds component [] ≡ []
unfolding judged_part split
nothing_part ds zero = refl
nothing_part ds (suc zero) = refl
nothing_part ds (suc (suc k)) = refl

pub nothing_state : (ds : List ℕ) → state_of ds [] ≡ Empty
unfolding state_of first
nothing_state ds = refl

nothing_first : (ds : List ℕ) (required : Bool) (component : ℕ) → required_check required Absent ≡ required_check required (part_state ds component [])
nothing_first ds required component = rw (nothing_part ds component, nothing_state ds)

nothing_present : (ds : List ℕ) → some_present ds [] ≡ some_present ds ([] ∷ [])
unfolding some_present
nothing_present ds = rw (nothing_state ds)

nothing_passes : (ds : List ℕ) (component : ℕ) (kind : Kind) → in_order (repetition_checks ds component kind 1 []) ≡ in_order (repetition_checks ds component kind 1 ([] ∷ []))
unfolding repetition_checks repetition_check
nothing_passes ds component kind = rw (nothing_part ds component, nothing_state ds)

nothing_row : (ds : List ℕ) (row : Row) (said : List ℕ) → row_check ds row said [] ≡ row_check ds row said ([] ∷ [])
unfolding row_check
nothing_row ds row said =
    rw (nothing_first ds row.required row.component, nothing_present ds, nothing_passes ds (component_of row said) (kind_of row.kind said))

-- ---- the repetitions of a part of the segment that stands from st to en

-- the same, or none where the other has one with no bytes
abbrev Alike : List (List ℕ) → List (List ℕ) → Type 0
Alike rs rs' = (rs ≡ rs') ⊎ ((rs ≡ []) × (rs' ≡ [] ∷ []))

alike_row : (ds : List ℕ) (row : Row) (said : List ℕ) (rs rs' : List (List ℕ)) → Alike rs rs' → row_check ds row said rs ≡ row_check ds row said rs'
alike_row ds row said rs rs' = ⊎_elim (λ e. ap (row_check ds row said) e) (λ n. ap (row_check ds row said) n.0 ∙ nothing_row ds row said ∙ ap (row_check ds row said) (sym n.1))

alike_first : (rs rs' : List (List ℕ)) → Alike rs rs' → get_or rs 0 [] ≡ get_or rs' 0 []
alike_first rs rs' = ⊎_elim (λ e. ap (λ (ps : List (List ℕ)). get_or ps 0 []) e) (λ n. ap (λ (ps : List (List ℕ)). get_or ps 0 []) n.0 ∙ ap (λ (ps : List (List ℕ)). get_or ps 0 []) (sym n.1))

module _ (m : List ℕ) (st en : ℕ) (ordered : st ≤ en) (inside : en ≤ length m) where
  abbrev segment : List ℕ
  segment = between m st en

  parts_alike : (i : ℕ) → Alike (repetitions_in m (part_in (field_separator m) m (from_to st en) i)) (split (get_or (delimiters_of m) 2 0) (get_or (split (field_separator m) segment) i []))
  parts_alike i = at (part_at (field_separator m) segment i) refl
    where
      at : (p : Option Part) → part_at (field_separator m) segment i ≡ p → Alike (repetitions_in m (part_in (field_separator m) m (from_to st en) i)) (split (get_or (delimiters_of m) 2 0) (get_or (split (field_separator m) segment) i []))
      at (Some part) q =
          let p = part_bytes_lem (field_separator m) segment i part.start part.end q in
          let n = between_length m st en ordered inside in
          let p1 = p.1 in
          let p2 = p.2 in
          let e : (st + part.end) - (st + part.start) ≡ part.end - part.start = omega arith in
          inl
          (ap (repetitions_in m) (in_at (field_separator m) m (from_to st en) i st en refl part.start part.end q)
          ∙ ap (λ (k : ℕ). split (get_or (delimiters_of m) 2 0) (take k (drop (st + part.start) m))) e
          ∙ ap (split (get_or (delimiters_of m) 2 0)) (sym (piece_of_piece m st (en - st) part.start (part.end - part.start) (omega arith)) ∙ p.3))
      at None q =
          inr (
            ap (repetitions_in m) (in_none (field_separator m) m (from_to st en) i st en refl q),
            ap (split (get_or (delimiters_of m) 2 0)) (past_none (split (field_separator m) segment) i (none_past (field_separator m) segment i q)) ∙ split_nothing (get_or (delimiters_of m) 2 0),
          )

  module _ (number : ℕ) where
    abbrev Agrees : ℕ → Type 0
    Agrees f = Alike (repetitions_of m number (from_to st en) f) (split (get_or (delimiters_of m) 2 0) (field_bytes (delimiters_of m) segment number f))

    from_part : (f i : ℕ) → fixed number f ≡ false → field_in m number (from_to st en) f ≡ part_in (field_separator m) m (from_to st en) i
        → field_bytes (delimiters_of m) segment number f ≡ get_or (split (field_separator m) segment) i [] → Agrees f
    from_part f i a b c = rw (a, b, c) (parts_alike i)

    fields_alike : (f : ℕ) → Agrees f
    fields_alike f = at (eqb number 0) refl
      where
        header : number ≡ 0 → (t : Bool) → leb f 2 ≡ t → Agrees f
        header z true l =
            inr (
              rw (eq-eqb number 0 z, l),
              ap (split (get_or (delimiters_of m) 2 0)) (bytes_fixed (delimiters_of m) segment number f z (leb-true f 2 l)) ∙ split_nothing (get_or (delimiters_of m) 2 0),
            )
        header z false l =
            let g = leb-false f 2 l in
            from_part f (f - 1) (rw (eq-eqb number 0 z, l)) (field_header m number (from_to st en) f z (λ e. omega arith)) (bytes_header (delimiters_of m) segment number f z (omega arith))

        at : (t : Bool) → eqb number 0 ≡ t → Agrees f
        at true e = header (eqb-true number 0 e) (leb f 2) refl
        at false e =
            let z = eqb-false number 0 e in
            from_part f f (rw e) (field_other m number (from_to st en) f z) (bytes_other (delimiters_of m) segment number f z)

    said_agrees : (kind : Kind) → said_in m number (from_to st en) kind ≡ said_bytes (delimiters_of m) segment number kind
    said_agrees kind =
        ap (λ (said : List ℕ). cond (is_said kind) said [])
        (alike_first (repetitions_of m number (from_to st en) (said_field kind)) (split (get_or (delimiters_of m) 2 0) (field_bytes (delimiters_of m) segment number (said_field kind))) (fields_alike (said_field kind)))

    -- a row asks the same of the segment's bytes
    pub row_agrees : (row : Row)
        → row_check (delimiters_of m) row (said_in m number (from_to st en) row.kind) (repetitions_of m number (from_to st en) row.field)
        ≡ row_check (delimiters_of m) row (said_bytes (delimiters_of m) segment number row.kind) (split (get_or (delimiters_of m) 2 0) (field_bytes (delimiters_of m) segment number row.field))
    row_agrees row =
        alike_row (delimiters_of m) row (said_in m number (from_to st en) row.kind) (repetitions_of m number (from_to st en) row.field)
        (split (get_or (delimiters_of m) 2 0) (field_bytes (delimiters_of m) segment number row.field))
        (fields_alike row.field)
        ∙ ap (λ (said : List ℕ). row_check (delimiters_of m) row said (split (get_or (delimiters_of m) 2 0) (field_bytes (delimiters_of m) segment number row.field)))
        (said_agrees row.kind)
