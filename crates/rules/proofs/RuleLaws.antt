-- Laws of what a row asks: what each definition is in each of its cases. Assumes nothing.
use mathlib.Core.Path.{◌≡◌, refl, sym, ap, ◌∙◌}
use mathlib.Core.List.{List, [], ◌∷◌}
use mathlib.Core.Bool.{Bool, true, false, not, ◌&&◌}
use Prim.Native.Nat.{ℕ, zero, suc, ◌-◌}
use native.Mathlib.Omega.{arith}
use borrow.Author.Tests.{not-true, not-false, ltb-true, ltb-false, le-leb, lt-leb}
use lib.Dec.{leb, ltb}
use lib.ListN.{get_or, take}
use Rattle.std.specs.Prelude.{Ok, Err}
use Rattle.alphabet.specs.Bytes.{ascii}
use Rattle.alphabet.specs.Lists.{find, same}
use Rattle.alphabet.specs.Answers.{fails_if, Check, passes}
use Rattle.alphabet.specs.Parts.{split}
use Rattle.alphabet.specs.declared.answers.Refusal.{Refusal}
use Rattle.alphabet.specs.declared.answers.Refusal.TheVariants.{ValueWithoutType}
use Rattle.element.specs.States.{state_of, is_present}
use Rattle.rules.specs.Rules.{form_check, passing, judged_part, placed, repetition_check, some_present, is_said, said_check, kind_said, kind_of, component_of, is_any}
use Rattle.field_table.specs.declared.Kind.{Kind}
use Rattle.field_table.specs.declared.Kind.TheVariants.{Any, Identifier, Ts, Si, Nm, Dt, Tm, OneOf, AsField}
use Rattle.field_table.specs.declared.Row.{Row}
use Rattle.alphabet.proofs.BoolLaws.{false_true}
use Rattle.alphabet.proofs.PartLaws.{first_part}

-- ---- the part that is judged

module _ (ds : List ℕ) (r : List ℕ) where
  pub part_whole : (component : ℕ) → component ≡ 0 → r ≡ judged_part ds component r
  unfolding judged_part
  part_whole zero e = refl
  part_whole (suc k) e = absurd (omega arith)

  pub part_component : (component : ℕ) → (component ≡ 0 → ⊥) → get_or (split (get_or ds 1 0) r) (component - 1) [] ≡ judged_part ds component r
  unfolding judged_part
  part_component zero n = absurd (n refl)
  part_component (suc k) n = let e : suc k - 1 ≡ k = omega arith in rw e

  -- component 1 goes up to the first separator
  pub part_first : (component : ℕ) → component ≡ 1 → (n : ℕ) → n ≡ find (get_or ds 1 0) r → take n r ≡ judged_part ds component r
  part_first component e n f =
      let z : component - 1 ≡ 0 = omega arith in
      ap (λ (i : ℕ). take i r) f ∙ sym (first_part (get_or ds 1 0) r) ∙ ap (λ (i : ℕ). get_or (split (get_or ds 1 0) r) i []) (sym z)
      ∙ part_component component (λ q. omega arith)

-- ---- whether a check passes

-- a check that fails where a test does not hold
pub passing_not : (t : Bool) (kind : Refusal) (place : ℕ) → passing (fails_if (not t) kind place) ≡ t
passing_not true kind place = refl
passing_not false kind place = refl

-- a check that fails where more bytes stand than so many
pub passing_most : (most n : ℕ) (kind : Refusal) (place : ℕ) → passing (fails_if (ltb most n) kind place) ≡ leb n most
passing_most most n kind place = at (ltb most n) refl
  where
    at : (t : Bool) → ltb most n ≡ t → passing (fails_if t kind place) ≡ leb n most
    at true e = sym (lt-leb n most (ltb-true most n e))
    at false e = sym (le-leb n most (ltb-false most n e))

-- and where it passes there is no fault to be placed
pub passing_placed : (number : ℕ) (c : Check) → passing c ≡ true → placed number c ≡ passes
passing_placed number (Ok _) e = refl
passing_placed number (Err fault) e = absurd (false_true e)

-- ---- one repetition

module _ (ds : List ℕ) (component : ℕ) (kind : Kind) (number : ℕ) (r part : List ℕ) (judged : part ≡ judged_part ds component r) where
  pub repetition_other : is_present (state_of ds part) ≡ false → repetition_check ds component kind number r ≡ passes
  unfolding repetition_check
  repetition_other e = rw (sym judged, e)

  pub repetition_present : is_present (state_of ds part) ≡ true → repetition_check ds component kind number r ≡ placed number (form_check kind part)
  unfolding repetition_check
  repetition_present e = rw (sym judged, e)

-- ---- 35

module _ (ds r : List ℕ) (rest : List (List ℕ)) where
  pub present_here : is_present (state_of ds r) ≡ true → some_present ds (r ∷ rest) ≡ true
  unfolding some_present
  present_here e = rw e

  pub present_past : is_present (state_of ds r) ≡ false → some_present ds (r ∷ rest) ≡ some_present ds rest
  unfolding some_present
  present_past e = rw e

pub present_none : (ds : List ℕ) → some_present ds [] ≡ false
unfolding some_present
present_none ds = refl

module _ (ds : List ℕ) (kind : Kind) (said : List ℕ) (rs : List (List ℕ)) (s p : Bool) (is_said : s ≡ is_said kind) (present : p ≡ is_present (state_of ds said)) where
  pub said_typed : not (s && not p) ≡ true → said_check ds kind said rs ≡ passes
  said_typed e = rw (sym is_said, sym present, not-true (s && not p) e)

  pub said_untyped : not (s && not p) ≡ false → said_check ds kind said rs ≡ fails_if (some_present ds rs) ValueWithoutType 1
  said_untyped e = rw (sym is_said, sym present, not-false (s && not p) e)

-- ---- the type that another field says

module _ (said : List ℕ) where
  pub said_nm : same said (ascii "NM") ≡ true → kind_said said ≡ Nm
  unfolding kind_said
  said_nm e = rw e

  pub said_dt : same said (ascii "NM") ≡ false → same said (ascii "DT") ≡ true → kind_said said ≡ Dt
  unfolding kind_said
  said_dt e f = rw (e, f)

  pub said_tm : same said (ascii "NM") ≡ false → same said (ascii "DT") ≡ false → same said (ascii "TM") ≡ true → kind_said said ≡ Tm
  unfolding kind_said
  said_tm e f g = rw (e, f, g)

  pub said_ts : same said (ascii "NM") ≡ false → same said (ascii "DT") ≡ false → same said (ascii "TM") ≡ false → same said (ascii "TS") ≡ true → kind_said said ≡ Ts
  unfolding kind_said
  said_ts e f g h = rw (e, f, g, h)

  pub said_other : same said (ascii "NM") ≡ false → same said (ascii "DT") ≡ false → same said (ascii "TM") ≡ false → same said (ascii "TS") ≡ false → kind_said said ≡ Any
  unfolding kind_said
  said_other e f g h = rw (e, f, g, h)

  pub kind_said_lem : (kind : Kind) → is_said kind ≡ true → kind_of kind said ≡ kind_said said
  kind_said_lem kind e = rw e

  pub kind_own : (kind : Kind) → is_said kind ≡ false → kind_of kind said ≡ kind
  kind_own kind e = rw e

  module _ (row : Row) (s t : Bool) (is_said : s ≡ is_said row.kind) (is-ts : t ≡ same said (ascii "TS")) where
    pub component_said : (s && t) ≡ true → component_of row said ≡ 1
    component_said e = rw (sym is_said, sym is-ts, e)

    pub component_own : (s && t) ≡ false → component_of row said ≡ row.component
    component_own e = rw (sym is_said, sym is-ts, e)

-- ---- the type that asks for no form

pub any_kind : (kind : Kind) → is_any kind ≡ true → kind ≡ Any
any_kind Any e = refl
any_kind Identifier e = absurd (false_true e)
any_kind Ts e = absurd (false_true e)
any_kind Si e = absurd (false_true e)
any_kind Nm e = absurd (false_true e)
any_kind Dt e = absurd (false_true e)
any_kind Tm e = absurd (false_true e)
any_kind (OneOf values) e = absurd (false_true e)
any_kind (AsField f) e = absurd (false_true e)
