-- Laws of a row whose field is seen at once to be sound, by the bytes between two ends of fields. Assumes nothing.
use mathlib.Core.Path.{◌≡◌, refl, sym, ap, ap₂, ◌∙◌}
use mathlib.Core.List.{List, []}
use mathlib.Core.Bool.{Bool, true, false, cond}
use Prim.Native.Nat.{ℕ, ◌-◌}
use native.Mathlib.Omega.{arith}
use lib.Dec.{eqb}
use lib.ListN.{get_or}
use Rattle.std.specs.Prelude.{Option, Some, None}
use borrow.Author.Tests.{eqb-true, eqb-false}
use Rattle.alphabet.specs.Answers.{passes}
use Rattle.alphabet.specs.Parts.{split}
use Rattle.rules.specs.Rules.{is_said, said_field, row_check}
use Rattle.field_table.specs.declared.Kind.{Kind}
use Rattle.field_table.specs.declared.Row.{Row}
use Rattle.fields.specs.Walk.{field_bytes, first_of, said_bytes, row_in, Indexed}
use Rattle.fields.proofs.CursorLaws.{bytes_other, bytes_header}

-- a field is the part of its place
pub field_part_lem : (ds s : List ℕ) (number base field most index : ℕ) → base ≡ cond (eqb number 0) 1 0 → Indexed field base most index
    → field_bytes ds s number field ≡ get_or (split (get_or ds 0 0) s) index []
field_part_lem ds s number base field most index b i = at (eqb number 0) refl b
  where
    at : (t : Bool) → eqb number 0 ≡ t → base ≡ cond t 1 0 → field_bytes ds s number field ≡ get_or (split (get_or ds 0 0) s) index []
    at true e z =
        let c = i.counted in
        let d = i.split_on in
        let n : field - 1 ≡ index = omega arith in
        bytes_header ds s number field (eqb-true number 0 e) (omega arith) ∙ ap (λ (k : ℕ). get_or (split (get_or ds 0 0) s) k []) n
    at false e z =
        let c = i.counted in
        let n : field ≡ index = omega arith in
        bytes_other ds s number field (eqb-false number 0 e) ∙ ap (λ (k : ℕ). get_or (split (get_or ds 0 0) s) k []) n

-- what two values that are the same hold
or_0 : Option ℕ → ℕ
or_0 (Some n) = n
or_0 None = 0

pub some_one : {m n : ℕ} → ◌≡◌ {A = Option ℕ} (Some m) (Some n) → m ≡ n
unfolding or_0
some_one e = ap or_0 e

-- whether another field says a type, by what is given for the field that does
module _ (kind : Kind) where
  abbrev given : Bool → Option ℕ
  given said = cond said (Some (said_field kind)) None

  pub own_kind : given (is_said kind) ≡ None → is_said kind ≡ false
  own_kind e = at (is_said kind) e
    where
      at : (t : Bool) → given t ≡ None → t ≡ false
      at true q = absurd (let z : ◌≡◌ {A = ℕ} 0 1 = cc in omega arith)
      at false q = refl

  pub said_kind : {by : ℕ} → given (is_said kind) ≡ Some by → (is_said kind ≡ true) × (by ≡ said_field kind)
  said_kind {by} e = at (is_said kind) e
    where
      at : (t : Bool) → given t ≡ Some by → (t ≡ true) × (by ≡ said_field kind)
      at true q = (refl, sym (some_one q))
      at false q = absurd (let z : ◌≡◌ {A = ℕ} 0 1 = cc in omega arith)

module _ (ds s : List ℕ) (number : ℕ) (row : Row) (field : List ℕ) (here : field_bytes ds s number row.field ≡ field) where
  -- a row that says its own type
  pub own_sound : ((said : List ℕ) → row_check ds row said (split (get_or ds 2 0) field) ≡ passes) → row_in ds s number row ≡ passes
  own_sound f =
      ap (λ (x : List ℕ). row_check ds row (said_bytes ds s number row.kind) (split (get_or ds 2 0) x)) here
      ∙ f (said_bytes ds s number row.kind)

  -- a row whose type another field says
  pub said_sound : (said : List ℕ) → field_bytes ds s number (said_field row.kind) ≡ said → is_said row.kind ≡ true
      → row_check ds row (get_or (split (get_or ds 2 0) said) 0 []) (split (get_or ds 2 0) field) ≡ passes → row_in ds s number row ≡ passes
  said_sound said there k f =
      let type : said_bytes ds s number row.kind ≡ get_or (split (get_or ds 2 0) said) 0 [] =
      ap (λ (t : Bool). cond t (first_of ds s number (said_field row.kind)) []) k
      ∙ ap (λ (x : List ℕ). get_or (split (get_or ds 2 0) x) 0 []) there in
      ap₂ (λ (x y : List ℕ). row_check ds row x (split (get_or ds 2 0) y)) type here ∙ f
