-- Laws of the quick look: a row passes a field of plain bytes that have its form, a field with no bytes where it does not
-- require one, any bytes where it asks for no form, and an ID that is short. Assumes nothing.
use mathlib.Core.Path.{◌≡◌, refl, sym, ap, ap₂, ◌∙◌}
use mathlib.Core.List.{List, [], ◌∷◌}
use mathlib.Core.Bool.{Bool, true, false, cond, not, ◌&&◌}
use Prim.Native.Nat.{ℕ, zero, suc, ◌+◌, ◌≤◌}
use native.Mathlib.Omega.{arith}
use borrow.Author.Tests.{le-ltb, ne_eqb, eqb-false}
use lib.Dec.{eqb}
use lib.ListN.{length, get_or}
use Rattle.alphabet.specs.Bytes.{ascii}
use Rattle.alphabet.specs.Answers.{in_order, Check, passes}
use Rattle.alphabet.specs.Limits.{id_limit}
use Rattle.alphabet.specs.Lists.{first, find, same}
use Rattle.alphabet.specs.Parts.{grown, split}
use Rattle.alphabet.specs.declared.answers.Refusal.TheVariants.{Repeated, ValueWithoutType}
use Rattle.alphabet.proofs.BoolLaws.{or_neither}
use Rattle.alphabet.proofs.CheckLaws.{passes_or, passes_if}
use Rattle.alphabet.proofs.PartLaws.{split_nothing, more_parts}
use Rattle.element.specs.States.{blank, state_of, is_present}
use Rattle.element.specs.declared.states.State.{State}
use Rattle.element.specs.declared.states.State.TheVariants.{Absent, Empty, Null, Present}
use Rattle.element.proofs.StateLaws.{state_empty}
use Rattle.field_table.specs.declared.Kind.{Kind}
use Rattle.field_table.specs.declared.Kind.TheVariants.{Any, Identifier}
use Rattle.field_table.specs.declared.Row.{Row}
use Rattle.rules.specs.Plain.{Permitted, Plain}
use Rattle.rules.specs.Rules.{form_check, passing, judged_part, part_state, repetition_check, repetition_checks, first_state, required_check, repeated_check, some_present, is_said, said_check, kind_said, kind_of, component_of, row_check}
use Rattle.rules.proofs.RuleLaws.{passing_placed, repetition_other, repetition_present, present_past, present_none, kind_said_lem, kind_own}
use Rattle.rules.proofs.PlainLaws.{split_plain, present_begins, present_plain, judged_plain}

-- ---- a row, check by check

module _ (ds : List ℕ) (row : Row) (said : List ℕ) where
  row_passes : (rs : List (List ℕ)) → required_check row.required (first_state ds row.component rs) ≡ passes → repeated_check row.repeats rs ≡ passes
      → said_check ds row.kind said rs ≡ passes → in_order (repetition_checks ds (component_of row said) (kind_of row.kind said) 1 rs) ≡ passes → row_check ds row said rs ≡ passes
  unfolding row_check
  row_passes rs a b c d = passes_or a _ ∙ passes_or b _ ∙ passes_or c _ ∙ d

and_false : (t : Bool) → (t && false) ≡ false
and_false true = refl
and_false false = refl

-- one repetition is not repeated
repeated_one : (repeats : Bool) (r : List ℕ) → repeated_check repeats (r ∷ []) ≡ passes
repeated_one repeats r = passes_if (and_false (not repeats)) Repeated 1

checks_one : (ds : List ℕ) (component : ℕ) (kind : Kind) (r : List ℕ) → repetition_check ds component kind 1 r ≡ passes → in_order (repetition_checks ds component kind 1 (r ∷ [])) ≡ passes
unfolding repetition_checks
checks_one ds component kind r e = passes_or e passes

-- ---- 35

pub said_own : (ds : List ℕ) (kind : Kind) (said : List ℕ) (rs : List (List ℕ)) → is_said kind ≡ false → said_check ds kind said rs ≡ passes
said_own ds kind said rs e = rw e

pub said_present : (ds : List ℕ) (kind : Kind) (said : List ℕ) (rs : List (List ℕ)) → state_of ds said ≡ Present → said_check ds kind said rs ≡ passes
said_present ds kind said rs e = passes_if (ap (λ (s : State). (is_said kind && not (is_present s)) && some_present ds rs) e ∙ ap (λ (t : Bool). t && some_present ds rs) (and_false (is_said kind))) ValueWithoutType 1

-- ---- no bytes

judged_none : (ds : List ℕ) (component : ℕ) → judged_part ds component [] ≡ []
unfolding judged_part
judged_none ds zero = refl
judged_none ds (suc zero) = ap (λ (ps : List (List ℕ)). get_or ps 0 []) (split_nothing (get_or ds 1 0))
judged_none ds (suc (suc k)) = ap (λ (ps : List (List ℕ)). get_or ps (suc k) []) (split_nothing (get_or ds 1 0))

state_none : (ds : List ℕ) → state_of ds [] ≡ Empty
unfolding first
state_none ds = state_empty ds [] refl refl

module _ (ds : List ℕ) (row : Row) (said : List ℕ) where
  row_empty : row.required ≡ false → row_check ds row said (split (get_or ds 2 0) []) ≡ passes
  row_empty e =
      let s : part_state ds row.component [] ≡ Empty = ap (state_of ds) (judged_none ds row.component) ∙ state_none ds in
      let p : some_present ds ([] ∷ []) ≡ false = present_past ds [] [] (ap is_present (state_none ds)) ∙ present_none ds in
      ap (row_check ds row said) (split_nothing (get_or ds 2 0))
      ∙ row_passes ds row said ([] ∷ []) (ap (required_check row.required) s ∙ ap (λ (t : Bool). required_check t Empty) e) (repeated_one row.repeats [])
      (passes_if (ap (λ (t : Bool). (is_said row.kind && not (is_present (state_of ds said))) && t) p ∙ and_false (is_said row.kind && not (is_present (state_of ds said)))) ValueWithoutType 1)
      (checks_one ds (component_of row said) (kind_of row.kind said) []
      (repetition_other ds (component_of row said) (kind_of row.kind said) 1 [] [] (sym (judged_none ds (component_of row said))) (ap is_present (state_none ds))))

  pub row_none : (l : List ℕ) → length l ≡ 0 → row.required ≡ false → row_check ds row said (split (get_or ds 2 0) l) ≡ passes
  row_none [] h e = row_empty e
  row_none (b ∷ r) h e = absurd (omega arith)

-- ---- plain bytes

one_most : (t : Bool) (component : ℕ) → component ≤ 1 → cond t 1 component ≤ 1
one_most true component h = omega arith
one_most false component h = h

module _ (ds : List ℕ) (permits : Permitted ds) (row : Row) (said l : List ℕ) where
  pub row_plain : Plain l → row.component ≤ 1 → said_check ds row.kind said (l ∷ []) ≡ passes → passing (form_check (kind_of row.kind said) l) ≡ true
      → row_check ds row said (split (get_or ds 2 0) l) ≡ passes
  row_plain p h a e =
      let n : component_of row said ≤ 1 = one_most (is_said row.kind && same said (ascii "TS")) row.component h in
      let s : part_state ds row.component l ≡ Present = ap (state_of ds) (judged_plain ds permits l p.1 row.component h) ∙ present_plain ds permits l p in
      ap (row_check ds row said) (split_plain (get_or ds 2 0) l (permits 2 (omega arith)) p.1)
      ∙ row_passes ds row said (l ∷ []) (ap (required_check row.required) s) (repeated_one row.repeats l) a
      (checks_one ds (component_of row said) (kind_of row.kind said) l
      (repetition_present ds (component_of row said) (kind_of row.kind said) 1 l l (sym (judged_plain ds permits l p.1 (component_of row said) n)) (ap is_present (present_plain ds permits l p))
      ∙ passing_placed 1 (form_check (kind_of row.kind said) l) e))

  -- of a row that says its own type
  pub own_plain : Plain l → row.component ≤ 1 → is_said row.kind ≡ false → passing (form_check row.kind l) ≡ true → row_check ds row said (split (get_or ds 2 0) l) ≡ passes
  own_plain p h a e = row_plain p h (said_own ds row.kind said (l ∷ []) a) (ap (λ (k : Kind). passing (form_check k l)) (kind_own said row.kind a) ∙ e)

-- ---- any bytes

any_check : (ds : List ℕ) (component number : ℕ) (r : List ℕ) → repetition_check ds component Any number r ≡ passes
unfolding repetition_check form_check
any_check ds component number r = at (is_present (part_state ds component r))
  where
    at : (t : Bool) → ◌≡◌ {A = Check} (cond t passes passes) passes
    at true = refl
    at false = refl

pub any_checks : (ds : List ℕ) (component number : ℕ) (rs : List (List ℕ)) → in_order (repetition_checks ds component Any number rs) ≡ passes
unfolding repetition_checks
any_checks ds component number [] = refl
any_checks ds component number (r ∷ rs) = passes_or (any_check ds component number r) _ ∙ any_checks ds component (number + 1) rs

-- what repeats, where a field may, and where it has no second repetition
pub may_repeat : (repeats : Bool) (rs : List (List ℕ)) → repeats ≡ true → repeated_check repeats rs ≡ passes
may_repeat repeats rs e = rw e

pub no_second : (repeats : Bool) (d : ℕ) (l : List ℕ) → find d l ≡ length l → repeated_check repeats (split d l) ≡ passes
no_second repeats d l e =
    passes_if (ap (λ (t : Bool). not repeats && t) (more_parts d l ∙ le-ltb (find d l) (length l) (omega arith)) ∙ and_false (not repeats)) Repeated 1

-- a field that begins with a byte that is neither a quote nor a separator: repetition 1 is present
grown_present : (ds : List ℕ) (b : ℕ) (ps : List (List ℕ)) → eqb b 34 ≡ false → blank ds b ≡ false → first_state ds 0 (grown b ps) ≡ Present
unfolding judged_part
grown_present ds b [] q e = present_begins ds b [] q e
grown_present ds b (p ∷ ps) q e = present_begins ds b p q e

begins_present : (ds l : List ℕ) → 1 ≤ length l → eqb (get_or l 0 0) 34 ≡ false → blank ds (get_or l 0 0) ≡ false → first_state ds 0 (split (get_or ds 2 0) l) ≡ Present
unfolding split
begins_present ds [] h q e = absurd (omega arith)
begins_present ds (b ∷ r) h q e =
    let s = (or_neither (eqb b (get_or ds 2 0)) (eqb b (get_or ds 4 0)) (or_neither (eqb b (get_or ds 1 0)) _ e).1).0 in
    rw (ne_eqb (get_or ds 2 0) b (λ x. eqb-false b (get_or ds 2 0) s (sym x))) (grown_present ds b (split (get_or ds 2 0) r) q e)

-- its repetitions are left to be judged
pub row_sent : (ds : List ℕ) (row : Row) (said l : List ℕ) → is_said row.kind ≡ false → row.component ≡ 0 → 1 ≤ length l → eqb (get_or l 0 0) 34 ≡ false → blank ds (get_or l 0 0) ≡ false
    → repeated_check row.repeats (split (get_or ds 2 0) l) ≡ passes → in_order (repetition_checks ds 0 row.kind 1 (split (get_or ds 2 0) l)) ≡ passes → row_check ds row said (split (get_or ds 2 0) l) ≡ passes
row_sent ds row said l o c h q e a f =
    let n : component_of row said ≡ 0 = ap (λ (t : Bool). cond (t && same said (ascii "TS")) 1 row.component) o ∙ c in
    row_passes ds row said (split (get_or ds 2 0) l)
    (ap (λ (n : ℕ). required_check row.required (first_state ds n (split (get_or ds 2 0) l))) c ∙ ap (required_check row.required) (begins_present ds l h q e))
    a
    (said_own ds row.kind said (split (get_or ds 2 0) l) o)
    (ap₂ (λ (i : ℕ) (x : Kind). in_order (repetition_checks ds i x 1 (split (get_or ds 2 0) l))) n (kind_own said row.kind o) ∙ f)

-- ---- an ID

-- none of some bytes is longer than n
abbrev Short : ℕ → List (List ℕ) → Type 0
Short n [] = Unit {0}
Short n (r ∷ rs) = (length r ≤ n) × Short n rs

short_more : (n : ℕ) (rs : List (List ℕ)) → Short n rs → Short (suc n) rs
short_more n [] h = tt
short_more n (r ∷ rs) h = let i = h.0 in (omega arith, short_more n rs h.1)

short_grown : (n b : ℕ) (rs : List (List ℕ)) → Short n rs → Short (suc n) (grown b rs)
short_grown n b [] h = (omega arith, tt)
short_grown n b (r ∷ rs) h = let i = h.0 in (omega arith, short_more n rs h.1)

-- no part is longer than the whole
split_short : (d : ℕ) (l : List ℕ) → Short (length l) (split d l)
unfolding split
split_short d [] = (omega arith, tt)
split_short d (b ∷ r) = at (eqb d b) (split_short d r)
  where
    at : (t : Bool) → Short (length r) (split d r) → Short (suc (length r)) (cond t ([] ∷ split d r) (grown b (split d r)))
    at true h = (omega arith, short_more (length r) (split d r) h)
    at false h = short_grown (length r) b (split d r) h

identifier_check : (ds : List ℕ) (number : ℕ) (r : List ℕ) → length r ≤ id_limit → repetition_check ds 0 Identifier number r ≡ passes
unfolding repetition_check form_check judged_part
identifier_check ds number r h = rw (le-ltb id_limit (length r) h) (at (is_present (state_of ds r)))
  where
    at : (t : Bool) → ◌≡◌ {A = Check} (cond t passes passes) passes
    at true = refl
    at false = refl

identifier_checks : (ds : List ℕ) (n number : ℕ) (rs : List (List ℕ)) → n ≤ id_limit → Short n rs → in_order (repetition_checks ds 0 Identifier number rs) ≡ passes
unfolding repetition_checks
identifier_checks ds n number [] h s = refl
identifier_checks ds n number (r ∷ rs) h s = let i = s.0 in passes_or (identifier_check ds number r (omega arith)) _ ∙ identifier_checks ds n (number + 1) rs h s.1

pub short_identifier : (ds l : List ℕ) → length l ≤ id_limit → in_order (repetition_checks ds 0 Identifier 1 (split (get_or ds 2 0) l)) ≡ passes
short_identifier ds l h = identifier_checks ds (length l) 1 (split (get_or ds 2 0) l) h (split_short (get_or ds 2 0) l)

-- ---- a row whose type is said

-- what says the type is plain: its repetition 1 is the whole
pub said_whole : (ds : List ℕ) → Permitted ds → (row : Row) (said : List ℕ) (rs : List (List ℕ)) → Plain said → row_check ds row said rs ≡ passes
    → row_check ds row (get_or (split (get_or ds 2 0) said) 0 []) rs ≡ passes
said_whole ds permits row said rs p e =
    ap (λ (ps : List (List ℕ)). row_check ds row (get_or ps 0 []) rs) (split_plain (get_or ds 2 0) said (permits 2 (omega arith)) p.1) ∙ e

required_not : (state : State) → required_check false state ≡ passes
required_not Absent = refl
required_not Empty = refl
required_not Null = refl
required_not Present = refl

module _ (ds : List ℕ) (permits : Permitted ds) (row : Row) (said : List ℕ) (typed : Plain said) (is_said : is_said row.kind ≡ true) where
  -- any bytes of a type that is not judged
  pub said_any : (rs : List (List ℕ)) → kind_said said ≡ Any → row.required ≡ false → row.repeats ≡ true → row_check ds row said rs ≡ passes
  said_any rs k r t =
      row_passes ds row said rs (ap (λ (b : Bool). required_check b (first_state ds row.component rs)) r ∙ required_not (first_state ds row.component rs)) (may_repeat row.repeats rs t)
      (said_present ds row.kind said rs (present_plain ds permits said typed))
      (ap (λ (x : Kind). in_order (repetition_checks ds (component_of row said) x 1 rs)) (kind_said_lem said row.kind is_said ∙ k) ∙ any_checks ds (component_of row said) 1 rs)

  -- plain bytes of a type that is
  pub said_plain : (l : List ℕ) → Plain l → row.component ≤ 1 → passing (form_check (kind_said said) l) ≡ true → row_check ds row said (split (get_or ds 2 0) l) ≡ passes
  said_plain l p h e =
      row_plain ds permits row said l p h (said_present ds row.kind said (l ∷ []) (present_plain ds permits said typed))
      (ap (λ (k : Kind). passing (form_check k l)) (kind_said_lem said row.kind is_said) ∙ e)
