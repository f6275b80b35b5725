-- Rests on the law of a row begun that says its own type, and on what the callees ensure.
use borrow.Author.Rules.{rules}
use mathlib.Core.Path.{◌≡◌, refl, subst, sym, ◌∙◌}
use mathlib.Core.Bool.{cond}
use Prim.Native.Nat.{ℕ, ◌≤◌, ◌+◌}
use native.Mathlib.Omega.{arith}
use Rattle.std.proofs.lemmas.Result.{err_from_is_err_and}
use Rattle.alphabet.specs.Answers.{or_else}
use Rattle.alphabet.proofs.CheckLaws.{fails_or, passes_or}
use Rattle.rules.specs.Rules.{is_any}
use Rattle.fields.specs.Walk.{row_in, left_of}
use Rattle.fields.proofs.PlainLaws.{own_kind, said_kind}
use Rattle.fields.proofs.CursorLaws.{own_begins, left_most, left_least}
use Rattle.fields.proofs.walk.begin_row.Goals.{After-check_own}
use Rattle.fields.proofs.walk.begin_row.Goals as goal

-- what the row asks: the checks up to repetition 1, which the call made, and then the repetitions behind it
asked : (c : After-check_own) (start : ℕ) → start ≡ cond (is_any c.args.row.kind) (c.field_in-sought.result.end + 1) (c.field_in-sought.result.first + 1)
    → let a = c.args in
    row_in a.delimiters.bytes a.segment.now a.number a.row
    ≡ or_else c.check_own.result (left_of a.delimiters.bytes a.segment.now (record { cursor = c.field_in-sought.result.cursor; start = start; end = c.field_in-sought.result.end; repetition = 2; component = a.row.component; kind = a.row.kind }))
asked c start e =
    let a = c.args in
    own_begins a.delimiters.bytes a.segment.now a.number a.row c.field_in-sought.result c.field_in-sought.ensures c.check_own.result start
    (own_kind a.row.kind (sym c.said_field.ensures ∙ c.in_default.is)) c.requires.1 c.check_own.ensures e

pub begin_said-requires : goal.begin_said-requires
begin_said-requires c =
    let a = c.args in
    let k = said_kind a.row.kind (sym c.said_field.ensures ∙ c.in-Some.is) in
    (c.field_in-sought.ensures, k.0, k.1, c.requires.1)

pub returns-in-Some : goal.returns-in-Some
returns-in-Some c = c.begin_said.ensures

pub returns-in_err-check_own : goal.returns-in_err-check_own
returns-in_err-check_own c =
    let p = err_from_is_err_and c.from_residual.result c.from_residual.ensures.1 in
    rw (p.1, p.2) (asked (goal.at.returns-in_err-check_own c).After-check_own _ refl ∙ fails_or c.in_err-check_own.was _)

pub returns : goal.returns
returns c =
    let a = c.args in
    let finds = c.field_in-sought.ensures in
    let s = c.field_in-sought.result in
    let x = finds.ordered in
    let w = finds.within in
    let start = c.left_from.ensures in
    record {
      stands = finds.stands;
      ordered = subst (λ (n : ℕ). n ≤ s.end + 1) (sym start) (left_most (is_any a.row.kind) (s.first + 1) s.end (omega arith));
      inside = finds.inside;
      counted = let one = subst (λ (n : ℕ). 1 ≤ n) (sym start) (left_least (is_any a.row.kind) (s.first + 1) s.end (omega arith)) in omega arith;
      asks = asked (goal.at.returns c).After-check_own c.left_from.result start ∙ passes_or c.in_ok-check_own.was _;
    }

pub field_in-sought-requires : goal.field_in-sought-requires
field_in-sought-requires c = c.requires.0

pub slice_bounds-check_own-count : goal.slice_bounds-check_own-count
slice_bounds-check_own-count c = let f = c.field_in-sought.ensures in let o = f.ordered in search rules

pub slice_bounds-check_own-start : goal.slice_bounds-check_own-start
slice_bounds-check_own-start c = let f = c.field_in-sought.ensures in let o = f.ordered in search rules

pub slice_bounds-check_own-end : goal.slice_bounds-check_own-end
slice_bounds-check_own-end c = let f = c.field_in-sought.ensures in let w = f.within in let i = f.inside in search rules

pub overflow_add-first : goal.overflow_add-first
overflow_add-first c = let f = c.field_in-sought.ensures in let w = f.within in let i = f.inside in let m = c.requires.1 in omega arith

pub left_from-requires : goal.left_from-requires
left_from-requires c = let f = c.field_in-sought.ensures in let i = f.inside in let m = c.requires.1 in omega arith
