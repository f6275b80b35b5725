-- Rests on the law of a row begun whose type is said, from what the callees ensure.
use borrow.Author.Rules.{rules}
use mathlib.Core.Path.{◌≡◌, refl, ap, subst, sym, ◌∙◌}
use mathlib.Core.Bool.{cond}
use Prim.Native.Nat.{ℕ, ◌≤◌, ◌+◌}
use native.Mathlib.Omega.{arith}
use Rattle.std.proofs.lemmas.Result.{err_from_is_err_and}
use Rattle.alphabet.specs.Answers.{or_else}
use Rattle.alphabet.proofs.CheckLaws.{fails_or, passes_or}
use Rattle.field_table.specs.declared.Kind.{Kind}
use Rattle.rules.specs.Rules.{is_any, kind_of, component_of}
use Rattle.fields.specs.Walk.{first_of, row_in, left_of}
use Rattle.fields.proofs.CursorLaws.{said_begins, left_most}
use Rattle.fields.proofs.walk.begin_said.Goals.{After-check_opening}
use Rattle.fields.proofs.walk.begin_said.Goals as goal

-- what the row asks: the checks of its opening, which the call made, and then its repetitions from one place on
asked : (c : After-check_opening) (start component : ℕ) (kind : Kind)
    → start ≡ cond (is_any kind) (c.args.sought.end + 1) c.args.sought.start → component ≡ component_of c.args.row c.said_in-said.result.now
    → kind ≡ kind_of c.args.row.kind c.said_in-said.result.now
    → let a = c.args in
    row_in a.delimiters.bytes a.segment.now a.number a.row
    ≡ or_else c.check_opening.result (left_of a.delimiters.bytes a.segment.now (record { cursor = a.sought.cursor; start = start; end = a.sought.end; repetition = 1; component = component; kind = kind }))
asked c start component kind e f g =
    let a = c.args in
    let ds = a.delimiters.bytes in
    said_begins ds a.segment.now a.number a.row a.sought c.requires.0 c.said_in-said.result.now c.check_opening.result start component kind
    c.requires.1
    (c.said_in-said.ensures ∙ ap (first_of ds a.segment.now a.number) c.requires.2)
    c.check_opening.ensures e f g

pub returns-in_err-check_opening : goal.returns-in_err-check_opening
returns-in_err-check_opening c =
    let p = err_from_is_err_and c.from_residual.result c.from_residual.ensures.1 in
    rw (p.1, p.2) (asked (goal.at.returns-in_err-check_opening c).After-check_opening _ _ _ refl refl refl ∙ fails_or c.in_err-check_opening.was _)

pub returns : goal.returns
returns c =
    let a = c.args in
    let finds = c.requires.0 in
    let x = finds.ordered in
    let w = finds.within in
    record {
      stands = finds.stands;
      ordered = subst (λ (n : ℕ). n ≤ a.sought.end + 1) (sym c.left_from.ensures) (left_most (is_any c.kind_of-kind.result) a.sought.start a.sought.end (omega arith));
      inside = finds.inside;
      counted = omega arith;
      asks =
          asked (goal.at.returns c).After-check_opening c.left_from.result c.component_of.result c.kind_of-kind.result c.left_from.ensures c.component_of.ensures c.kind_of-kind.ensures
          ∙ passes_or c.in_ok-check_opening.was _;
    }

pub slice_bounds-check_opening-count : goal.slice_bounds-check_opening-count
slice_bounds-check_opening-count c = let f = c.requires.0 in let o = f.ordered in search rules

pub slice_bounds-check_opening-start : goal.slice_bounds-check_opening-start
slice_bounds-check_opening-start c = let f = c.requires.0 in let o = f.ordered in search rules

pub slice_bounds-check_opening-end : goal.slice_bounds-check_opening-end
slice_bounds-check_opening-end c = let f = c.requires.0 in let w = f.within in let i = f.inside in search rules

pub slice_bounds-check_opening-count-2 : goal.slice_bounds-check_opening-count-2
slice_bounds-check_opening-count-2 c = let f = c.requires.0 in let o = f.ordered in let w = f.within in search rules

pub slice_bounds-check_opening-start-2 : goal.slice_bounds-check_opening-start-2
slice_bounds-check_opening-start-2 c = let f = c.requires.0 in let o = f.ordered in let w = f.within in search rules

pub slice_bounds-check_opening-end-2 : goal.slice_bounds-check_opening-end-2
slice_bounds-check_opening-end-2 c = let f = c.requires.0 in let i = f.inside in search rules

pub left_from-requires : goal.left_from-requires
left_from-requires c = let p = c.requires in let i = p.0.inside in let m = p.3 in omega arith
