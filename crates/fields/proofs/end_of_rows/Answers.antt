-- Rests on the loop: each row that it has passed is of another name.
use Prim.Native.Nat.{◌≤◌}
use mathlib.Core.Path.{ap, subst, ◌∙◌}
use native.Mathlib.Omega.{arith}
use Rattle.field_table.specs.Table.{rows}
use Rattle.field_table.specs.declared.Row.{Row}
use Rattle.field_table.proofs.TableLaws.{rows_count}
use Rattle.fields.specs.Walk.{NoneFrom}
use Rattle.fields.proofs.JudgeLaws.{none_behind, none_back}
use Rattle.fields.proofs.end_of_rows.Goals.{At-loop-index}
use Rattle.fields.proofs.end_of_rows.Goals as goal

within : (c : At-loop-index) → c.loop-index.index ≤ 16
within c = let e = rows_count in let i = c.loop-index.invariant.inside in omega arith

pub loop-index-preserved : goal.loop-index-preserved
loop-index-preserved c =
    none_back rows c.args.name c.loop-index.index c.loop-index-test.true c.loop-index.invariant
    (λ q. c.if-row-name.false (ap (λ (x : Row). x.segment) c.row_at-row.ensures ∙ q))

pub loop-index-init : goal.loop-index-init
loop-index-init c = subst (NoneFrom rows c.args.name) rows_count (none_behind rows c.args.name)

pub overflow_sub-index : goal.overflow_sub-index
overflow_sub-index c = let t = c.loop-index-test.true in omega arith

pub row_at-row-requires : goal.row_at-row-requires
row_at-row-requires c = let w = within (goal.at.row_at-row-requires c).At-loop-index in let t = c.loop-index-test.true in omega arith

pub overflow_sub-index-in-loop-index : goal.overflow_sub-index-in-loop-index
overflow_sub-index-in-loop-index c = let t = c.loop-index-test.true in omega arith

pub loop-index-smaller : goal.loop-index-smaller
loop-index-smaller c = let t = c.loop-index-test.true in omega arith

pub returns-after-loop-index : goal.returns-after-loop-index
returns-after-loop-index c = c.loop-index.invariant

pub returns-then-row-name : goal.returns-then-row-name
returns-then-row-name c = c.loop-index.invariant
