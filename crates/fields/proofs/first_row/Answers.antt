-- Rests on the loop: each row that it has passed is of another name.
use mathlib.Core.Path.{◌≡◌, ap, ◌∙◌, subst}
use native.Mathlib.Omega.{arith}
use Rattle.field_table.specs.Table.{rows}
use Rattle.fields.specs.Walk.{NoneBefore}
use Rattle.field_table.specs.declared.Row.{Row}
use Rattle.field_table.proofs.TableLaws.{rows_count}
use Rattle.fields.proofs.JudgeLaws.{none_yet, none_next}
use Rattle.fields.proofs.first_row.Goals as goal

pub loop-index-preserved : goal.loop-index-preserved
loop-index-preserved c =
    let e = rows_count in
    none_next rows c.args.name c.loop-index.index (omega (arith, c.loop-index-test.true)) c.loop-index.invariant
    (λ q. c.if-row-name.false (ap (λ (x : Row). x.segment) c.row_at-row.ensures ∙ q))

pub loop-index-init : goal.loop-index-init
loop-index-init c = none_yet rows c.args.name

pub row_at-row-requires : goal.row_at-row-requires
row_at-row-requires c = c.loop-index-test.true

pub returns : goal.returns
returns c = let e : c.loop-index.index ≡ 16 = omega arith in subst (NoneBefore rows c.args.name) e c.loop-index.invariant

pub returns-then-row-name : goal.returns-then-row-name
returns-then-row-name c = c.loop-index.invariant
