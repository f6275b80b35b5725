-- Rests on the laws of the rows: what is left, at each turn, is the fault of the segment.
use Prim.Native.Nat.{ℕ, ◌<◌, ◌+◌}
use mathlib.Core.Path.{◌≡◌, sym, ap, subst, ◌∙◌}
use lib.ListN.{length, get_or}
use native.Mathlib.Omega.{arith}
use Rattle.alphabet.specs.Answers.{Check, Refusable}
use Rattle.field_table.specs.Table.{rows}
use Rattle.field_table.proofs.TableLaws.{rows_count}
use Rattle.fields.specs.Judging.{located, or_fault}
use Rattle.fields.specs.Walk.{Judges, row_in, judged_in, NoneBefore, NoneFrom}
use Rattle.fields.specs.declared.walk.Cursor.{Cursor}
use Rattle.fields.proofs.CursorLaws.{stands_start}
use Rattle.fields.proofs.JudgeLaws.{rows_left, row_other, row_own, rows_before, rows_from}
use Rattle.fields.proofs.judge_rows.Goals.{After-judge_row, In-loop-index}
use Rattle.fields.proofs.judge_rows.Goals as goal

pub loop-index-init : goal.loop-index-init
loop-index-init c =
    let a = c.args in
    (stands_start (get_or a.delimiters.bytes 0 0) _, rows_before rows a.delimiters.bytes a.number a.segment.now (subst (λ (name : ℕ). NoneBefore rows name a.from) c.requires.2 c.requires.0))

-- a row that the loop comes to is one of the table
among : (c : In-loop-index) → c.loop-index.index < length rows
among c = let i = c.requires.1.inside in omega (arith, c.loop-index-test.true)

few : (c : In-loop-index) → c.loop-index.index < 16
few c = let h = among c in let e = rows_count in omega arith

pub loop-index-preserved-then-row-name : goal.loop-index-preserved-then-row-name
loop-index-preserved-then-row-name c =
    let a = c.args in
    (c.loop-index.invariant.0, c.loop-index.invariant.1 ∙ row_other rows a.delimiters.bytes a.number a.segment.now c.loop-index.index (among (goal.at.loop-index-preserved-then-row-name c).In-loop-index) c.row_at-row.result c.row_at-row.ensures (λ q. c.if-row-name.true (q ∙ sym c.requires.2)))

-- what is left: this row, and the rows behind it
begun : (c : After-judge_row) (found : Check) → let a = c.args in
    row_in a.delimiters.bytes a.segment.now a.number c.row_at-row.result ≡ found
    → judged_in rows a.delimiters.bytes a.number a.segment.now
    ≡ or_fault (located a.number c.row_at-row.result.field found) (rows_left rows a.delimiters.bytes a.number a.segment.now (c.loop-index.index + 1))
begun c found e =
    let a = c.args in
    c.loop-index.invariant.1
    ∙ row_own rows a.delimiters.bytes a.number a.segment.now c.loop-index.index (among (goal.at.After-judge_row c).In-loop-index) c.row_at-row.result c.row_at-row.ensures (c.if-row-name.false ∙ c.requires.2)
    ∙ ap (λ (k : Check). or_fault (located a.number c.row_at-row.result.field k) (rows_left rows a.delimiters.bytes a.number a.segment.now (c.loop-index.index + 1))) e

pub returns-in-Err : goal.returns-in-Err
returns-in-Err c =
    let a = c.args in
    let f = subst (λ (r : Refusable Cursor). Judges a.delimiters.bytes a.segment.now a.number c.row_at-row.result r) c.in-Err.is c.judge_row.ensures in
    sym (begun (goal.at.returns-in-Err c).After-judge_row _ f)

pub loop-index-preserved : goal.loop-index-preserved
loop-index-preserved c =
    let a = c.args in
    let j = subst (λ (r : Refusable Cursor). Judges a.delimiters.bytes a.segment.now a.number c.row_at-row.result r) c.in-Ok.is c.judge_row.ensures in
    (j.0, begun (goal.at.loop-index-preserved c).After-judge_row _ j.1)

pub returns : goal.returns
returns c =
    let a = c.args in
    sym (c.loop-index.invariant.1 ∙ rows_from rows a.delimiters.bytes a.number a.segment.now (subst (λ (name : ℕ). NoneFrom rows name a.to) c.requires.2 c.requires.1) c.loop-index.index c.loop-index-test.false)

pub row_at-row-requires : goal.row_at-row-requires
row_at-row-requires c = few c

pub judge_row-requires : goal.judge_row-requires
judge_row-requires c = (c.loop-index.invariant.0, c.requires.3)
