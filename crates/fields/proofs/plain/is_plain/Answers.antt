-- Rests on the laws of the rows: of those that were seen to be sound none is left, at each turn.
use mathlib.Core.Path.{◌≡◌, sym, subst, ◌∙◌}
use mathlib.Core.Bool.{Bool, true, false, cond}
use Prim.Native.Nat.{ℕ, ◌≤◌, ◌<◌}
use lib.Dec.{eqb}
use lib.ListN.{length}
use native.Mathlib.Omega.{arith}
use Rattle.alphabet.proofs.BoolLaws.{false_true}
use Rattle.field_table.specs.Table.{rows}
use Rattle.field_table.proofs.TableLaws.{rows_count}
use Rattle.fields.specs.Walk.{NoneBefore, NoneFrom}
use Rattle.fields.proofs.JudgeLaws.{row_other, row_own, rows_before, rows_from, own_passes}
use Rattle.fields.proofs.plain.is_plain.Goals.{In-loop-index}
use Rattle.fields.proofs.plain.is_plain.Goals as goal

pub returns-then-to-from : goal.returns-then-to-from
returns-then-to-from c = λ t p n.
    let a = c.args in
    rows_before rows a.delimiters.bytes a.number a.segment.now (subst (λ (name : ℕ). NoneBefore rows name a.from) n c.requires.0)
    ∙ rows_from rows a.delimiters.bytes a.number a.segment.now (subst (λ (name : ℕ). NoneFrom rows name a.to) n c.requires.1) a.from c.if-to-from.true

pub returns-then-segment-gt-LONG : goal.returns-then-segment-gt-LONG
returns-then-segment-gt-LONG c = λ t p n. absurd (false_true t)

-- there is a last row, and it is one of the table
pub row_at-last-requires : goal.row_at-last-requires
row_at-last-requires c =
    let i = c.requires.1.inside in
    let e = rows_count in
    omega (arith, c.if-to-from.false)

pub loop-index-init : goal.loop-index-init
loop-index-init c =
    let a = c.args in
    (c.note.ensures, λ p n. rows_before rows a.delimiters.bytes a.number a.segment.now (subst (λ (name : ℕ). NoneBefore rows name a.from) n c.requires.0))

-- a row that the loop comes to is one of the table
among : (c : In-loop-index) → c.loop-index.index < length rows
among c = let i = c.requires.1.inside in omega (arith, c.loop-index-test.true)

few : (c : In-loop-index) → c.loop-index.index < 16
few c = let h = among c in let e = rows_count in omega arith

pub loop-index-preserved-then-row-name : goal.loop-index-preserved-then-row-name
loop-index-preserved-then-row-name c =
    let a = c.args in
    (c.loop-index.invariant.0, λ p n. c.loop-index.invariant.1 p n ∙ row_other rows a.delimiters.bytes a.number a.segment.now c.loop-index.index (among (goal.at.loop-index-preserved-then-row-name c).In-loop-index) c.row_at-row.result c.row_at-row.ensures (λ q. c.if-row-name.true (q ∙ sym n)))

pub is_row_plain-requires : goal.is_row_plain-requires
is_row_plain-requires c =
    let a = c.args in
    at (eqb a.number 0) c.base_of-base.result c.base_of-base.ensures
  where
    at : (t : Bool) (n : ℕ) → n ≡ cond t 1 0 → n ≤ 1
    at true n e = omega arith
    at false n e = omega arith

pub returns-then-not-is_row_plain : goal.returns-then-not-is_row_plain
returns-then-not-is_row_plain c = λ t p n. absurd (false_true t)

-- a row that was seen to be sound
pub loop-index-preserved : goal.loop-index-preserved
loop-index-preserved c =
    let a = c.args in (
      c.loop-index.invariant.0,
      λ p n.
          c.loop-index.invariant.1 p n
          ∙ row_own rows a.delimiters.bytes a.number a.segment.now c.loop-index.index (among (goal.at.loop-index-preserved c).In-loop-index) c.row_at-row.result c.row_at-row.ensures (c.if-row-name.false ∙ n)
          ∙ own_passes _ _ _ (c.is_row_plain.ensures (c.if-not-is_row_plain.false) p a.number c.base_of-base.ensures c.loop-index.invariant.0),
    )

pub returns : goal.returns
returns c = λ t p n.
    let a = c.args in
    c.loop-index.invariant.1 p n
    ∙ rows_from rows a.delimiters.bytes a.number a.segment.now (subst (λ (name : ℕ). NoneFrom rows name a.to) n c.requires.1) c.loop-index.index c.loop-index-test.false

pub row_at-row-requires : goal.row_at-row-requires
row_at-row-requires c = few c
