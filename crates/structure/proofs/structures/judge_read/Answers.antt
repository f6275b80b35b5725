-- Rests on the laws of the rows: they are the tables of the structure that the message's type chooses, or there are none.
use mathlib.Core.Path.{subst}
use Rattle.std.specs.Prelude.{Option}
use Rattle.structure.specs.Structures.{structure_for, built_in}
use Rattle.structure.specs.Engine.{RowsOf}
use Rattle.structure.specs.declared.rows.Rows.{Rows}
use Rattle.structure.proofs.RowLaws.{by_no_rows, by_rows}
use Rattle.structure.proofs.structures.judge_read.Goals as goal

pub returns-in-Some : goal.returns-in-Some
returns-in-Some c =
    let m = c.args.message.now in
    by_rows built_in m c.in-Some.rows (subst (λ (r : Option Rows). RowsOf (structure_for built_in m) r) c.in-Some.is c.rows_for.ensures) c.judge_by.ensures

pub returns-in-None : goal.returns-in-None
returns-in-None c =
    let m = c.args.message.now in
    rw c.from.ensures (by_no_rows built_in m (subst (λ (r : Option Rows). RowsOf (structure_for built_in m) r) c.in-None.is c.rows_for.ensures))
