-- Rests on the reader's first fault, and on the laws of the one walk.
use mathlib.Core.Path.{sym, ◌∙◌, subst}
use Rattle.std.specs.Prelude.{Option}
use Rattle.std.proofs.lemmas.Result.{err_from_is_err_and}
use Rattle.structure.specs.Structures.{structure_for, built_in}
use Rattle.structure.specs.Engine.{RowsOf}
use Rattle.structure.specs.Judged.{unread}
use Rattle.structure.specs.declared.rows.Rows.{Rows}
use Rattle.structure.proofs.OneWalk.{opening_fails, end_fails, left_to_read, without_rows, with_rows}
use Rattle.structure.proofs.judge_structure.Goals as goal

pub returns-in_err-check_opening : goal.returns-in_err-check_opening
returns-in_err-check_opening c =
    let p = err_from_is_err_and c.from_residual.result c.from_residual.ensures.1 in
    rw (p.1, p.2) (unread _ _ (opening_fails c.args.message.now (sym c.check_opening.ensures ∙ c.in_err-check_opening.was)))

pub returns-in_err-check_end : goal.returns-in_err-check_end
returns-in_err-check_end c =
    let p = err_from_is_err_and c.from_residual-in_err-check_end.result c.from_residual-in_err-check_end.ensures.1 in
    rw (p.1, p.2) (unread _ _ (end_fails c.args.message.now (sym c.check_opening.ensures ∙ c.in_ok-check_opening.was) (sym c.check_end.ensures ∙ c.in_err-check_end.was)))

pub returns-in-Some : goal.returns-in-Some
returns-in-Some c =
    let m = c.args.message.now in
    let left = left_to_read m (sym c.check_opening.ensures ∙ c.in_ok-check_opening.was) (sym c.check_end.ensures ∙ c.in_ok-check_end.was) in
    with_rows built_in m left c.in-Some.rows (subst (λ (r : Option Rows). RowsOf (structure_for built_in m) r) c.in-Some.is c.rows_for.ensures) c.judge_segments.ensures

pub returns-in-None : goal.returns-in-None
returns-in-None c =
    let m = c.args.message.now in
    let left = left_to_read m (sym c.check_opening.ensures ∙ c.in_ok-check_opening.was) (sym c.check_end.ensures ∙ c.in_ok-check_end.was) in
    rw c.judge_unlisted.ensures (without_rows built_in m left (subst (λ (r : Option Rows). RowsOf (structure_for built_in m) r) c.in-None.is c.rows_for.ensures))
