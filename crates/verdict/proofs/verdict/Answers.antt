-- Rests on the reader's first fault, and on the laws of the one walk.
use mathlib.Core.Path.{sym, refl, ◌∙◌, subst}
use Rattle.std.specs.Prelude.{Option}
use Rattle.std.proofs.lemmas.Result.{err_from_is_err_and}
use Rattle.structure.specs.Structures.{structure_for, built_in}
use Rattle.structure.specs.Engine.{RowsOf}
use Rattle.structure.specs.declared.rows.Rows.{Rows}
use Rattle.verdict.proofs.FromOpening.{opening_fails, end_fails, without_rows, with_rows}
use Rattle.verdict.proofs.verdict.Goals as goal

pub returns-in_err-check_opening : goal.returns-in_err-check_opening
returns-in_err-check_opening c =
    let p = err_from_is_err_and c.from_residual.result c.from_residual.ensures.1 in
    rw (p.1, p.2) (opening_fails built_in c.args.message.now (sym c.check_opening.ensures ∙ c.in_err-check_opening.was))

pub returns-in_err-check_end : goal.returns-in_err-check_end
returns-in_err-check_end c =
    let p = err_from_is_err_and c.from_residual-in_err-check_end.result c.from_residual-in_err-check_end.ensures.1 in
    rw (p.1, p.2) (end_fails built_in c.args.message.now (sym c.check_opening.ensures ∙ c.in_ok-check_opening.was) (sym c.check_end.ensures ∙ c.in_err-check_end.was))

pub returns-in-Some : goal.returns-in-Some
returns-in-Some c =
    let m = c.args.message.now in
    with_rows built_in m (sym c.check_opening.ensures ∙ c.in_ok-check_opening.was) (sym c.check_end.ensures ∙ c.in_ok-check_end.was)
    (structure_for built_in m) c.in-Some.rows refl (subst (λ (r : Option Rows). RowsOf (structure_for built_in m) r) c.in-Some.is c.rows_for.ensures) c.judge_segments.ensures

pub returns-in-None : goal.returns-in-None
returns-in-None c =
    let m = c.args.message.now in
    rw c.judge_unlisted.ensures
    (without_rows built_in m (sym c.check_opening.ensures ∙ c.in_ok-check_opening.was) (sym c.check_end.ensures ∙ c.in_ok-check_end.was)
    (structure_for built_in m) refl (subst (λ (r : Option Rows). RowsOf (structure_for built_in m) r) c.in-None.is c.rows_for.ensures))
