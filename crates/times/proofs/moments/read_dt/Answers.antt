-- Rests on what is read of a DT.
use mathlib.Core.Path.{sym, ◌∙◌}
use Rattle.forms.proofs.FormLaws.{dt_digits}
use Rattle.times.proofs.TimeLaws.{dt_broken, dt_read_lem}
use Rattle.times.proofs.moments.read_dt.Goals as goal

pub returns-then-not-is_dt_form : goal.returns-then-not-is_dt_form
returns-then-not-is_dt_form c = dt_broken c.args.bytes.now (sym c.if-not-is_dt_form.ensures)

pub date_of-requires : goal.date_of-requires
date_of-requires c = dt_digits _ (sym c.if-not-is_dt_form.ensures)

pub returns : goal.returns
returns c =
    c.existing.ensures ∙ dt_read_lem c.args.bytes.now c.date_of.result (sym c.if-not-is_dt_form.ensures) c.date_of.ensures
