-- Rests on there being a date of which nothing was sent.
use mathlib.Core.Bool.{◌&&◌}
use mathlib.Core.List.{[]}
use mathlib.Core.Path.{sym, ap, ◌∙◌}
use Rattle.calendar.specs.Calendar.{valid_date, valid_clock}
use Rattle.forms.specs.Forms.{layout_of}
use Rattle.forms.specs.declared.layouts.Form.{Form}
use Rattle.times.specs.Times.{date_in, clock_of}
use Rattle.times.proofs.judging.is_moment.Goals as goal

pub returns-in-Tm : goal.returns-in-Tm
unfolding valid_date
returns-in-Tm c =
    let l = c.args.front.now in
    c.is_clock.ensures ∙ ap (λ (f : Form). valid_date (date_in f l) && valid_clock (clock_of l (layout_of f).clock [])) (sym c.in-Tm.is)
