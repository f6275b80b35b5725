-- Rests on an element that was refused standing nowhere.
use mathlib.Core.Path.{sym, ap, ◌∙◌}
use Rattle.element.specs.Finding.{element_found, bytes_at}
use Rattle.element.proofs.FindingLaws.{bytes_nowhere}
use Rattle.element.proofs.bytes_of.Goals as goal

pub returns-in-Ok : goal.returns-in-Ok
returns-in-Ok c = c.bytes_at.ensures ∙ ap (λ r. bytes_at c.args.message.now (element_found r)) (sym c.in-Ok.is ∙ c.find.ensures)

pub returns-in-Err : goal.returns-in-Err
returns-in-Err c = sym (bytes_nowhere c.args.message.now) ∙ ap (λ r. bytes_at c.args.message.now (element_found r)) (sym c.in-Err.is ∙ c.find.ensures)
