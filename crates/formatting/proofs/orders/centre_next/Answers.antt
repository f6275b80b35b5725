-- Rests on a line that is ended.
use mathlib.Core.Path.{ap, ◌∙◌}
use Rattle.formatting.specs.declared.page.Page.{Page}
use Rattle.formatting.proofs.ActLaws.{acts_line}
use Rattle.formatting.proofs.OrderLaws.{acts_centre}
use Rattle.formatting.proofs.orders.centre_next.Goals as goal

pub returns : goal.returns
returns c =
    let g = c.args in
    acts_centre g.page g.line.now g.buffer.now c.requires.0 c.requires.1 c.end_lines-ended.result _
    (acts_line g.page c.end_lines-ended.result g.line.now g.buffer.now _ c.requires.0 c.requires.1 c.end_lines-ended.ensures.value c.end_lines-ended.ensures.wrote)
    (ap (λ (x : Page). x.word) c.end_lines-ended.ensures.value ∙ c.requires.1)
