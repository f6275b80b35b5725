-- Rests on a command that ends the word, and acts.
use mathlib.Core.Path.{sym, ◌∙◌}
use Rattle.std.specs.Prelude.{Some}
use Rattle.formatting.proofs.OrderLaws.{order_quiet, order_follows}
use Rattle.formatting.proofs.ActLaws.{closing_sound}
use Rattle.formatting.proofs.orders.take_order.Goals as goal

pub returns-then-is_quiet : goal.returns-then-is_quiet
returns-then-is_quiet c inside e =
    let g = c.args in
    order_quiet inside (Some g.asked) e g.page g.line.now g.buffer.now c.requires (sym c.is_quiet.ensures ∙ c.if-is_quiet.true)

pub obey-requires : goal.obey-requires
obey-requires c =
    let g = c.args in
    closing_sound g.page c.close_word.result g.line.now g.buffer.now c.requires c.close_word.ensures

pub returns : goal.returns
returns c inside e =
    let g = c.args in
    order_follows inside (Some g.asked) e g.page g.line.now g.buffer.now c.requires c.close_word.result c.obey.result _
    (sym c.is_quiet.ensures ∙ c.if-is_quiet.false) c.close_word.ensures c.obey.ensures
