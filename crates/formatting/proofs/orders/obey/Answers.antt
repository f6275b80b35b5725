-- Each return is a case of `obey`.
use mathlib.Core.Bool.{true, false}
use mathlib.Core.Path.{sym, subst}
use Rattle.std.specs.Prelude.{Some}
use Rattle.format_commands.specs.declared.orders.Order.TheVariants.{Highlight, Break, Fill, Unfill}
use Rattle.formatting.specs.declared.page.Page.{Page}
use Rattle.formatting.specs.Sheet.{obey}
use Rattle.formatting.specs.Pages.{Acts}
use Rattle.formatting.proofs.ActLaws.{acts_none, acts_line}
use Rattle.formatting.proofs.OrderLaws.{acts_same, acts_order, acts_fill, obey_plain}
use Rattle.formatting.proofs.orders.obey.Goals as goal

pub returns-in-Highlight : goal.returns-in-Highlight
returns-in-Highlight c =
    let g = c.args in
    acts_order g.asked _ g.page g.line.now g.buffer.now _ _ _ c.in-Highlight.is
    (acts_same _ (obey (Some Highlight)) g.page g.line.now g.buffer.now _ _ _ (λ s. sym (obey_plain s).0) (acts_none g.page g.line.now g.buffer.now c.requires.0))

pub returns-in-Break : goal.returns-in-Break
returns-in-Break c =
    let g = c.args in
    acts_order g.asked _ g.page g.line.now g.buffer.now _ _ _ c.in-Break.is
    (acts_same _ (obey (Some Break)) g.page g.line.now g.buffer.now _ _ _ (λ s. sym (obey_plain s).1) (acts_line g.page c.end_lines.result g.line.now g.buffer.now _ c.requires.0 c.requires.1 c.end_lines.ensures.value c.end_lines.ensures.wrote))

pub returns-in-Centre : goal.returns-in-Centre
returns-in-Centre c =
    let g = c.args in
    acts_order g.asked _ g.page g.line.now g.buffer.now _ _ _ c.in-Centre.is
    c.centre_next.ensures

pub returns-in-Fill : goal.returns-in-Fill
returns-in-Fill c =
    let g = c.args in
    acts_order g.asked _ g.page g.line.now g.buffer.now _ _ _ c.in-Fill.is
    (subst (λ (k : Page). Acts (obey (Some Fill)) g.page g.line.now g.buffer.now k g.line.now g.buffer.now) (sym c.set_fill.ensures) (acts_same _ (obey (Some Fill)) g.page g.line.now g.buffer.now _ _ _ (λ s. sym (obey_plain s).2) (acts_fill g.page g.line.now g.buffer.now c.requires.0 c.requires.1 true)))

pub returns-in-Unfill : goal.returns-in-Unfill
returns-in-Unfill c =
    let g = c.args in
    acts_order g.asked _ g.page g.line.now g.buffer.now _ _ _ c.in-Unfill.is
    (subst (λ (k : Page). Acts (obey (Some Unfill)) g.page g.line.now g.buffer.now k g.line.now g.buffer.now) (sym c.set_fill-in-Unfill.ensures) (acts_same _ (obey (Some Unfill)) g.page g.line.now g.buffer.now _ _ _ (λ s. sym (obey_plain s).3) (acts_fill g.page g.line.now g.buffer.now c.requires.0 c.requires.1 false)))

pub returns-in-Down : goal.returns-in-Down
returns-in-Down c =
    let g = c.args in
    acts_order g.asked _ g.page g.line.now g.buffer.now _ _ _ c.in-Down.is
    c.space_down.ensures

pub returns-in-Across : goal.returns-in-Across
returns-in-Across c =
    let g = c.args in
    acts_order g.asked _ g.page g.line.now g.buffer.now _ _ _ c.in-Across.is
    c.skip.ensures

pub returns-in-Margin : goal.returns-in-Margin
returns-in-Margin c =
    let g = c.args in
    acts_order g.asked _ g.page g.line.now g.buffer.now _ _ _ c.in-Margin.is
    c.indent.ensures

pub returns-in-Once : goal.returns-in-Once
returns-in-Once c =
    let g = c.args in
    acts_order g.asked _ g.page g.line.now g.buffer.now _ _ _ c.in-Once.is
    c.indent_once.ensures
