-- Rests on a margin that is moved.
use mathlib.Core.Path.{sym, subst, ◌∙◌}
use native.Mathlib.Omega.{arith}
use Rattle.std.specs.Prelude.{Some}
use Rattle.formatting.specs.declared.page.Page.{Page}
use Rattle.format_commands.specs.declared.orders.Order.TheVariants.{Margin}
use Rattle.formatting.specs.Sheet.{obey}
use Rattle.formatting.specs.Pages.{Acts}
use Rattle.formatting.proofs.OrderLaws.{acts_spoilt, acts_margin, stop_margin, moved_small}
use Rattle.formatting.proofs.orders.indent.Goals as goal

pub returns-then-not-is_fit : goal.returns-then-not-is_fit
returns-then-not-is_fit c =
    let g = c.args in
    let e = sym c.is_fit.ensures ∙ c.if-not-is_fit.true in
    subst (λ (k : Page). Acts (obey (Some (Margin g.a))) g.page g.line.now g.buffer.now k g.line.now g.buffer.now) (sym c.spoil.ensures)
    (acts_spoilt g.page g.line.now g.buffer.now c.requires.0 c.requires.1 _ (λ s n m. stop_margin g.a s g.page.margin e m))

pub moved_by-margin-requires : goal.moved_by-margin-requires
moved_by-margin-requires c = sym c.is_fit.ensures ∙ c.if-not-is_fit.false

pub returns : goal.returns
returns c =
    let g = c.args in
    let e = sym c.is_fit.ensures ∙ c.if-not-is_fit.false in
    let h = moved_small g.page.margin g.a e c.requires.0.slight.margin in
    let q = c.moved_by-margin.ensures in
    acts_margin g.page g.line.now g.buffer.now c.requires.0 c.requires.1 g.a c.moved_by-margin.result e q (omega arith)

pub is_fit-requires : goal.is_fit-requires
is_fit-requires c = c.requires.0.slight.margin
