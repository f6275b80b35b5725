-- Rests on a number that counts lines.
use mathlib.Core.Path.{sym, subst, ◌∙◌}
use Rattle.std.specs.Prelude.{Some}
use Rattle.formatting.specs.declared.page.Page.{Page}
use Rattle.format_commands.specs.declared.orders.Order.TheVariants.{Down}
use Rattle.formatting.specs.Sheet.{obey}
use Rattle.formatting.specs.Pages.{Acts}
use Rattle.formatting.proofs.OrderLaws.{acts_spoilt, acts_same, natural_most, stop_down, obey_down}
use Rattle.formatting.proofs.orders.space_down.Goals as goal

pub returns-then-not-is_natural : goal.returns-then-not-is_natural
returns-then-not-is_natural c =
    let g = c.args in
    let e = sym c.is_natural.ensures ∙ c.if-not-is_natural.true in
    subst (λ (k : Page). Acts (obey (Some (Down g.a))) g.page g.line.now g.buffer.now k g.line.now g.buffer.now) (sym c.spoil.ensures)
    (acts_spoilt g.page g.line.now g.buffer.now c.requires.0 c.requires.1 _ (λ s n m. stop_down g.a s e))

pub returns : goal.returns
returns c =
    let g = c.args in
    acts_same _ _ g.page g.line.now g.buffer.now _ _ _ (λ s. obey_down g.a s (sym c.is_natural.ensures ∙ c.if-not-is_natural.false)) c.go_down.ensures

pub go_down-requires : goal.go_down-requires
go_down-requires c =
    (c.requires.0, c.requires.1, natural_most c.args.a (sym c.is_natural.ensures ∙ c.if-not-is_natural.false))
