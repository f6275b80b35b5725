-- Rests on a number that counts blanks.
use mathlib.Core.Path.{sym, subst, ◌∙◌}
use native.Mathlib.Omega.{arith}
use Rattle.std.specs.Prelude.{Some}
use Rattle.formatting.specs.declared.page.Page.{Page}
use Rattle.format_commands.specs.declared.orders.Order.TheVariants.{Across}
use Rattle.formatting.specs.Sheet.{obey}
use Rattle.formatting.specs.Pages.{Acts}
use Rattle.formatting.proofs.ActLaws.{acts_owe}
use Rattle.formatting.proofs.OrderLaws.{acts_spoilt, acts_same, stop_across, obey_across, natural_most}
use Rattle.formatting.proofs.orders.skip.Goals as goal

pub returns-then-not-is_natural : goal.returns-then-not-is_natural
returns-then-not-is_natural c =
    let g = c.args in
    let e = sym c.is_natural.ensures ∙ c.if-not-is_natural.true in
    subst (λ (k : Page). Acts (obey (Some (Across g.a))) g.page g.line.now g.buffer.now k g.line.now g.buffer.now) (sym c.spoil.ensures)
    (acts_spoilt g.page g.line.now g.buffer.now c.requires.0 c.requires.1 _ (λ s n m. stop_across g.a s e))

pub owe-requires : goal.owe-requires
owe-requires c =
    let h = natural_most c.args.a (sym c.is_natural.ensures ∙ c.if-not-is_natural.false) in
    (c.requires.0.slight, omega arith)

pub returns : goal.returns
returns c =
    let g = c.args in
    subst (λ (k : Page). Acts (obey (Some (Across g.a))) g.page g.line.now g.buffer.now k g.line.now g.buffer.now) (sym c.owe.ensures)
    (acts_same _ _ g.page g.line.now g.buffer.now _ _ _ (λ s. obey_across g.a s (sym c.is_natural.ensures ∙ c.if-not-is_natural.false)) (acts_owe g.a.size g.page g.line.now g.buffer.now c.requires.0 c.requires.1))
