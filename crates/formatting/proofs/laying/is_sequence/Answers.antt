-- Rests on an order that is held.
use mathlib.Core.Bool.{Bool, ◌||◌}
use mathlib.Core.Path.{sym, ap, ◌∙◌}
use Rattle.text.specs.Unescape.{known}
use Rattle.format_commands.proofs.CommandLaws.{command_held}
use Rattle.formatting.proofs.laying.is_sequence.Goals as goal

pub returns-then-is_some : goal.returns-then-is_some
returns-then-is_some c =
    c.if-is_some.true ∙ ap (λ (b : Bool). b || known c.args.inside.now) (sym (sym (command_held c.args.inside.now c.args.asked c.requires) ∙ sym c.is_some.ensures ∙ c.if-is_some.true))

pub returns-else-is_some : goal.returns-else-is_some
returns-else-is_some c =
    c.is_known.ensures ∙ ap (λ (b : Bool). b || known c.args.inside.now) (sym (sym (command_held c.args.inside.now c.args.asked c.requires) ∙ sym c.is_some.ensures ∙ c.if-is_some.false))
