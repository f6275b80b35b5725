-- Rests on a sequence that is held being known as the exact one is.
use mathlib.Core.Path.{ap, ◌∙◌}
use Rattle.std.specs.Prelude.{is_some}
use Rattle.format_commands.specs.Commands.{command}
use Rattle.format_commands.proofs.CommandLaws.{known_held}
use Rattle.format_commands.proofs.orders.is_command.Goals as goal

pub returns : goal.returns
unfolding command
returns c = c.is_some.ensures ∙ ap is_some c.order_of.ensures ∙ known_held _
