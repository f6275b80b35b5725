-- Rests on what a letter asks for.
use Rattle.format_commands.proofs.CommandLaws.{letter_order}
use Rattle.format_commands.proofs.orders.by_letter.Goals as goal

pub returns-then-x : goal.returns-then-x
returns-then-x c = letter_order c.args.x c.if-x.true

pub returns : goal.returns
returns c = letter_order c.args.x c.if-x.false
