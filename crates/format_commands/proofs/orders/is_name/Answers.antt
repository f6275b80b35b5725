-- Rests on the same test, byte for byte.
use Rattle.format_commands.proofs.CommandLaws.{name_same}
use Rattle.format_commands.proofs.orders.is_name.Goals as goal

pub returns : goal.returns
returns c = name_same c.args.x c.args.y c.args.z c.args.one c.args.two
