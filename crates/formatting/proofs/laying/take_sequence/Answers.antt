-- Rests on a sequence being a command, or saying bytes.
use mathlib.Core.Bool.{Bool, ◌||◌}
use mathlib.Core.Path.{sym, ap, ◌∙◌}
use Rattle.std.specs.Prelude.{is_some}
use Rattle.text.specs.Unescape.{known}
use Rattle.format_commands.proofs.CommandLaws.{command_held}
use Rattle.formatting.proofs.LayLaws.{says_order, says_bytes}
use Rattle.formatting.proofs.laying.take_sequence.Goals as goal

pub returns-in-Some : goal.returns-in-Some
returns-in-Some c =
    let s = c.args.inside.now in
    says_order c.args.delimiters.bytes s (sym (command_held s c.args.asked c.requires.1) ∙ ap is_some c.in-Some.is) (c.take_order.ensures s (sym c.in-Some.is ∙ c.requires.1))

pub take_meaning-requires : goal.take_meaning-requires
take_meaning-requires c =
    let s = c.args.inside.now in
    let e = sym (command_held s c.args.asked c.requires.1) ∙ ap is_some c.in-None.is in
    (c.requires.0, sym (ap (λ (b : Bool). b || known s) e) ∙ c.requires.2)

pub returns-in-None : goal.returns-in-None
returns-in-None c =
    let s = c.args.inside.now in
    says_bytes c.args.delimiters.bytes s (sym (command_held s c.args.asked c.requires.1) ∙ ap is_some c.in-None.is) c.take_meaning.ensures
