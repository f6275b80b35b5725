-- Rests on the contracts of what is called.
use mathlib.Core.Path.{sym, ◌∙◌}
use Rattle.formatting.proofs.bytes.take_byte.Goals as goal

pub grow-requires : goal.grow-requires
grow-requires c = (c.requires, sym c.is_of_word.ensures ∙ c.if-is_of_word.true)

pub take_space-requires : goal.take_space-requires
take_space-requires c = (c.requires, sym c.is_of_word.ensures ∙ c.if-is_of_word.false)
