-- Rests on the figure standing alike in the code and in specs/Limits.antt.
use mathlib.Core.Path.{refl}
use Rattle.alphabet.specs.Limits.{message_limit}
use Rattle.alphabet.proofs.limits.message_limit.Goals as goal

pub returns : goal.returns
unfolding message_limit
returns c = refl
