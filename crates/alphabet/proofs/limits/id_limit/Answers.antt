-- Rests on the figure standing alike in the code and in specs/Limits.antt.
use mathlib.Core.Path.{refl}
use Rattle.alphabet.specs.Limits.{id_limit}
use Rattle.alphabet.proofs.limits.id_limit.Goals as goal

pub returns : goal.returns
unfolding id_limit
returns c = refl
