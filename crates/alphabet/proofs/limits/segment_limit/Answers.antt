-- Rests on the figure standing alike in the code and in specs/Limits.antt.
use mathlib.Core.Path.{refl}
use Rattle.alphabet.specs.Limits.{segment_limit}
use Rattle.alphabet.proofs.limits.segment_limit.Goals as goal

pub returns : goal.returns
unfolding segment_limit
returns c = refl
