-- Rests on the library's `==` being the definition `same`.
use mathlib.Core.Path.{◌∙◌}
use Rattle.alphabet.proofs.ListLaws.{same_pointwise}
use Rattle.alphabet.proofs.bytes.same.Goals as goal

pub returns : goal.returns
returns c = c.eq.ensures ∙ same_pointwise c.args.one.now c.args.other.now
