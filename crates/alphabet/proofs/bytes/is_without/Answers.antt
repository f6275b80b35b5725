-- Rests on `first_step`: what was looked at holds no b exactly where the first b stands at or behind the next place.
use mathlib.Core.Path.{sym, ap, ◌∙◌}
use mathlib.Core.Bool.{Bool, not, ◌&&◌}
use lib.Dec.{eqb}
use lib.ListN.{get_or}
use Rattle.alphabet.proofs.ListLaws.{first_step}
use Rattle.alphabet.proofs.bytes.is_without.Goals as goal

pub loop-byte-preserved : goal.loop-byte-preserved
loop-byte-preserved c =
    let b = c.args.b in
    let s = c.args.bytes.now in
    ap (λ (t : Bool). t && not (eqb b (get_or s c.loop-byte.byte-index 0))) c.loop-byte.invariant ∙ sym (first_step (eqb b) s c.loop-byte.byte-index c.loop-byte-test.true)
