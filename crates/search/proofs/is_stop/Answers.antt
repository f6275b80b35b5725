-- Rests on the two tests that it calls: together they are `stops`.
use mathlib.Core.Path.{ap, ap₂}
use mathlib.Core.Bool.{Bool, not, ◌&&◌, ◌||◌}
use Rattle.search.proofs.is_stop.Goals as goal

pub returns : goal.returns
returns c =
    let a = c.args in
    ap₂ ◌||◌ (ap (λ (t : Bool). a.unprintable && not t) c.is_printable.ensures) c.is_among-one.ensures
