-- Rests on what the address behind the byte is: its field tells whether the walk is in a name again.
use Prim.Native.Nat.{◌+◌}
use mathlib.Core.Path.{◌∙◌}
use Rattle.leaves.proofs.RowLaws.{leaf_shown, name_shown}
use Rattle.leaves.proofs.walking.pass_name.Goals as goal

pub returns-then-next-eq0 : goal.returns-then-next-eq0
returns-then-next-eq0 c =
    let w = c.walk_from.ensures in
    (w.0 ∙ c.pass-next.ensures.address_value.0, w.2, w.1 ∙ name_shown _ _ (c.args.end + 1) w.0 c.if-next-eq0.true)

pub returns : goal.returns
returns c =
    let w = c.walk_from-2.ensures in
    (w.0 ∙ c.pass-next.ensures.address_value.0, w.2, w.1 ∙ leaf_shown _ _ (c.args.end + 1) w.0 c.if-next-eq0.false)
