-- Rests on the digits behind the sign.
use mathlib.Core.Path.{◌≡◌, ◌∙◌}
use lib.ListN.{length}
use native.Mathlib.Omega.{arith}
use borrow.Author.Tests.{eq-eqb}
use Rattle.alphabet.proofs.BoolLaws.{false_true}
use Rattle.times.proofs.JudgeLaws.{zone_digits}
use Rattle.times.proofs.figures.offset_of.Goals.{Else-is_empty}
use Rattle.times.proofs.figures.offset_of.Goals as goal

five : (c : Else-is_empty) → length c.args.zone.now ≡ 5
five c = c.requires.zone_len (λ q. false_true (c.if-is_empty.ensures ∙ eq-eqb _ 0 q))

pub two_digits-requires : goal.two_digits-requires
two_digits-requires c =
    let n = five (goal.at.two_digits-requires c).Else-is_empty in
    ((zone_digits c.args.zone.now c.requires.zone_value).0, omega arith)

pub two_digits-requires-2 : goal.two_digits-requires-2
two_digits-requires-2 c =
    let n = five (goal.at.two_digits-requires-2 c).Else-is_empty in
    ((zone_digits c.args.zone.now c.requires.zone_value).1, omega arith)
