-- Rests on the two cases of a field's index.
use mathlib.Core.Path.{◌≡◌, ◌∙◌}
use Prim.Native.Nat.{◌-◌}
use native.Mathlib.Omega.{arith}
use Rattle.element.proofs.LevelLaws.{index_other, index_header}
use Rattle.element.proofs.levels.index_of.Goals as goal

pub returns-then-segment-ne0 : goal.returns-then-segment-ne0
returns-then-segment-ne0 c = let a = c.args in index_other a.segment a.field c.if-segment-ne0.true

pub returns-then-field-eq0 : goal.returns-then-field-eq0
returns-then-field-eq0 c =
    let a = c.args in
    let e : 0 ≡ a.field - 1 = omega arith in
    e ∙ index_header a.segment a.field c.if-segment-ne0.false

pub returns-else-field-eq0 : goal.returns-else-field-eq0
returns-else-field-eq0 c = let a = c.args in index_header a.segment a.field c.if-segment-ne0.false
