-- Rests on the branches: each return is a case of `passed`, and the start is shown of a name behind CR alone.
use Prim.Native.Nat.{◌+◌}
use mathlib.Core.Path.{refl, ◌∙◌}
use native.Mathlib.Omega.{arith}
use Rattle.leaves.proofs.RestLaws.{pass_field, pass_component, pass_end, pass_repetition, pass_subcomponent}
use Rattle.leaves.proofs.RowLaws.{leaf_shown, name_shown}
use Rattle.leaves.proofs.walking.pass.Goals as goal

pub returns-then-b-ends-clause-address_value : goal.returns-then-b-ends-clause-address_value
returns-then-b-ends-clause-address_value c =
    let w = c.walk_from.ensures in
    let a = c.args in
    let e = w.0 ∙ c.address_of.ensures in (e ∙ pass_field a.ends a.b a.address c.if-b-ends.true, w.2)

pub returns-then-b-ends-clause-start_value : goal.returns-then-b-ends-clause-start_value
returns-then-b-ends-clause-start_value c =
    let w = c.walk_from.ensures in
    let a = c.args in
    let e = w.0 ∙ c.address_of.ensures in λ n. w.1 ∙ leaf_shown _ _ (a.end + 1) e (λ z. omega arith)

pub returns-then-b-ends-2-clause-address_value : goal.returns-then-b-ends-2-clause-address_value
returns-then-b-ends-2-clause-address_value c =
    let w = c.walk_from-then-b-ends-2.ensures in
    let a = c.args in
    let e = w.0 ∙ c.address_of-to.ensures in (e ∙ pass_component a.ends a.b a.address c.if-b-ends.false c.if-b-ends-2.true, w.2)

pub returns-then-b-ends-2-clause-start_value : goal.returns-then-b-ends-2-clause-start_value
returns-then-b-ends-2-clause-start_value c =
    let w = c.walk_from-then-b-ends-2.ensures in
    let a = c.args in
    let e = w.0 ∙ c.address_of-to.ensures in λ n. w.1 ∙ leaf_shown _ _ (a.end + 1) e n

pub returns-then-b-ends-3-clause-address_value : goal.returns-then-b-ends-3-clause-address_value
returns-then-b-ends-3-clause-address_value c =
    let w = c.walk_from-then-b-ends-3.ensures in
    let a = c.args in
    let e = w.0 ∙ c.address_of-then-b-ends-3.ensures in (e ∙ pass_end a.ends a.b a.address c.if-b-ends.false c.if-b-ends-2.false c.if-b-ends-3.true, w.2)

pub returns-then-b-ends-3-clause-start_value : goal.returns-then-b-ends-3-clause-start_value
returns-then-b-ends-3-clause-start_value c =
    let w = c.walk_from-then-b-ends-3.ensures in
    let a = c.args in
    let e = w.0 ∙ c.address_of-then-b-ends-3.ensures in λ n. w.1 ∙ name_shown _ _ (a.end + 1) e refl

pub returns-then-b-ends-4-clause-address_value : goal.returns-then-b-ends-4-clause-address_value
returns-then-b-ends-4-clause-address_value c =
    let w = c.walk_from-then-b-ends-4.ensures in
    let a = c.args in
    let e = w.0 ∙ c.address_of-then-b-ends-4.ensures in (e ∙ pass_repetition a.ends a.b a.address c.if-b-ends.false c.if-b-ends-2.false c.if-b-ends-3.false c.if-b-ends-4.true, w.2)

pub returns-then-b-ends-4-clause-start_value : goal.returns-then-b-ends-4-clause-start_value
returns-then-b-ends-4-clause-start_value c =
    let w = c.walk_from-then-b-ends-4.ensures in
    let a = c.args in
    let e = w.0 ∙ c.address_of-then-b-ends-4.ensures in λ n. w.1 ∙ leaf_shown _ _ (a.end + 1) e n

pub returns-clause-address_value : goal.returns-clause-address_value
returns-clause-address_value c =
    let w = c.walk_from-2.ensures in
    let a = c.args in
    let e = w.0 ∙ c.address_of-to-2.ensures in (e ∙ pass_subcomponent a.ends a.b a.address c.if-b-ends.false c.if-b-ends-2.false c.if-b-ends-3.false c.if-b-ends-4.false, w.2)

pub returns-clause-start_value : goal.returns-clause-start_value
returns-clause-start_value c =
    let w = c.walk_from-2.ensures in
    let a = c.args in
    let e = w.0 ∙ c.address_of-to-2.ensures in λ n. w.1 ∙ leaf_shown _ _ (a.end + 1) e n
