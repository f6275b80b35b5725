-- Rests on what `is_any` ensures.
use mathlib.Core.Path.{sym, ap, ◌∙◌}
use mathlib.Core.Bool.{Bool, cond}
use Prim.Native.Nat.{◌+◌}
use Rattle.fields.proofs.walk.left_from.Goals as goal

pub returns-then-is_any : goal.returns-then-is_any
returns-then-is_any c = let a = c.args in sym (ap (λ (t : Bool). cond t (a.end + 1) a.start) (sym c.is_any.ensures ∙ c.if-is_any.true))

pub returns : goal.returns
returns c = let a = c.args in sym (ap (λ (t : Bool). cond t (a.end + 1) a.start) (sym c.is_any.ensures ∙ c.if-is_any.false))
