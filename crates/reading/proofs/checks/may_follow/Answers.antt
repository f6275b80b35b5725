-- Rests on what `is_capital` and `is_digit` give.
use mathlib.Core.Path.{sym, ap, ◌∙◌}
use mathlib.Core.Bool.{Bool, ◌||◌}
use Rattle.alphabet.specs.Bytes.{digit}
use Rattle.reading.proofs.checks.may_follow.Goals as goal

pub returns-then-is_capital : goal.returns-then-is_capital
returns-then-is_capital c = let a = c.args in sym (ap (λ (t : Bool). t || digit a.b) (sym c.is_capital.ensures ∙ c.if-is_capital.true))

pub returns : goal.returns
returns c =
    let a = c.args in
    c.is_digit.ensures ∙ sym (ap (λ (t : Bool). t || digit a.b) (sym c.is_capital.ensures ∙ c.if-is_capital.false))
