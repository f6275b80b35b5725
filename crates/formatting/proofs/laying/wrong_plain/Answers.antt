-- Each return is a case of `wrong_plain`.
use mathlib.Core.Bool.{Bool, cond}
use mathlib.Core.Path.{sym, ap, ◌∙◌}
use Rattle.alphabet.specs.declared.answers.Refusal.TheVariants.{NotAllowed, Separator}
use Rattle.formatting.specs.Laying.{wrong_plain}
use Rattle.formatting.proofs.laying.wrong_plain.Goals as goal

pub returns-then-is_printable : goal.returns-then-is_printable
unfolding wrong_plain
returns-then-is_printable c = ap (λ (b : Bool). cond b Separator NotAllowed) (sym (sym c.is_printable.ensures ∙ c.if-is_printable.true))

pub returns : goal.returns
unfolding wrong_plain
returns c = ap (λ (b : Bool). cond b Separator NotAllowed) (sym (sym c.is_printable.ensures ∙ c.if-is_printable.false))
