-- Rests on the laws of the type that is said.
use mathlib.Core.Path.{sym, ◌∙◌}
use Rattle.rules.proofs.RuleLaws.{said_nm, said_dt, said_tm, said_ts, said_other}
use Rattle.rules.proofs.checks.kind_said.Goals as goal

pub returns-then-same : goal.returns-then-same
returns-then-same c = sym (said_nm _ (sym c.same.ensures ∙ c.if-same.true))

pub returns-then-same-2 : goal.returns-then-same-2
returns-then-same-2 c = sym (said_dt _ (sym c.same.ensures ∙ c.if-same.false) (sym c.same-2.ensures ∙ c.if-same-2.true))

pub returns-then-same-3 : goal.returns-then-same-3
returns-then-same-3 c = sym (said_tm _ (sym c.same.ensures ∙ c.if-same.false) (sym c.same-2.ensures ∙ c.if-same-2.false) (sym c.same-3.ensures ∙ c.if-same-3.true))

pub returns-then-same-4 : goal.returns-then-same-4
returns-then-same-4 c = sym (said_ts _ (sym c.same.ensures ∙ c.if-same.false) (sym c.same-2.ensures ∙ c.if-same-2.false) (sym c.same-3.ensures ∙ c.if-same-3.false) (sym c.same-4.ensures ∙ c.if-same-4.true))

pub returns : goal.returns
returns c = sym (said_other _ (sym c.same.ensures ∙ c.if-same.false) (sym c.same-2.ensures ∙ c.if-same-2.false) (sym c.same-3.ensures ∙ c.if-same-3.false) (sym c.same-4.ensures ∙ c.if-same-4.false))
