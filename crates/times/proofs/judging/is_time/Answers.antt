-- Rests on what is judged part by part.
use borrow.Author.Rules.{rules}
use mathlib.Core.Path.{sym}
use Rattle.times.proofs.JudgeLaws.{judged}
use Rattle.times.proofs.judging.is_time.Goals as goal

pub returns-then-is_fraction : goal.returns-then-is_fraction
returns-then-is_fraction c = rw (sym (judged c.args.form c.args.bytes.now)) (search rules)

pub returns-else-is_fraction : goal.returns-else-is_fraction
returns-else-is_fraction c = rw (sym (judged c.args.form c.args.bytes.now)) (search rules)
