-- Rests on what is judged of a DT.
use borrow.Author.Rules.{rules}
use mathlib.Core.Path.{sym}
use Rattle.times.proofs.JudgeLaws.{dt_judged}
use Rattle.times.proofs.judging.is_dt.Goals as goal

pub returns-then-is_digits : goal.returns-then-is_digits
returns-then-is_digits c = rw (sym (dt_judged c.args.bytes.now)) (search rules)

pub returns-else-is_digits : goal.returns-else-is_digits
returns-else-is_digits c = rw (sym (dt_judged c.args.bytes.now)) (search rules)
