-- Rests on the laws of `first`: no byte before the place that is reached stands otherwise than as it is.
use Rattle.std.proofs.Common.{◌∙◌, sym, ap, not, arith}
use Rattle.alphabet.proofs.ListLaws.{first_reached, first_next, first_le}
use Rattle.terminal.proofs.spelling.plain_run.Goals as goal

pub returns-then-not-is_plain-clause-run : goal.returns-then-not-is_plain-clause-run
returns-then-not-is_plain-clause-run g c =
    sym (first_reached (λ b. not (g.S.Spelling.plain b)) c.args.bytes.now c.loop-i.i (omega arith) c.loop-i.invariant (ap not (sym c.is_plain.ensures) ∙ c.if-not-is_plain.true-raw))

pub loop-i-preserved : goal.loop-i-preserved
loop-i-preserved g c =
    first_next (λ b. not (g.S.Spelling.plain b)) c.args.bytes.now c.loop-i.i (omega arith) c.loop-i.invariant (ap not (sym c.is_plain.ensures) ∙ c.if-not-is_plain.false-raw)

pub returns-clause-run : goal.returns-clause-run
returns-clause-run g c = let u = first_le (λ b. not (g.S.Spelling.plain b)) c.args.bytes.now in let h = c.loop-i.invariant in omega arith
