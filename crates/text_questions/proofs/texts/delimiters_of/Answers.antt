-- `text_questions::texts::delimiters_of` meets its contract: so many bytes of five as are counted, which are five or not.
use lib.Seq.{length-take-le}
use native.Mathlib.Omega.{arith}
use Rattle.text_questions.proofs.texts.delimiters_of.Goals as goal

pub returns-then-count-ne5-clause-none : goal.returns-then-count-ne5-clause-none
returns-then-count-ne5-clause-none c =
    let n = length-take-le c.in_ok-count.count c.decode.new.buffer (omega (arith, c.in_ok-count.ensures.within)) in
    rw c.in_ok-count.ensures.some (λ e. omega (arith, n, e, c.if-count-ne5.true))
