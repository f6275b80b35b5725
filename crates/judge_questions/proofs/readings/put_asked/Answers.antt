-- `judge_questions::readings::put_asked` meets its contract: the laws of its question, with what `word` and `lend_decoded` say of the second word.
use mathlib.Core.Path.{◌≡◌, sym, ap, ◌∙◌}
use lib.ListN.{length}
use Rattle.std.specs.Prelude.{is_some}
use Rattle.std.specs.Result.{result_err}
use Rattle.asking.specs.Words.{words}
use Rattle.asking.specs.Hex.{said, fitting}
use Rattle.reading.specs.Reading.{reading}
use Rattle.judge_questions.specs.Readings.{read_asked}
use Rattle.judge_questions.proofs.ReadLaws.{asked_two, asked_other, two_numbers, read_numbers}
use Rattle.judge_questions.proofs.readings.put_asked.Goals.{After-lend_decoded}
use Rattle.judge_questions.proofs.readings.put_asked.Goals as goal

-- what the second word says is what the line asks
asked : (k : After-lend_decoded)
    → let a = k.args in
    fitting (length a.said.now) (read_asked (words a.line.now)) ≡ fitting (length a.said.now) (said k.word.result.now)
asked k =
    let a = k.args in
    let two = sym k.count.ensures ∙ k.if-count-ne2.false in
    ap (fitting (length a.said.now)) (asked_two (words a.line.now) two ∙ ap said (sym k.word.ensures))

pub returns-then-count-ne2-clause-asked : goal.returns-then-count-ne2-clause-asked
unfolding fitting
returns-then-count-ne2-clause-asked c = rw (asked_other (words c.args.line.now) (λ e. c.if-count-ne2.true (c.count.ensures ∙ e)))

pub returns-in_err-message-clause-asked : goal.returns-in_err-message-clause-asked
returns-in_err-message-clause-asked c =
    ap is_some c.from_residual.ensures ∙ sym (ap is_some (asked (goal.at.returns-in_err-message-clause-asked c).After-lend_decoded ∙ c.in_err-message.ensures.none))

pub returns-clause-asked : goal.returns-clause-asked
returns-clause-asked c = sym (ap is_some (asked (goal.at.returns-clause-asked c).After-lend_decoded ∙ c.in_ok-message.ensures.some))

pub returns-clause-numbers : goal.returns-clause-numbers
returns-clause-numbers c = two_numbers c.requires c.put_fault.ensures.after

pub returns-clause-which : goal.returns-clause-which
returns-clause-which c =
    let k = (goal.at.returns-clause-which c).After-lend_decoded in
    rw (asked k ∙ c.in_ok-message.ensures.some) (read_numbers _ _ c.requires (c.err.ensures.value ∙ ap result_err (c.read-read.ensures ∙ ap reading c.held.ensures)) c.put_fault.ensures.after)
