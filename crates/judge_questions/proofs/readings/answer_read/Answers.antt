-- `judge_questions::readings::answer_read` meets its contract: what is put is put, and else `?`.
use Rattle.judge_questions.proofs.ReadLaws.{answered, answered_which}
use Rattle.judge_questions.proofs.readings.answer_read.Goals as goal

pub returns-clause-read : goal.returns-clause-read
returns-clause-read c = answered _ _ _ _ c.put_asked-put.ensures.asked c.put_asked-put.ensures.numbers c.put_unless.ensures.put c.put_unless.ensures.not_put

pub returns-clause-which : goal.returns-clause-which
returns-clause-which c = answered_which _ _ _ _ c.put_asked-put.ensures.asked c.put_asked-put.ensures.which c.put_unless.ensures.put
