-- Rests on the laws of when a header can be answered: each return is a case of `answerable`.
use Rattle.acknowledging.proofs.ReasonLaws.{is_one, no_id, long_id, sound}
use Rattle.acknowledging.proofs.reasons.reason_in.Goals as goal

pub returns-then-is_acknowledgement : goal.returns-then-is_acknowledgement
returns-then-is_acknowledgement c = is_one _ cc

pub returns-then-not-has_id : goal.returns-then-not-has_id
returns-then-not-has_id c = no_id _ (cc) (cc)

pub returns-then-not-is_short : goal.returns-then-not-is_short
returns-then-not-is_short c = long_id _ (cc) (cc) (cc)

pub returns : goal.returns
returns c = sound _ (cc) (cc) (cc)
