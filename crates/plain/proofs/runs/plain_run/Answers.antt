-- Rests on what the search ensures: where it ends at bytes that are not printable, too, is where a byte is special.
use Rattle.plain.specs.Plain.{special}
use Rattle.plain.proofs.runs.plain_run.Goals as goal

pub returns : goal.returns
unfolding special
returns c = c.first_stop.ensures
