-- Rests on what `byte_at` and `is_header` give.
use Rattle.reading.proofs.checks.is_headed.Goals as goal

pub returns : goal.returns
returns c = rw (c.is_header.ensures, c.byte_at-separator.ensures, c.byte_at-eighth.ensures)
