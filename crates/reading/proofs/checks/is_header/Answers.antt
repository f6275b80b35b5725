-- Rests on what `byte_at` gives: each test is on its own byte.
use Rattle.reading.proofs.checks.is_header.Goals as goal

pub returns : goal.returns
returns c = rw (c.byte_at-m.ensures, c.byte_at-s.ensures, c.byte_at-h.ensures)
