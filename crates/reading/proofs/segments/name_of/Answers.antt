-- Rests on what the three bytes are.
use native.Mathlib.Omega.{arith}
use Rattle.reading.specs.Segments.{name_of}
use Rattle.reading.proofs.segments.name_of.Goals as goal

pub returns : goal.returns
unfolding name_of
returns c = omega (arith, c.byte_at-first.ensures, c.byte_at-second.ensures, c.byte_at-third.ensures)
