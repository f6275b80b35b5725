use mathlib.Core.Path.{◌≡◌}
use Rattle.std.specs.Prelude.{Some}
use Rattle.alphabet.specs.Lists.{among}
use Rattle.alphabet.specs.Parts.{ended_by}
use Rattle.element.specs.Levels.{part_in}
use Rattle.element.proofs.levels.start_in.Given as goal

abbrev pub invariant-loop-i : goal.invariant-loop-i
invariant-loop-i l =
    part_in l.separator l.bytes (ended_by (among l.stops) l.bytes (Some 0)) l.index ≡ part_in l.separator l.bytes (ended_by (among l.stops) l.bytes (Some l.i)) l.left
