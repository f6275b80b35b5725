use Prim.Native.Nat.{◌≤◌, ◌-◌}
use mathlib.Core.Path.{◌≡◌}
use lib.ListN.{length, drop}
use Rattle.alphabet.specs.Bytes.{carriage_return}
use Rattle.alphabet.specs.Parts.{split, standing, part_at}
use Rattle.reading.proofs.segments.line_start.Given as goal

abbrev pub invariant-loop : goal.invariant-loop
invariant-loop l =
    (l.begin ≤ length l.message)
    × (part_at carriage_return l.message l.index ≡ standing l.begin (split carriage_return (drop l.begin l.message)) (l.index - l.counter))
