use Prim.Native.Nat.{◌≤◌, ◌-◌}
use mathlib.Core.Path.{◌≡◌}
use lib.ListN.{length, drop}
use Rattle.alphabet.specs.Parts.{split, standing, part_at}
use Rattle.alphabet.proofs.parts.nth_part.Given as goal

abbrev pub invariant-loop : goal.invariant-loop
invariant-loop l =
    (l.start ≤ length l.bytes)
    × (part_at l.separator l.bytes l.index ≡ standing l.start (split l.separator (drop l.start l.bytes)) (l.index - l.counter))
