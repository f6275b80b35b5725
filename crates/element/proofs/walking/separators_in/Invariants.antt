use Prim.Native.Nat.{◌≤◌, ◌+◌}
use mathlib.Core.Path.{◌≡◌}
use lib.ListN.{length, drop}
use Rattle.alphabet.specs.Parts.{split}
use Rattle.element.proofs.walking.separators_in.Given as goal

abbrev pub invariant-loop-b : goal.invariant-loop-b
invariant-loop-b l =
    (length l.block ≤ 32) × (l.count ≤ l.b-index) × (length (split l.separator l.block) ≡ l.count + length (split l.separator (drop l.b-index l.block)))
