use Prim.Native.Nat.{◌≤◌, ◌-◌}
use mathlib.Core.Path.{◌≡◌}
use lib.ListN.{length, drop}
use Rattle.alphabet.specs.Parts.{split}
use Rattle.rules.specs.Rules.{some_present}
use Rattle.rules.proofs.checks.some_present.Given as goal

abbrev pub invariant-loop-delimiters : goal.invariant-loop-delimiters
invariant-loop-delimiters l =
    (l.start ≤ length l.field) × (some_present l.delimiters.bytes (split l.separator l.field) ≡ some_present l.delimiters.bytes (split l.separator (drop l.start l.field)))

abbrev pub decreases-loop-delimiters : goal.decreases-loop-delimiters
decreases-loop-delimiters l = length l.field - l.start
