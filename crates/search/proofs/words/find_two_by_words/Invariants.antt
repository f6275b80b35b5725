use Prim.Native.Nat.{◌+◌, ◌-◌, ◌≤◌}
use mathlib.Core.Path.{◌≡◌}
use lib.ListN.{length}
use Rattle.alphabet.specs.Lists.{first, either}
use Rattle.search.proofs.words.find_two_by_words.Given as goal

abbrev pub invariant-loop-word : goal.invariant-loop-word
invariant-loop-word l =
    (length l.rest ≤ length l.bytes) × (first (either l.one l.other) l.bytes ≡ length l.bytes - length l.rest + first (either l.one l.other) l.rest)

abbrev pub decreases-loop-word : goal.decreases-loop-word
decreases-loop-word l = length l.rest
