use Prim.Native.Nat.{ℕ, ◌≤◌, ◌+◌, ◌-◌}
use mathlib.Core.Path.{◌≡◌}
use mathlib.Core.List.{List}
use lib.ListN.{length, drop}
use Rattle.alphabet.specs.Bytes.{carriage_return}
use Rattle.alphabet.specs.Parts.{split}
use Rattle.reading.specs.Segments.{all_but_last, segments}
use Rattle.segments.proofs.count_in.Given as goal

abbrev pub left : List ℕ → ℕ → ℕ
left m start = length (all_but_last (split carriage_return (drop start m)))

abbrev pub invariant-loop-count : goal.invariant-loop-count
invariant-loop-count l = (l.start ≤ length l.message) × (l.count ≤ l.start) × (length (segments l.message) ≡ l.count + left l.message l.start)

abbrev pub decreases-loop-count : goal.decreases-loop-count
decreases-loop-count l = length l.message - l.start
