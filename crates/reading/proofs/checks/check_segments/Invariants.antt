use Prim.Native.Nat.{ℕ, ◌≤◌, ◌-◌}
use mathlib.Core.Path.{◌≡◌}
use mathlib.Core.List.{List}
use lib.ListN.{length, drop}
use Rattle.alphabet.specs.Answers.{in_order, Check}
use Rattle.alphabet.specs.Bytes.{carriage_return}
use Rattle.alphabet.specs.Parts.{split}
use Rattle.reading.specs.Segments.{all_but_last}
use Rattle.reading.specs.Reading.{segment_checks, segments_check}
use Rattle.reading.proofs.checks.check_segments.Given as goal

abbrev pub left : List ℕ → ℕ → ℕ → ℕ → List Check
left m separator number start = segment_checks separator number start (all_but_last (split carriage_return (drop start m)))

abbrev pub invariant-loop-start : goal.invariant-loop-start
invariant-loop-start l =
    (l.start ≤ length l.message) × (l.number ≤ l.start) × (segments_check l.message ≡ in_order (left l.message l.separator l.number l.start))

abbrev pub decreases-loop-start : goal.decreases-loop-start
decreases-loop-start l = length l.message - l.start
