use Prim.Native.Nat.{ℕ, ◌+◌, ◌-◌, ◌≤◌}
use mathlib.Core.Path.{◌≡◌}
use mathlib.Core.List.{List}
use lib.ListN.{length, drop}
use Rattle.std.specs.Prelude.{Ok}
use Rattle.alphabet.specs.Answers.{in_order}
use Rattle.alphabet.specs.Bytes.{carriage_return}
use Rattle.alphabet.specs.Lists.{find}
use Rattle.reading.specs.Reading.{segments_check}
use Rattle.structure.specs.SegmentNames.{segment_names}
use Rattle.structure.specs.Engine.{into, Walked, walked, resumed}
use Rattle.structure.proofs.SegmentWalk.{names_from}
use Rattle.structure.proofs.OneWalk.{checks_left}
use Rattle.field_table.specs.Table.{rows}
use Rattle.fields.specs.Judging.{or_fault, judging}
use Rattle.fields.proofs.JudgeLaws.{segments_left}
use Rattle.verdict.proofs.walk.judge_segments.Given as goal

-- what the structure's walk comes to
abbrev pub whole : List ℕ → List ℕ → List ℕ → ℕ → Walked
whole message names follow last = walked names follow last (into 1) 0 (segment_names message)

abbrev pub invariant-loop-end : goal.invariant-loop-end
invariant-loop-end l =
    (l.start ≤ length l.message) × (l.number ≤ l.start) × (l.end ≡ l.start + find carriage_return (drop l.start l.message))
    × (segments_check l.message ≡ in_order (checks_left l.message l.separator l.number l.start))
    × (whole l.message l.rows.names.now l.rows.follow.now l.rows.last ≡ resumed l.rows.names.now l.rows.follow.now l.rows.last l.course l.number (names_from l.message l.start))
    × (whole l.message l.rows.names.now l.rows.follow.now l.rows.last ≡ Ok tt → judging rows l.message ≡ or_fault l.found (segments_left rows l.message l.number l.start))

abbrev pub decreases-loop-end : goal.decreases-loop-end
decreases-loop-end l = length l.message - l.start
