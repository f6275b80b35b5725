use Prim.Native.Nat.{◌≤◌, ◌-◌, ◌+◌}
use mathlib.Core.Path.{◌≡◌}
use lib.ListN.{length}
use Rattle.fields.specs.Walk.{left_of, row_in}
use Rattle.fields.proofs.walk.judge_row.Given as goal

abbrev pub invariant-loop-turn : goal.invariant-loop-turn
invariant-loop-turn l =
    (l.turn.start ≤ l.turn.end + 1) × (l.turn.end ≤ length l.segment) × (l.turn.repetition ≤ l.turn.start + 1)
    × (row_in l.delimiters.bytes l.segment l.number l.fn.row ≡ left_of l.delimiters.bytes l.segment l.turn)

abbrev pub decreases-loop-turn : goal.decreases-loop-turn
decreases-loop-turn l = l.turn.end + 1 - l.turn.start
