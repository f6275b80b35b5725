use Prim.Native.Nat.{◌≤◌, ◌-◌}
use lib.ListN.{length}
use Rattle.text.specs.Unescape.{plain_text}
use Rattle.text.proofs.StepLaws.{Scanning}
use Rattle.text.proofs.unescaping.judge.Given as goal

abbrev pub invariant-loop-i : goal.invariant-loop-i
invariant-loop-i l = (l.i ≤ length l.text) × (l.length ≤ l.i) × Scanning plain_text l.delimiters.bytes l.text l.i l.length

abbrev pub decreases-loop-i : goal.decreases-loop-i
decreases-loop-i l = length l.text - l.i
