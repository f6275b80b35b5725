use lib.ListN.{length, drop}
use Prim.Native.Nat.{◌≤◌, ◌-◌}
use mathlib.Core.Path.{◌≡◌}
use mathlib.Core.Bool.{true}
use Rattle.text.specs.Unescape.{plain_text, scan}
use Rattle.text.specs.Judging.{is_text, text_of}
use Rattle.alphabet.proofs.FillingLaws.{Filling}
use Rattle.text.proofs.unescaping.write_text.Given as goal

abbrev pub invariant-loop-i : goal.invariant-loop-i
invariant-loop-i l = (l.i ≤ length l.text) × (is_text (scan plain_text l.delimiters.bytes l.i 0 (drop l.i l.text)) ≡ true) × Filling (text_of (scan plain_text l.delimiters.bytes 0 0 l.text)) l.initial.buffer (text_of (scan plain_text l.delimiters.bytes l.i 0 (drop l.i l.text))) l.buffer l.place

abbrev pub decreases-loop-i : goal.decreases-loop-i
decreases-loop-i l = length l.text - l.i
