-- Rests on the laws of a walk along a part: part `left` from `i` on is the part that was asked for, at each turn.
use Prim.Native.Nat.{◌+◌}
use mathlib.Core.Path.{◌≡◌, sym, ap, ◌∙◌}
use lib.ListN.{length}
use native.Mathlib.Omega.{arith}
use Rattle.std.specs.Prelude.{Some}
use Rattle.alphabet.specs.Lists.{among}
use Rattle.alphabet.specs.Parts.{ended_by}
use Rattle.element.specs.Levels.{part_in}
use Rattle.element.proofs.StartLaws.{walk_here, walk_over, walk_stop, walk_at, walk_past}
use Rattle.element.proofs.levels.start_in.Goals.{else-b-separator, then-b-separator}
use Rattle.element.proofs.levels.start_in.Goals as goal

pub returns-then-left-eq0 : goal.returns-then-left-eq0
returns-then-left-eq0 c =
    let a = c.args in
    let m = a.bytes.now in
    sym (c.loop-i.invariant ∙ ap (part_in a.separator m (ended_by (among a.stops) m (Some c.loop-i.i))) c.if-left-eq0.true ∙ walk_here a.separator m (among a.stops) c.loop-i.i)

pub returns-then-is_among : goal.returns-then-is_among
returns-then-is_among c =
    let a = c.args in
    sym (c.loop-i.invariant ∙ walk_stop a.separator a.bytes.now (among a.stops) c.loop-i.i c.loop-i.left (omega arith) (omega arith) (sym c.is_among.ensures ∙ c.if-is_among.true))

pub loop-i-preserved : goal.loop-i-preserved
loop-i-preserved c =
    let a = c.args in
    let m = a.bytes.now in
    let ends = among a.stops in
    let other = sym c.is_among.ensures ∙ c.if-is_among.false in
    c.loop-i.invariant
    ∙ elim c.if-b-separator.branch [ then-b-separator w ↦ walk_at a.separator m ends c.loop-i.i c.loop-i.left (omega arith) (omega arith) other w.if-b-separator.true ∙ ap (part_in a.separator m (ended_by ends m (Some (c.loop-i.i + 1)))) (sym w.left-is) | else-b-separator w ↦ walk_past a.separator m ends c.loop-i.i c.loop-i.left (omega arith) (omega arith) other w.if-b-separator.false ∙ ap (part_in a.separator m (ended_by ends m (Some (c.loop-i.i + 1)))) (sym w.left-is) ]

pub returns-then-left-eq0-2 : goal.returns-then-left-eq0-2
returns-then-left-eq0-2 c =
    let a = c.args in
    let m = a.bytes.now in
    let part = ended_by (among a.stops) m in
    let e : c.loop-i.i ≡ length m = omega arith in
    sym (c.loop-i.invariant ∙ ap (λ i. part_in a.separator m (part (Some i)) c.loop-i.left) e ∙ ap (part_in a.separator m (part (Some (length m)))) c.if-left-eq0-2.true ∙ walk_here a.separator m (among a.stops) (length m))

pub returns-else-left-eq0-2 : goal.returns-else-left-eq0-2
returns-else-left-eq0-2 c =
    let a = c.args in
    sym (c.loop-i.invariant ∙ walk_over a.separator a.bytes.now (among a.stops) c.loop-i.i c.loop-i.left (omega arith) (omega arith))
