-- Rests on the laws of a walk along a part: part `left` from `i` on is the part that was asked for, at each turn.
use Prim.Native.Nat.{◌+◌, ◌-◌}
use mathlib.Core.Path.{◌≡◌, sym, ap, ◌∙◌}
use lib.Dec.{eqb}
use lib.ListN.{get_or}
use native.Mathlib.Omega.{arith}
use borrow.Author.Tests.{eq-eqb, ne_eqb}
use Rattle.std.specs.Prelude.{Some}
use Rattle.alphabet.specs.Bytes.{carriage_return}
use Rattle.alphabet.specs.Parts.{ended_by}
use Rattle.element.specs.Levels.{part_in}
use Rattle.element.proofs.StartLaws.{walk_here, walk_over, walk_stop, walk_at, walk_past}
use Rattle.element.proofs.walking.field_start.Goals.{Then-b-separator, then-b-separator+else-left-eq1, else-b-separator}
use Rattle.element.proofs.walking.field_start.Goals as goal

pub returns-then-index-eq0 : goal.returns-then-index-eq0
returns-then-index-eq0 c =
    let a = c.args in
    let m = a.message.now in
    sym (ap (part_in a.separator m (ended_by (eqb carriage_return) m (Some a.start))) c.if-index-eq0.true ∙ walk_here a.separator m (eqb carriage_return) a.start)

pub returns-then-b-eq-CARRIAGE_RETURN : goal.returns-then-b-eq-CARRIAGE_RETURN
returns-then-b-eq-CARRIAGE_RETURN c =
    let a = c.args in
    let m = a.message.now in
    sym (c.loop-i.invariant.1
    ∙ walk_stop a.separator m (eqb carriage_return) c.loop-i.i c.loop-i.left (omega arith) c.loop-i.invariant.0 (eq-eqb carriage_return (get_or m c.loop-i.i 0) (sym c.if-b-eq-CARRIAGE_RETURN.true)))

-- a separator was passed
passed : (c : Then-b-separator) → let a = c.args in let m = a.message.now in
    part_in a.separator m (ended_by (eqb carriage_return) m (Some a.start)) a.index
    ≡ part_in a.separator m (ended_by (eqb carriage_return) m (Some (c.loop-i.i + 1))) (c.loop-i.left - 1)
passed c =
    let a = c.args in
    let m = a.message.now in
    c.loop-i.invariant.1
    ∙ walk_at a.separator m (eqb carriage_return) c.loop-i.i c.loop-i.left (omega arith) c.loop-i.invariant.0 (ne_eqb carriage_return (get_or m c.loop-i.i 0) (λ e. c.if-b-eq-CARRIAGE_RETURN.false (sym e))) c.if-b-separator.true

pub returns-then-left-eq1 : goal.returns-then-left-eq1
returns-then-left-eq1 c =
    let a = c.args in
    let m = a.message.now in
    let e : c.loop-i.left - 1 ≡ 0 = omega arith in
    sym (passed (goal.at.returns-then-left-eq1 c).Then-b-separator
    ∙ ap (part_in a.separator m (ended_by (eqb carriage_return) m (Some (c.loop-i.i + 1)))) e ∙ walk_here a.separator m (eqb carriage_return) (c.loop-i.i + 1))

pub loop-i-preserved : goal.loop-i-preserved
loop-i-preserved c =
    let a = c.args in
    let m = a.message.now in
    let ends = eqb carriage_return in
    let n = c.loop-i.invariant.0 in
    let on = part_in a.separator m (ended_by ends m (Some (c.loop-i.i + 1))) in
    let other = ne_eqb carriage_return (get_or m c.loop-i.i 0) (λ e. c.if-b-eq-CARRIAGE_RETURN.false (sym e)) in
    elim c.if-b-separator.branch [ then-b-separator+else-left-eq1 w ↦ let e = w.left-is in let f = w.if-left-eq1.false in (omega arith, c.loop-i.invariant.1 ∙ walk_at a.separator m ends c.loop-i.i c.loop-i.left (omega arith) n other w.if-b-separator.true ∙ ap on (sym e)) | else-b-separator w ↦ let e = w.left-is in (omega arith, c.loop-i.invariant.1 ∙ walk_past a.separator m ends c.loop-i.i c.loop-i.left (omega arith) n other w.if-b-separator.false ∙ ap on (sym e)) ]

pub returns : goal.returns
returns c =
    let a = c.args in
    sym (c.loop-i.invariant.1 ∙ walk_over a.separator a.message.now (eqb carriage_return) c.loop-i.i c.loop-i.left (omega arith) c.loop-i.invariant.0)

pub loop-i-init : goal.loop-i-init
loop-i-init c = c.begin_walk-walk.ensures
