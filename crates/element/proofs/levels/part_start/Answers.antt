-- Rests on the splitter's answer in the rest of the message, moved by where the rest begins.
use mathlib.Core.Path.{sym, ap, ◌∙◌}
use lib.ListN.{length, length-drop}
use native.Mathlib.Omega.{arith}
use Rattle.alphabet.specs.Lists.{among}
use Rattle.alphabet.specs.Parts.{ended_by}
use Rattle.element.specs.Levels.{moved}
use Rattle.element.specs.Ends.{or_at}
use Rattle.element.proofs.StartLaws.{ended_moved, part_moved, start_within}
use Rattle.element.proofs.levels.part_start.Goals as goal

pub returns-in_err-further : goal.returns-in_err-further
returns-in_err-further c =
    let a = c.args in
    let ends = or_at a.separator (among a.stops) in
    ap (ended_by ends a.message.now) c.from_residual.ensures
    ∙ ap (moved a.start) (sym (ap (ended_by ends _) c.in_err-further.was) ∙ c.start_in.ensures)
    ∙ part_moved a.message.now a.start _ c.rest_from.ensures (among a.stops) a.separator a.index

pub overflow_add-result : goal.overflow_add-result
overflow_add-result c =
    let a = c.args in
    let e = c.rest_from.ensures in
    let u = start_within a.separator _ (among a.stops) a.index _ _ (sym (ap (ended_by (or_at a.separator (among a.stops)) _) c.in_ok-further.was) ∙ c.start_in.ensures) in
    let n = length-drop a.start a.message.now in
    let l = ap length e in
    omega arith

pub returns : goal.returns
returns c =
    let a = c.args in
    let ends = or_at a.separator (among a.stops) in
    ended_moved a.message.now a.start _ c.rest_from.ensures ends c.in_ok-further.further
    ∙ ap (moved a.start) (sym (ap (ended_by ends _) c.in_ok-further.was) ∙ c.start_in.ensures)
    ∙ part_moved a.message.now a.start _ c.rest_from.ensures (among a.stops) a.separator a.index
