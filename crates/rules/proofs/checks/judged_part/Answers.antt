-- Rests on the laws of the part that is judged.
use mathlib.Core.Path.{◌∙◌}
use Prim.Native.Nat.{◌≤◌}
use lib.Dec.{eqb}
use lib.ListN.{length, get_or}
use lib.Seq.{length-take-le}
use native.Mathlib.Omega.{arith}
use Rattle.alphabet.proofs.ListLaws.{first_le}
use mathlib.Core.Path.{sym}
use Rattle.rules.proofs.RuleLaws.{part_whole, part_first, part_component}
use Rattle.rules.proofs.checks.judged_part.Goals.{After-find_by_words-end}
use Rattle.rules.proofs.checks.judged_part.Goals as goal

within : (c : After-find_by_words-end) → c.find_by_words-end.result ≤ length c.args.repetition.now
within c =
    let a = c.args in
    let u = first_le (eqb (get_or a.delimiters.bytes 1 0)) a.repetition.now in
    omega (arith, c.find_by_words-end.ensures)

pub returns-then-component-eq0 : goal.returns-then-component-eq0
returns-then-component-eq0 c = let a = c.args in part_whole a.delimiters.bytes a.repetition.now a.component c.if-component-eq0.true

pub returns-then-component-eq1 : goal.returns-then-component-eq1
returns-then-component-eq1 c =
    let a = c.args in
    part_first a.delimiters.bytes a.repetition.now a.component c.if-component-eq1.true c.find_by_words-end.result c.find_by_words-end.ensures

pub returns : goal.returns
returns c = let a = c.args in c.part_in.ensures ∙ part_component a.delimiters.bytes a.repetition.now a.component c.if-component-eq0.false

pub slice_bounds-result-end : goal.slice_bounds-result-end
slice_bounds-result-end c = sym (length-take-le _ _ (within c))
