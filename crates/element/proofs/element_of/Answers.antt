-- Rests on the element lying within the message, and on what the parts and the state give.
use borrow.Author.Rules.{rules}
use Prim.Native.Nat.{◌≤◌}
use mathlib.Core.Path.{sym, ap, ◌∙◌}
use lib.ListN.{length}
use native.Mathlib.Omega.{arith}
use Rattle.element.specs.Finding.{element_in, element_of}
use Rattle.element.proofs.LevelLaws.{within_at, within_element}
use Rattle.element.proofs.FindingLaws.{element_at_lem}
use Rattle.element.proofs.element_of.Goals.{In-Some}
use Rattle.element.proofs.element_of.Goals as goal

pub returns-in_default : goal.returns-in_default
unfolding element_of
returns-in_default c = sym (ap (element_in c.args.message.now) (sym c.part_of.ensures ∙ c.in_default.is))

-- the part lies within the message
inside : (c : In-Some) → (c.in-Some.part.start ≤ c.in-Some.part.end) × (c.in-Some.part.end ≤ length c.args.message.now)
inside c =
    let a = c.args in
    let l = c.requires.0 in
    within_at a.message.now _ _ _ (within_element a.message.now a.address (omega arith)) (sym c.part_of.ensures ∙ c.in-Some.is)

pub returns : goal.returns
returns c =
    let a = c.args in
    element_at_lem a.message.now a.address c.state_of-state.result _ c.in-Some.part.start c.in-Some.part.end (sym c.part_of.ensures ∙ c.in-Some.is) c.delimiters_of-delimiters.ensures c.state_of-state.ensures

pub slice_bounds-state_of-count : goal.slice_bounds-state_of-count
slice_bounds-state_of-count c = (inside (goal.at.slice_bounds-state_of-count c).In-Some).0

pub slice_bounds-state_of-start : goal.slice_bounds-state_of-start
slice_bounds-state_of-start c = let i = inside (goal.at.slice_bounds-state_of-start c).In-Some in let h = i.0 in search rules

pub slice_bounds-state_of-end : goal.slice_bounds-state_of-end
slice_bounds-state_of-end c = let i = inside (goal.at.slice_bounds-state_of-end c).In-Some in let h = i.1 in search rules
