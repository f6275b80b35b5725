-- Rests on the element lying within the message, and on the laws of raw bytes, case by case.
use borrow.Author.Rules.{rules}
use Prim.Native.Nat.{◌≤◌}
use mathlib.Core.Path.{sym, ◌∙◌}
use lib.ListN.{length}
use native.Mathlib.Omega.{arith}
use Rattle.element.proofs.LevelLaws.{within_at, within_element}
use Rattle.element.proofs.FindingLaws.{raw_short, raw_absent, raw_at}
use Rattle.element.proofs.raw.Goals.{In-Some}
use Rattle.element.proofs.raw.Goals as goal

pub returns-then-message-lt4 : goal.returns-then-message-lt4
returns-then-message-lt4 c = let a = c.args in sym (raw_short a.message.now a.address c.if-message-lt4.true)

pub returns-in-None : goal.returns-in-None
returns-in-None c =
    let a = c.args in
    sym (raw_absent a.message.now a.address (omega arith) (sym c.part_of.ensures ∙ c.in-None.is))

-- the part lies within the message
inside : (c : In-Some) → (c.in-Some.part.start ≤ c.in-Some.part.end) × (c.in-Some.part.end ≤ length c.args.message.now)
inside c =
    let a = c.args in
    within_at a.message.now _ _ _ (within_element a.message.now a.address (omega arith)) (sym c.part_of.ensures ∙ c.in-Some.is)

pub returns-in-Some : goal.returns-in-Some
returns-in-Some c =
    let a = c.args in
    sym (raw_at a.message.now a.address (omega arith) c.in-Some.part.start c.in-Some.part.end (sym c.part_of.ensures ∙ c.in-Some.is))

pub slice_bounds-result-count : goal.slice_bounds-result-count
slice_bounds-result-count c = (inside (goal.at.slice_bounds-result-count c).In-Some).0

pub slice_bounds-result-start : goal.slice_bounds-result-start
slice_bounds-result-start c = let i = inside (goal.at.slice_bounds-result-start c).In-Some in let h = i.0 in search rules

pub slice_bounds-result-end-in-Some : goal.slice_bounds-result-end-in-Some
slice_bounds-result-end-in-Some c = let i = inside (goal.at.slice_bounds-result-end-in-Some c).In-Some in let h = i.1 in search rules
