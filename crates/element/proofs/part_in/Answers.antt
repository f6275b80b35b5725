-- Rests on the part lying within the bytes, and on its bytes being those of the split.
use borrow.Author.Rules.{rules}
use Prim.Native.Nat.{◌≤◌, ◌-◌}
use mathlib.Core.Path.{◌≡◌, sym, ◌∙◌}
use mathlib.Core.List.{[]}
use lib.ListN.{length, get_or, take, drop}
use Rattle.alphabet.specs.Parts.{split}
use Rattle.alphabet.proofs.PartLaws.{part_bytes_lem, none_past, past_none}
use Rattle.element.proofs.part_in.Goals.{In-Some}
use Rattle.element.proofs.part_in.Goals as goal

pub returns-in-None : goal.returns-in-None
returns-in-None c =
    let a = c.args in
    sym (past_none (split a.separator a.bytes.now) a.index (none_past a.separator a.bytes.now a.index (sym c.nth_part.ensures ∙ c.in-None.is)))

-- the part lies within the bytes, and is that of the split
inside : (c : In-Some) → let p = c.in-Some.part in let a = c.args in
    (p.start ≤ p.end) × (p.end ≤ length a.bytes.now) × (take (p.end - p.start) (drop p.start a.bytes.now) ≡ get_or (split a.separator a.bytes.now) a.index [])
inside c =
    let a = c.args in
    let i = part_bytes_lem a.separator a.bytes.now a.index _ _ (sym c.nth_part.ensures ∙ c.in-Some.is) in
    (i.1, i.2, i.3)

pub returns-in-Some : goal.returns-in-Some
returns-in-Some c = (inside (goal.at.returns-in-Some c).In-Some).2

pub slice_bounds-result-count : goal.slice_bounds-result-count
slice_bounds-result-count c = (inside (goal.at.slice_bounds-result-count c).In-Some).0

pub slice_bounds-result-start : goal.slice_bounds-result-start
slice_bounds-result-start c = let i = inside (goal.at.slice_bounds-result-start c).In-Some in let h = i.0 in search rules

pub slice_bounds-result-end : goal.slice_bounds-result-end
slice_bounds-result-end c = let i = inside (goal.at.slice_bounds-result-end c).In-Some in let h = i.1 in search rules
