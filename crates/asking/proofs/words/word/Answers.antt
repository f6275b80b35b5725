-- Rests on where the part at a space stands, and on its bytes.
use borrow.Author.Rules.{rules}
use Prim.Native.Nat.{◌-◌, ◌≤◌}
use mathlib.Core.Path.{◌≡◌, sym, ◌∙◌}
use mathlib.Core.List.{[]}
use lib.ListN.{length, get_or, take, drop, get_or-eq_default}
use Rattle.alphabet.specs.Parts.{part_at}
use Rattle.alphabet.proofs.PartLaws.{part_bytes_lem, absent_past}
use Rattle.asking.specs.Words.{words}
use Rattle.asking.proofs.words.word.Goals.{In-Some}
use Rattle.asking.proofs.words.word.Goals as goal

pub returns-in-None : goal.returns-in-None
unfolding part_at
returns-in-None c =
    let a = c.args in
    sym (get_or-eq_default (words a.line.now) [] (absent_past 0 (words a.line.now) a.place (sym c.nth_part.ensures ∙ c.in-None.is)))

-- the word lies within the line, and its bytes are the part's
stands : (c : In-Some)
    → (c.in-Some.field-0.start ≤ c.in-Some.field-0.end) × (c.in-Some.field-0.end ≤ length c.args.line.now)
    × (take (c.in-Some.field-0.end - c.in-Some.field-0.start) (drop c.in-Some.field-0.start c.args.line.now) ≡ get_or (words c.args.line.now) c.args.place [])
stands c =
    let b = part_bytes_lem 32 c.args.line.now c.args.place _ _ (sym c.nth_part.ensures ∙ c.in-Some.is) in
    (b.1, b.2, b.3)

pub slice_bounds-result-count : goal.slice_bounds-result-count
slice_bounds-result-count c = (stands c).0

pub slice_bounds-result-start : goal.slice_bounds-result-start
slice_bounds-result-start c = let b = stands c in let h = b.0 in search rules

pub slice_bounds-result-end : goal.slice_bounds-result-end
slice_bounds-result-end c = let b = stands c in let h = b.1 in search rules

pub returns-in-Some : goal.returns-in-Some
returns-in-Some c = (stands (goal.at.returns-in-Some c).In-Some).2
