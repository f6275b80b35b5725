-- Rests on the laws of the part that is wanted, and of repetition 1 of it.
use borrow.Author.Rules.{rules}
use mathlib.Core.Path.{◌≡◌, ap, ◌∙◌}
use mathlib.Core.List.{List}
use Prim.Native.Nat.{ℕ, ◌≤◌, ◌+◌}
use lib.ListN.{length, get_or, drop, length-drop}
use native.Mathlib.Omega.{arith}
use Rattle.alphabet.specs.Lists.{first, either}
use Rattle.alphabet.proofs.ListLaws.{rest_of, first_le}
use Rattle.fields.proofs.CursorLaws.{finds_none, part_ends, finds_here}
use Rattle.fields.proofs.walk.seek.Goals.{After-find_two}
use Rattle.fields.proofs.walk.seek.Goals as goal

pub returns-then-at-wanted : goal.returns-then-at-wanted
returns-then-at-wanted c =
    let a = c.args in
    finds_none a.delimiters.bytes a.segment.now c.reach-at.result a.wanted c.reach-at.ensures c.if-at-wanted.true

abbrev ds : (c : After-find_two) → List ℕ
ds c = c.args.delimiters.bytes

abbrev s : (c : After-find_two) → List ℕ
s c = c.args.segment.now

-- where repetition 1 ends
found : (c : After-find_two) → c.find_two.result ≡ first (either (get_or (ds c) 0 0) (get_or (ds c) 2 0)) (drop c.reach-at.result.place (s c))
found c = c.find_two.ensures ∙ ap (first (either (get_or (ds c) 0 0) (get_or (ds c) 2 0))) (rest_of (s c) c.reach-at.result.place)

within : (c : After-find_two) → c.reach-at.result.place + c.find_two.result ≤ length (s c)
within c =
    let i = c.reach-at.ensures.stands.inside in
    let u = first_le (either (get_or (ds c) 0 0) (get_or (ds c) 2 0)) (drop c.reach-at.result.place (s c)) in
    let d = length-drop c.reach-at.result.place (s c) in
    omega (arith, (found c))

here : (c : After-find_two) → c.args.wanted ≤ c.reach-at.result.index
here c = omega (arith, c.if-at-wanted.false)

pub behind-requires : goal.behind-requires
behind-requires c =
    (c.reach-at.ensures.stands, part_ends (ds (goal.at.behind-requires c).After-find_two) (s (goal.at.behind-requires c).After-find_two) c.reach-at.result c.args.wanted c.reach-at.ensures (here (goal.at.behind-requires c).After-find_two) c.find_two.result c.end_behind-end.result (found (goal.at.behind-requires c).After-find_two) c.end_behind-end.ensures)

pub returns : goal.returns
returns c =
    finds_here (ds (goal.at.returns c).After-find_two) (s (goal.at.returns c).After-find_two) c.reach-at.result c.args.wanted c.reach-at.ensures (here (goal.at.returns c).After-find_two) c.find_two.result c.end_behind-end.result (found (goal.at.returns c).After-find_two) c.end_behind-end.ensures c.behind.result c.behind.ensures

pub slice_bounds-find_two-count : goal.slice_bounds-find_two-count
slice_bounds-find_two-count c = let i = c.reach-at.ensures.stands.inside in search rules

pub slice_bounds-find_two-start : goal.slice_bounds-find_two-start
slice_bounds-find_two-start c = let i = c.reach-at.ensures.stands.inside in search rules

pub slice_bounds-find_two-end : goal.slice_bounds-find_two-end
slice_bounds-find_two-end c = let i = c.reach-at.ensures.stands.inside in search rules

pub overflow_add-first : goal.overflow_add-first
overflow_add-first c = let i = within c in omega arith

pub end_behind-end-requires : goal.end_behind-end-requires
end_behind-end-requires c = within c
