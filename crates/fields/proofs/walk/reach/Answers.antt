-- Rests on the laws of a cursor, which stands at each turn.
use borrow.Author.Rules.{rules}
use mathlib.Core.Path.{sym, ap, ◌∙◌}
use Prim.Native.Nat.{ℕ, ◌≤◌, ◌+◌}
use lib.ListN.{length}
use native.Mathlib.Omega.{arith}
use Rattle.alphabet.specs.Lists.{find}
use Rattle.alphabet.proofs.ListLaws.{rest_of}
use Rattle.alphabet.proofs.PartLaws.{walk_in}
use Rattle.fields.proofs.CursorLaws.{stands_on}
use Rattle.fields.proofs.walk.reach.Goals.{After-find}
use Rattle.fields.proofs.walk.reach.Goals as goal

inside : (c : After-find) → c.loop-index.place + c.find.result ≤ length c.args.segment.now
inside c =
    let a = c.args in
    walk_in a.separator a.segment.now c.loop-index.place c.find.result c.loop-index.invariant.0.inside c.find.ensures

pub returns-then-end-segment : goal.returns-then-end-segment
returns-then-end-segment c =
    let a = c.args in
    record {
      stands = c.loop-index.invariant.0;
      most = c.loop-index.invariant.1;
      last = λ h. ap (λ (n : ℕ). c.loop-index.place + n) (sym (c.find.ensures ∙ ap (find a.separator) (rest_of a.segment.now c.loop-index.place))) ∙ c.if-end-segment.true;
    }

pub loop-index-preserved : goal.loop-index-preserved
loop-index-preserved c =
    let a = c.args in
    (stands_on a.separator a.segment.now c.loop-index.index c.loop-index.place c.find.result c.loop-index.invariant.0 c.find.ensures c.if-end-segment.false, omega (arith, c.loop-index-test.true))

pub returns : goal.returns
returns c =
    record { stands = c.loop-index.invariant.0; most = c.loop-index.invariant.1; last = λ h. absurd (omega (arith, c.loop-index-test.false)) }

pub loop-index-init : goal.loop-index-init
loop-index-init c = (c.rewound-from.ensures.0, c.rewound-from.ensures.1)

pub slice_bounds-find-count : goal.slice_bounds-find-count
slice_bounds-find-count c = let i = c.loop-index.invariant.0.inside in search rules

pub slice_bounds-find-start : goal.slice_bounds-find-start
slice_bounds-find-start c = let i = c.loop-index.invariant.0.inside in search rules

pub slice_bounds-find-end : goal.slice_bounds-find-end
slice_bounds-find-end c = let i = c.loop-index.invariant.0.inside in search rules

pub overflow_add-end : goal.overflow_add-end
overflow_add-end c = let i = inside c in omega arith

pub overflow_add-place : goal.overflow_add-place
overflow_add-place c = let i = inside (goal.at.overflow_add-place c).After-find in omega arith

pub overflow_add-index : goal.overflow_add-index
overflow_add-index c = let i = c.loop-index.invariant.1 in omega (arith, c.loop-index-test.true)

pub loop-index-smaller : goal.loop-index-smaller
loop-index-smaller c = let i = inside (goal.at.loop-index-smaller c).After-find in omega arith
