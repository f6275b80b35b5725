-- Rests on the laws of a search from a place.
use mathlib.Core.Path.{sym, ap, ◌∙◌}
use Prim.Native.Nat.{ℕ, ◌≤◌, ◌+◌}
use lib.Dec.{eqb}
use lib.ListN.{length, drop, length-drop}
use borrow.Author.Tests.{eq-eqb}
use native.Mathlib.Omega.{arith}
use Rattle.alphabet.specs.Lists.{find}
use Rattle.alphabet.proofs.ListLaws.{rest_of, first_le, first_here, first_end}
use Rattle.fields.proofs.walk.end_behind.Goals.{After-find_by_words}
use Rattle.fields.proofs.walk.end_behind.Goals as goal

pub returns-then-first-segment : goal.returns-then-first-segment
returns-then-first-segment c =
    let a = c.args in
    let e = c.if-first-segment.true in
    let z = first_end (eqb a.separator) a.segment.now a.first (omega arith) in
    omega arith

pub returns-then-segment-first : goal.returns-then-segment-first
returns-then-segment-first c =
    let a = c.args in
    let p = c.requires in
    let n = c.if-first-segment.false in
    let z = first_here (eqb a.separator) a.segment.now a.first (omega (arith, n)) (eq-eqb _ _ (sym c.if-segment-first.true)) in
    omega arith

pub returns : goal.returns
returns c =
    let a = c.args in
    ap (λ (n : ℕ). a.first + n) (c.find_by_words.ensures ∙ ap (find a.separator) (rest_of a.segment.now a.first))

fits : (c : After-find_by_words) → c.args.first + c.find_by_words.result ≤ length c.args.segment.now
fits c =
    let a = c.args in
    let p = c.requires in
    let e = c.find_by_words.ensures ∙ ap (find a.separator) (rest_of a.segment.now a.first) in
    let u = first_le (eqb a.separator) (drop a.first a.segment.now) in
    let d = length-drop a.first a.segment.now in
    omega arith

pub overflow_add-result : goal.overflow_add-result
overflow_add-result c = let i = fits c in omega arith
