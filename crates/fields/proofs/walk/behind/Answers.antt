-- Rests on the laws of a cursor, which stands behind a part that is not the last.
use borrow.Author.Rules.{rules}
use Prim.Native.Nat.{ℕ, ◌+◌}
use mathlib.Core.Path.{sym, ap, subst}
use lib.ListN.{drop}
use native.Mathlib.Omega.{arith}
use Rattle.alphabet.specs.Lists.{find}
use Rattle.alphabet.proofs.ListLaws.{rest_of}
use Rattle.fields.specs.Walk.{Stands}
use Rattle.fields.proofs.CursorLaws.{stands_on}
use Rattle.fields.proofs.walk.behind.Goals as goal

pub overflow_add-result : goal.overflow_add-result
overflow_add-result c =
    let a = c.args in
    let h = c.requires.0 in
    let i = h.inside in
    let k = h.counted in
    search rules

pub returns-then-end-segment : goal.returns-then-end-segment
returns-then-end-segment c =
    let a = c.args in
    let s = a.segment.now in
    let p = a.cursor.place in
    let n = find a.separator (drop p s) in
    let e = c.requires.1 in
    let t = c.if-end-segment.true in
    subst (λ (x : ℕ). Stands a.separator s (record { index = a.cursor.index + 1; place = x + 1 })) (sym e)
    (stands_on a.separator s a.cursor.index p n c.requires.0 (ap (find a.separator) (sym (rest_of s p))) (λ q. omega arith))

pub returns : goal.returns
returns c = c.requires.0
