-- Rests on `first_block`: bytes without b are passed over whole.
use Prim.Native.Nat.{◌≤◌, ◌+◌, ◌-◌}
use mathlib.Core.Path.{◌≡◌, sym, ◌∙◌}
use lib.Dec.{eqb}
use lib.ListN.{length, take, drop, length-drop}
use lib.Seq.{length-take-le}
use native.Mathlib.Omega.{arith}
use borrow.Author.Tests.{leb-true}
use Rattle.alphabet.specs.Lists.{find}
use Rattle.alphabet.proofs.ListLaws.{first_le, first_block}
use Rattle.search.proofs.one.past.Goals as goal

pub overflow_sub-bytes : goal.overflow_sub-bytes
overflow_sub-bytes c =
    let a = c.args in
    let k = first_le (eqb a.b) a.bytes.now in
    omega (arith, c.requires)

pub slice_bounds-is_without-end : goal.slice_bounds-is_without-end
slice_bounds-is_without-end c =
    let a = c.args in
    let k = first_le (eqb a.b) a.bytes.now in
    omega (arith, c.requires)

pub returns : goal.returns
returns c =
    let a = c.args in
    let i = a.i in
    let s = a.bytes.now in
    let n = i + a.n - i in
    let e : n ≡ a.n = omega arith in
    let p : i ≤ find a.b s = c.requires in
    let d = length-drop i s in
    let f = first_le (eqb a.b) s in
    let k = length-take-le n (drop i s) (omega arith) in
    let w = leb-true (length (take n (drop i s))) (find a.b (take n (drop i s))) (sym c.is_without.ensures ∙ c.if-not-is_without.false) in
    let g = first_block (eqb a.b) s i n (omega arith) p (omega arith) in
    omega arith
