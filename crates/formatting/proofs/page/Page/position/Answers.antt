-- Rests on the contracts of what is called.
use native.Mathlib.Omega.{arith}
use Prim.Native.Nat.{◌+◌}
use lib.Dec.{eqb}
use Rattle.formatting.specs.Pages.{position_of}
use Rattle.formatting.proofs.PageLaws.{pick_most, indent_most}
use Rattle.formatting.proofs.page.Page.position.Goals as goal

pub overflow_add-indent : goal.overflow_add-indent
overflow_add-indent c =
    let e = c.indent-indent.ensures in
    let a = indent_most c.args.self in
    let l = c.requires.line in
    omega arith

pub overflow_add-edge : goal.overflow_add-edge
overflow_add-edge c =
    let k = c.args.self in
    let p = c.requires in
    let i = indent_most k in
    let e = c.pick-edge.ensures in
    let f = c.indent-indent.ensures in
    let l = p.line in
    let o = p.owed in
    let a = pick_most (eqb k.line 0) k.left (c.indent-indent.result + k.line) 300 (let z = p.left in omega arith) (omega arith) in
    omega arith

pub returns : goal.returns
unfolding position_of
returns c = cc
