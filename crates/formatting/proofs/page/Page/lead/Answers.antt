-- Rests on the contracts of what is called.
use native.Mathlib.Omega.{arith}
use mathlib.Core.Bool.{not, ◌&&◌}
use lib.Dec.{eqb}
use Rattle.formatting.specs.Pages.{lead_of}
use Rattle.formatting.proofs.PageLaws.{pick_most}
use Rattle.formatting.proofs.page.Page.lead.Goals as goal

pub overflow_add-result : goal.overflow_add-result
overflow_add-result c =
    let k = c.args.self in
    let p = c.requires in
    let e = c.pick-indent.ensures in
    let a = pick_most (eqb k.line 0 && not k.centre) k.left 0 201 p.left (omega arith) in
    omega arith

pub returns : goal.returns
unfolding lead_of
returns c = cc
