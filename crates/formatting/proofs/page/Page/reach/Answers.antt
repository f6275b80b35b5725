-- Rests on the contracts of what is called.
use native.Mathlib.Omega.{arith}
use Rattle.formatting.specs.Pages.{reach_of}
use Rattle.formatting.proofs.PageLaws.{lead_most}
use borrow.Author.Rules.{rules}
use Rattle.formatting.proofs.page.Page.reach.Goals as goal

pub overflow_add-result : goal.overflow_add-result
overflow_add-result c =
    let k = c.args.self in
    let e = c.lead-lead.ensures in
    let a = lead_most k (search rules) in
    omega arith

pub overflow_add-result-2 : goal.overflow_add-result-2
overflow_add-result-2 c =
    let k = c.args.self in
    let e = c.lead-lead.ensures in
    let a = lead_most k (search rules) in
    omega arith

pub returns : goal.returns
unfolding reach_of
returns c = cc
