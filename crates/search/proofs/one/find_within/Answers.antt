-- Rests on the laws of `first`: no b stands before the place passed, and it is looked for from there.
use native.Mathlib.Omega.{arith}
use lib.Dec.{eqb}
use Rattle.alphabet.proofs.ListLaws.{first_le}
use Rattle.alphabet.proofs.BlockLaws.{first_onward}
use Rattle.search.proofs.one.find_within.Goals as goal

pub slice_bounds-find-count : goal.slice_bounds-find-count
slice_bounds-find-count c =
    let m = first_le (eqb c.args.b) c.args.bytes.now in
    let h = c.past-start.ensures in
    omega arith

pub slice_bounds-find-start : goal.slice_bounds-find-start
slice_bounds-find-start c =
    let m = first_le (eqb c.args.b) c.args.bytes.now in
    let h = c.past-start.ensures in
    omega arith

pub returns-clause-found : goal.returns-clause-found
returns-clause-found c = first_onward (eqb c.args.b) c.args.bytes.now c.past-start.result c.find.result c.past-start.ensures c.find.ensures

pub returns-clause-within : goal.returns-clause-within
returns-clause-within c =
    let m = first_le (eqb c.args.b) c.args.bytes.now in
    let e = first_onward (eqb c.args.b) c.args.bytes.now c.past-start.result c.find.result c.past-start.ensures c.find.ensures in
    omega arith

pub overflow_add-result : goal.overflow_add-result
overflow_add-result c =
    let m = first_le (eqb c.args.b) c.args.bytes.now in
    let e = first_onward (eqb c.args.b) c.args.bytes.now c.past-start.result c.find.result c.past-start.ensures c.find.ensures in
    omega arith
