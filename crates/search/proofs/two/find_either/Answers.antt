-- Rests on what is far having neither byte, and on the search that goes on behind what is passed over.
use Prim.Native.Nat.{◌+◌, ◌≤◌}
use mathlib.Core.Path.{refl, ap}
use mathlib.Core.Bool.{true}
use native.Mathlib.Omega.{arith}
use borrow.Author.Rules.{rules}
use Rattle.alphabet.specs.Lists.{first, either}
use Rattle.alphabet.proofs.ListLaws.{first_le, rest_of}
use Rattle.alphabet.proofs.BlockLaws.{first_from, first_onward}
use Rattle.search.specs.Two.{near, Without}
use Rattle.search.proofs.NearLaws.{near_sooner}
use Rattle.search.proofs.two.find_either.Goals.{After-clear_blocks-far}
use Rattle.search.proofs.two.find_either.Goals as goal

-- nothing that is near stands before the place passed
far : (c : After-clear_blocks-far)
    → let a = c.args in
    c.clear_blocks-far.result ≤ first (near a.mask c.bound_of-bound.result) a.bytes.now
far c =
    let n = near c.args.mask c.bound_of-bound.result in
    c.clear_blocks-far.ensures.before n (λ block e q. let w : Without true 0 n block = search rules in let k = w refl (omega arith) in omega arith)

-- and what is near stands no later than the bytes that are sought
sooner : (c : After-clear_blocks-far)
    → let a = c.args in
    first (near a.mask c.bound_of-bound.result) a.bytes.now ≤ first (either a.one a.other) a.bytes.now
sooner c =
    let a = c.args in
    let b = c.bound_of-bound.ensures in
    near_sooner a.one a.other a.mask c.bound_of-bound.result b.0 b.1 a.bytes.now

pub returns-then-is_far_behind : goal.returns-then-is_far_behind
returns-then-is_far_behind c =
    let a = c.args in
    let s = sooner (goal.at.returns-then-is_far_behind c).After-clear_blocks-far in
    let m = first_le (either a.one a.other) a.bytes.now in
    let w = c.is_far_behind.ensures c.if-is_far_behind.true (far (goal.at.returns-then-is_far_behind c).After-clear_blocks-far) in
    omega arith

pub returns : goal.returns
returns c =
    let a = c.args in
    let l = a.bytes.now in
    let test = either a.one a.other in
    let p = c.clear_blocks-far.result in
    let s = sooner (goal.at.returns c).After-clear_blocks-far in
    let h = far (goal.at.returns c).After-clear_blocks-far in
    let f = first_from test l p (omega arith) in
    let e = ap (first test) (rest_of l p) in
    let b = c.before_either.ensures.before in
    first_onward test l (p + c.before_either.result) c.find_two_of_few.result (omega arith) c.find_two_of_few.ensures.found
