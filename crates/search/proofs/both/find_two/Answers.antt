-- Rests on the laws of a search that ends inside a block, and of one that goes on from a place.
use Prim.Native.Nat.{◌≤◌}
use mathlib.Core.Path.{◌≡◌, sym, ◌∙◌}
use lib.ListN.{length, take}
use lib.Seq.{length-take-le}
use native.Mathlib.Omega.{arith}
use Rattle.alphabet.specs.Lists.{first, either}
use Rattle.alphabet.proofs.ListLaws.{first_le, first_block}
use Rattle.alphabet.proofs.BlockLaws.{first_onward, first_inside}
use Rattle.search.proofs.both.find_two.Goals.{After-find_two_by_words-i}
use Rattle.search.proofs.both.find_two.Goals as goal

front : (c : After-find_two_by_words-i) → length (take c.min-near.result c.args.bytes.now) ≡ c.min-near.result
front c = let m = c.min-near.ensures in length-take-le c.min-near.result c.args.bytes.now (omega arith)

-- neither stands in front
passed : (c : After-find_two_by_words-i)
    → let a = c.args in
    c.min-near.result ≤ c.find_two_by_words-i.result → c.min-near.result ≤ first (either a.one a.other) a.bytes.now
passed c h =
    let a = c.args in
    let m = c.min-near.ensures in
    let e = c.find_two_by_words-i.ensures in
    let b = first_block (either a.one a.other) a.bytes.now 0 c.min-near.result (omega arith) (omega arith) (omega arith) in
    omega arith

pub returns-then-i-near : goal.returns-then-i-near
returns-then-i-near c =
    let a = c.args in
    let n = front (goal.at.returns-then-i-near c).After-find_two_by_words-i in
    let e = c.find_two_by_words-i.ensures in
    let t = c.if-i-near.true in
    e ∙ sym (first_inside (either a.one a.other) a.bytes.now c.min-near.result (omega arith))

pub returns : goal.returns
returns c =
    let a = c.args in
    first_onward (either a.one a.other) a.bytes.now c.min-near.result c.find_two_far.result
    (passed (goal.at.returns c).After-find_two_by_words-i c.if-i-near.false) c.find_two_far.ensures

pub overflow_add-result : goal.overflow_add-result
overflow_add-result c =
    let a = c.args in
    let m = first_le (either a.one a.other) a.bytes.now in
    let e =
    first_onward (either a.one a.other) a.bytes.now c.min-near.result c.find_two_far.result
    (passed (goal.at.overflow_add-result c).After-find_two_by_words-i c.if-i-near.false) c.find_two_far.ensures in
    omega arith
