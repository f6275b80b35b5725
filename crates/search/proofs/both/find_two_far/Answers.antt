-- Rests on `first_onward`: behind what is passed over, the search goes on.
use native.Mathlib.Omega.{arith}
use Rattle.alphabet.specs.Lists.{either}
use Rattle.alphabet.proofs.ListLaws.{first_le}
use Rattle.alphabet.proofs.BlockLaws.{first_onward}
use Rattle.search.proofs.both.find_two_far.Goals as goal

pub returns : goal.returns
returns c =
    let a = c.args in
    first_onward (either a.one a.other) a.bytes.now c.before_either-passed.result c.find_two_by_words.result c.before_either-passed.ensures.before c.find_two_by_words.ensures

pub overflow_add-result : goal.overflow_add-result
overflow_add-result c =
    let m = first_le (either c.args.one c.args.other) c.args.bytes.now in
    let e = returns c in
    omega arith
