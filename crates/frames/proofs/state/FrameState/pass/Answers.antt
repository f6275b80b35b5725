-- Rests on the laws of each way through: what a run passes over, for a state that is known.
use Prim.Native.Nat.{◌≤◌, ◌+◌, ◌-◌}
use mathlib.Core.Path.{sym}
use lib.ListN.{length}
use lib.Seq.{length-take-le}
use native.Mathlib.Omega.{arith}
use borrow.Author.Rules.{rules}
use Rattle.alphabet.specs.Lists.{first}
use Rattle.alphabet.proofs.ListLaws.{first_le}
use Rattle.frames.specs.Passing.{framing}
use Rattle.frames.proofs.PassLaws.{pass_count, pass_held, pass_outside, pass_inside, pass_skipping}
use Rattle.frames.proofs.state.FrameState.pass.Goals.{After-min-run}
use Rattle.frames.proofs.state.FrameState.pass.Goals as goal

pub counted_on-self-requires : goal.counted_on-self-requires
counted_on-self-requires c =
    let a = c.args in
    pass_count a.limit a.self.now a.rest.now a.buffer.now c.requires.0 c.requires.1

pub overflow_sub-room : goal.overflow_sub-room
overflow_sub-room c =
    let a = c.args in
    pass_held a.limit a.self.now a.rest.now a.buffer.now c.requires.0 c.requires.1 c.in-Inside.is

-- the run is within the bytes that are gathered, and within the limit
record Within (c : After-min-run) : Type 0 where
  gathered : c.min-run.result ≤ first framing c.args.rest.now
  fits : c.args.self.now.held + c.min-run.result ≤ c.args.limit
  size : c.min-run.result ≤ length c.args.rest.now

within : (c : After-min-run) → Within c
within c =
    let a = c.args in
    let h = pass_held a.limit a.self.now a.rest.now a.buffer.now c.requires.0 c.requires.1 c.in-Inside.is in
    let e = c.find_either.ensures in
    let f = first_le framing a.rest.now in
    let m : c.min-run.result ≤ c.find_either.result = search rules in
    let n : c.min-run.result ≤ a.limit - a.self.now.held = search rules in
    record { gathered = omega arith; fits = omega arith; size = omega arith }

pub slice_bounds-put_long-end : goal.slice_bounds-put_long-end
slice_bounds-put_long-end c = sym (length-take-le _ _ (within (goal.at.slice_bounds-put_long-end c).After-min-run).size)

pub returns-in-Outside : goal.returns-in-Outside
returns-in-Outside c =
    let a = c.args in
    pass_outside a.limit a.self.now a.rest.now a.buffer.now c.requires.0 c.requires.1 c.find_by_words-run.result c.counted_on-self.result c.in-Outside.is c.find_by_words-run.ensures c.counted_on-self.ensures

pub returns-in-Inside : goal.returns-in-Inside
returns-in-Inside c =
    let a = c.args in
    let w = within (goal.at.returns-in-Inside c).After-min-run in
    pass_inside a.limit a.self.now a.rest.now a.buffer.now c.requires.0 c.requires.1 c.min-run.result c.put_long.new.buffer c.in-Inside.is w.gathered w.fits c.put_long.ensures.buffer_after

pub returns-in-Skipping : goal.returns-in-Skipping
returns-in-Skipping c =
    let a = c.args in
    pass_skipping a.limit a.self.now a.rest.now a.buffer.now c.requires.0 c.requires.1 c.find_either-in-Skipping.result c.in-Skipping.is c.find_either-in-Skipping.ensures
