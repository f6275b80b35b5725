-- Rests on the laws of `first`: no stop stands before `i`, at each turn, and the first behind is found by blocks.
use Prim.Native.Nat.{ℕ, ◌≤◌, ◌+◌}
use mathlib.Core.Path.{◌≡◌, sym, ap, ◌∙◌}
use native.Mathlib.Omega.{arith}
use Rattle.alphabet.specs.Lists.{first, among}
use Rattle.alphabet.proofs.ListLaws.{rest_of, first_le, first_reached, first_next}
use Rattle.alphabet.proofs.BlockLaws.{first_from}
use Rattle.element.proofs.levels.end_in.Goals.{After-find_among}
use Rattle.element.proofs.levels.end_in.Goals as goal

pub returns-then-is_among : goal.returns-then-is_among
returns-then-is_among c =
    let a = c.args in
    sym (first_reached (among a.stops) a.bytes.now c.loop-i.i (omega arith) c.loop-i.invariant (sym c.is_among.ensures ∙ c.if-is_among.true))

pub loop-i-preserved : goal.loop-i-preserved
loop-i-preserved c =
    let a = c.args in
    first_next (among a.stops) a.bytes.now c.loop-i.i (omega arith) c.loop-i.invariant (sym c.is_among.ensures ∙ c.if-is_among.false)

-- the first stop from `near` on
behind : (c : After-find_among)
    → let a = c.args in
    first (among a.stops) a.bytes.now ≡ c.min-near.result + c.find_among.result
behind c =
    let a = c.args in
    let s = a.bytes.now in
    let test = among a.stops in
    let n : c.min-near.result ≤ first test s = let i = c.loop-i.invariant in omega arith in
    first_from test s c.min-near.result n ∙ ap (λ (n : ℕ). c.min-near.result + n) (ap (first test) (sym (rest_of s c.min-near.result)) ∙ sym c.find_among.ensures)

pub overflow_add-result : goal.overflow_add-result
overflow_add-result c =
    let a = c.args in
    let r = behind c in
    let m = first_le (among a.stops) a.bytes.now in
    omega arith

pub returns : goal.returns
returns c = sym (behind c)
