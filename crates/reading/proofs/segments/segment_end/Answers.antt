-- Rests on `find` in the part from `start` on.
use mathlib.Core.Path.{◌≡◌, ap, ◌∙◌}
use Prim.Native.Nat.{ℕ, ◌+◌}
use lib.Dec.{eqb}
use lib.ListN.{length-drop, drop}
use native.Mathlib.Omega.{arith}
use Rattle.alphabet.specs.Bytes.{carriage_return}
use Rattle.alphabet.specs.Lists.{find}
use Rattle.alphabet.proofs.ListLaws.{rest_of, first_end, first_le}
use Rattle.reading.proofs.segments.segment_end.Goals.{After-find_return}
use Rattle.reading.proofs.segments.segment_end.Goals as goal

pub returns-then-message-start : goal.returns-then-message-start
returns-then-message-start c =
    let a = c.args in
    let z = first_end (eqb carriage_return) a.message.now a.start c.if-message-start.true in
    omega arith

found : (c : After-find_return) → c.find_return.result ≡ find carriage_return (drop c.args.start c.args.message.now)
found c =
    let a = c.args in
    c.find_return.ensures ∙ ap (find carriage_return) (rest_of a.message.now a.start)

pub overflow_add-result : goal.overflow_add-result
overflow_add-result c =
    let a = c.args in
    let e = found c in
    let u = first_le (eqb carriage_return) (drop a.start a.message.now) in
    let n = length-drop a.start a.message.now in
    omega arith

pub returns : goal.returns
returns c = ap (λ (n : ℕ). c.args.start + n) (found c)
