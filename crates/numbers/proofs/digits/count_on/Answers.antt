-- Rests on the laws of the number that digits say: no turn's number is larger than the last one's.
use Prim.Native.Nat.{ℕ, ◌≤◌, ◌<◌, ◌+◌, ◌*◌, ◌-◌, ◌^◌}
use mathlib.Core.Path.{◌≡◌, sym, ap, ◌∙◌}
use mathlib.Core.Bool.{true}
use lib.ListN.{get_or, drop}
use Rattle.alphabet.specs.Digits.{all_digits, counted}
use Rattle.alphabet.proofs.DigitLaws.{digits_here, counted_next, counted_end, counted_least}
use native.Mathlib.Omega.{arith}
use Rattle.numbers.proofs.digits.count_on.Goals.{In-loop-b}
use Rattle.numbers.proofs.digits.count_on.Goals as goal

-- the number with one digit more
abbrev next : (c : In-loop-b) → ℕ
next c = c.loop-b.n * 10 + (get_or c.args.bytes.now c.loop-b.b-index 0 - 48)

-- a turn: the byte is a digit, those behind it are, and the number with it is within bounds
step : (c : In-loop-b)
    → (48 ≤ get_or c.args.bytes.now c.loop-b.b-index 0) × (all_digits (drop (c.loop-b.b-index + 1) c.args.bytes.now) ≡ true)
    × (counted c.args.number c.args.bytes.now ≡ counted (next c) (drop (c.loop-b.b-index + 1) c.args.bytes.now)) × (next c < 2 ^ 64)
step c =
    let l = c.args.bytes.now in
    let i = c.loop-b.b-index in
    let d = digits_here l i c.loop-b-test.true c.loop-b.invariant.0 in
    let d0 = d.0 in
    let q = c.loop-b.invariant.1 ∙ counted_next l i c.loop-b-test.true c.loop-b.n in
    let least = counted_least (next c) (drop (i + 1) l) in
    let most = c.requires.bytes_bound in
    (omega arith, d.2, q, omega arith)

pub overflow_mul-n : goal.overflow_mul-n
overflow_mul-n c = let h = (step c).3 in omega arith

pub overflow_sub-b : goal.overflow_sub-b
overflow_sub-b c = (step (goal.at.overflow_sub-b c).In-loop-b).0

pub overflow_add-n : goal.overflow_add-n
overflow_add-n c = let h = (step (goal.at.overflow_add-n c).In-loop-b).3 in let e = c.from.ensures in omega arith

pub loop-b-preserved : goal.loop-b-preserved
loop-b-preserved c =
    let s = step (goal.at.loop-b-preserved c).In-loop-b in
    (s.1, s.2 ∙ ap (λ (d : ℕ). counted (c.loop-b.n * 10 + d) (drop (c.loop-b.b-index + 1) c.args.bytes.now)) (sym c.from.ensures))

pub returns : goal.returns
returns c = sym (c.loop-b.invariant.1 ∙ counted_end c.args.bytes.now c.loop-b.b-index c.loop-b.n (omega arith))
