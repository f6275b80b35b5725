-- `asking::decimals::decode` meets its contract: the value of the digits passed, and the rest, say what the whole word says.
use Prim.Native.Nat.{ℕ, ◌+◌, ◌*◌, ◌-◌}
use mathlib.Core.Path.{◌≡◌, sym, ap, ◌∙◌}
use native.Mathlib.Omega.{arith}
use lib.ListN.{get_or, drop}
use Rattle.asking.specs.Decimals.{held, number}
use Rattle.asking.proofs.Digits.{number_none, number_some, held_end, held_other, held_large, held_next}
use Rattle.asking.proofs.decimals.decode.Goals.{At-loop-byte}
use Rattle.asking.proofs.decimals.decode.Goals as goal

-- what the whole word says, at the loop's head
whole : (l : At-loop-byte) → let w = l.args.word.now in number w ≡ held l.loop-byte.value (drop l.loop-byte.byte-index w)
whole l = number_some l.args.word.now (sym l.is_empty.ensures ∙ l.if-is_empty.false) ∙ l.loop-byte.invariant.1

pub returns-then-is_empty : goal.returns-then-is_empty
returns-then-is_empty c = sym (number_none c.args.word.now (sym c.is_empty.ensures ∙ c.if-is_empty.true))

pub returns-then-not-is_ascii_digit : goal.returns-then-not-is_ascii_digit
returns-then-not-is_ascii_digit c =
    sym (whole (goal.at.returns-then-not-is_ascii_digit c).At-loop-byte ∙ held_other c.loop-byte.value c.args.word.now c.loop-byte.byte-index (omega arith) c.if-not-is_ascii_digit.ensures.cases)

pub returns-in_err-checked_mul : goal.returns-in_err-checked_mul
returns-in_err-checked_mul c =
    c.from_residual.ensures
    ∙ sym (whole (goal.at.returns-in_err-checked_mul c).At-loop-byte ∙ held_large c.loop-byte.value c.args.word.now c.loop-byte.byte-index (omega arith) (let h = c.in_err-checked_mul.ensures in omega arith))

pub returns-in_err-value : goal.returns-in_err-value
returns-in_err-value c =
    c.from_residual-in_err-value.ensures
    ∙ sym (whole (goal.at.returns-in_err-value c).At-loop-byte ∙ held_large c.loop-byte.value c.args.word.now c.loop-byte.byte-index (omega arith) (let h = c.in_err-value.ensures in let k = c.in_ok-checked_mul.ensures in omega arith))

pub loop-byte-preserved : goal.loop-byte-preserved
loop-byte-preserved c =
    let w = c.args.word.now in
    let i = c.loop-byte.byte-index in
    let n = c.loop-byte.value in
    let k = c.in_ok-checked_mul.ensures in
    let m = c.in_ok-value.ensures in
    let d = c.if-not-is_ascii_digit.ensures.cases in
    let e : n * 10 + (get_or w i 0 - 48) ≡ c.in_ok-value.value = omega arith in
    (omega arith, c.loop-byte.invariant.1 ∙ held_next n w i (omega arith) (omega arith) (omega arith) ∙ ap (λ (k : ℕ). held k (drop (i + 1) w)) e)

pub returns : goal.returns
returns c =
    sym (whole (goal.at.returns c).At-loop-byte ∙ held_end c.loop-byte.value c.args.word.now c.loop-byte.byte-index (omega arith) (omega arith))
