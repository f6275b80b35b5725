-- Rests on the laws of digits: what is left of them and the number so far say what the whole says, once both are held.
use Prim.Native.Nat.{ℕ, ◌+◌, ◌-◌, ◌*◌, ◌≤◌}
use mathlib.Core.Bool.{Bool, true}
use mathlib.Core.Path.{◌≡◌, sym, ap, ◌∙◌}
use native.Mathlib.Omega.{arith}
use lib.ListN.{get_or}
use borrow.Author.Tests.{eqb-true, eqb-false}
use Rattle.std.specs.Prelude.{Option, Some}
use Rattle.alphabet.specs.Bytes.{digit}
use Rattle.alphabet.proofs.BoolLaws.{from_to_lem}
use Rattle.alphabet.proofs.DigitLaws.{digits_end, digits_next, digits_not, counted_end}
use Rattle.format_commands.specs.Commands.{held_size}
use Rattle.format_commands.specs.declared.numbers.Amount.{Amount}
use Rattle.format_commands.proofs.CommandLaws.{held_most, held_own, held_digit, digits_none, digits_bad, digits_good}
use Rattle.format_commands.proofs.numbers.digits_of.Goals.{Else-not-is_digit}
use Rattle.format_commands.proofs.numbers.digits_of.Goals as goal

abbrev given : Bool → ℕ → Option Amount
given m n = Some (record { minus = m; size = n })

pub returns-then-is_empty : goal.returns-then-is_empty
returns-then-is_empty c = let a = c.args in sym (digits_none a.minus a.digits.now (eqb-true _ 0 (sym c.is_empty.ensures ∙ c.if-is_empty.true)))

pub returns-then-not-is_digit : goal.returns-then-not-is_digit
returns-then-not-is_digit c =
    let a = c.args in
    let s = a.digits.now in
    sym (digits_bad a.minus s (c.loop-digit.invariant.1 ∙ digits_not s c.loop-digit.digit-index (omega arith) (sym c.is_digit.ensures ∙ c.if-not-is_digit.true)))

-- at a digit
here : (c : Else-not-is_digit)
    → let s = c.args.digits.now in
    (digit (get_or s c.loop-digit.digit-index 0) ≡ true) × (48 ≤ get_or s c.loop-digit.digit-index 0) × (get_or s c.loop-digit.digit-index 0 ≤ 57)
here c =
    let s = c.args.digits.now in
    let e = sym c.is_digit.ensures ∙ c.if-not-is_digit.false in
    let d = from_to_lem 48 57 (get_or s c.loop-digit.digit-index 0) e in
    (e, d.0, d.1)

pub loop-digit-preserved : goal.loop-digit-preserved
loop-digit-preserved c =
    let s = c.args.digits.now in
    let i = c.loop-digit.digit-index in
    let n = c.loop-digit.size in
    let h = here (goal.at.loop-digit-preserved c).Else-not-is_digit in
    let lo = h.1 in
    let m = held_most (n * 10 + c.from.result) in
    let e : n * 10 + c.from.result ≡ n * 10 + (get_or s i 0 - 48) = omega arith in
    (omega arith, c.loop-digit.invariant.1 ∙ digits_next s i (omega arith) h.0, c.loop-digit.invariant.2 ∙ held_digit s i n c.hold-size.result (omega arith) (c.hold-size.ensures ∙ ap held_size e))

pub returns : goal.returns
returns c =
    let a = c.args in
    let s = a.digits.now in
    let i = c.loop-digit.digit-index in
    let n = c.loop-digit.size in
    let e = c.loop-digit.invariant.1 ∙ digits_end s i (omega arith) in
    let f = c.loop-digit.invariant.2 ∙ ap held_size (counted_end s i n (omega arith)) ∙ held_own n (omega arith) in
    let some = eqb-false _ 0 (sym c.is_empty.ensures ∙ c.if-is_empty.false) in
    ap (given a.minus) (sym f) ∙ sym (digits_good a.minus s (omega (arith, some)) e)

pub overflow_sub-digit : goal.overflow_sub-digit
overflow_sub-digit c = let h = here c in let lo = h.1 in omega arith

pub overflow_add-size : goal.overflow_add-size
overflow_add-size c = let h = here (goal.at.overflow_add-size c).Else-not-is_digit in let hi = h.2 in omega arith
