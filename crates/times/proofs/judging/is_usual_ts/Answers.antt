-- Rests on the places of a TS that says seconds and a zone, and on what the callees ensure.
use mathlib.Core.Path.{◌≡◌, sym, ap, ◌∙◌}
use mathlib.Core.Bool.{true}
use lib.ListN.{take}
use lib.Seq.{length-take-le}
use native.Mathlib.Omega.{arith}
use Rattle.alphabet.specs.Digits.{all_digits}
use Rattle.alphabet.proofs.BoolLaws.{and_both}
use Rattle.alphabet.proofs.ListLaws.{rest_of}
use Rattle.times.specs.Judged.{zone_judged}
use Rattle.times.proofs.JudgeLaws.{last_block, usual_ts}
use Rattle.times.proofs.judging.is_usual_ts.Goals.{Else-not-digits}
use Rattle.times.proofs.judging.is_usual_ts.Goals as goal

-- the digits before the sign, of the first and of the last eight
digits : (c : Else-not-digits) → all_digits (take 14 c.args.bytes.now) ≡ true
digits c =
    let l = take 14 c.args.bytes.now in
    let n = c.if-bytes-ne-USUAL.false in
    let m = length-take-le 14 c.args.bytes.now (omega arith) in
    let w = and_both _ _ c.if-not-digits.false in
    sym (last_block l 8 6 (omega arith) (sym c.is_block_of_digits.ensures ∙ w.0))
    ∙ sym (ap all_digits (rest_of l 6)) ∙ sym c.is_block_of_digits-2.ensures ∙ w.1

pub is_moment-requires : goal.is_moment-requires
is_moment-requires c = digits c

pub returns-then-is_moment : goal.returns-then-is_moment
returns-then-is_moment c e =
    let l = c.args.bytes.now in
    usual_ts l c.if-bytes-ne-USUAL.false c.if-not-signed.false (digits (goal.at.returns-then-is_moment c).Else-not-digits)
    (sym c.if-is_moment.ensures)
    (ap zone_judged (sym (rest_of l 14)) ∙ sym c.is_zone.ensures ∙ e)
