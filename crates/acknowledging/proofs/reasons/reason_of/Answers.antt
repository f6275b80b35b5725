-- Rests on the laws of what can be acknowledged: each return is a case of `acknowledgeable`.
use Prim.Native.Nat.{◌<◌}
use mathlib.Core.Path.{sym, ap, ◌∙◌}
use lib.Dec.{eqb}
use lib.ListN.{length}
use native.Mathlib.Omega.{arith}
use Rattle.alphabet.specs.Bytes.{carriage_return}
use Rattle.alphabet.specs.Lists.{find}
use Rattle.alphabet.proofs.ListLaws.{first_le}
use Rattle.reading.specs.Reading.{opening}
use Rattle.acknowledgement.proofs.HeaderLaws.{no_return_no, unsound_no, sound_is}
use Rattle.acknowledging.specs.Reasons.{answerable}
use Rattle.acknowledging.proofs.reasons.reason_of.Goals.{Else-message-end}
use Rattle.acknowledging.proofs.reasons.reason_of.Goals as goal

-- the CR stands inside the message
inside : (c : Else-message-end) → let m = c.args.message.now in find carriage_return m < length m
inside c = omega (arith, c.find-end.ensures, c.if-message-end.false)

pub returns-then-message-end : goal.returns-then-message-end
returns-then-message-end c =
    let m = c.args.message.now in
    sym (no_return_no m (omega (arith, c.find-end.ensures, first_le (eqb carriage_return) m, c.if-message-end.true)))

pub returns-in-Ok : goal.returns-in-Ok
returns-in-Ok c =
    let m = c.args.message.now in
    c.reason_in.ensures ∙ ap answerable c.header_of-header.ensures
    ∙ sym (sound_is m (inside (goal.at.returns-in-Ok c).Else-message-end) (ap opening (sym c.header_of-header.ensures) ∙ sym c.check_opening-opening.ensures ∙ c.in-Ok.is))

pub returns-in-Err : goal.returns-in-Err
returns-in-Err c =
    let m = c.args.message.now in
    sym (unsound_no m (inside (goal.at.returns-in-Err c).Else-message-end) _ (ap opening (sym c.header_of-header.ensures) ∙ sym c.check_opening-opening.ensures ∙ c.in-Err.is))
