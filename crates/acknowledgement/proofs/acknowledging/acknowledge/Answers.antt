-- Rests on what stands against an acknowledgement, check by check, and on the ERR segment having room.
use mathlib.Core.Path.{◌≡◌, sym, ap, ap₂, ◌∙◌, subst}
use mathlib.Core.Bool.{Bool, not}
use mathlib.Core.List.{List}
use Prim.Native.Nat.{ℕ}
use lib.ListN.{length, take, drop}
use lib.Seq.{take-append_seam}
use borrow.Author.Rules.{rules}
use Rattle.std.specs.Prelude.{Err}
use Rattle.alphabet.specs.Answers.{Refusable, fails_if, passes}
use Rattle.alphabet.specs.declared.answers.Refusal.TheVariants.{CallersTime, CallersId}
use Rattle.reading.specs.Message.{ended}
use Rattle.times.specs.Times.{is_ts}
use Rattle.error_segment.specs.Errors.{error_lines}
use Rattle.acknowledgement.specs.Acknowledgement.{bad_id, Acknowledges}
use Rattle.acknowledgement.specs.Acknowledgement.Acknowledges.{not_written}
use Rattle.acknowledgement.proofs.AnswerLaws.{meets}
use Rattle.acknowledgement.proofs.HeaderLaws.{time_stops, id_stops, header_stops, none_stops}
use Rattle.acknowledgement.proofs.acknowledging.acknowledge.Goals.{In_ok-fails_if, In_ok-fails_if-2, After-put_segment-n}
use Rattle.acknowledgement.proofs.acknowledging.acknowledge.Goals as goal

-- the caller's time is good, and then his ID
timed : (c : In_ok-fails_if) → fails_if (not (is_ts c.args.time.now)) CallersTime 0 ≡ passes
timed c = ap (λ (t : Bool). fails_if (not t) CallersTime 0) (sym c.is_ts.ensures) ∙ sym c.fails_if.ensures ∙ c.in_ok-fails_if.was

named : (c : In_ok-fails_if-2) → fails_if (bad_id c.args.id.now) CallersId 0 ≡ passes
named c = ap (λ (t : Bool). fails_if t CallersId 0) (sym c.is_bad_id.ensures) ∙ sym c.fails_if-2.ensures ∙ c.in_ok-fails_if-2.was

pub returns-in_err-fails_if : goal.returns-in_err-fails_if
returns-in_err-fails_if c =
    let a = c.args in
    let was = ap (λ (t : Bool). fails_if (not t) CallersTime 0) (sym c.is_ts.ensures) ∙ sym c.fails_if.ensures ∙ c.in_err-fails_if.was in
    let e : c.from_residual.result ≡ Err c.in_err-fails_if.field-0.0 = search rules in
    subst (λ (r : Refusable ℕ). Acknowledges a.message.now a.time.now a.id.now a.buffer.now r a.buffer.now) (sym e) (not_written _ (time_stops a.message.now a.time.now a.id.now was))

pub returns-in_err-fails_if-2 : goal.returns-in_err-fails_if-2
returns-in_err-fails_if-2 c =
    let a = c.args in
    let was = ap (λ (t : Bool). fails_if t CallersId 0) (sym c.is_bad_id.ensures) ∙ sym c.fails_if-2.ensures ∙ c.in_err-fails_if-2.was in
    let e : c.from_residual-in_err-fails_if-2.result ≡ Err c.in_err-fails_if-2.field-0.0 = search rules in
    subst (λ (r : Refusable ℕ). Acknowledges a.message.now a.time.now a.id.now a.buffer.now r a.buffer.now) (sym e)
    (not_written _ (id_stops a.message.now a.time.now a.id.now (timed (goal.at.returns-in_err-fails_if-2 c).In_ok-fails_if) was))

pub returns-in_default : goal.returns-in_default
returns-in_default c =
    let a = c.args in
    not_written _ (header_stops a.message.now a.time.now a.id.now (timed (goal.at.returns-in_default c).In_ok-fails_if) (named (goal.at.returns-in_default c).In_ok-fails_if-2) c.in_default.ensures)

-- the ERR segment that was written is handed on
line : (c : After-put_segment-n)
    → take c.put_segment-n.result c.put_segment-n.new.line ≡ ended (error_lines c.args.message.now c.verdict-found.result)
line c =
    let w = ended (error_lines c.args.message.now c.verdict-found.result) in
    ap₂ (λ (k : ℕ) (x : List ℕ). take k x) c.put_segment-n.ensures.value c.put_segment-n.ensures.line_after
    ∙ take-append_seam w (drop (length w) c.zeros-error.result)

pub returns : goal.returns
returns c =
    let a = c.args in
    let known = c.in-Some.ensures in
    meets a.message.now a.time.now a.id.now a.buffer.now c.in-Some.header.bytes.now _ c.code_of.result c.verdict-found.result _ _
    (none_stops a.message.now a.time.now a.id.now (timed (goal.at.returns c).In_ok-fails_if) (named (goal.at.returns c).In_ok-fails_if-2) known.0) c.verdict-found.ensures
    known.1 c.code_of.ensures (line (goal.at.returns c).After-put_segment-n) c.write.ensures.value c.write.ensures.buffer_after
