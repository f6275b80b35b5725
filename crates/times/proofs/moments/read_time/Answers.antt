-- Rests on what is read of a TM or a TS, and on where its parts stand.
use mathlib.Core.Path.{◌≡◌, sym, ◌∙◌}
use mathlib.Core.Bool.{true}
use Rattle.forms.specs.Forms.{parts_form, time_form}
use Rattle.forms.proofs.PlaceLaws.{same_parts, placed_form}
use Rattle.times.specs.Times.{parts_time, time_of}
use Rattle.times.proofs.TimeLaws.{time_broken, time_read_lem}
use Rattle.times.proofs.moments.read_time.Goals.{After-is_time_form, After-time_of, Else-not-is_time_form}
use Rattle.times.proofs.moments.read_time.Goals as goal

formed : (c : After-is_time_form) → c.is_time_form.result ≡ time_form c.args.form c.args.bytes.now
formed c =
    let p = c.parts_of-parts.ensures in
    c.is_time_form.ensures ∙ (λ i. parts_form c.args.form (p.front i) (p.tail i) (p.zone i)) ∙ placed_form c.args.form c.args.bytes.now

form : (c : Else-not-is_time_form) → time_form c.args.form c.args.bytes.now ≡ true
form c = sym (formed (goal.at.Else-not-is_time_form c).After-is_time_form) ∙ c.if-not-is_time_form.false

pub returns-then-not-is_time_form : goal.returns-then-not-is_time_form
returns-then-not-is_time_form c =
    time_broken c.args.form c.args.bytes.now (sym (formed (goal.at.returns-then-not-is_time_form c).After-is_time_form) ∙ c.if-not-is_time_form.true)

time-is : (c : After-time_of) → c.time_of.result ≡ time_of c.args.form c.args.bytes.now
unfolding time_of
time-is c =
    let f = c.args.form in
    let l = c.args.bytes.now in
    let p = c.parts_of-parts.ensures in
    let s = same_parts f l (placed_form f l ∙ form (goal.at.After-time_of c).Else-not-is_time_form) in
    c.time_of.ensures ∙ (λ i. parts_time f (p.front i) (p.tail i) (p.zone i)) ∙ (λ i. parts_time f (s.0 i) (s.1 i) (s.2 i))

pub returns : goal.returns
returns c =
    c.existing.ensures
    ∙ time_read_lem c.args.form c.args.bytes.now c.time_of.result (form (goal.at.returns c).Else-not-is_time_form) (time-is (goal.at.returns c).After-time_of)
