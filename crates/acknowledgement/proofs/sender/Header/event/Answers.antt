-- Rests on component 2 being split from field 9, and on whether it is present.
use mathlib.Core.Path.{sym, ap, ◌∙◌}
use mathlib.Core.Bool.{Bool, cond}
use mathlib.Core.List.{[]}
use Rattle.acknowledgement.proofs.FieldLaws.{event_is}
use Rattle.acknowledgement.proofs.sender.Header.event.Goals as goal

pub returns-then-is_present : goal.returns-then-is_present
returns-then-is_present c =
    let h = c.args.self.now in
    let p = c.component-part.result.now in
    ap (λ (t : Bool). cond t p []) (sym c.if-is_present.true) ∙ event_is h.bytes.now h.ends h.sound h.noted c.is_present.result c.field.result.now p c.field.ensures c.component-part.ensures c.is_present.ensures

pub returns : goal.returns
returns c =
    let h = c.args.self.now in
    let p = c.component-part.result.now in
    ap (λ (t : Bool). cond t p []) (sym c.if-is_present.false) ∙ event_is h.bytes.now h.ends h.sound h.noted c.is_present.result c.field.result.now p c.field.ensures c.component-part.ensures c.is_present.ensures
