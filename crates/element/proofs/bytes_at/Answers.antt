-- Rests on the laws of an element's bytes, case by case.
use mathlib.Core.Path.{sym, ◌∙◌}
use mathlib.Core.Logic.{⊎_elim}
use Rattle.std.proofs.lemmas.Option.{MatchOption-at_none, MatchOption-at_some}
use Rattle.element.proofs.FindingLaws.{bytes_in, bytes_crossed, bytes_past}
use Rattle.element.proofs.bytes_at.Goals as goal

pub returns-in-Some : goal.returns-in-Some
returns-in-Some c =
    let a = c.args in
    let w = MatchOption-at_some _ _ _ c.in-Some.is c.get.ensures.lookup.0 in
    w.2 ∙ sym (bytes_in a.message.now a.element w.0 w.1)

pub returns-in-None : goal.returns-in-None
returns-in-None c =
    let a = c.args in
    ⊎_elim (λ h. sym (bytes_crossed a.message.now a.element h)) (λ h. sym (bytes_past a.message.now a.element h)) (MatchOption-at_none _ _ c.in-None.is c.get.ensures.lookup.0)
