-- Rests on what `state_of` and `is_present` of `element` ensure: the state is by the header's delimiters.
use Prim.Native.Nat.{ℕ}
use mathlib.Core.List.{List}
use mathlib.Core.Path.{ap, ◌∙◌}
use Rattle.element.specs.States.{state_of, is_present}
use Rattle.acknowledging.proofs.reasons.is_present.Goals as goal

pub returns : goal.returns
returns c =
    let a = c.args in
    c.is_present.ensures ∙ ap is_present (c.state_of.ensures ∙ ap (λ (ds : List ℕ). state_of ds a.bytes.now) c.delimiters_of-delimiters.ensures)
