-- Rests on the laws of the states.
use mathlib.Core.Path.{sym, ◌∙◌}
use Rattle.element.proofs.StateLaws.{state_null, state_empty, state_present}
use Rattle.element.proofs.states.state_of.Goals as goal

pub returns-then-is_null : goal.returns-then-is_null
returns-then-is_null c =
    let a = c.args in
    sym (state_null a.delimiters.bytes a.bytes.now (sym c.is_null.ensures ∙ c.if-is_null.true))

pub returns-then-is_empty : goal.returns-then-is_empty
returns-then-is_empty c =
    let a = c.args in
    sym (state_empty a.delimiters.bytes a.bytes.now (sym c.is_null.ensures ∙ c.if-is_null.false) (sym c.is_empty.ensures ∙ c.if-is_empty.true))

pub returns : goal.returns
returns c =
    let a = c.args in
    sym (state_present a.delimiters.bytes a.bytes.now (sym c.is_null.ensures ∙ c.if-is_null.false) (sym c.is_empty.ensures ∙ c.if-is_empty.false))
