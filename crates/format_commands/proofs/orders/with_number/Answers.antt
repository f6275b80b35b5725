-- Each return is a case of `numbered`.
use mathlib.Core.Path.{sym, ◌∙◌}
use Rattle.format_commands.proofs.CommandLaws.{numbered_name}
use Rattle.format_commands.proofs.orders.with_number.Goals as goal

pub returns-then-is_name : goal.returns-then-is_name
returns-then-is_name c =
    let a = c.args in
    sym (numbered_name a.x a.y a.z a.amount ∙ rw (sym c.is_name.ensures ∙ c.if-is_name.true))

pub returns-then-is_name-2 : goal.returns-then-is_name-2
returns-then-is_name-2 c =
    let a = c.args in
    sym (numbered_name a.x a.y a.z a.amount ∙ rw (sym c.is_name.ensures ∙ c.if-is_name.false, sym c.is_name-2.ensures ∙ c.if-is_name-2.true))

pub returns-then-is_name-3 : goal.returns-then-is_name-3
returns-then-is_name-3 c =
    let a = c.args in
    sym (numbered_name a.x a.y a.z a.amount ∙ rw (sym c.is_name.ensures ∙ c.if-is_name.false, sym c.is_name-2.ensures ∙ c.if-is_name-2.false, sym c.is_name-3.ensures ∙ c.if-is_name-3.true))

pub returns-then-is_name-4 : goal.returns-then-is_name-4
returns-then-is_name-4 c =
    let a = c.args in
    sym (numbered_name a.x a.y a.z a.amount ∙ rw (sym c.is_name.ensures ∙ c.if-is_name.false, sym c.is_name-2.ensures ∙ c.if-is_name-2.false, sym c.is_name-3.ensures ∙ c.if-is_name-3.false, sym c.is_name-4.ensures ∙ c.if-is_name-4.true))

pub returns : goal.returns
returns c =
    let a = c.args in
    sym (numbered_name a.x a.y a.z a.amount ∙ rw (sym c.is_name.ensures ∙ c.if-is_name.false, sym c.is_name-2.ensures ∙ c.if-is_name-2.false, sym c.is_name-3.ensures ∙ c.if-is_name-3.false, sym c.is_name-4.ensures ∙ c.if-is_name-4.false))
