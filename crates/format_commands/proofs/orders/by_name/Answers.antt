-- Each return is a case of `order_of`, for three bytes.
use mathlib.Core.Path.{sym, ◌∙◌}
use Rattle.format_commands.proofs.CommandLaws.{name_alone}
use Rattle.format_commands.proofs.orders.by_name.Goals as goal

pub returns-then-is_name : goal.returns-then-is_name
returns-then-is_name c =
    let a = c.args in
    sym (name_alone a.x a.y a.z ∙ rw (sym c.is_name.ensures ∙ c.if-is_name.true))

pub returns-then-is_name-2 : goal.returns-then-is_name-2
returns-then-is_name-2 c =
    let a = c.args in
    sym (name_alone a.x a.y a.z ∙ rw (sym c.is_name.ensures ∙ c.if-is_name.false, sym c.is_name-2.ensures ∙ c.if-is_name-2.true))

pub returns-then-is_name-3 : goal.returns-then-is_name-3
returns-then-is_name-3 c =
    let a = c.args in
    sym (name_alone a.x a.y a.z ∙ rw (sym c.is_name.ensures ∙ c.if-is_name.false, sym c.is_name-2.ensures ∙ c.if-is_name-2.false, sym c.is_name-3.ensures ∙ c.if-is_name-3.true))

pub returns-then-is_name-4 : goal.returns-then-is_name-4
returns-then-is_name-4 c =
    let a = c.args in
    sym (name_alone a.x a.y a.z ∙ rw (sym c.is_name.ensures ∙ c.if-is_name.false, sym c.is_name-2.ensures ∙ c.if-is_name-2.false, sym c.is_name-3.ensures ∙ c.if-is_name-3.false, sym c.is_name-4.ensures ∙ c.if-is_name-4.true))

pub returns-then-is_name-5 : goal.returns-then-is_name-5
returns-then-is_name-5 c =
    let a = c.args in
    sym (name_alone a.x a.y a.z ∙ rw (sym c.is_name.ensures ∙ c.if-is_name.false, sym c.is_name-2.ensures ∙ c.if-is_name-2.false, sym c.is_name-3.ensures ∙ c.if-is_name-3.false, sym c.is_name-4.ensures ∙ c.if-is_name-4.false, sym c.is_name-5.ensures ∙ c.if-is_name-5.true))

pub returns : goal.returns
returns c =
    let a = c.args in
    sym (name_alone a.x a.y a.z ∙ rw (sym c.is_name.ensures ∙ c.if-is_name.false, sym c.is_name-2.ensures ∙ c.if-is_name-2.false, sym c.is_name-3.ensures ∙ c.if-is_name-3.false, sym c.is_name-4.ensures ∙ c.if-is_name-4.false, sym c.is_name-5.ensures ∙ c.if-is_name-5.false))
