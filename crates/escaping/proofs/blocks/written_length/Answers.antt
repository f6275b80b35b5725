-- Rests on the laws of what a byte is written as: each return is a case of `escape_byte`.
use mathlib.Core.Path.{refl, sym, ap, ◌∙◌}
use lib.ListN.{length}
use borrow.Author.Tests.{ltb-true, ltb-false}
use Rattle.escaping.proofs.PieceLaws.{written_letter, written_plain, written_hex}
use Rattle.escaping.proofs.blocks.written_length.Goals as goal

pub returns-then-delimiter : goal.returns-then-delimiter
returns-then-delimiter c =
    let a = c.args in
    sym (ap length (written_letter a.delimiters.bytes a.b _ refl (ltb-true _ 5 (sym c.is_among-delimiter.ensures ∙ c.if-delimiter.true))))

pub returns-then-plain : goal.returns-then-plain
returns-then-plain c =
    let a = c.args in
    sym (ap length (written_plain a.delimiters.bytes a.b (ltb-false _ 5 (sym c.is_among-delimiter.ensures ∙ c.if-delimiter.false)) (sym c.is_printable-plain.ensures ∙ c.if-plain.true)))

pub returns-else-plain : goal.returns-else-plain
returns-else-plain c =
    let a = c.args in
    sym (ap length (written_hex a.delimiters.bytes a.b (ltb-false _ 5 (sym c.is_among-delimiter.ensures ∙ c.if-delimiter.false)) (sym c.is_printable-plain.ensures ∙ c.if-plain.false)))
