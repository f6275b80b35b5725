-- Rests on lines that were measured, and then written.
use borrow.Author.Rules.{rules}
use Rattle.formatting.proofs.FormatLaws.{format_refused, format_written}
use Rattle.formatting.proofs.formatting.measure_first.Goals as goal

pub returns-in_err-typeset-clause-value : goal.returns-in_err-typeset-clause-value
returns-in_err-typeset-clause-value c =
    let a = c.args in
    rw ((format_refused a.delimiters.bytes a.text.now a.buffer.now _ c.typeset.result c.typeset.ensures c.in_err-typeset.was).0) (search rules)

pub returns-in_err-typeset-clause-buffer_after : goal.returns-in_err-typeset-clause-buffer_after
returns-in_err-typeset-clause-buffer_after c =
    let a = c.args in
    (format_refused a.delimiters.bytes a.text.now a.buffer.now _ c.typeset.result c.typeset.ensures c.in_err-typeset.was).1

pub returns-clause-value : goal.returns-clause-value
returns-clause-value c =
    let a = c.args in
    (format_written a.delimiters.bytes a.text.now a.buffer.now _ c.typeset.result c.typeset.ensures c.in_ok-typeset.field-0 c.typeset-2.result _ c.in_ok-typeset.was c.typeset-2.ensures).0

pub returns-clause-buffer_after : goal.returns-clause-buffer_after
returns-clause-buffer_after c =
    let a = c.args in
    (format_written a.delimiters.bytes a.text.now a.buffer.now _ c.typeset.result c.typeset.ensures c.in_ok-typeset.field-0 c.typeset-2.result _ c.in_ok-typeset.was c.typeset-2.ensures).1
