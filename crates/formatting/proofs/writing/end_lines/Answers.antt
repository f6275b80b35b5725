-- Rests on a line that is shown.
use Rattle.formatting.proofs.OutputLaws.{wrote_new, layout_new}
use Rattle.formatting.proofs.writing.end_lines.Goals as goal

pub returns-clause-value : goal.returns-clause-value
returns-clause-value c =
    let a = c.args in layout_new a.page c.show_line-shown.result c.new_line.result c.show_line-shown.ensures.value c.new_line.ensures

pub returns-clause-wrote : goal.returns-clause-wrote
returns-clause-wrote c =
    let a = c.args in wrote_new _ a.page c.show_line-shown.result c.new_line.result a.buffer.now _ c.show_line-shown.ensures.wrote c.new_line.ensures
