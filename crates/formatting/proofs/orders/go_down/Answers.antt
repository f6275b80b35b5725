-- Rests on lines that are ended.
use mathlib.Core.Path.{sym, ap}
use Rattle.formatting.specs.Sheet.{Sheet, laid, down}
use Rattle.formatting.proofs.ActLaws.{acts_none}
use Rattle.formatting.proofs.OrderLaws.{acts_same, acts_down, down_none}
use Rattle.formatting.proofs.orders.go_down.Goals as goal

pub returns-then-n-eq0 : goal.returns-then-n-eq0
returns-then-n-eq0 c =
    let g = c.args in
    acts_same (λ (s : Sheet). laid s) (λ (s : Sheet). laid (down g.n s)) g.page g.line.now g.buffer.now g.page _ _ (λ (s : Sheet). sym (ap laid (down_none g.n s c.if-n-eq0.true)))
    (acts_none g.page g.line.now g.buffer.now c.requires.0)

pub returns : goal.returns
returns c =
    let g = c.args in
    acts_down g.page g.line.now g.buffer.now c.requires.0 c.requires.1 g.n c.end_lines-ended.result _ c.position-position.result c.if-n-eq0.false
    c.end_lines-ended.ensures.value c.end_lines-ended.ensures.wrote c.position-position.ensures
