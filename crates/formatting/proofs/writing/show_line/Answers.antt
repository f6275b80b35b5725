-- Rests on what is written behind the rest.
use mathlib.Core.Path.{◌≡◌, sym, ap, ◌∙◌}
use native.Mathlib.Omega.{arith}
use mathlib.Core.List.{◌++◌}
use lib.ListN.{length, take, replicate}
use lib.Seq.{length-take-le}
use Rattle.formatting.specs.Sheet.{blanks}
use Rattle.formatting.proofs.PageLaws.{indent_most}
use Rattle.formatting.proofs.OutputLaws.{kept_length, shown_wrote}
use Rattle.formatting.proofs.writing.show_line.Goals.{After-indent-indent, After-put_line}
use Rattle.formatting.proofs.writing.show_line.Goals as goal

-- the line's bytes are as many as the page says
whole : (k : After-indent-indent) → length (take k.args.page.line k.args.line.now) ≡ k.args.page.line
whole k =
    let l = k.requires.0.slight.line in
    let b = k.requires.0.broad in
    length-take-le k.args.page.line k.args.line.now (omega arith)

pub put_line-requires : goal.put_line-requires
put_line-requires c =
    let e = c.indent-indent.ensures in
    let i = indent_most c.args.page in
    let w = whole (goal.at.put_line-requires c).After-indent-indent in
    let l = c.requires.0.slight.line in
    (c.requires.0.place, omega arith, omega arith, c.requires.1)

pub overflow_add-indent : goal.overflow_add-indent
overflow_add-indent c =
    let e = c.indent-indent.ensures in
    let i = indent_most c.args.page in
    let l = c.requires.0.slight.line in
    omega arith

pub overflow_add-indent-2 : goal.overflow_add-indent-2
overflow_add-indent-2 c =
    let e = c.indent-indent.ensures in
    let i = indent_most c.args.page in
    let l = c.requires.0.slight.line in
    let n = c.requires.1 in
    omega arith

-- the buffer keeps its length
kept : (k : After-put_line) → length k.put_line.new.buffer ≡ length k.args.buffer.now
kept k =
    let a = k.args in
    ap length k.put_line.ensures ∙ kept_length a.page.writes a.buffer.now (blanks k.indent-indent.result ++ (take a.page.line a.line.now ++ replicate a.n 10)) a.page.place

pub spend-requires : goal.spend-requires
spend-requires c =
    let n = kept (goal.at.spend-requires c).After-put_line in
    let h = c.requires.0.place in
    omega arith

pub returns : goal.returns
returns c = let whole = shown_wrote c.args.page c.spend.result c.args.line.now c.args.buffer.now _ c.indent-indent.result c.args.n c.requires.0.place (whole (goal.at.returns c).After-indent-indent) c.indent-indent.ensures c.put_line.ensures c.spend.ensures in record { value = whole.0; wrote = whole.1 }

pub slice_bounds-put_line-end : goal.slice_bounds-put_line-end
slice_bounds-put_line-end c = sym (whole (goal.at.slice_bounds-put_line-end c).After-indent-indent)
