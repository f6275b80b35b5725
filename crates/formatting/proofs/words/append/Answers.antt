-- Rests on bytes that fit behind what stands on the line.
use Rattle.formatting.proofs.AppendLaws.{append_follows}
use Rattle.formatting.proofs.words.append.Goals as goal

pub returns : goal.returns
returns c =
    let g = c.args in
    let t = g.line.now in
    let u = g.bytes.now in
    append_follows g.page c.settle.result t g.buffer.now u c.put.new.buffer c.requires.0 c.requires.1 c.requires.2 c.requires.3 c.settle.ensures cc
