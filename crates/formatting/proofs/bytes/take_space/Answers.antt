-- Rests on an item that ends the word, and the line or not.
use native.Mathlib.Omega.{arith}
use Rattle.formatting.proofs.ActLaws.{sound_closing, take_blank, take_again, take_end}
use Rattle.formatting.proofs.bytes.take_space.Goals as goal

pub owe-requires : goal.owe-requires
owe-requires c =
    ((sound_closing c.args.b c.requires.1 c.args.page c.args.line.now c.args.buffer.now c.requires.0 c.close_word-closed.result c.close_word-closed.ensures).slight, omega arith)

pub returns-then-b-eq32 : goal.returns-then-b-eq32
returns-then-b-eq32 c =
    take_blank c.args.b c.requires.1 c.args.page c.args.line.now c.args.buffer.now c.requires.0 c.close_word-closed.result c.close_word-closed.ensures
    c.owe.result c.if-b-eq32.true c.owe.ensures

pub returns-then-b-page : goal.returns-then-b-page
returns-then-b-page c =
    take_again c.args.b c.requires.1 c.args.page c.args.line.now c.args.buffer.now c.requires.0 c.close_word-closed.result c.close_word-closed.ensures c.if-b-eq32.false c.if-b-page.true

pub end_lines-next-requires : goal.end_lines-next-requires
end_lines-next-requires c =
    (sound_closing c.args.b c.requires.1 c.args.page c.args.line.now c.args.buffer.now c.requires.0 c.close_word-closed.result c.close_word-closed.ensures, omega arith)

pub returns : goal.returns
returns c =
    take_end c.args.b c.requires.1 c.args.page c.args.line.now c.args.buffer.now c.requires.0 c.close_word-closed.result c.close_word-closed.ensures c.if-b-eq32.false c.if-b-page.false
    c.end_lines-next.result _ c.end_lines-next.ensures.value c.end_lines-next.ensures.wrote
