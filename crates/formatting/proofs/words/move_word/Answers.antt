-- Rests on the bytes of a word that was kept.
use mathlib.Core.Path.{◌≡◌, sym, ap, ◌∙◌}
use Prim.Native.Nat.{◌+◌, ◌-◌}
use native.Mathlib.Omega.{arith}
use lib.ListN.{length, take, drop, length-drop}
use lib.Seq.{length-take-le}
use borrow.Author.Rules.{rules}
use Rattle.alphabet.specs.Filling.{put_at}
use Rattle.formatting.proofs.EndLaws.{kept_part, moved_word}
use Rattle.formatting.proofs.words.move_word.Goals as goal

pub slice_bounds-put-end-3 : goal.slice_bounds-put-end-3
slice_bounds-put-end-3 c =
    let n : length c.put.new.buffer ≡ 200 = search rules in
    sym (length-take-le c.args.word c.put.new.buffer (omega arith))

pub returns : goal.returns
returns c =
    let l = c.args.line.now in
    let d = length-drop c.args.from l in
    let b = c.requires.2 in
    let x = length-take-le c.args.word (drop c.args.from l) (omega arith) in
    moved_word l (take c.args.word (drop c.args.from l)) c.fill.new.buffer c.put-2.new.buffer c.args.n b (omega arith) c.fill.ensures
    (c.put-2.ensures.buffer_after ∙ ap (put_at c.fill.new.buffer c.args.n) (kept_part _ l c.put.new.buffer c.args.from c.args.word ((c.args.from + c.args.word) - c.args.from) (omega arith) (omega arith) (let k = c.empty_line-kept.ensures in omega arith) c.put.ensures.buffer_after))
