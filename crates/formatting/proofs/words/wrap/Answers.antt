-- Rests on a line that is ended, and a word that goes to the next.
use mathlib.Core.Path.{ap, ◌∙◌}
use Prim.Native.Nat.{ℕ, ◌+◌}
use native.Mathlib.Omega.{arith}
use Rattle.formatting.proofs.EndLaws.{wraps_none, wraps_some, from_small}
use Rattle.formatting.proofs.words.wrap.Goals as goal

pub returns-then-page-eq0 : goal.returns-then-page-eq0
returns-then-page-eq0 c =
    wraps_none c.args.page c.end_lines-next.result c.args.line.now c.args.buffer.now c.args.line.now _ c.requires.0 c.requires.1
    c.end_lines-next.ensures.value c.end_lines-next.ensures.wrote c.requires.0.broad c.if-page-eq0.true

pub overflow_add-from : goal.overflow_add-from
overflow_add-from c =
    let e = c.lead-lead.ensures in
    let l = c.requires.0.slight.line in
    let z = (from_small c.args.page c.requires.0.slight).0 in
    omega arith

pub move_word-requires : goal.move_word-requires
move_word-requires c =
    let e = c.lead-lead.ensures in
    let z = (from_small c.args.page c.requires.0.slight).1 (let n = c.if-page-eq0.false in omega arith) in
    (omega arith, c.requires.1, c.requires.0.broad)

pub returns : goal.returns
returns c =
    wraps_some c.args.page c.end_lines-next.result c.args.line.now c.args.buffer.now c.move_word.new.line _ c.requires.0 c.requires.1
    c.end_lines-next.ensures.value c.end_lines-next.ensures.wrote (c.move_word.auto.line ∙ c.requires.0.broad) _
    (ap (λ (n : ℕ). c.args.page.line + n) c.lead-lead.ensures) c.move_word.ensures
