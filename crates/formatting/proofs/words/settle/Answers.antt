-- Rests on the parts of a run: words, blanks, and the word that is left.
use Prim.Native.Nat.{◌-◌}
use mathlib.Core.Path.{sym}
use native.Mathlib.Omega.{arith}
use lib.Seq.{length-take-le}
use Rattle.formatting.proofs.SettleLaws.{settled_word, settled_blank, settled_words}
use Rattle.formatting.proofs.words.settle.Goals as goal

pub returns-then-start-eq0 : goal.returns-then-start-eq0
returns-then-start-eq0 c =
    let w = c.last_word-start.ensures in
    settled_word c.args.page c.args.bytes.now c.requires.2 c.last_word-start.result w.0 w.1 c.if-start-eq0.true

pub slice_bounds-trimmed-end : goal.slice_bounds-trimmed-end
slice_bounds-trimmed-end c =
    let w = c.last_word-start.ensures.0 in
    sym (length-take-le _ c.args.bytes.now (omega arith))

pub overflow_add-end : goal.overflow_add-end
overflow_add-end c =
    let t = c.trimmed-end.ensures.0 in
    let w = c.last_word-start.ensures.0 in
    let l = length-take-le (c.last_word-start.result - 1) c.args.bytes.now (omega arith) in
    let h = c.requires.1 in
    omega arith

pub returns-then-end-page-eq0 : goal.returns-then-end-page-eq0
returns-then-end-page-eq0 c =
    let w = c.last_word-start.ensures in
    let t = c.trimmed-end.ensures in
    settled_blank c.args.page c.args.bytes.now c.requires.2 c.last_word-start.result w.0 w.1
    c.trimmed-end.result c.if-start-eq0.false w.2 t.0 t.2 c.if-end-page-eq0.true

pub overflow_add-page-2 : goal.overflow_add-page-2
overflow_add-page-2 c =
    let t = c.trimmed-end.ensures.0 in
    let w = c.last_word-start.ensures.0 in
    let l = length-take-le (c.last_word-start.result - 1) c.args.bytes.now (omega arith) in
    let r = c.reach-reach.ensures in
    let h = c.requires.1 in
    omega arith

pub overflow_sub-page-2 : goal.overflow_sub-page-2
overflow_sub-page-2 c =
    let t = c.trimmed-end.ensures.0 in
    let w = c.last_word-start.ensures.0 in
    let l = length-take-le (c.last_word-start.result - 1) c.args.bytes.now (omega arith) in
    omega arith

pub returns : goal.returns
returns c =
    let w = c.last_word-start.ensures in
    let t = c.trimmed-end.ensures in
    settled_words c.args.page c.args.bytes.now c.requires.2 c.last_word-start.result w.0 w.1
    c.trimmed-end.result c.if-start-eq0.false w.2 t.0 t.2 c.if-end-page-eq0.false t.1 c.reach-reach.result c.reach-reach.ensures
