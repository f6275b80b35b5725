-- Rests on three writings one behind another.
use mathlib.Core.Path.{sym, ap, ◌∙◌}
use mathlib.Core.Bool.{Bool, cond}
use mathlib.Core.List.{◌++◌}
use Prim.Native.Nat.{◌+◌}
use lib.ListN.{replicate, length-replicate}
use native.Mathlib.Omega.{arith}
use Rattle.alphabet.specs.Filling.{put_at}
use Rattle.alphabet.proofs.FillingLaws.{put_none}
use Rattle.formatting.specs.Sheet.{blanks}
use Rattle.formatting.proofs.OutputLaws.{put_three, line_length}
use Rattle.formatting.proofs.writing.put_line.Goals as goal

pub returns-then-not-writes : goal.returns-then-not-writes
returns-then-not-writes c =
    let a = c.args in
    let d = a.buffer.now in
    ap (λ (t : Bool). cond t (put_at d a.at (blanks a.indent ++ (a.line.now ++ replicate a.n 10))) d) (sym (c.if-not-writes.true))

pub returns-then-buffer-at : goal.returns-then-buffer-at
returns-then-buffer-at c =
    let a = c.args in
    let d = a.buffer.now in
    let n = line_length a.indent a.n a.line.now in
    let xs = blanks a.indent ++ (a.line.now ++ replicate a.n 10) in
    sym (put_none d xs a.at (omega arith)).1 ∙ ap (λ (t : Bool). cond t (put_at d a.at xs) d) (sym (c.if-not-writes.false))

pub returns : goal.returns
returns c =
    let a = c.args in
    let d = a.buffer.now in
    let n = line_length a.indent a.n a.line.now in
    let xs = blanks a.indent ++ (a.line.now ++ replicate a.n 10) in
    put_three d a.at (blanks a.indent) a.line.now (replicate a.n 10) _ _ _ (a.at + a.indent) c.put-behind.result (let h = c.if-buffer-at.false in omega arith) c.fill.ensures
    (ap (λ (i : _). a.at + i) (sym (length-replicate a.indent 32))) c.put-behind.ensures.buffer_after c.put-behind.ensures.value c.fill-2.ensures
    ∙ ap (λ (t : Bool). cond t (put_at d a.at xs) d) (sym (c.if-not-writes.false))
