-- Rests on the laws of copies: so many of the bytes are in the buffer, at each turn.
use Prim.Native.Nat.{ℕ, ◌+◌}
use mathlib.Core.Path.{refl, sym, ap, ◌∙◌}
use lib.ListN.{replicate, set, length-set, length-replicate, get_or-replicate}
use lib.Seq.{paste-zero}
use native.Mathlib.Omega.{arith}
use Rattle.alphabet.proofs.FillingLaws.{put_step, put_end, put_fits, put_none}
use Rattle.formatting.proofs.writing.fill.Goals as goal

pub returns-then-buffer-at : goal.returns-then-buffer-at
returns-then-buffer-at c =
    let a = c.args in
    let z = length-replicate a.n a.b in
    sym (put_none a.buffer.now (replicate a.n a.b) a.at (omega arith)).1

pub returns-then-buffer-at-2 : goal.returns-then-buffer-at-2
returns-then-buffer-at-2 c =
    let a = c.args in
    let z = length-replicate a.n a.b in
    sym (put_none a.buffer.now (replicate a.n a.b) a.at (omega arith)).1

pub loop-i-init : goal.loop-i-init
loop-i-init c = let a = c.args in (omega arith, paste-zero a.buffer.now a.at (replicate a.n a.b), refl)

pub loop-i-preserved : goal.loop-i-preserved
loop-i-preserved c =
    let a = c.args in
    let d = a.buffer.now in
    let r = replicate a.n a.b in
    let i = c.loop-i.i in
    let z = length-replicate a.n a.b in
    let e = get_or-replicate a.n i a.b 0 (omega arith) in (
      omega arith,
      ap (λ (v : ℕ). set c.loop-i.buffer (a.at + i) v) (sym e) ∙ put_step d r c.loop-i.buffer a.at i (a.at + i) refl c.loop-i.invariant.1 (omega arith) (omega arith),
      simp length-set c.loop-i.invariant.2,
    )

pub returns : goal.returns
returns c =
    let a = c.args in
    let z = length-replicate a.n a.b in
    c.loop-i.invariant.1 ∙ put_end a.buffer.now (replicate a.n a.b) a.at c.loop-i.i (omega arith)
    ∙ sym (put_fits a.buffer.now (replicate a.n a.b) a.at (omega arith)).1
