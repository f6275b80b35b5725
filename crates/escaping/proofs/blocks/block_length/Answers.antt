-- Rests on the laws of what is left to write: what was counted and the length of the rest, at each turn; and on five bytes being the most for one.
use Prim.Native.Nat.{◌≤◌, ◌+◌, ◌*◌}
use mathlib.Core.Path.{◌≡◌}
use lib.ListN.{length, get_or, drop}
use native.Mathlib.Omega.{arith}
use Rattle.escaping.specs.Escape.{escape_bytes}
use Rattle.escaping.proofs.PieceLaws.{length_next, length_end}
use Rattle.escaping.proofs.OutcomeLaws.{byte_most}
use Rattle.escaping.proofs.blocks.block_length.Goals.{After-written_length-n}
use Rattle.escaping.proofs.blocks.block_length.Goals as goal

-- the sum behind one byte more
summed : (c : After-written_length-n)
    → let a = c.args in
    let n = c.loop-b.n + c.written_length-n.result in
    let next = c.loop-b.b-index + 1 in
    (n ≤ 5 * next) × (length (escape_bytes a.delimiters.bytes a.block.now) ≡ n + length (escape_bytes a.delimiters.bytes (drop next a.block.now)))
summed c =
    let a = c.args in
    let s = a.block.now in
    let i = c.loop-b.b-index in
    let m = byte_most a.delimiters.bytes (get_or s i 0) in
    let n = length_next a.delimiters.bytes s i (omega arith) in
    let p = c.written_length-n.ensures in
    (omega arith, omega arith)

pub overflow_add-n : goal.overflow_add-n
overflow_add-n c =
    let h = (summed c).0 in
    let k = c.requires in
    omega arith

pub loop-b-preserved : goal.loop-b-preserved
loop-b-preserved c = summed c

pub returns : goal.returns
returns c =
    let a = c.args in
    let n = length_end a.delimiters.bytes a.block.now c.loop-b.b-index (omega arith) in
    omega (arith, c.from.ensures)
