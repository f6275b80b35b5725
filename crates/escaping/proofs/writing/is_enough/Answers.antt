-- Rests on a byte being written as five at most, and on `length_part`: what was counted, the length of a block and the length of the rest, at each turn.
use Prim.Native.Nat.{ℕ, ◌+◌, ◌*◌}
use mathlib.Core.Path.{◌≡◌, sym, ap, ◌∙◌}
use mathlib.Core.List.{List, []}
use lib.ListN.{length, drop, get_or}
use native.Mathlib.Omega.{arith}
use borrow.Author.Tests.{le-leb, lt-leb}
use Rattle.escaping.specs.Escape.{escape_bytes}
use Rattle.escaping.proofs.PieceLaws.{length_part, block_at}
use Rattle.escaping.proofs.OutcomeLaws.{bytes_most}
use Rattle.escaping.proofs.writing.is_enough.Goals.{After-block_length-more}
use Rattle.escaping.proofs.writing.is_enough.Goals as goal

pub returns-then-text-room : goal.returns-then-text-room
returns-then-text-room c =
    let a = c.args in
    let m = bytes_most a.delimiters.bytes a.text.now in
    sym (le-leb (length (escape_bytes a.delimiters.bytes a.text.now)) a.room (omega (arith, c.if-text-room.true)))

-- the whole length, once a block more is counted
counted : (c : After-block_length-more)
    → let a = c.args in
    length (escape_bytes a.delimiters.bytes a.text.now)
    ≡ c.loop-block.n + c.block_length-more.result + length (escape_bytes a.delimiters.bytes (drop ((c.loop-block.block-index + 1) * 32) a.text.now))
counted c =
    let a = c.args in
    let i = c.loop-block.block-index in
    let k = c.as_chunks.ensures.front_len in
    let b = ap (λ (l : List (List ℕ)). get_or l i []) c.as_chunks.ensures.front ∙ block_at 32 _ a.text.now i (omega arith) in
    let h = c.block_length-more.ensures ∙ ap (λ (l : List ℕ). length (escape_bytes a.delimiters.bytes l)) b in
    let e : i * 32 + 32 ≡ (i + 1) * 32 = omega arith in
    let p = length_part a.delimiters.bytes a.text.now (i * 32) 32 in
    let q = ap (λ (n : ℕ). length (escape_bytes a.delimiters.bytes (drop n a.text.now))) e in
    omega arith

pub returns-then-room-n : goal.returns-then-room-n
returns-then-room-n c =
    let a = c.args in
    let h = counted (goal.at.returns-then-room-n c).After-block_length-more in
    sym (lt-leb (length (escape_bytes a.delimiters.bytes a.text.now)) a.room (omega arith))

pub loop-block-preserved : goal.loop-block-preserved
loop-block-preserved c = (omega arith, counted (goal.at.loop-block-preserved c).After-block_length-more)
