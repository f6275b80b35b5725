-- Rests on `eight_pasted`: numbers that are set one behind another.
use lib.ListN.{length-set}
use native.Mathlib.Omega.{arith}
use Rattle.leaves.proofs.RowLaws.{eight_pasted}
use Rattle.leaves.proofs.walking.put_row.Goals as goal

pub bounds-buffer-at-2 : goal.bounds-buffer-at-2
bounds-buffer-at-2 c = simp length-set (omega arith)

pub bounds-buffer-at-3 : goal.bounds-buffer-at-3
bounds-buffer-at-3 c = simp length-set (omega arith)

pub bounds-buffer-at-4 : goal.bounds-buffer-at-4
bounds-buffer-at-4 c = simp length-set (omega arith)

pub bounds-buffer-at-5 : goal.bounds-buffer-at-5
bounds-buffer-at-5 c = simp length-set (omega arith)

pub bounds-buffer-at-6 : goal.bounds-buffer-at-6
bounds-buffer-at-6 c = simp length-set (omega arith)

pub bounds-buffer-at-7 : goal.bounds-buffer-at-7
bounds-buffer-at-7 c = simp length-set (omega arith)

pub bounds-buffer-at-8 : goal.bounds-buffer-at-8
bounds-buffer-at-8 c = simp length-set (omega arith)

pub returns : goal.returns
returns c = eight_pasted c.args.buffer.now c.args.at _ _ _ _ _ _ _ _ c.requires
