-- Rests on `and_le_r`: what is added to the sevens is no more than these.
use Prim.Native.Nat.{◌*◌}
use native.Mathlib.Omega.{arith}
use lib.Bits.{bit_xor, and_le_r}
use Rattle.search.proofs.words.other_than.Goals as goal

pub overflow_add-result : goal.overflow_add-result
overflow_add-result c = let l = and_le_r (bit_xor c.args.word (c.args.b * 0x0101010101010101)) 0x7F7F7F7F7F7F7F7F in omega arith
