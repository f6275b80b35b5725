-- Rests on the laws of marks: the lowest ends the leaf, and the others are left when it is taken away.
use Prim.Native.Nat.{ℕ, ◌<◌, ◌+◌, ◌-◌}
use mathlib.Core.Path.{refl}
use mathlib.Core.List.{List}
use lib.Bits.{and_le_r}
use lib.Count.{count_trailing_zeros}
use native.Mathlib.Omega.{arith}
use Rattle.leaves.specs.Walks.{Ends, Reached, begins}
use Rattle.leaves.proofs.TurnLaws.{all_left, left_none, left_behind, end_low, end_ends, end_reached}
use Rattle.leaves.proofs.walking.list_block.Goals.{In-loop-bits}
use Rattle.leaves.proofs.walking.list_block.Goals as goal

abbrev m : (c : In-loop-bits) → List ℕ
m c = c.args.message.now

low : (c : In-loop-bits) → count_trailing_zeros 64 c.loop-bits.bits < 48
low c = end_low (m c) _ _ c.args.place c.loop-bits.bits c.loop-bits.invariant.0 c.loop-bits-test.true

ends_there : (c : In-loop-bits) → Ends (m c) (c.args.place + count_trailing_zeros 64 c.loop-bits.bits)
ends_there c = end_ends (m c) _ _ c.args.place c.loop-bits.bits c.loop-bits.invariant.0 c.loop-bits-test.true

comes-there : (c : In-loop-bits) → Reached (m c) c.loop-bits.here.address (begins c.loop-bits.here.address c.loop-bits.here.start) (c.args.place + count_trailing_zeros 64 c.loop-bits.bits)
comes-there c = end_reached (m c) _ _ c.args.place c.loop-bits.bits c.loop-bits.invariant.0 c.loop-bits-test.true

pub loop-bits-smaller : goal.loop-bits-smaller
loop-bits-smaller c =
    let b = c.loop-bits.bits in
    let h = and_le_r b (b - 1) in
    omega (arith, c.loop-bits-test.true)

pub loop-bits-preserved : goal.loop-bits-preserved
loop-bits-preserved c =
    let q = c.turn-here in (
      left_behind (m (goal.at.loop-bits-preserved c).In-loop-bits) _ _ c.args.place c.loop-bits.bits c.loop-bits.invariant.0 c.loop-bits-test.true _ _ q.ensures.stands.0,
      q.ensures.stands.1,
      (λ W d₀ w. q.ensures.writes W d₀ (c.loop-bits.invariant.2 W d₀ w)),
      omega (arith, c.loop-bits.invariant.3),
      q.ensures.stands.2,
    )

pub returns-clause-stands : goal.returns-clause-stands
returns-clause-stands c =
    let bytes = c.args.message.now in (left_none bytes _ _ c.args.place c.loop-bits.bits c.loop-bits.invariant.0 c.loop-bits-test.false, c.loop-bits.invariant.1, c.loop-bits.invariant.4)

pub returns-clause-writes : goal.returns-clause-writes
returns-clause-writes c =
    let bytes = c.args.message.now in c.loop-bits.invariant.2

pub loop-bits-init : goal.loop-bits-init
loop-bits-init c = let p = c.requires in (all_left _ _ _ _ _ p.0 p.1.0, p.1.1, (λ W d₀ w. w), refl, p.1.2)

pub overflow_cast-n : goal.overflow_cast-n
overflow_cast-n c = let k = low (goal.at.overflow_cast-n c).In-loop-bits in omega arith

pub overflow_add-place : goal.overflow_add-place
overflow_add-place c = let k = (ends_there (goal.at.overflow_add-place c).In-loop-bits).0 in omega arith

pub turn-here-requires : goal.turn-here-requires
turn-here-requires c = (ends_there (goal.at.turn-here-requires c).In-loop-bits, (comes-there (goal.at.turn-here-requires c).In-loop-bits, c.loop-bits.invariant.1, c.loop-bits.invariant.4), c.requires.2, c.requires.3)

pub overflow_sub-bits : goal.overflow_sub-bits
overflow_sub-bits c = let k = c.loop-bits-test.true in omega (arith, k)
