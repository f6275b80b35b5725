-- Rests on what each byte writes, one behind another, and on `rest_over`: behind the last none is left.
use Prim.Native.Nat.{ℕ}
use mathlib.Core.Path.{◌≡◌, refl, subst}
use mathlib.Core.List.{List}
use lib.ListN.{length}
use native.Mathlib.Omega.{arith}
use Rattle.leaves.specs.Walks.{Written, Reached, begins}
use Rattle.leaves.proofs.HeaderLaws.{rest_over}
use Rattle.leaves.proofs.walking.list_few.Goals as goal

pub loop-i-preserved : goal.loop-i-preserved
loop-i-preserved c =
    let q = c.step-here in
    (omega arith, q.ensures.stands, (λ W d₀ w. q.ensures.writes W d₀ (c.loop-i.invariant.2 W d₀ w)), omega (arith, c.loop-i.invariant.3))

pub returns : goal.returns
returns c =
    let m = c.args.message.now in
    let k = c.loop-i.invariant.0 in
    let e : c.loop-i.i ≡ length m = omega arith in
    let s = begins c.loop-i.here.address c.loop-i.here.start in
    let z = rest_over m c.requires.3 c.loop-i.here.address s (subst (Reached m c.loop-i.here.address s) e c.loop-i.invariant.1.0) in
    λ W d₀ w. subst (λ (x : List ℕ). Written W d₀ x c.loop-i.buffer c.loop-i.here.at) z (c.loop-i.invariant.2 W d₀ w)

pub loop-i-init : goal.loop-i-init
loop-i-init c = (c.requires.0, c.requires.1, (λ W d₀ w. w), refl)

pub step-here-requires : goal.step-here-requires
step-here-requires c = let p = c.requires in ((omega arith), c.loop-i.invariant.1, p.2, p.3)
