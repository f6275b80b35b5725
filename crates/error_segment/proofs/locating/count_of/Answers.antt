-- Rests on the count of the names that are left, at each turn.
use mathlib.Core.Path.{sym, ap, ◌∙◌}
use Prim.Native.Nat.{ℕ, ◌+◌}
use native.Mathlib.Nat.{zero-add}
use native.Mathlib.Omega.{arith}
use lib.ListN.{drop, drop_of_length-le}
use Rattle.error_segment.specs.Errors.{count_of}
use Rattle.error_segment.proofs.LocateLaws.{count_nil, turn_hit, turn_miss}
use Rattle.error_segment.proofs.locating.count_of.Goals.{else-known-name, then-known-name}
use Rattle.error_segment.proofs.locating.count_of.Goals as goal

pub loop-known-init : goal.loop-known-init
loop-known-init c = (omega arith, sym (zero-add _))

pub loop-known-preserved : goal.loop-known-preserved
loop-known-preserved c =
    let a = c.args in
    let n = c.loop-known.known-index in
    let rest = count_of a.name (drop (n + 1) a.names.now) in (
      elim c.if-known-name.branch [ then-known-name w ↦ let q = w.count-is in omega arith | else-known-name w ↦ let q = w.count-is in omega arith ],
      elim c.if-known-name.branch [ then-known-name w ↦ turn_hit a.name n c.loop-known.count a.names.now (omega arith) c.loop-known.invariant.1 w.if-known-name.true ∙ ap (λ (k : ℕ). k + rest) (sym w.count-is) | else-known-name w ↦ turn_miss a.name n c.loop-known.count a.names.now (omega arith) c.loop-known.invariant.1 w.if-known-name.false ∙ ap (λ (k : ℕ). k + rest) (sym w.count-is) ],
    )

pub returns : goal.returns
returns c =
    let a = c.args in
    let z = ap (count_of a.name) (drop_of_length-le a.names.now {i = c.loop-known.known-index} (omega arith)) ∙ count_nil a.name in
    let h = c.loop-known.invariant.1 in
    omega arith
