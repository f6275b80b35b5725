-- Rests on the laws of a set without its lowest place: what is gathered, with what a step gathers of the places that are left, is the whole at each turn.
use Prim.Native.Nat.{ℕ, ◌-◌, ◌^◌, ◌<◌}
use mathlib.Core.Path.{◌≡◌, sym, ap, ap₂, ◌∙◌}
use mathlib.Core.Bool.{Bool}
use lib.Bits.{bit_and, and_le_r}
use lib.Count.{count_trailing_zeros, trailing_le}
use lib.ListN.{length}
use native.Mathlib.Omega.{arith}
use Rattle.structure.specs.Engine.{entry, join, gathered}
use Rattle.structure.proofs.LowestLaws.{without_lowest, without_hit, without_other, without_past, join_none, nothing_left}
use Rattle.structure.proofs.walking.step.Goals.{then-p-rows+then-rows-p, then-p-rows+else-rows-p, else-p-rows}
use Rattle.structure.proofs.walking.step.Goals as goal

pub overflow_cast-p : goal.overflow_cast-p
overflow_cast-p c = let z = trailing_le 64 c.loop-rest.rest in omega arith

pub loop-rest-smaller : goal.loop-rest-smaller
loop-rest-smaller c = let l = c.loop-rest in let z = and_le_r l.rest (l.rest - 1) in omega arith

pub loop-rest-preserved : goal.loop-rest-preserved
loop-rest-preserved c =
    let a = c.args in
    let names = a.rows.names.now in
    let follow = a.rows.follow.now in
    let x = c.loop-rest.rest in
    let p = count_trailing_zeros 64 x in
    let y = bit_and x (x - 1) in
    let n = length names in
    let left = gathered names follow a.rows.last y a.name n in
    let h : x < 2 ^ 64 = omega arith in
    let w = without_lowest 64 x (omega arith) h in
    let z = and_le_r x (x - 1) in (
      omega arith,
      elim c.if-p-rows.branch [
        | then-p-rows+then-rows-p v ↦ ap₂ (λ (m : ℕ) (e : Bool). join (entry m e) left) v.next-is v.ends-is
            ∙ without_hit names follow a.rows.last a.name x p y n c.loop-rest.next c.loop-rest.ends w v.if-p-rows.true v.if-rows-p.true
        | then-p-rows+else-rows-p v ↦ ap₂ (λ (m : ℕ) (e : Bool). join (entry m e) left) v.next-is v.ends-is
            ∙ ap (join (entry c.loop-rest.next c.loop-rest.ends)) (without_other names follow a.rows.last a.name x p y n w v.if-rows-p.false)
        | else-p-rows v ↦ ap₂ (λ (m : ℕ) (e : Bool). join (entry m e) left) v.next-is v.ends-is
            ∙ ap (join (entry c.loop-rest.next c.loop-rest.ends))
            (without_past names follow a.rows.last a.name x p y n w (let o = v.if-p-rows.false in omega arith))
      ]
          ∙ c.loop-rest.invariant.1,
    )

pub returns : goal.returns
returns c =
    let a = c.args in
    let n = length a.rows.names.now in
    let z : c.loop-rest.rest ≡ 0 = omega arith in
    sym (nothing_left a.rows.names.now a.rows.follow.now a.rows.last a.name n c.loop-rest.next c.loop-rest.ends)
    ∙ ap (λ (x : ℕ). join (entry c.loop-rest.next c.loop-rest.ends) (gathered a.rows.names.now a.rows.follow.now a.rows.last x a.name n)) (sym z)
    ∙ c.loop-rest.invariant.1

pub loop-rest-init : goal.loop-rest-init
loop-rest-init c = (omega arith, join_none _)
