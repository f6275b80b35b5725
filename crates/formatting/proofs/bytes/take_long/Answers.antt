-- Rests on bytes behind bytes: those before a place have been taken, at each turn.
use Prim.Native.Nat.{ℕ, ◌+◌, ◌-◌}
use mathlib.Core.List.{map, ◌++◌}
use mathlib.Core.Path.{◌≡◌, sym, ap, subst, ◌∙◌}
use native.Mathlib.Numerals.{add-one}
use native.Mathlib.Omega.{arith}
use lib.ListN.{take, drop, length-drop, take-append-drop}
use lib.Seq.{take-add, take-suc, take_all, length-take-le}
use Rattle.format_commands.specs.Items.{byte}
use Rattle.formatting.specs.Pages.{Follows}
use Rattle.formatting.proofs.PageLaws.{follows_none, follows_bytes, follows_spoilt}
use Rattle.formatting.proofs.RunLaws.{clear_drop, clear_take}
use Rattle.formatting.proofs.bytes.take_long.Goals as goal

pub loop-i-init : goal.loop-i-init
loop-i-init c = (omega arith, follows_none c.requires.0)

pub reach-reach-requires : goal.reach-reach-requires
reach-reach-requires c = c.loop-i.invariant.1.sound.slight

pub take_byte-p-requires : goal.take_byte-p-requires
take_byte-p-requires c = c.loop-i.invariant.1.sound

pub loop-i-preserved-then-reach-ge-WIDTH : goal.loop-i-preserved-then-reach-ge-WIDTH
loop-i-preserved-then-reach-ge-WIDTH c =
    let l = c.loop-i in
    let u = c.args.run.now in
    (omega arith, follows_bytes (take l.i u) _ (take (l.i + 1) u) (sym (ap (λ (n : ℕ). take n u) (add-one l.i) ∙ take-suc u l.i 0 (omega arith))) l.invariant.1 c.take_byte-p.ensures)

pub append-p-requires : goal.append-p-requires
append-p-requires c =
    let l = c.loop-i in
    let u = c.args.run.now in
    let n = c.min.ensures in
    let e = c.reach-reach.ensures in
    let d = length-drop l.i u in
    let x = length-take-le ((l.i + c.min.result) - l.i) (drop l.i u) (omega arith) in
    (l.invariant.1.sound, omega arith, omega arith, clear_take ((l.i + c.min.result) - l.i) (drop l.i u) (clear_drop l.i u c.requires.1))

pub loop-i-preserved : goal.loop-i-preserved
loop-i-preserved c =
    let l = c.loop-i in
    let u = c.args.run.now in
    let n = c.min.result in
    let m = c.min.ensures in
    let e : n ≡ (l.i + n) - l.i = omega arith in
    (omega arith, follows_bytes (take l.i u) _ (take (l.i + n) u) (sym (take-add l.i n u ∙ ap (λ (k : ℕ). take l.i u ++ take k (drop l.i u)) e)) l.invariant.1 c.append-p.ensures)

pub returns-then-p : goal.returns-then-p
returns-then-p c =
    let l = c.loop-i in
    let u = c.args.run.now in
    follows_bytes (take l.i u) (drop l.i u) u (take-append-drop l.i u) l.invariant.1 (follows_spoilt (map byte (drop l.i u)) l.invariant.1.sound c.if-p.true)

pub returns : goal.returns
returns c =
    let l = c.loop-i in
    let a = c.args in
    let u = a.run.now in
    subst (λ v. Follows (map byte v) a.page a.line.now a.buffer.now l.p l.line l.buffer) (take_all l.i u (omega arith)) l.invariant.1

pub overflow_add-end : goal.overflow_add-end
overflow_add-end c = omega (arith, c.min.ensures)

pub slice_bounds-append-count : goal.slice_bounds-append-count
slice_bounds-append-count c = omega (arith, c.min.ensures)

pub slice_bounds-append-start : goal.slice_bounds-append-start
slice_bounds-append-start c = omega (arith, c.min.ensures)

pub slice_bounds-append-end : goal.slice_bounds-append-end
slice_bounds-append-end c = omega (arith, c.min.ensures)

pub loop-i-smaller : goal.loop-i-smaller
loop-i-smaller c = omega (arith, c.min.ensures)
