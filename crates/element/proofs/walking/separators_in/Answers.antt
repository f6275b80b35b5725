-- Rests on the laws of how many parts there are: those of the rest, and one more for each separator so far.
use Prim.Native.Nat.{ℕ, ◌≤◌, ◌+◌}
use mathlib.Core.Path.{ap, ◌∙◌}
use mathlib.Core.List.{List}
use lib.ListN.{length, drop, drop_of_length-le}
use native.Mathlib.Omega.{arith}
use Rattle.alphabet.specs.Parts.{split}
use Rattle.alphabet.proofs.ListLaws.{drop_next}
use Rattle.alphabet.proofs.PartLaws.{split_nothing}
use Rattle.element.proofs.StartLaws.{count_at, count_past}
use Rattle.element.proofs.walking.separators_in.Goals.{else-b-separator, then-b-separator}
use Rattle.element.proofs.walking.separators_in.Goals as goal

pub loop-b-init : goal.loop-b-init
loop-b-init c = (c.requires, omega arith, omega arith)

pub loop-b-preserved : goal.loop-b-preserved
loop-b-preserved c =
    let a = c.args in
    let s = a.block.now in
    let i = c.loop-b.b-index in
    let n = c.loop-b.invariant.1 in
    let k = c.loop-b.invariant.2 in
    let next = ap (λ (x : List ℕ). length (split a.separator x)) (drop_next s i (omega arith)) in
    elim c.if-b-separator.branch [ then-b-separator w ↦ let e = w.count-is in let l = next ∙ count_at a.separator _ (drop (i + 1) s) w.if-b-separator.true in (c.loop-b.invariant.0, omega arith, omega arith) | else-b-separator w ↦ let e = w.count-is in let l = next ∙ count_past a.separator _ (drop (i + 1) s) w.if-b-separator.false in (c.loop-b.invariant.0, omega arith, omega arith) ]

pub overflow_add-count : goal.overflow_add-count
overflow_add-count c = let n = c.loop-b.invariant.1 in let m = c.loop-b.invariant.0 in omega arith

pub returns : goal.returns
returns c =
    let a = c.args in
    let h : length a.block.now ≤ c.loop-b.b-index = omega arith in
    let k = c.loop-b.invariant.2 in
    let z = ap (λ (x : List ℕ). length (split a.separator x)) (drop_of_length-le a.block.now h) ∙ ap length (split_nothing a.separator) in
    omega arith
