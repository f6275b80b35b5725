-- Rests on the laws of the delimiter at each place: the first wrong one is `i` and the first wrong one from there, at each turn.
use mathlib.Core.Path.{sym, ◌∙◌}
use native.Mathlib.Omega.{arith}
use native.Mathlib.Nat.{zero-add}
use Rattle.alphabet.specs.Delimiters.{first_wrong_delimiter}
use Rattle.alphabet.proofs.DelimiterLaws.{wrong_not_permitted, right, wrong_here, wrong_past, wrong_end}
use Rattle.alphabet.proofs.delimiters.first_wrong_delimiter.Goals as goal

pub loop-i-init : goal.loop-i-init
unfolding first_wrong_delimiter
loop-i-init c = sym (zero-add _)

pub returns-then-not-is_permitted : goal.returns-then-not-is_permitted
returns-then-not-is_permitted c =
    let ds = c.args.delimiters.bytes in
    let p = sym c.is_permitted.ensures ∙ c.if-not-is_permitted.true in
    let z = wrong_here ds c.loop-i.i (omega arith) (wrong_not_permitted ds c.loop-i.i p) in
    omega arith

pub loop-i-preserved : goal.loop-i-preserved
loop-i-preserved c =
    let ds = c.args.delimiters.bytes in
    let p = sym c.is_permitted.ensures ∙ c.if-not-is_permitted.false in
    let z = wrong_past ds c.loop-i.i (omega arith) (right ds c.loop-i.i p (omega arith)) in
    omega arith

pub returns : goal.returns
returns c =
    let z = wrong_end c.args.delimiters.bytes c.loop-i.i (omega arith) in
    omega arith
