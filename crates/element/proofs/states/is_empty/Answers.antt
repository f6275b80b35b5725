-- Rests on the laws of `first`: the first byte that is no separator is `i` and the first in the rest, at each turn.
use mathlib.Core.Path.{sym}
use lib.ListN.{length, get_or}
use native.Mathlib.Nat.{zero-add}
use borrow.Author.Tests.{eq-eqb, ne_eqb}
use Rattle.alphabet.specs.Lists.{first}
use Rattle.alphabet.proofs.ListLaws.{first_here, first_past, first_end}
use native.Mathlib.Omega.{arith}
use Rattle.element.proofs.states.is_empty.Invariants.{other}
use Rattle.element.proofs.states.is_empty.Goals as goal

pub returns-then-not-separator : goal.returns-then-not-separator
returns-then-not-separator c =
    let a = c.args in
    let ds = a.delimiters.bytes in
    let z = first_here (other (get_or ds 1 0) (get_or ds 2 0) (get_or ds 4 0)) a.bytes.now c.loop-b.b-index (omega arith) c.if-not-separator.true-raw in
    sym (ne_eqb (first (other (get_or ds 1 0) (get_or ds 2 0) (get_or ds 4 0)) a.bytes.now) (length a.bytes.now) (λ e. omega arith))

pub loop-b-preserved : goal.loop-b-preserved
loop-b-preserved c =
    let a = c.args in
    let ds = a.delimiters.bytes in
    let z = first_past (other (get_or ds 1 0) (get_or ds 2 0) (get_or ds 4 0)) a.bytes.now c.loop-b.b-index (omega arith) c.if-not-separator.false-raw in
    (omega arith, omega arith)

pub returns : goal.returns
returns c =
    let a = c.args in
    let ds = a.delimiters.bytes in
    let z = first_end (other (get_or ds 1 0) (get_or ds 2 0) (get_or ds 4 0)) a.bytes.now c.loop-b.b-index (omega arith) in
    sym (eq-eqb (first (other (get_or ds 1 0) (get_or ds 2 0) (get_or ds 4 0)) a.bytes.now) (length a.bytes.now) (omega arith))

pub loop-b-init : goal.loop-b-init
loop-b-init c = (omega arith, sym (zero-add _))
