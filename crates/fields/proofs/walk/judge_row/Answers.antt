-- Rests on what a row begun and one repetition on ensure: what is left, at each turn, is the check of the whole row.
use mathlib.Core.Path.{◌≡◌, ap, ◌∙◌, subst}
use mathlib.Core.Bool.{Bool, cond}
use lib.ListN.{get_or, take, drop}
use Prim.Native.Nat.{◌-◌}
use borrow.Author.Tests.{lt-leb}
use native.Mathlib.Omega.{arith}
use Rattle.std.proofs.lemmas.Result.{err_from_is_err_and}
use Rattle.alphabet.specs.Answers.{in_order, passes, Refusable}
use Rattle.alphabet.specs.Parts.{split}
use Rattle.rules.specs.Rules.{repetition_checks}
use Rattle.fields.specs.Walk.{Begins, Begun, Steps, Stepped, left_of}
use Rattle.fields.specs.declared.walk.Turn.{Turn}
use Rattle.fields.proofs.walk.judge_row.Goals.{In_ok-turn, In_ok-turn-2}
use Rattle.fields.proofs.walk.judge_row.Goals as goal

-- the row as it was begun
begun : (c : In_ok-turn) → let a = c.args in Begun a.delimiters.bytes a.segment.now a.number a.row c.in_ok-turn.turn
begun c = let a = c.args in subst (λ (r : Refusable Turn). Begins a.delimiters.bytes a.segment.now a.number a.row r) c.in_ok-turn.was c.begin_row.ensures

-- one repetition on
stepped : (c : In_ok-turn-2) → let a = c.args in Stepped a.delimiters.bytes a.segment.now c.loop-turn.turn c.in_ok-turn-2.turn
stepped c = let a = c.args in subst (λ (r : Refusable Turn). Steps a.delimiters.bytes a.segment.now c.loop-turn.turn r) c.in_ok-turn-2.was c.next_repetition.ensures

pub returns-in_err-turn : goal.returns-in_err-turn
returns-in_err-turn c =
    let a = c.args in
    let p = err_from_is_err_and c.from_residual.result c.from_residual.ensures.1 in
    rw (p.1, p.2) (subst (λ (r : Refusable Turn). Begins a.delimiters.bytes a.segment.now a.number a.row r) c.in_err-turn.was c.begin_row.ensures)

pub returns-in_err-turn-2 : goal.returns-in_err-turn-2
returns-in_err-turn-2 c =
    let a = c.args in
    let p = err_from_is_err_and c.from_residual-in_err-turn-2.result c.from_residual-in_err-turn-2.ensures.1 in
    rw (p.1, p.2) (c.loop-turn.invariant.3 ∙ subst (λ (r : Refusable Turn). Steps a.delimiters.bytes a.segment.now c.loop-turn.turn r) c.in_err-turn-2.was c.next_repetition.ensures)

pub returns : goal.returns
returns c =
    let a = c.args in
    let t = c.loop-turn.turn in
    let none : left_of a.delimiters.bytes a.segment.now t ≡ passes =
    ap (λ (x : Bool). cond x (in_order (repetition_checks a.delimiters.bytes t.component t.kind t.repetition (split (get_or a.delimiters.bytes 2 0) (take (t.end - t.start) (drop t.start a.segment.now))))) passes) (lt-leb t.start t.end c.loop-turn-test.false) in
    ((begun (goal.at.returns c).In_ok-turn).stands, c.loop-turn.invariant.3 ∙ none)

pub next_repetition-requires : goal.next_repetition-requires
next_repetition-requires c =
    record { ordered = c.loop-turn-test.true; inside = c.loop-turn.invariant.1; counted = c.loop-turn.invariant.2; room = c.requires.1 }

pub loop-turn-preserved : goal.loop-turn-preserved
loop-turn-preserved c =
    let s = stepped (goal.at.loop-turn-preserved c).In_ok-turn-2 in
    let e = s.same_end in
    let i = c.loop-turn.invariant.1 in
    (s.most, omega arith, s.counted, c.loop-turn.invariant.3 ∙ s.asks)

pub loop-turn-init : goal.loop-turn-init
loop-turn-init c = let t = begun (goal.at.loop-turn-init c).In_ok-turn in (t.ordered, t.inside, t.counted, t.asks)

pub loop-turn-smaller : goal.loop-turn-smaller
loop-turn-smaller c =
    let s = stepped (goal.at.loop-turn-smaller c).In_ok-turn-2 in
    let e = s.same_end in
    let f = s.forward in
    let m = s.most in
    omega arith

pub begin_row-requires : goal.begin_row-requires
begin_row-requires c = c.requires
