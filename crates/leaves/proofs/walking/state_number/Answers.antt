-- Rests on what the branches say of the bytes: a name, none, no quote in front, two quotes, or others.
use mathlib.Core.Path.{◌≡◌, sym, ap, ◌∙◌}
use mathlib.Core.Bool.{◌&&◌}
use Prim.Native.Nat.{ℕ, ◌<◌, ◌+◌}
use lib.Dec.{eqb}
use lib.ListN.{get_or}
use native.Mathlib.Omega.{arith}
use Rattle.leaves.proofs.RowLaws.{state_none, state_unquoted, state_quotes, state_quoted, state_leaf, state_name}
use Rattle.leaves.proofs.walking.state_number.Goals.{After-byte_at-second}
use Rattle.leaves.proofs.walking.state_number.Goals as goal

pub returns-then-start-end-2 : goal.returns-then-start-end-2
returns-then-start-end-2 c =
    let a = c.args in
    state_leaf a.message.now a.start a.end 1 (omega arith) (state_none a.message.now a.start a.end c.if-start-end-2.true)

pub returns-then-start-end : goal.returns-then-start-end
returns-then-start-end c =
    let a = c.args in
    state_name a.message.now a.start a.end (omega (arith, c.if-start-end-2.false))

pub returns-then-message-start-ne34 : goal.returns-then-message-start-ne34
returns-then-message-start-ne34 c =
    let a = c.args in
    let h : a.start < a.end = omega arith in
    state_leaf a.message.now a.start a.end 3 (omega arith) (state_unquoted a.message.now a.start a.end (omega arith) c.requires (λ z. omega arith) c.if-message-start-ne34.true)

-- what was asked, of the message's own second byte
asked : (c : After-byte_at-second) → (eqb (c.args.start + 2) c.args.end && eqb c.byte_at-second.result 34) ≡ (eqb (c.args.start + 2) c.args.end && eqb (get_or c.args.message.now (c.args.start + 1) 0) 34)
asked c =
    ap (λ (x : ℕ). eqb (c.args.start + 2) c.args.end && eqb x 34) c.byte_at-second.ensures

pub returns-then-start-end-3 : goal.returns-then-start-end-3
returns-then-start-end-3 c =
    let a = c.args in
    let h : a.start < a.end = omega arith in
    state_leaf a.message.now a.start a.end 2 (omega arith)
    (state_quotes a.message.now a.start a.end (omega arith) c.requires (λ z. omega arith) c.if-message-start-ne34.false (sym (asked (goal.at.returns-then-start-end-3 c).After-byte_at-second) ∙ c.if-start-end-3.true))

pub returns : goal.returns
returns c =
    let a = c.args in
    let h : a.start < a.end = omega arith in
    state_leaf a.message.now a.start a.end 3 (omega arith)
    (state_quoted a.message.now a.start a.end (omega arith) c.requires (λ z. omega arith) c.if-message-start-ne34.false (sym (asked (goal.at.returns c).After-byte_at-second) ∙ c.if-start-end-3.false))
