-- Rests on the laws of a block: without a stop it is passed over whole, and in another the first one is found.
use Prim.Native.Nat.{ℕ, ◌*◌, ◌/◌, ◌<◌}
use mathlib.Core.List.{List}
use mathlib.Core.Path.{◌≡◌, refl, sym, subst, ap, ◌∙◌}
use lib.ListN.{length, get_or, take, drop}
use native.Mathlib.Omega.{arith}
use borrow.Author.Rules.{rules}
use Rattle.alphabet.specs.Lists.{first}
use Rattle.alphabet.specs.Bytes.{stops}
use Rattle.alphabet.proofs.BlockLaws.{chunk_at, chunk_size, chunk_clear, first_from, first_inside}
use Rattle.search.proofs.first_stop.Goals.{After-first_of_block-n}
use Rattle.search.proofs.first_stop.Goals as goal

here : (c : After-first_of_block-n) → c.loop-i.i < length c.args.bytes.now / 32
here c = subst (λ (k : ℕ). c.loop-i.i < k) c.as_chunks.ensures.front_len c.loop-i-test.true

-- what was found is the block's first stop
place : (c : After-first_of_block-n)
    → let a = c.args in
    c.first_of_block-n.result ≡ first (stops a.unprintable a.five) (take 32 (drop (c.loop-i.i * 32) a.bytes.now))
place c =
    let a = c.args in
    let l = a.bytes.now in
    let i = c.loop-i.i in
    c.first_of_block-n.ensures
    ∙ ap (first (stops a.unprintable a.five))
    (ap (λ (bs : List (List ℕ)). get_or bs i _) c.as_chunks.ensures.front ∙ chunk_at 32 (length l / 32) l i _ (here c))

pub returns-then-n-lt-BLOCK : goal.returns-then-n-lt-BLOCK
returns-then-n-lt-BLOCK c =
    let a = c.args in
    let l = a.bytes.now in
    let i = c.loop-i.i in
    let test = stops a.unprintable a.five in
    let p = place (goal.at.returns-then-n-lt-BLOCK c).After-first_of_block-n in
    let n = chunk_size 32 i (i * 32) l refl (here (goal.at.returns-then-n-lt-BLOCK c).After-first_of_block-n) in
    let t = c.if-n-lt-BLOCK.true in
    let f = first_from test l (i * 32) c.loop-i.invariant in
    let g = first_inside test (drop (i * 32) l) 32 (omega arith) in
    omega arith

pub loop-i-preserved : goal.loop-i-preserved
loop-i-preserved c =
    let a = c.args in
    let l = a.bytes.now in
    let i = c.loop-i.i in
    let test = stops a.unprintable a.five in
    let p = place (goal.at.loop-i-preserved c).After-first_of_block-n in
    let t = c.if-n-lt-BLOCK.false in
    let k = chunk_clear test 32 i (i * 32) l refl (here (goal.at.loop-i-preserved c).After-first_of_block-n) c.loop-i.invariant (omega arith) in
    omega arith

pub returns : goal.returns
returns c =
    let a = c.args in
    let l = a.bytes.now in
    let test = stops a.unprintable a.five in
    let v = c.as_chunks.ensures in
    let i = c.loop-i.i in
    let t = c.loop-i-test.false in
    let u = c.loop-i.auto.i-end in
    let m = v.front_len in
    let k = v.back_len in
    let e : i ≡ length l / 32 = omega arith in
    let found = c.first_where.ensures.found test (λ b r h q. search rules) in
    let f = first_from test l (i * 32) c.loop-i.invariant in
    let g = ap (first test) v.back ∙ ap (λ (j : ℕ). first test (drop (j * 32) l)) (sym e) in
    omega arith
