-- Rests on `first_mark`: where a word has a mark the lowest is the first byte that is sought, and another word is passed
-- over whole.
use Prim.Native.Nat.{ℕ, ◌/◌}
use mathlib.Core.Path.{◌≡◌, ap, ◌∙◌}
use lib.Count.{count_trailing_zeros, trailing_of_zero}
use lib.ListN.{length, take}
use lib.Seq.{length-take-le}
use native.Mathlib.Omega.{arith}
use Rattle.alphabet.specs.Lists.{first, either}
use Rattle.alphabet.proofs.ListLaws.{first_block}
use Rattle.alphabet.proofs.BlockLaws.{first_from, first_inside}
use Rattle.search.specs.Words.{marks}
use Rattle.search.proofs.WordLaws.{first_mark, marks_some}
use Rattle.search.proofs.words.find_two_by_words.Goals.{After-sought-found}
use Rattle.search.proofs.words.find_two_by_words.Goals as goal

-- there are eight bytes in a word
size : (c : After-sought-found) → length (take 8 c.loop-word.rest.now) ≡ 8
size c = let n = c.in-Some.ensures.cases.2 in length-take-le 8 c.loop-word.rest.now (omega arith)

-- and its marks are those of the bytes that are left
marked : (c : After-sought-found)
    → let a = c.args in
    c.sought-found.result ≡ marks (either a.one a.other) (take 8 c.loop-word.rest.now)
marked c = let a = c.args in c.sought-found.ensures ∙ ap (marks (either a.one a.other)) c.in-Some.ensures.cases.0

-- so the place of the lowest mark is the first byte that is sought
place : (c : After-sought-found)
    → let a = c.args in
    count_trailing_zeros 64 c.sought-found.result / 8 ≡ first (either a.one a.other) (take 8 c.loop-word.rest.now)
place c =
    let a = c.args in
    ap (λ (n : ℕ). count_trailing_zeros 64 n / 8) (marked c) ∙ first_mark (either a.one a.other) _ (size c)

pub returns-then-found-ne0 : goal.returns-then-found-ne0
returns-then-found-ne0 c =
    let a = c.args in
    let s = c.loop-word.rest.now in
    let here = (goal.at.returns-then-found-ne0 c).After-sought-found in
    let test = either a.one a.other in
    let p = place here in
    let v = c.loop-word.invariant.1 in
    let g = first_inside test s 8 (marks_some test (take 8 s) (λ z. c.if-found-ne0.true (marked here ∙ z))) in
    omega arith

pub loop-word-preserved : goal.loop-word-preserved
loop-word-preserved c =
    let a = c.args in
    let s = c.loop-word.rest.now in
    let here = (goal.at.loop-word-preserved c).After-sought-found in
    let test = either a.one a.other in
    let p = place here in
    let n = size here in
    let z : count_trailing_zeros 64 c.sought-found.result ≡ 64 = ap (count_trailing_zeros 64) c.if-found-ne0.false ∙ trailing_of_zero 64 in
    let l = c.in-Some.ensures.cases.2 in
    let v = c.loop-word.invariant.1 in
    let w = c.loop-word.invariant.0 in
    let b = first_block test s 0 8 (omega arith) (omega arith) (omega arith) in
    let f = first_from test s 8 (omega arith) in
    let e = ap (first test) c.in-Some.ensures.cases.1 in
    (omega arith, omega arith)
