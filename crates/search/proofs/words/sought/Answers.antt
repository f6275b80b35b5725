-- Rests on `sought_eight`: what is done to the word is done to each byte.
use Prim.Native.Nat.{ℕ}
use mathlib.Core.Path.{◌≡◌, ap, ap₂, ◌∙◌}
use lib.Bits.{bit_and, bit_xor}
use lib.ListN.{length}
use native.Mathlib.Omega.{arith}
use borrow.Author.Rules.{rules}
use Rattle.search.specs.Words.{other_than}
use Rattle.search.proofs.WordLaws.{read_is, sought_eight}
use Rattle.search.proofs.words.sought.Goals as goal

pub returns : goal.returns
returns c =
    let a = c.args in
    let n : length a.bytes.now ≡ 8 = search rules in
    let word = c.from_le_bytes-word.ensures ∙ read_is a.bytes.now n in
    let one = c.other_than.ensures ∙ ap (λ (n : ℕ). other_than n a.one) word in
    let other = c.other_than-2.ensures ∙ ap (λ (n : ℕ). other_than n a.other) word in
    ap₂ (λ (m n : ℕ). bit_xor (bit_and m n) 0x8080808080808080) one other
    ∙ sought_eight a.bytes.now a.one a.other n (λ i. search rules) (omega arith) (omega arith)
