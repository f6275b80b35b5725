-- Rests on the law of a block: where it is clear it is passed over whole.
use mathlib.Core.Path.{◌≡◌, refl, subst, ap, ◌∙◌}
use mathlib.Core.List.{List}
use mathlib.Core.Bool.{true}
use Prim.Native.Nat.{ℕ, ◌*◌, ◌<◌, ◌≤◌, ◌/◌}
use lib.ListN.{length, get_or, take, drop}
use Rattle.std.specs.Fn.{FnReturnsAt}
use Rattle.std.proofs.lemmas.Fn.{says_at}
use Rattle.alphabet.specs.Lists.{first}
use Rattle.alphabet.proofs.BlockLaws.{chunk_at, chunk_size, chunk_clear, chunk_next}
use Rattle.alphabet.proofs.first.clear_blocks.Goals as goal

pub loop-i-preserved : goal.loop-i-preserved
loop-i-preserved g c =
    let l = c.args.bytes.now in
    let n = g.row.N in
    let i = c.loop-i.i in
    let r = c.index-blocks-i.result in
    let h : i < length l / n = subst (λ (k : ℕ). i < k) c.as_chunks.ensures.front_len c.loop-i-test.true in
    let clear : FnReturnsAt g.F.Fn c.args.is_clear r true = says_at g.F.Fn c.is_clear.ensures c.if-not-is_clear.false in
    let e : r ≡ take n (drop (i * n) l) =
    c.index-blocks-i.is ∙ ap (λ (bs : List (List ℕ)). get_or bs i r) c.as_chunks.ensures.front ∙ chunk_at n (length l / n) l i r h in
    λ sought clears. subst (λ (k : ℕ). k ≤ first sought l) (chunk_next n i (i * n) refl)
    (chunk_clear sought n i (i * n) l refl h (c.loop-i.invariant sought clears)
    (subst (λ (b : List ℕ). n ≤ first sought b) e (clears r (ap length e ∙ chunk_size n i (i * n) l refl h) clear)))
