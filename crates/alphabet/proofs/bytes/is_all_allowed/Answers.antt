-- Rests on `first_step`, and on the two numbers that tell of a byte: what was looked at is all allowed exactly where the
-- first byte that is not stands at or behind the next place.
use mathlib.Core.Path.{sym, ap, ap₂, ◌∙◌}
use mathlib.Core.Bool.{◌&&◌}
use Prim.Native.Nat.{ℕ}
use lib.Dec.{leb}
use lib.ListN.{get_or}
use native.Mathlib.Omega.{arith}
use Rattle.alphabet.specs.Allowed.{height_of, turned_of}
use Rattle.alphabet.specs.Bytes.{allowed, not_allowed}
use Rattle.alphabet.proofs.AllowedLaws.{least_of, most_of, and_pairs, told}
use Rattle.alphabet.proofs.BoolLaws.{not_not}
use Rattle.alphabet.proofs.ListLaws.{first_step}
use Rattle.alphabet.proofs.bytes.is_all_allowed.Goals as goal

pub loop-byte-preserved : goal.loop-byte-preserved
loop-byte-preserved c =
    let s = c.args.bytes.now in
    let i = c.loop-byte.byte-index in
    let b = get_or s i 0 in
    let small = (c.type_inv.bytes i).fits in
    let least = c.min-least.ensures ∙ ap (Prim.Native.Nat.min c.loop-byte.least) c.height.ensures in
    let most = c.max-most.ensures ∙ ap (Prim.Native.Nat.max c.loop-byte.most) c.turned.ensures in
    ap₂ ◌&&◌ (ap (leb 32) least ∙ least_of 32 c.loop-byte.least (height_of b)) (ap (λ (n : ℕ). leb n 222) most ∙ most_of 222 c.loop-byte.most (turned_of b))
    ∙ and_pairs (leb 32 c.loop-byte.least) (leb c.loop-byte.most 222) (leb 32 (height_of b)) (leb (turned_of b) 222)
    ∙ ap₂ ◌&&◌ c.loop-byte.invariant (told b (omega arith) ∙ sym (not_not (allowed b)))
    ∙ sym (first_step not_allowed s i c.loop-byte-test.true)
