-- `asking::hex::put_pairs` meets its contract: the buffer's front and what the rest of the word says are always what the whole word says.
use Prim.Native.Nat.{◌*◌, ◌+◌, ◌<◌}
use mathlib.Core.Path.{◌≡◌, sym, ap, ◌∙◌}
use mathlib.Core.Bool.{true}
use mathlib.Core.List.{◌++◌, append-nil}
use native.Mathlib.Omega.{arith}
use lib.ListN.{length, get_or, take, drop, length-set}
use lib.Seq.{take_all}
use Rattle.alphabet.specs.Bytes.{hex_of}
use Rattle.alphabet.specs.Hex.{all_hex}
use Rattle.alphabet.proofs.HexLaws.{hex_holds, hex_even, pairs_end}
use Rattle.asking.proofs.Pairs.{pair_more}
use Rattle.asking.proofs.hex.put_pairs.Goals.{In-loop-place}
use Rattle.asking.proofs.hex.put_pairs.Goals as goal

-- at each turn there is a pair of digits
pair : (k : In-loop-place)
    → let l = k.args.word.now in let i = 2 * k.loop-place.place in
    (i + 1 < length l) × (hex_of (get_or l i 0) < 16) × (hex_of (get_or l (i + 1) 0) < 16) × (all_hex (drop (i + 2) l) ≡ true)
pair k =
    let h = k.requires.as_long in
    hex_holds k.args.word.now (2 * k.loop-place.place) (omega arith) k.loop-place.invariant.1

pub overflow_mul-buffer : goal.overflow_mul-buffer
overflow_mul-buffer c = let p = pair (goal.at.overflow_mul-buffer c).In-loop-place in omega (arith, c.hex_value-high.ensures)

pub overflow_add-buffer : goal.overflow_add-buffer
overflow_add-buffer c = let p = pair (goal.at.overflow_add-buffer c).In-loop-place in omega (arith, c.hex_value-high.ensures)

pub loop-place-preserved : goal.loop-place-preserved
loop-place-preserved c =
    let w = c.args.word.now in
    let i = c.loop-place.place in
    let b = c.loop-place.buffer in
    let p = pair (goal.at.loop-place-preserved c).In-loop-place in
    let n : 2 * i + 2 ≡ 2 * (i + 1) = omega arith in
    let v : c.hex_value-high.result * 16 + c.hex_value-low.result ≡ hex_of (get_or w (2 * i) 0) * 16 + hex_of (get_or w (2 * i + 1) 0) = omega (arith, c.hex_value-high.ensures) in
    (simp length-set c.loop-place.invariant.0, ap (λ k. all_hex (drop k w)) (sym n) ∙ p.3, pair_more w b i _ p.0 (omega arith) v c.loop-place.invariant.2)

pub returns : goal.returns
returns c =
    let w = c.args.word.now in
    let b = c.loop-place.buffer in
    let n = c.loop-place.place in
    let h = c.requires.as_long in
    sym (c.loop-place.invariant.2 ∙ ap (λ r. take n b ++ r) (pairs_end w (2 * n) (let e = hex_even w c.requires.word_value in omega arith)) ∙ append-nil (take n b) ∙ take_all n b (omega arith))
