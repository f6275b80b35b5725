-- Rests on the laws of a buffer that is filled from a place on: the bytes of the rest of the pairs are left, at each turn.
use Prim.Native.Nat.{◌*◌, ℕ, ◌≤◌, ◌<◌, ◌+◌}
use lib.ListN.{length-append, length, get_or, take, drop}
use lib.Seq.{length-take-le}
use mathlib.Core.Path.{◌≡◌, refl, ap, ◌∙◌}
use mathlib.Core.List.{[], ◌∷◌, ◌++◌}
use native.Mathlib.Omega.{arith}
use mathlib.Core.Bool.{true}
use Rattle.alphabet.specs.Bytes.{hex_of}
use Rattle.alphabet.specs.Hex.{all_hex, pairs_of}
use Rattle.alphabet.proofs.HexLaws.{hex_holds, pairs_next, pairs_end}
use Rattle.alphabet.proofs.FillingLaws.{fill_more, fill_room, fill_length, fill_from, fill_from_end, set_pasted}
use Rattle.text.proofs.sequences.put_pairs.Goals.{After-slice_known-1, In-loop-i}
use Rattle.text.proofs.sequences.put_pairs.Goals as goal

room : (k : After-slice_known-1) → length (take k.args.at k.args.buffer.now ++ pairs_of k.args.digits.now) ≤ length k.args.buffer.now
room k =
    let a = k.args in
    let p = k.requires.1 in
    let t = length-take-le a.at a.buffer.now (omega arith) in
    let n = length-append (take a.at a.buffer.now) (pairs_of a.digits.now) in
    omega arith

pair : (k : In-loop-i)
    → let s = k.args.digits.now in let i = k.loop-i.i in
    (i + 1 < length s) × (hex_of (get_or s i 0) < 16) × (hex_of (get_or s (i + 1) 0) < 16) × (all_hex (drop (i + 2) s) ≡ true)
pair k = hex_holds k.args.digits.now k.loop-i.i k.loop-i-test.true k.loop-i.invariant.1

inside : (k : In-loop-i) → k.loop-i.place < length k.loop-i.buffer
inside k =
    let s = k.args.digits.now in
    let f = k.loop-i.invariant.2 in
    let p = pairs_next s k.loop-i.i (pair k).0 in
    let n = ap length p in
    let r = fill_room f in
    let q = fill_length f (room (goal.at.In-loop-i k).After-slice_known-1) in
    omega (arith, room (goal.at.In-loop-i k).After-slice_known-1)

pub loop-i-init : goal.loop-i-init
loop-i-init c =
    let a = c.args in
    (omega arith, c.requires.0, fill_from (pairs_of a.digits.now) a.buffer.now a.at (omega (arith, c.requires.1)))

pub bounds-digits-i-in-loop-i : goal.bounds-digits-i-in-loop-i
bounds-digits-i-in-loop-i c = (pair (goal.at.bounds-digits-i-in-loop-i c).In-loop-i).0

pub overflow_mul-buffer : goal.overflow_mul-buffer
overflow_mul-buffer c = let p = pair (goal.at.overflow_mul-buffer c).In-loop-i in omega (arith, c.hex_value-high.ensures)

pub overflow_add-buffer : goal.overflow_add-buffer
overflow_add-buffer c = let p = pair (goal.at.overflow_add-buffer c).In-loop-i in omega (arith, c.hex_value-high.ensures)

pub bounds-buffer-place : goal.bounds-buffer-place
bounds-buffer-place c = inside (goal.at.bounds-buffer-place c).In-loop-i

pub overflow_add-place : goal.overflow_add-place
overflow_add-place c = let p = inside (goal.at.overflow_add-place c).In-loop-i in let f = fill_length c.loop-i.invariant.2 (room (goal.at.overflow_add-place c).After-slice_known-1) in omega arith

pub overflow_add-i-in-loop-i : goal.overflow_add-i-in-loop-i
overflow_add-i-in-loop-i c = let p = pair (goal.at.overflow_add-i-in-loop-i c).In-loop-i in omega arith

pub loop-i-smaller : goal.loop-i-smaller
loop-i-smaller c = let p = pair (goal.at.loop-i-smaller c).In-loop-i in omega arith

pub loop-i-preserved : goal.loop-i-preserved
loop-i-preserved c =
    let s = c.args.digits.now in
    let p = pair (goal.at.loop-i-preserved c).In-loop-i in
    let v = c.hex_value-high.result * 16 + c.hex_value-low.result in
    let e : hex_of (get_or s c.loop-i.i 0) * 16 + hex_of (get_or s (c.loop-i.i + 1) 0) ≡ v = omega (arith, c.hex_value-high.ensures) in (
      omega arith,
      p.3,
      fill_more (v ∷ []) _ _ _ c.loop-i.invariant.2 (pairs_next s c.loop-i.i p.0 ∙ ap (λ (k : ℕ). (k ∷ []) ++ pairs_of (drop (c.loop-i.i + 2) s)) e) (set_pasted c.loop-i.buffer c.loop-i.place v (inside (goal.at.loop-i-preserved c).In-loop-i)) refl,
    )

pub returns : goal.returns
returns c =
    let a = c.args in let whole = fill_from_end (pairs_of a.digits.now) a.at c.loop-i.invariant.2 (omega (arith, c.requires.1)) (pairs_end a.digits.now c.loop-i.i (omega arith)) in record { value = whole.0; buffer_after = whole.1 }
