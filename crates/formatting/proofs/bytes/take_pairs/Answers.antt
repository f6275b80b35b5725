-- Rests on bytes behind bytes: those of the pairs before a place have been taken, at each turn.
use Prim.Native.Nat.{ℕ, ◌<◌, ◌+◌, ◌*◌}
use mathlib.Core.Bool.{true}
use mathlib.Core.List.{List, [], ◌∷◌, ◌++◌, map, append_assoc, append-nil}
use mathlib.Core.Path.{◌≡◌, refl, sym, ap, subst, ◌∙◌}
use native.Mathlib.Omega.{arith}
use lib.ListN.{length, get_or, drop}
use Rattle.alphabet.specs.Bytes.{hex_of}
use Rattle.alphabet.specs.Hex.{all_hex, pairs_of}
use Rattle.alphabet.proofs.HexLaws.{hex_holds, pairs_next, pairs_end}
use Rattle.format_commands.specs.Items.{byte}
use Rattle.formatting.specs.Pages.{Follows}
use Rattle.formatting.proofs.PageLaws.{follows_none, follows_bytes}
use Rattle.formatting.proofs.bytes.take_pairs.Goals.{In-loop-i}
use Rattle.formatting.proofs.bytes.take_pairs.Goals as goal

pair : (k : In-loop-i)
    → let s = k.args.digits.now in let i = k.loop-i.i in
    (i + 1 < length s) × (hex_of (get_or s i 0) < 16) × (hex_of (get_or s (i + 1) 0) < 16) × (all_hex (drop (i + 2) s) ≡ true)
pair k = hex_holds k.args.digits.now k.loop-i.i k.loop-i-test.true k.loop-i.invariant.1

pub loop-i-init : goal.loop-i-init
loop-i-init c = (omega arith, c.requires.1, ([], refl, follows_none c.requires.0))

pub loop-i-preserved : goal.loop-i-preserved
loop-i-preserved c =
    let l = c.loop-i in
    let s = c.args.digits.now in
    let p = pair (goal.at.loop-i-preserved c).In-loop-i in
    let u = l.invariant.2.0 in
    let v = c.hex_value-high.result * 16 + c.hex_value-low.result in
    let e : hex_of (get_or s l.i 0) * 16 + hex_of (get_or s (l.i + 1) 0) ≡ v = omega (arith, c.hex_value-high.ensures) in (
      omega arith,
      p.3,
      (
        u ++ v ∷ [],
        append_assoc u (v ∷ []) (pairs_of (drop (l.i + 2) s)) ∙ ap (λ (w : List ℕ). u ++ w) (ap (λ (k : ℕ). k ∷ pairs_of (drop (l.i + 2) s)) (sym e) ∙ sym (pairs_next s l.i p.0)) ∙ l.invariant.2.1,
        follows_bytes u (v ∷ []) (u ++ v ∷ []) refl l.invariant.2.2 c.take_byte-p.ensures,
      ),
    )

pub returns : goal.returns
returns c =
    let l = c.loop-i in
    let a = c.args in
    let s = a.digits.now in
    let u = l.invariant.2.0 in
    let e : u ≡ pairs_of s = sym (append-nil u) ∙ ap (λ (w : List ℕ). u ++ w) (sym (pairs_end s l.i (omega arith))) ∙ l.invariant.2.1 in
    subst (λ v. Follows (map byte v) a.page a.line.now a.buffer.now l.p l.line l.buffer) e l.invariant.2.2

pub bounds-digits-i-in-loop-i : goal.bounds-digits-i-in-loop-i
bounds-digits-i-in-loop-i c = (pair (goal.at.bounds-digits-i-in-loop-i c).In-loop-i).0

pub overflow_mul-high : goal.overflow_mul-high
overflow_mul-high c = let p = pair (goal.at.overflow_mul-high c).In-loop-i in omega (arith, c.hex_value-high.ensures)

pub overflow_add-high : goal.overflow_add-high
overflow_add-high c = let p = pair (goal.at.overflow_add-high c).In-loop-i in omega (arith, c.hex_value-high.ensures)

pub take_byte-p-requires : goal.take_byte-p-requires
take_byte-p-requires c = c.loop-i.invariant.2.2.sound

pub overflow_add-i-in-loop-i : goal.overflow_add-i-in-loop-i
overflow_add-i-in-loop-i c = let p = pair (goal.at.overflow_add-i-in-loop-i c).In-loop-i in omega arith

pub loop-i-smaller : goal.loop-i-smaller
loop-i-smaller c = let p = pair (goal.at.loop-i-smaller c).In-loop-i in omega arith
