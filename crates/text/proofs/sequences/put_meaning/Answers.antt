-- Rests on the laws of sequences: a letter, or pairs of digits.
use Prim.Native.Nat.{ℕ, ◌<◌, ◌+◌}
use mathlib.Core.Path.{◌≡◌, sym, ap, ◌∙◌}
use mathlib.Core.List.{List, [], ◌∷◌}
use lib.ListN.{length, get_or, drop}
use native.Mathlib.Omega.{arith}
use lib.Dec.{eqb}
use borrow.Author.Tests.{ltb-true}
use Rattle.alphabet.proofs.BoolLaws.{and_both}
use Rattle.alphabet.proofs.ListLaws.{rest_of}
use Rattle.alphabet.specs.Lists.{find}
use Rattle.escaping.specs.Escape.{letters}
use Rattle.alphabet.specs.Hex.{all_hex, pairs_of}
use Rattle.alphabet.specs.Filling.{pasted}
use Rattle.text.proofs.SequenceLaws.{known_one, known_more, meaning_letter, meaning_pairs, known_some}
use Rattle.alphabet.proofs.FillingLaws.{set_pasted}
use Rattle.text.proofs.sequences.put_meaning.Goals as goal

pub bounds-five-i : goal.bounds-five-i
bounds-five-i c =
    let a = c.args in
    let s = a.inside.now in
    let k = ltb-true (find (get_or s 0 0) letters) 5 (sym (known_one s (omega arith)) ∙ c.requires.0) in
    omega (arith, c.place_of-i.ensures)

pub bounds-buffer-at : goal.bounds-buffer-at
bounds-buffer-at c =
    let a = c.args in
    let m = ap length (meaning_letter a.delimiters.bytes a.inside.now (omega arith)) in
    omega (arith, c.requires.1)

pub returns-then-inside-eq1-clause-value : goal.returns-then-inside-eq1-clause-value
returns-then-inside-eq1-clause-value c =
    let a = c.args in
    let ds = a.delimiters.bytes in
    let s = a.inside.now in
    let d = a.buffer.now in
    let h : length s ≡ 1 = omega arith in
    let e = meaning_letter ds s h in
    let m = ap length e in
    let k = c.place_of-i.result in omega arith

pub returns-then-inside-eq1-clause-buffer_after : goal.returns-then-inside-eq1-clause-buffer_after
returns-then-inside-eq1-clause-buffer_after c =
    let a = c.args in
    let ds = a.delimiters.bytes in
    let s = a.inside.now in
    let d = a.buffer.now in
    let h : length s ≡ 1 = omega arith in
    let e = meaning_letter ds s h in
    let m = ap length e in
    let k = c.place_of-i.result in set_pasted d a.at (get_or ds k 0) (bounds-buffer-at c) ∙ ap (pasted d a.at) (ap (λ (j : ℕ). get_or ds j 0 ∷ []) c.place_of-i.ensures ∙ sym e)

pub slice_bounds-put_pairs-count : goal.slice_bounds-put_pairs-count
slice_bounds-put_pairs-count c = let k = known_some c.args.inside.now c.requires.0 in omega arith

pub slice_bounds-put_pairs-start : goal.slice_bounds-put_pairs-start
slice_bounds-put_pairs-start c = let k = known_some c.args.inside.now c.requires.0 in omega arith

pub put_pairs-requires : goal.put_pairs-requires
put_pairs-requires c =
    let a = c.args in
    let s = a.inside.now in
    let k = known_some s c.requires.0 in
    let h : 1 < length s = omega arith in
    let q = rest_of s 1 in
    let e = meaning_pairs a.delimiters.bytes s h in
    let n = ap length (ap pairs_of q ∙ sym e) in
    (ap all_hex q ∙ (and_both (eqb (get_or s 0 0) 88) (all_hex (drop 1 s)) (sym (known_more s h) ∙ c.requires.0)).1, omega (arith, c.requires.1))

pub returns-clause-value : goal.returns-clause-value
returns-clause-value c =
    let a = c.args in
    let s = a.inside.now in
    let k = known_some s c.requires.0 in
    let h : 1 < length s = omega arith in
    let e = ap pairs_of (rest_of s 1) ∙ sym (meaning_pairs a.delimiters.bytes s h) in c.put_pairs.ensures.value ∙ ap (λ (l : List ℕ). a.at + length l) e

pub returns-clause-buffer_after : goal.returns-clause-buffer_after
returns-clause-buffer_after c =
    let a = c.args in
    let s = a.inside.now in
    let k = known_some s c.requires.0 in
    let h : 1 < length s = omega arith in
    let e = ap pairs_of (rest_of s 1) ∙ sym (meaning_pairs a.delimiters.bytes s h) in c.put_pairs.ensures.buffer_after ∙ ap (pasted a.buffer.now a.at) e
