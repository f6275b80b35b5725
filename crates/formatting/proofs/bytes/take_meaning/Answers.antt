-- Rests on the laws of sequences: a letter, or pairs of digits.
use Prim.Native.Nat.{ℕ, ◌<◌}
use mathlib.Core.List.{[], ◌∷◌}
use mathlib.Core.Path.{sym, ap, ◌∙◌}
use native.Mathlib.Omega.{arith}
use lib.Dec.{eqb}
use lib.ListN.{length, get_or, drop}
use borrow.Author.Tests.{ltb-true}
use Rattle.alphabet.specs.Lists.{find}
use Rattle.alphabet.specs.Hex.{all_hex, pairs_of}
use Rattle.alphabet.proofs.BoolLaws.{and_both}
use Rattle.alphabet.proofs.ListLaws.{rest_of}
use Rattle.escaping.specs.Escape.{letters}
use Rattle.text.proofs.SequenceLaws.{known_one, known_more, known_some, meaning_letter, meaning_pairs}
use Rattle.formatting.proofs.PageLaws.{follows_same}
use Rattle.formatting.proofs.bytes.take_meaning.Goals as goal

pub bounds-five-i : goal.bounds-five-i
bounds-five-i c =
    let s = c.args.inside.now in
    let k = ltb-true (find (get_or s 0 0) letters) 5 (sym (known_one s (omega arith)) ∙ c.requires.1) in
    omega (arith, c.place_of-i.ensures)

pub returns-then-inside-eq1 : goal.returns-then-inside-eq1
returns-then-inside-eq1 c =
    let ds = c.args.delimiters.bytes in
    let s = c.args.inside.now in
    let e = ap (λ (j : ℕ). get_or ds j 0 ∷ []) c.place_of-i.ensures ∙ sym (meaning_letter ds s (omega arith)) in
    follows_same _ _ e c.take_byte.ensures

pub take_pairs-requires : goal.take_pairs-requires
take_pairs-requires c =
    let s = c.args.inside.now in
    let k = known_some s c.requires.1 in
    let h : 1 < length s = omega arith in
    (c.requires.0, ap all_hex (rest_of s 1) ∙ (and_both (eqb (get_or s 0 0) 88) (all_hex (drop 1 s)) (sym (known_more s h) ∙ c.requires.1)).1)

pub returns : goal.returns
returns c =
    let s = c.args.inside.now in
    let k = known_some s c.requires.1 in
    let h : 1 < length s = omega arith in
    let e = ap pairs_of (rest_of s 1) ∙ sym (meaning_pairs c.args.delimiters.bytes s h) in
    follows_same _ _ e c.take_pairs.ensures

pub slice_bounds-take_pairs-count : goal.slice_bounds-take_pairs-count
slice_bounds-take_pairs-count c = let k = known_some c.args.inside.now c.requires.1 in omega arith

pub slice_bounds-take_pairs-start : goal.slice_bounds-take_pairs-start
slice_bounds-take_pairs-start c = let k = known_some c.args.inside.now c.requires.1 in omega arith
