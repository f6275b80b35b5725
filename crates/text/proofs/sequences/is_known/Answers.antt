-- Rests on the laws of sequences: each return is a case of `known`.
use Prim.Native.Nat.{ℕ}
use mathlib.Core.Path.{sym, ap, ◌∙◌}
use lib.ListN.{drop}
use native.Mathlib.Omega.{arith}
use mathlib.Core.Bool.{Bool, ◌&&◌}
use lib.Dec.{ltb}
use borrow.Author.Tests.{eq-eqb, ne_eqb}
use Rattle.alphabet.proofs.ListLaws.{rest_of}
use Rattle.alphabet.specs.Hex.{all_hex}
use Rattle.text.proofs.SequenceLaws.{known_none, known_one, known_more}
use Rattle.text.proofs.sequences.is_known.Goals as goal

pub returns-then-inside-eq0 : goal.returns-then-inside-eq0
returns-then-inside-eq0 c = sym (known_none c.args.inside.now c.if-inside-eq0.true)

pub returns-then-inside-eq1 : goal.returns-then-inside-eq1
returns-then-inside-eq1 c =
    let s = c.args.inside.now in
    ap (λ (k : ℕ). ltb k 5) c.place_of.ensures ∙ sym (known_one s (omega arith))

pub returns-then-letter-ne88 : goal.returns-then-letter-ne88
returns-then-letter-ne88 c =
    let s = c.args.inside.now in
    sym (known_more s (omega arith) ∙ ap (λ (t : Bool). t && all_hex (drop 1 s)) (ne_eqb _ _ c.if-letter-ne88.true))

pub returns : goal.returns
returns c =
    let s = c.args.inside.now in
    c.all_hex.ensures ∙ ap all_hex (rest_of s 1)
    ∙ sym (known_more s (omega arith) ∙ ap (λ (t : Bool). t && all_hex (drop 1 s)) (eq-eqb _ _ c.if-letter-ne88.false))
