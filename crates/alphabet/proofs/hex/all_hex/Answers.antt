-- Rests on the laws of pairs of hex digits: an even number of bytes, and each of them a digit.
use mathlib.Core.Path.{◌∙◌}
use borrow.Author.Rules.{rules}
use borrow.Author.Tests.{tests, eq-eqb, ne_eqb}
use Rattle.std.specs.Char.{is_ascii_hexdigit}
use Rattle.std.proofs.lemmas.Iterator.{YieldsList-from_slice}
use Rattle.std.proofs.lemmas.Iterator.Search.{all_from_yields_List}
use Rattle.alphabet.proofs.HexLaws.{hex_even_all, hex_uneven}
use Rattle.alphabet.proofs.hex.all_hex.Goals as goal

pub returns-then-digits-eq0 : goal.returns-then-digits-eq0
returns-then-digits-eq0 c =
    let l = c.args.digits.now in
    all_from_yields_List is_ascii_hexdigit _ _ c.all.result c.all.ensures.ran (YieldsList-from_slice l c.iter.ensures.rest) (λ x b q k. search (rules, tests))
    ∙ hex_even_all l (eq-eqb _ _ c.if-digits-eq0.true)

pub returns-else-digits-eq0 : goal.returns-else-digits-eq0
returns-else-digits-eq0 c = let e = ne_eqb _ _ c.if-digits-eq0.false in e ∙ hex_uneven c.args.digits.now e
