-- Rests on the law of delimiters that are right: each is permitted.
use mathlib.Core.Path.{◌≡◌}
use lib.ListN.{length}
use borrow.Author.Rules.{rules}
use native.Mathlib.Omega.{arith}
use Rattle.alphabet.specs.Delimiters.{first_wrong_delimiter}
use Rattle.alphabet.proofs.DelimiterLaws.{delimiter_permitted}
use Rattle.fields.proofs.plain.is_seen_sound.Goals as goal

pub returns : goal.returns
returns c = λ t n.
    let ds = c.args.delimiters.bytes in
    let five : length ds ≡ 5 = search rules in
    let passes : first_wrong_delimiter ds ≡ 5 = omega arith in
    c.is_plain.ensures t (λ i h. delimiter_permitted ds five passes i h) n
