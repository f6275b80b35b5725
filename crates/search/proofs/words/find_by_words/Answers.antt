-- Rests on `first_same`: both bytes are the one.
use mathlib.Core.Path.{◌∙◌}
use Rattle.search.proofs.WordLaws.{first_same}
use Rattle.search.proofs.words.find_by_words.Goals as goal

pub returns : goal.returns
returns c =
    let a = c.args in
    c.find_two_by_words.ensures ∙ first_same a.b a.bytes.now
